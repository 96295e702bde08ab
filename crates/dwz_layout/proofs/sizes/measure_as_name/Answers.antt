use Rattle.std.proofs.Common.{◌≡◌, ◌∙◌, ◌∷◌, [], refl, rules}
use Rattle.dwz_forms.specs.RawValues.{raw_view}
use Rattle.dwz_layout.specs.declared.ways.Rewrite.TheVariants.{AsText}
use Rattle.dwz_layout.specs.Attributes.{name_by, no_numbers, read_attr, text_attr, value_read}
use Rattle.dwz_layout.specs.Ways.{holder_view, rewrite_of}
use Rattle.dwz_layout.proofs.NumberLemmas.{form_small}
use Rattle.dwz_layout.proofs.PlainLemmas.{plain_none}
use Rattle.dwz_layout.proofs.SizeLemmas.{name_read, name_text, ok_named, ok_sized, pair_named, read_sized, sized_same, text_sized}
use Rattle.dwz_layout.proofs.sizes.measure_as_name.Goals as goal

pub overflow_cast-pair : goal.overflow_cast-pair
overflow_cast-pair c = let small = form_small c.args.pair.now.form (raw_view c.args.raw.now) c.requires.writable in search (rules, small)

pub measure_stored-requires-clause-room : goal.measure_stored-requires-clause-room
measure_stored-requires-clause-room c = plain_none c.args.room.now.pairs.items c.requires.empty

pub measure_stored-requires-in_default : goal.measure_stored-requires-in_default
measure_stored-requires-in_default c = record { plain = c.requires.plain; room = plain_none c.args.room.now.pairs.items c.requires.empty }

pub returns-in-AsText-clause-pairs : goal.returns-in-AsText-clause-pairs
returns-in-AsText-clause-pairs c = λ end. (
    let text = c.args.text in
    let a = value_read end c.args.pair.now (raw_view c.args.raw.now) in
    let way = rewrite_of (holder_view c.args.holder) c.args.pair.now in
    ok_named c.measure_stored.result c.measure_stored.new.room.pairs.items c.args.room.now.pairs.items c.text_pair.result (name_by text a way ∷ []) c.measure_stored.ensures.pairs c.requires.empty
    (pair_named c.text_pair.result (text_attr 0x03 text) (name_by text a way) c.text_pair.ensures.pair (name_text text a way c.in-AsText.ensures)))

pub returns-in-AsText-clause-size : goal.returns-in-AsText-clause-size
returns-in-AsText-clause-size c = λ end. (
    let text = c.args.text in
    let a = value_read end c.args.pair.now (raw_view c.args.raw.now) in
    let way = rewrite_of (holder_view c.args.holder) c.args.pair.now in
    ok_sized c.measure_stored.result 4 (name_by text a way ∷ []) c.measure_stored.ensures.size
    (sized_same (text_attr 0x03 text) (name_by text a way) 4 (name_text text a way c.in-AsText.ensures) (text_sized no_numbers 0x03 text)))

pub returns-in_default : goal.returns-in_default
returns-in_default c =
    let way = rewrite_of (holder_view c.args.holder) c.args.pair.now in
    let other = λ (e : way ≡ AsText). c.in_default.not-AsText (c.way_of.ensures ∙ e) in
    let r = c.measure_stored-in_default.result in
    record {
      pairs = λ end. (
          let text = c.args.text in
          let a = value_read end c.args.pair.now (raw_view c.args.raw.now) in
          ok_named r c.measure_stored-in_default.new.room.pairs.items c.args.room.now.pairs.items c.args.pair.now (name_by text a way ∷ []) c.measure_stored-in_default.ensures.pairs c.requires.empty
          (pair_named c.args.pair.now (read_attr a) (name_by text a way) refl (name_read text a way other)));
      size = λ end. (
          let text = c.args.text in
          let a = value_read end c.args.pair.now (raw_view c.args.raw.now) in
          ok_sized r c.size_of_value.result (name_by text a way ∷ []) c.measure_stored-in_default.ensures.size
          (sized_same (read_attr a) (name_by text a way) c.size_of_value.result (name_read text a way other) (read_sized no_numbers a c.size_of_value.result c.size_of_value.ensures)));
      plain = c.measure_stored-in_default.ensures.plain;
    }
