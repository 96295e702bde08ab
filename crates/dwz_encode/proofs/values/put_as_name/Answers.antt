use Rattle.std.proofs.Common.{◌≡◌, ◌∙◌, ◌∷◌, [], ap, rules}
use Rattle.dwz_forms.specs.RawValues.{raw_view}
use Rattle.dwz_layout.specs.declared.ways.Rewrite.TheVariants.{AsText}
use Rattle.dwz_layout.specs.Attributes.{OutAttr, name_by, read_attr, text_attr, value_read}
use Rattle.dwz_layout.specs.Ways.{holder_view, rewrite_of}
use Rattle.dwz_layout.proofs.NumberLemmas.{form_small}
use Rattle.dwz_layout.proofs.SizeLemmas.{name_read, name_text}
use Rattle.dwz_encode.proofs.ValueLemmas.{put_mapped, put_read, put_same, put_text}
use Rattle.dwz_encode.proofs.values.put_as_name.Goals as goal

pub overflow_cast-pair : goal.overflow_cast-pair
overflow_cast-pair c = let small = form_small c.args.pair.now.form (raw_view c.args.raw.now) c.requires in search (rules, small)

pub returns-in-AsText : goal.returns-in-AsText
returns-in-AsText c = λ n end. (
    let a = value_read end c.args.pair.now (raw_view c.args.raw.now) in
    let way = rewrite_of (holder_view c.args.holder) c.args.pair.now in
    put_same c.put_text.result n c.args.out.now.items c.put_text.new.out.items (text_attr 0x03 c.args.text ∷ []) (name_by c.args.text a way ∷ [])
    (ap (λ (x : OutAttr). x ∷ []) (name_text c.args.text a way c.in-AsText.ensures))
    (put_mapped c.put_text.result (put_text n 0x03 c.args.text c.args.out.now.items c.put_text.new.out.items) c.put_text.ensures))

pub returns-in_default : goal.returns-in_default
returns-in_default c = λ n end. (
    let a = value_read end c.args.pair.now (raw_view c.args.raw.now) in
    let way = rewrite_of (holder_view c.args.holder) c.args.pair.now in
    let other = λ (e : way ≡ AsText). c.in_default.not-AsText (c.way_of.ensures ∙ e) in
    put_same c.write_value.result n c.args.out.now.items c.write_value.new.out.items (read_attr a ∷ []) (name_by c.args.text a way ∷ [])
    (ap (λ (x : OutAttr). x ∷ []) (name_read c.args.text a way other))
    (put_mapped c.write_value.result (put_read n a c.args.out.now.items c.write_value.new.out.items) c.write_value.ensures.ok))
