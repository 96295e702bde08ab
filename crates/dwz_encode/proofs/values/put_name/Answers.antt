use Rattle.std.proofs.Common.{[], pos, refl, sym}
use Rattle.dwz_forms.specs.RawValues.{raw_view}
use Rattle.dwz_model.specs.declared.place.Pair.{Pair}
use Rattle.dwz_layout.specs.Ways.{holder_view}
use Rattle.dwz_layout.proofs.NameLemmas.{name_end, name_found, name_next, name_none, name_readable, name_start}
use Rattle.dwz_encode.proofs.ValueLemmas.{put_empty, put_there}
use Rattle.dwz_encode.proofs.values.put_name.Goals as goal

abbrev no_pair : Pair
no_pair = record { name = 0; form = 0; constant = pos 0 }

pub returns-in_default : goal.returns-in_default
returns-in_default c = λ n.
    put_empty n c.args.out.now.items c.args.out.now.items _ refl (name_none c.args.known.now (holder_view c.args.holder) c.args.space [] c.in_default.ensures.values)

pub loop-pair-init : goal.loop-pair-init
loop-pair-init c = record { left = name_start c.args.known.now (holder_view c.args.holder) c.args.space c.in-Some.field-0.pairs.now c.in-Some.field-0.cursor c.in-Some.ensures.values; same = refl }

pub known_value-raw-requires : goal.known_value-raw-requires
known_value-raw-requires c =
    name_readable c.args.known.now (holder_view c.args.holder) c.args.space c.in-Some.field-0.pairs.now c.loop-pair.pair-index no_pair c.loop-pair.cursor c.loop-pair.invariant.left
    c.loop-pair-test.true

pub returns-then-pair-eq-DW_AT_NAME : goal.returns-then-pair-eq-DW_AT_NAME
returns-then-pair-eq-DW_AT_NAME c = λ n.
    put_there c.put_as_name.result n c.args.out.now.items c.loop-pair.out.items c.put_as_name.new.out.items _ _ c.loop-pair.invariant.same
    (sym (name_found c.args.known.now (holder_view c.args.holder) c.args.space c.in-Some.field-0.pairs.now c.loop-pair.pair-index no_pair c.loop-pair.cursor c.loop-pair.invariant.left
    c.loop-pair-test.true c.known_value-raw.new.cursor
    (raw_view c.known_value-raw.result) c.known_value-raw.ensures.value _ c.text_in.ensures c.if-pair-eq-DW_AT_NAME.true)) (c.put_as_name.ensures n c.known_value-raw.new.cursor.at)

pub loop-pair-preserved : goal.loop-pair-preserved
loop-pair-preserved c = record {
  left = name_next c.args.known.now (holder_view c.args.holder) c.args.space c.in-Some.field-0.pairs.now c.loop-pair.pair-index no_pair c.loop-pair.cursor c.loop-pair.invariant.left
      c.loop-pair-test.true c.known_value-raw.new.cursor
      (raw_view c.known_value-raw.result) c.known_value-raw.ensures.value c.if-pair-eq-DW_AT_NAME.false;
  same = c.loop-pair.invariant.same;
}

pub returns : goal.returns
returns c = λ n.
    put_empty n c.args.out.now.items c.loop-pair.out.items _ c.loop-pair.invariant.same
    (name_end c.args.known.now (holder_view c.args.holder) c.args.space c.in-Some.field-0.pairs.now c.loop-pair.pair-index c.loop-pair.cursor c.loop-pair.invariant.left c.loop-pair-test.false)
