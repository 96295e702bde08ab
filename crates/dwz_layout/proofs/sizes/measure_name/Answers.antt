use Rattle.std.proofs.Common.{◌∙◌, [], List, ap, pos, sym}
use Rattle.dwz_forms.specs.RawValues.{raw_view}
use Rattle.dwz_model.specs.declared.place.Pair.{Pair}
use Rattle.dwz_layout.specs.Attributes.{OutAttr, no_numbers, stored_all}
use Rattle.dwz_layout.specs.Stored.{pairs_of}
use Rattle.dwz_layout.specs.Ways.{holder_view}
use Rattle.dwz_layout.proofs.NameLemmas.{name_end, name_found, name_next, name_none, name_readable, name_start}
use Rattle.dwz_layout.proofs.PlainLemmas.{plain_none}
use Rattle.dwz_layout.proofs.SizeLemmas.{none_sized, space_named, space_ok, space_sized}
use Rattle.dwz_layout.proofs.sizes.measure_name.Goals as goal

abbrev no_pair : Pair
no_pair = record { name = 0; form = 0; constant = pos 0 }

pub returns-in_default-clause-pairs : goal.returns-in_default-clause-pairs
returns-in_default-clause-pairs c =
    c.requires ∙ ap (λ (z : List OutAttr). pairs_of (stored_all no_numbers z)) (sym (name_none c.args.known.now (holder_view c.args.holder) c.args.space [] c.in_default.ensures.values))

pub returns-in_default-clause-size : goal.returns-in_default-clause-size
returns-in_default-clause-size c = space_sized _ [] 0 (name_none c.args.known.now (holder_view c.args.holder) c.args.space [] c.in_default.ensures.values) (none_sized no_numbers)

pub returns-in_default-clause-plain : goal.returns-in_default-clause-plain
returns-in_default-clause-plain c = plain_none c.args.room.now.pairs.items c.requires

pub loop-pair-init : goal.loop-pair-init
loop-pair-init c = record {
  left = name_start c.args.known.now (holder_view c.args.holder) c.args.space c.in-Some.field-0.pairs.now c.in-Some.field-0.cursor c.in-Some.ensures.values;
  none =
      c.requires;
}

pub known_value-raw-requires : goal.known_value-raw-requires
known_value-raw-requires c =
    name_readable c.args.known.now (holder_view c.args.holder) c.args.space c.in-Some.field-0.pairs.now c.loop-pair.pair-index no_pair c.loop-pair.cursor c.loop-pair.invariant.left
    c.loop-pair-test.true

pub measure_as_name-requires-clause-empty : goal.measure_as_name-requires-clause-empty
measure_as_name-requires-clause-empty c = c.loop-pair.invariant.none

pub measure_as_name-requires-clause-plain : goal.measure_as_name-requires-clause-plain
measure_as_name-requires-clause-plain c = c.in-Some.ensures.plain c.loop-pair.pair-index no_pair c.loop-pair-test.true

pub returns-then-pair-eq-DW_AT_NAME-clause-pairs : goal.returns-then-pair-eq-DW_AT_NAME-clause-pairs
returns-then-pair-eq-DW_AT_NAME-clause-pairs c =
    space_ok c.measure_as_name.result c.measure_as_name.new.room.pairs.items _ _
    (name_found c.args.known.now (holder_view c.args.holder) c.args.space c.in-Some.field-0.pairs.now c.loop-pair.pair-index no_pair c.loop-pair.cursor c.loop-pair.invariant.left c.loop-pair-test.true
    c.known_value-raw.new.cursor
    (raw_view c.known_value-raw.result) c.known_value-raw.ensures.value _ c.text_in.ensures c.if-pair-eq-DW_AT_NAME.true) (c.measure_as_name.ensures.pairs c.known_value-raw.new.cursor.at)

pub returns-then-pair-eq-DW_AT_NAME-clause-size : goal.returns-then-pair-eq-DW_AT_NAME-clause-size
returns-then-pair-eq-DW_AT_NAME-clause-size c =
    space_named c.measure_as_name.result _ _
    (name_found c.args.known.now (holder_view c.args.holder) c.args.space c.in-Some.field-0.pairs.now c.loop-pair.pair-index no_pair c.loop-pair.cursor c.loop-pair.invariant.left c.loop-pair-test.true
    c.known_value-raw.new.cursor
    (raw_view c.known_value-raw.result) c.known_value-raw.ensures.value _ c.text_in.ensures c.if-pair-eq-DW_AT_NAME.true) (c.measure_as_name.ensures.size c.known_value-raw.new.cursor.at)

pub loop-pair-preserved : goal.loop-pair-preserved
loop-pair-preserved c = record {
  left = name_next c.args.known.now (holder_view c.args.holder) c.args.space c.in-Some.field-0.pairs.now c.loop-pair.pair-index no_pair c.loop-pair.cursor c.loop-pair.invariant.left
      c.loop-pair-test.true c.known_value-raw.new.cursor
      (raw_view c.known_value-raw.result) c.known_value-raw.ensures.value c.if-pair-eq-DW_AT_NAME.false;
  none = c.loop-pair.invariant.none;
}

pub returns-clause-pairs : goal.returns-clause-pairs
returns-clause-pairs c =
    c.loop-pair.invariant.none
    ∙ ap (λ (z : List OutAttr). pairs_of (stored_all no_numbers z))
    (sym (name_end c.args.known.now (holder_view c.args.holder) c.args.space c.in-Some.field-0.pairs.now c.loop-pair.pair-index c.loop-pair.cursor c.loop-pair.invariant.left c.loop-pair-test.false))

pub returns-clause-size : goal.returns-clause-size
returns-clause-size c =
    space_sized _ [] 0 (name_end c.args.known.now (holder_view c.args.holder) c.args.space c.in-Some.field-0.pairs.now c.loop-pair.pair-index c.loop-pair.cursor c.loop-pair.invariant.left
    c.loop-pair-test.false) (none_sized no_numbers)

pub returns-clause-plain : goal.returns-clause-plain
returns-clause-plain c = plain_none c.loop-pair.room.pairs.items c.loop-pair.invariant.none
