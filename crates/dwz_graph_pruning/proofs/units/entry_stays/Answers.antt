use Rattle.std.proofs.Common.{◌<◌, Bool, length, get_or, ap, refl, subst, sym, ◌∙◌, arith}
use Rattle.std.specs.List.{list_any}
use Rattle.std.proofs.lemmas.Option.{slice_get-get_or}
use Rattle.std.specs.Prelude.{IsOk}
use Rattle.dwz_def_reading.specs.Entries.{RawAttr}
use Rattle.dwz_forms.specs.RawValues.{raw_view}
use Rattle.dwz_graph_pruning.proofs.RowLemmas.{none_asked, passes, unasked}
use Rattle.dwz_unit.proofs.RowsFound.{all_done, all_fails, all_more, row_there}
use Rattle.dwz_graph.proofs.ValueSteps.{next_read, no_pair}
use Rattle.dwz_graph_pruning.specs.Stays.{asks}
use Rattle.dwz_unit.specs.Known.{pairs_of}
use Rattle.dwz_unit.specs.Rows.{rows_of, units_of}
use Rattle.dwz_unit.proofs.DeclarationLemmas.{numbers_length, pairs_by_number}
use Rattle.dwz_unit.proofs.ReadsLemmas.{reads_count, reads_next}
use Rattle.dwz_graph_pruning.proofs.units.entry_stays.Goals as goal

pub has-requires : goal.has-requires
has-requires c = omega (arith, c.requires.entry, numbers_length (units_of c.args.units.now) c.args.asked.now c.requires.asked)

pub returns-then-not-has : goal.returns-then-not-has
returns-then-not-has c = λ row found. (
    let d = c.args.asked.now in
    let within : c.args.i < length d.numbers = omega (arith, c.requires.entry, numbers_length (units_of c.args.units.now) d c.requires.asked) in
    let number = slice_get-get_or d.numbers c.args.i 0 within in
    let pairs = pairs_by_number (rows_of (units_of c.args.units.now)) d c.requires.asked c.args.i (get_or d.numbers c.args.i 0) row number found in
    sym (none_asked c.args.slots.now c.args.known.now row.entry.attrs
    (ap (λ (b : Bool). list_any (asks b) (pairs_of row.entry)) c.if-not-known.true ∙ sym (c.has.ensures (get_or d.numbers c.args.i 0) (pairs_of row.entry) number pairs) ∙ c.if-not-has.true)))

pub returns-then-not-any_asks : goal.returns-then-not-any_asks
returns-then-not-any_asks c = λ row found.
    sym (unasked c.args.slots.now c.args.known.now c.values-cursor.result.pairs.now c.values-cursor.result.cursor row (c.values-cursor.ensures.read row found)
    (sym c.any_asks.ensures ∙ c.if-not-any_asks.true))

pub loop-pair-init : goal.loop-pair-init
loop-pair-init c = record {
  reads = c.values-cursor.ensures.read;
  left = λ row found. refl;
}

pub known_value-raw-requires : goal.known_value-raw-requires
known_value-raw-requires c =
    let pairs = c.values-cursor.result.pairs.now in
    let r = row_there (units_of c.args.units.now) c.args.i c.requires.entry in
    let x = reads_next r.0.entry.at pairs c.loop-pair.pair-index no_pair c.loop-pair.cursor r.0.entry.attrs c.loop-pair-test.true (c.loop-pair.invariant.reads r.0 r.1) in
    subst IsOk (sym x.value) refl

pub returns-then-not-stays : goal.returns-then-not-stays
returns-then-not-stays c = λ row found. (
    let pairs = c.values-cursor.result.pairs.now in
    let j = c.loop-pair.pair-index in
    let value = raw_view c.known_value-raw.result in
    let a : RawAttr = record { at = c.loop-pair.cursor.at; end = c.known_value-raw.new.cursor.at; pair = get_or pairs j no_pair; raw = value } in
    let is = (next_read row.entry.at pairs j no_pair c.loop-pair.cursor c.known_value-raw.new.cursor value row.entry.attrs c.loop-pair-test.true (c.loop-pair.invariant.reads row found)
    c.known_value-raw.ensures.value).is in
    all_fails (passes c.args.slots.now c.args.known.now) row.entry.attrs j a is (sym c.stays.ensures ∙ c.if-not-stays.true) (c.loop-pair.invariant.left row found))

pub loop-pair-preserved : goal.loop-pair-preserved
loop-pair-preserved c =
    let pairs = c.values-cursor.result.pairs.now in
    let j = c.loop-pair.pair-index in
    let value = raw_view c.known_value-raw.result in
    let a : RawAttr = record { at = c.loop-pair.cursor.at; end = c.known_value-raw.new.cursor.at; pair = get_or pairs j no_pair; raw = value } in
    record {
      reads = λ row found. (next_read row.entry.at pairs j no_pair c.loop-pair.cursor c.known_value-raw.new.cursor value row.entry.attrs c.loop-pair-test.true (c.loop-pair.invariant.reads row found)
          c.known_value-raw.ensures.value).rest;
      left = λ row found. (
          let is = (next_read row.entry.at pairs j no_pair c.loop-pair.cursor c.known_value-raw.new.cursor value row.entry.attrs c.loop-pair-test.true (c.loop-pair.invariant.reads row found)
          c.known_value-raw.ensures.value).is in
          all_more (passes c.args.slots.now c.args.known.now) row.entry.attrs j a is (sym c.stays.ensures ∙ c.if-not-stays.false) (c.loop-pair.invariant.left row found));
    }

pub returns : goal.returns
returns c = λ row found. (
    let pairs = c.values-cursor.result.pairs.now in
    let count = reads_count row.entry.at pairs c.values-cursor.result.cursor row.entry.attrs (c.values-cursor.ensures.read row found) in
    all_done (passes c.args.slots.now c.args.known.now) row.entry.attrs c.loop-pair.pair-index (omega (arith, count, c.loop-pair-test.false)) (c.loop-pair.invariant.left row found))
