use Rattle.std.proofs.Common.{◌≡◌, ◌∙◌, ◌++◌, None, get_or, refl, slice_index_or, subst, sym, append-nil, arith}
use Rattle.std.specs.List.{flat_map}
use Rattle.std.specs.Prelude.{IsOk}
use Rattle.dwz_def_reading.specs.Entries.{RawAttr}
use Rattle.dwz_forms.specs.RawValues.{raw_view}
use Rattle.dwz_unit.specs.Rows.{units_of}
use Rattle.dwz_unit.proofs.ReadsLemmas.{reads_count, reads_next}
use Rattle.dwz_unit.proofs.RowsFound.{row_there}
use Rattle.dwz_graph.proofs.ValueSteps.{next_read, no_pair}
use Rattle.dwz_encode_texts.proofs.RowUnits.{shown_unit}
use Rattle.dwz_encode_common.specs.Numbers.{number_read}
use Rattle.dwz_encode_common.specs.Paths as places
use Rattle.dwz_encode_common.proofs.NumberSteps.{items_all, items_more}
use Rattle.dwz_encode_common.proofs.numbers.put_row.Goals as goal

pub loop-pair-init : goal.loop-pair-init
loop-pair-init c = record {
  reads = c.values-cursor.ensures.read;
  numbers = λ row found. sym (append-nil c.args.numbers.now.items);
}

pub known_value-raw-requires : goal.known_value-raw-requires
known_value-raw-requires c =
    let pairs = c.values-cursor.result.pairs.now in
    let r = row_there (units_of c.args.file.now.units) c.args.entry c.requires in
    let x = reads_next r.0.entry.at pairs c.loop-pair.pair-index no_pair c.loop-pair.cursor r.0.entry.attrs c.loop-pair-test.true
    (c.loop-pair.invariant.reads r.0 r.1) in
    subst IsOk (sym x.value) refl

pub loop-pair-preserved : goal.loop-pair-preserved
loop-pair-preserved c =
    let pairs = c.values-cursor.result.pairs.now in
    let j = c.loop-pair.pair-index in
    let value = raw_view c.known_value-raw.result in
    let a : RawAttr =
    record { at = c.loop-pair.cursor.at; end = c.known_value-raw.new.cursor.at; pair = get_or pairs j no_pair; raw = value } in
    record {
      reads = λ row found.
          (next_read row.entry.at pairs j no_pair c.loop-pair.cursor c.known_value-raw.new.cursor value row.entry.attrs
          c.loop-pair-test.true (c.loop-pair.invariant.reads row found) c.known_value-raw.ensures.value).rest;
      numbers = λ row found. (
          let is = (next_read row.entry.at pairs j no_pair c.loop-pair.cursor c.known_value-raw.new.cursor value row.entry.attrs
          c.loop-pair-test.true (c.loop-pair.invariant.reads row found) c.known_value-raw.ensures.value).is in
          items_more (number_read c.args.paths.now c.as_slice-tables.result.now c.at_or-line.result) row.entry.attrs j a
          c.args.numbers.now.items c.loop-pair.numbers.items c.put_number.new.numbers.items is
          (c.loop-pair.invariant.numbers row found) c.in_ok-put_number.ensures);
    }

pub returns : goal.returns
returns c = λ row found. (
    let x = c.args.file.now in
    let pairs = c.values-cursor.result.pairs.now in
    let count = reads_count row.entry.at pairs c.values-cursor.result.cursor row.entry.attrs (c.values-cursor.ensures.read row found) in
    let unit : c.entry-unit.result.unit ≡ row.unit =
    sym (shown_unit (units_of x.units) c.args.entry c.entry-unit.result row c.entry-unit.ensures.entry found) in
    let line : c.at_or-line.result ≡ places.line_of x row.unit =
    c.at_or-line.ensures ∙ (λ i. slice_index_or (c.as_slice.ensures.value i) (unit i) None) in
    items_all (number_read c.args.paths.now c.as_slice-tables.result.now c.at_or-line.result) row.entry.attrs c.loop-pair.pair-index
    c.args.numbers.now.items c.loop-pair.numbers.items
    (omega (arith, count, c.loop-pair-test.false)) (c.loop-pair.invariant.numbers row found)
    ∙ (λ i. c.args.numbers.now.items
    ++ flat_map (number_read c.args.paths.now (c.as_slice-tables.ensures.value i) (line i)) row.entry.attrs))
