use Rattle.std.proofs.Common.{arith, get_or, refl, subst, sym}
use Rattle.std.specs.Prelude.{IsOk}
use Rattle.std.specs.Option.{option_map}
use Rattle.dwz_def_reading.specs.Entries.{RawAttr}
use Rattle.dwz_forms.specs.RawValues.{raw_view}
use Rattle.dwz_unit.proofs.ReadsLemmas.{reads_count, reads_next}
use Rattle.dwz_unit.specs.Rows.{units_of}
use Rattle.dwz_unit.proofs.RowsFound.{row_there}
use Rattle.dwz_graph.proofs.ValueSteps.{next_read, no_pair}
use Rattle.dwz_imports.specs.Said.{raw_beside}
use Rattle.dwz_imports.proofs.NamedParts.{added_all, added_more, added_none}
use Rattle.dwz_imports.proofs.entries.put_named.Goals as goal

pub loop-pair-init : goal.loop-pair-init
loop-pair-init c = record {
  reads = c.values-cursor.ensures.read;
  names = λ row found n. added_none (units_of c.args.own.now) (raw_beside (option_map (λ u. u.now) c.args.common)) n c.args.at c.args.parts.now.items;
}

pub known_value-raw-requires : goal.known_value-raw-requires
known_value-raw-requires c =
    let pairs = c.values-cursor.result.pairs.now in
    let r = row_there (units_of c.args.own.now) c.args.i c.requires.entry in
    let x = reads_next r.0.entry.at pairs c.loop-pair.pair-index no_pair c.loop-pair.cursor r.0.entry.attrs c.loop-pair-test.true (c.loop-pair.invariant.reads r.0 r.1) in
    subst IsOk (sym x.value) refl

pub loop-pair-preserved : goal.loop-pair-preserved
loop-pair-preserved c =
    let pairs = c.values-cursor.result.pairs.now in
    let j = c.loop-pair.pair-index in
    let value = raw_view c.known_value-raw.result in
    let a : RawAttr = record { at = c.loop-pair.cursor.at; end = c.known_value-raw.new.cursor.at; pair = get_or pairs j no_pair; raw = value } in
    record {
      reads = λ row found. (next_read row.entry.at pairs j no_pair c.loop-pair.cursor c.known_value-raw.new.cursor value row.entry.attrs c.loop-pair-test.true (c.loop-pair.invariant.reads row found)
          c.known_value-raw.ensures.value).rest;
      names = λ row found n. (
          let is = (next_read row.entry.at pairs j no_pair c.loop-pair.cursor c.known_value-raw.new.cursor value row.entry.attrs c.loop-pair-test.true (c.loop-pair.invariant.reads row found)
          c.known_value-raw.ensures.value).is in
          added_more (units_of c.args.own.now) (raw_beside (option_map
          (λ u. u.now) c.args.common)) n c.args.at row.entry.attrs j a c.args.parts.now.items c.loop-pair.parts.items c.put_attr.new.parts.items is
          (c.in_ok-put_attr.ensures n) (c.loop-pair.invariant.names row found n));
    }

pub returns : goal.returns
returns c = λ row found n. (
    let pairs = c.values-cursor.result.pairs.now in
    let count = reads_count row.entry.at pairs c.values-cursor.result.cursor row.entry.attrs (c.values-cursor.ensures.read row found) in
    added_all (units_of c.args.own.now) (raw_beside (option_map (λ u. u.now) c.args.common)) n c.args.at row.entry.attrs c.loop-pair.pair-index c.args.parts.now.items c.loop-pair.parts.items
    (omega (arith, count, c.loop-pair-test.false)) (c.loop-pair.invariant.names row found n))
