use Rattle.std.proofs.Common.{ℕ, ◌+◌, arith, drop, get_or, refl, subst, sym, ◌∙◌, if◌then◌else◌}
use Rattle.std.specs.Prelude.{IsOk, nat_lt}
use Rattle.dwz_def_reading.specs.Entries.{RawAttr}
use Rattle.dwz_forms.specs.RawValues.{raw_view}
use Rattle.dwz_def_reading.specs.Documents.{node_map}
use Rattle.dwz_unit.specs.Rows.{units_of}
use Rattle.dwz_unit.proofs.ReadsLemmas.{reads_count, reads_next}
use Rattle.dwz_unit.proofs.RowsFound.{row_there}
use Rattle.dwz_graph.proofs.ValueSteps.{next_read, no_pair}
use Rattle.dwz_move.specs.Weights.{node_weight}
use Rattle.dwz_move.proofs.WeightSteps.{AreLeft, left_all, left_more, left_none, left_sibling, own_low}
use Rattle.dwz_move.proofs.weight.weight_of_entry.Goals as goal
use Rattle.dwz_move.proofs.weight.weight_of_entry.Goals.{then-pair-ne-DW_AT_SIBLING, else-pair-ne-DW_AT_SIBLING}

pub loop-pair-init : goal.loop-pair-init
loop-pair-init c = record {
  reads = c.values-cursor.ensures.read;
  left = λ s numbers row d name m. (
      let raw = units_of c.args.units.now in
      let own : ℕ = if nat_lt (c.args.i + 1) row.end then 2 else 1 in
      left_all raw s name numbers c.args.i row d c.weight_alone-weight.result own m (c.weight_alone-weight.ensures row m.found) (own_low (nat_lt (c.args.i + 1) row.end)));
}

pub known_value-raw-requires : goal.known_value-raw-requires
known_value-raw-requires c =
    let pairs = c.values-cursor.result.pairs.now in
    let r = row_there (units_of c.args.units.now) c.args.i c.requires in
    let x = reads_next r.0.entry.at pairs c.loop-pair.pair-index no_pair c.loop-pair.cursor r.0.entry.attrs c.loop-pair-test.true (c.loop-pair.invariant.reads r.0 r.1) in
    subst IsOk (sym x.value) refl

pub loop-pair-preserved : goal.loop-pair-preserved
loop-pair-preserved c =
    let raw = units_of c.args.units.now in
    let pairs = c.values-cursor.result.pairs.now in
    let j = c.loop-pair.pair-index in
    let value = raw_view c.known_value-raw.result in
    let a : RawAttr = record { at = c.loop-pair.cursor.at; end = c.known_value-raw.new.cursor.at; pair = get_or pairs j no_pair; raw = value } in
    record {
      reads = λ row found. (next_read row.entry.at pairs j no_pair c.loop-pair.cursor c.known_value-raw.new.cursor value row.entry.attrs c.loop-pair-test.true (c.loop-pair.invariant.reads row found)
          c.known_value-raw.ensures.value).rest;
      left = λ s numbers row d name m. (
          let is = (next_read row.entry.at pairs j no_pair c.loop-pair.cursor c.known_value-raw.new.cursor value row.entry.attrs c.loop-pair-test.true (c.loop-pair.invariant.reads row m.found)
          c.known_value-raw.ensures.value).is in
          let all = node_weight (nat_lt (c.args.i + 1) row.end) (node_map name d) in
          let h = c.loop-pair.invariant.left s numbers row d name m in
          elim c.if-pair-ne-DW_AT_SIBLING.branch [
            | then-pair-ne-DW_AT_SIBLING w ↦
                left_more raw s name row.entry.attrs j a c.loop-pair.weight w.weight_of_value.result c.if-pair-ne-DW_AT_SIBLING.weight all is w.if-pair-ne-DW_AT_SIBLING.true
                (λ v e. w.weight_of_value.ensures s a.at a.end v e) (w.weight-is ∙ w.add_weights-weight.ensures) h
            | else-pair-ne-DW_AT_SIBLING w ↦
                subst (λ (n : ℕ). AreLeft raw s name (drop (j + 1) row.entry.attrs) n all) (sym w.weight-is)
                (left_sibling raw s name row.entry.attrs j a c.loop-pair.weight all is w.if-pair-ne-DW_AT_SIBLING.false h)
          ]);
    }

pub returns : goal.returns
returns c = λ s numbers row d name m. (
    let pairs = c.values-cursor.result.pairs.now in
    let count = reads_count row.entry.at pairs c.values-cursor.result.cursor row.entry.attrs (c.values-cursor.ensures.read row m.found) in
    left_none (units_of c.args.units.now) s name row.entry.attrs c.loop-pair.pair-index c.loop-pair.weight (node_weight (nat_lt (c.args.i + 1) row.end) (node_map name d))
    (omega (arith, count, c.loop-pair-test.false)) (c.loop-pair.invariant.left s numbers row d name m))
