use Rattle.std.proofs.Common.{◌≡◌, ◌+◌, ℕ, Option, List, arith, get_or, refl, subst, sym, ◌∙◌, Ok}
use Rattle.std.specs.Prelude.{IsOk}
use Rattle.dwz_def_reading.specs.Entries.{RawAttr}
use Rattle.dwz_forms.specs.RawValues.{raw_view}
use Rattle.dwz_def_reading.specs.Meant.{meaning}
use Rattle.dwz_encode_operands.specs.Walked.{NotesOperands}
use Rattle.dwz_encode_operands.proofs.EntryLemmas.{ValuesLeft, values_all, values_end, values_more, values_sibling}
use Rattle.dwz_def_output.specs.Refusals.{operands_of_attr}
use Rattle.dwz_unit.proofs.RowsFound.{row_there}
use Rattle.dwz_graph.proofs.ValueSteps.{next_read, no_pair}
use Rattle.dwz_unit.specs.Rows.{units_of}
use Rattle.dwz_unit.proofs.ReadsLemmas.{reads_count, reads_next}
use Rattle.dwz_encode_operands.proofs.PassedLemmas.{passed_over}
use Rattle.dwz_encode_operands.proofs.spoken.note_entry.Goals as goal
use Rattle.dwz_encode_operands.proofs.spoken.note_entry.Goals.{then-pair-ne-DW_AT_SIBLING+in_ok-left, else-pair-ne-DW_AT_SIBLING}

pub loop-pair-init : goal.loop-pair-init
loop-pair-init c = record {
  reads = c.values-cursor.ensures.read;
  left = λ s row d after more plain found means is are. values_all s after more c.args.first.now row d c.args.targets.now means are;
}

pub known_value-raw-requires : goal.known_value-raw-requires
known_value-raw-requires c =
    let pairs = c.values-cursor.result.pairs.now in
    let r = row_there (units_of c.args.units.now) c.args.i c.requires in
    let x = reads_next r.0.entry.at pairs c.loop-pair.pair-index no_pair c.loop-pair.cursor r.0.entry.attrs c.loop-pair-test.true (c.loop-pair.invariant.reads r.0 r.1) in
    subst IsOk (sym x.value) refl

pub loop-pair-preserved : goal.loop-pair-preserved
loop-pair-preserved c =
    let pairs = c.values-cursor.result.pairs.now in
    let j = c.loop-pair.pair-index in
    let value = raw_view c.known_value-raw.result in
    let a : RawAttr = record { at = c.loop-pair.cursor.at; end = c.known_value-raw.new.cursor.at; pair = get_or pairs j no_pair; raw = value } in
    record {
      reads = λ row found. (next_read row.entry.at pairs j no_pair c.loop-pair.cursor c.known_value-raw.new.cursor value row.entry.attrs c.loop-pair-test.true (c.loop-pair.invariant.reads row found)
          c.known_value-raw.ensures.value).rest;
      left = λ s row d after more plain found means is are. (
          let got = (next_read row.entry.at pairs j no_pair c.loop-pair.cursor c.known_value-raw.new.cursor value row.entry.attrs c.loop-pair-test.true (c.loop-pair.invariant.reads row found)
          c.known_value-raw.ensures.value).is in
          let old = c.args.first.now in
          let values = row.entry.attrs in
          let h = c.loop-pair.invariant.left s row d after more plain found means is are in
          elim c.if-pair-ne-DW_AT_SIBLING.branch [
            | then-pair-ne-DW_AT_SIBLING+in_ok-left w ↦
                subst (λ (r : List ℕ). ValuesLeft s after more old values (j + 1) c.if-pair-ne-DW_AT_SIBLING.first r) (sym (λ i. (w.left-is i).now))
                (subst (λ (f : Option ℕ). ValuesLeft s after more old values (j + 1) f w.in_ok-left.left.now) (sym w.first-is)
                (values_more s after more old values j a c.loop-pair.first c.loop-pair.left.now got h w.if-pair-ne-DW_AT_SIBLING.true w.note_value.new.first w.in_ok-left.left.now
                (λ v others e t.
                subst (λ (k : ℕ). NotesOperands after s.unit (operands_of_attr s (record { at = a.at; end = k; pair = a.pair; raw = a.raw })) c.loop-pair.first w.note_value.new.first others
                w.in_ok-left.left.now) c.at-end.ensures
                (w.in_ok-left.ensures s a.at v after others plain (subst (λ (k : ℕ). meaning s (record { at = a.at; end = k; pair = a.pair; raw = a.raw }) ≡ Ok v) (sym c.at-end.ensures) e) is t))))
            | else-pair-ne-DW_AT_SIBLING w ↦
                subst (λ (r : List ℕ). ValuesLeft s after more old values (j + 1) c.if-pair-ne-DW_AT_SIBLING.first r) (sym (λ i. (w.left-is i).now))
                (subst (λ (f : Option ℕ). ValuesLeft s after more old values (j + 1) f c.loop-pair.left.now) (sym w.first-is)
                (values_sibling s after more old values j a c.loop-pair.first c.loop-pair.left.now got h w.if-pair-ne-DW_AT_SIBLING.false))
          ]);
    }

pub returns-in-Some : goal.returns-in-Some
returns-in-Some c = λ s row d after more plain found means is are.
    passed_over s after row d c.args.first.now c.args.targets.now more c.behind.result.now c.in-Some.count (sym (c.named_count.ensures row found) ∙ c.in-Some.is) means are c.behind.ensures

pub returns : goal.returns
returns c = λ s row d after more plain found means is are. (
    let pairs = c.values-cursor.result.pairs.now in
    let count = reads_count row.entry.at pairs c.values-cursor.result.cursor row.entry.attrs (c.values-cursor.ensures.read row found) in
    values_end s after more c.args.first.now row c.loop-pair.pair-index c.loop-pair.first c.loop-pair.left.now (omega (arith, count, c.loop-pair-test.false))
    (c.loop-pair.invariant.left s row d after more plain found means is are))
