use Rattle.std.proofs.Common.{ℕ, length, subst, below_more, arith}
use Rattle.dwz_model.specs.declared.fault.Fault.{Fault}
use Rattle.dwz_def_output.specs.Refusals.{SectionsFaultBy}
use Rattle.dwz_def_output.specs.NewFiles.{IsFound}
use Rattle.dwz_run_output.proofs.FirstFound.{first_found, none_found}
use Rattle.dwz_run_output.proofs.SectionFaults.{is_row}
use Rattle.dwz_run_output.proofs.faults.sections_refusal.Goals as goal

pub returns-in-Some : goal.returns-in-Some
returns-in-Some c k r count are =
    let file = c.loop-file.file in
    let row = is_row c.args.made.now file c.index-made-file.result c.loop-file-test.true c.index-made-file.is in
    let has = subst (IsFound (SectionsFaultBy k r file)) c.in-Some.is (c.fault_of.ensures k r file (are.each file c.index-made-file.result row)) in
    first_found (SectionsFaultBy k r) (length c.args.made.now) file c.in_file.result (c.loop-file.invariant k r count are) c.loop-file-test.true (c.in-Some.fault, has, c.in_file.ensures)

pub loop-file-preserved : goal.loop-file-preserved
loop-file-preserved c k r count are =
    let file = c.loop-file.file in
    let row = is_row c.args.made.now file c.index-made-file.result c.loop-file-test.true c.index-made-file.is in
    let none = subst (IsFound (SectionsFaultBy k r file)) c.in_default.is (c.fault_of.ensures k r file (are.each file c.index-made-file.result row)) in
    let Free : ℕ → Type 0 = λ n. (f : Fault) → ¬ SectionsFaultBy k r n f in
    below_more Free file (c.loop-file.invariant k r count are) none

pub returns : goal.returns
returns c k r count are =
    none_found (SectionsFaultBy k r) (length c.args.made.now) (λ n less. c.loop-file.invariant k r count are n (omega (arith, c.loop-file-test.false)))
