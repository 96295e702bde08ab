use Rattle.std.proofs.Common.{sym, subst}
use Rattle.dwz_model.specs.declared.fault.Fault.{Fault}
use Rattle.dwz_def_output.specs.NewFiles.{NarrowFaultBy}
use Rattle.dwz_encode_operands.specs.Narrow.{FirstPlace, after_in_by, number_by}
use Rattle.dwz_def_output.specs.Contents.{listed}
use Rattle.dwz_def_output.specs.Refusals.{spoken}
use Rattle.dwz_law_layout.specs.Facts.{common, run}
use Rattle.dwz_run_files.proofs.FirstNarrow.{found_listed, found_none, found_spoken}
use Rattle.dwz_run_files.proofs.narrow.narrow_fault.Goals as goal

pub returns-in-Some : goal.returns-in-Some
returns-in-Some c beside f is begin =
    let n = c.args.moved.now.number in
    let first = subst (FirstPlace (number_by (after_in_by (common f) (run f) n)) (spoken (run f) n)) c.in-Some.is (c.in_ok-at.ensures beside f is begin) in
    subst (λ (q : Fault). NarrowFaultBy (common f) (run f) n q) (sym c.narrow_at.ensures) (found_spoken (common f) (run f) n c.in-Some.at first)

pub returns-in-Some-2 : goal.returns-in-Some-2
returns-in-Some-2 c beside f is begin =
    let n = c.args.moved.now.number in
    let none = subst (FirstPlace (number_by (after_in_by (common f) (run f) n)) (spoken (run f) n)) c.in_default.is (c.in_ok-at.ensures beside f is begin) in
    let first = subst (FirstPlace (number_by (after_in_by (common f) (run f) n)) (listed (run f) n)) c.in-Some-2.is (c.in_ok-at-2.ensures beside f is begin) in
    subst (λ (q : Fault). NarrowFaultBy (common f) (run f) n q) (sym c.narrow_at-in-Some-2.ensures) (found_listed (common f) (run f) n c.in-Some-2.at none first)

pub returns : goal.returns
returns c beside f is begin =
    let n = c.args.moved.now.number in
    let none = subst (FirstPlace (number_by (after_in_by (common f) (run f) n)) (spoken (run f) n)) c.in_default.is (c.in_ok-at.ensures beside f is begin) in
    let other = subst (FirstPlace (number_by (after_in_by (common f) (run f) n)) (listed (run f) n)) c.in_default-2.is
    (c.in_ok-at-2.ensures beside f is begin) in
    found_none (common f) (run f) n none other
