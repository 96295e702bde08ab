use Rattle.std.proofs.Common.{sym, subst}
use Rattle.dwz_def_output.specs.Refusals.{SectionsFaultBy}
use Rattle.dwz_def_output.specs.NewFiles.{IsFound}
use Rattle.dwz_run_output.proofs.SectionFaults.{new_found}
use Rattle.dwz_run_output.proofs.faults.new_fault.Goals as goal

pub returns : goal.returns
returns c k r file is =
    subst (IsFound (SectionsFaultBy k r file)) (sym c.or.ensures) (new_found k r file c.args.new.now c.first_large.result is c.first_large.ensures)
