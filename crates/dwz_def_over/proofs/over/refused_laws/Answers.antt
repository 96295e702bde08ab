use Rattle.dwz_def_over.specs.Over.{standing_file, run_over}
use Rattle.dwz_def_over.proofs.EitherFault.{either_over}
use Rattle.dwz_def_over.proofs.FaultSections.{of_section_over}
use Rattle.dwz_def_over.proofs.OneFault.{one_fault}
use Rattle.dwz_def_over.proofs.over.refused_laws.Goals as goal

pub returns-clause-one : goal.returns-clause-one
returns-clause-one c name o = one_fault name (standing_file o) (run_over o)

pub returns-clause-either : goal.returns-clause-either
returns-clause-either c name o = either_over name (standing_file o) (run_over o)

pub returns-clause-section : goal.returns-clause-section
returns-clause-section c name o = of_section_over name (standing_file o) (run_over o)
