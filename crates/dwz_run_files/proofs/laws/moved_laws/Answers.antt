use Rattle.dwz_run_files.proofs.FilesUse.{order_uses_are}
use Rattle.dwz_run_files.proofs.RunMoves.{run_moved, run_order}
use Rattle.dwz_run_files.proofs.laws.moved_laws.Goals as goal

pub returns-clause-uses : goal.returns-clause-uses
returns-clause-uses c = order_uses_are

pub returns-clause-moved : goal.returns-clause-moved
returns-clause-moved c = run_moved

pub returns-clause-order : goal.returns-clause-order
returns-clause-order c = run_order
