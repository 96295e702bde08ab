use Rattle.dwz_def_tops.proofs.IntoLemmas.{targets_find, targets_found}
use Rattle.dwz_def_tops.proofs.AlikeBound.{bound_decides, movable_decides}
use Rattle.dwz_def_tops.proofs.AlikeLaws.{alike_decides, alike_joins, alike_self, alike_turns, every_look, look_tells}
use Rattle.dwz_def_tops.proofs.alike.alike_laws.Goals as goal

pub returns-clause-bound : goal.returns-clause-bound
returns-clause-bound c = bound_decides

pub returns-clause-movable : goal.returns-clause-movable
returns-clause-movable c = movable_decides

pub returns-clause-looks : goal.returns-clause-looks
returns-clause-looks c = look_tells

pub returns-clause-every : goal.returns-clause-every
returns-clause-every c = every_look

pub returns-clause-decides : goal.returns-clause-decides
returns-clause-decides c = alike_decides

pub returns-clause-equal : goal.returns-clause-equal
returns-clause-equal c units = (alike_self units, alike_turns units, alike_joins units)

pub returns-clause-targets : goal.returns-clause-targets
returns-clause-targets c t n = (targets_find n t, targets_found n t)
