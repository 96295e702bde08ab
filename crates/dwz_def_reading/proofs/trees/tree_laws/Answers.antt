use Rattle.dwz_def_reading.specs.Units.{SpellsSiblings, SpellsTree, Tree, tree_at, unit_siblings_at}
use Rattle.dwz_def_reading.proofs.UnitReads.{again_one}
use Rattle.dwz_def_reading.proofs.UnitTreeLemmas.{list_again, list_fault, list_fault_again, list_found, list_step, tree_again, tree_fault, tree_fault_again, tree_found}
use Rattle.dwz_def_reading.proofs.trees.tree_laws.Goals as goal

pub returns-clause-list_found : goal.returns-clause-list_found
returns-clause-list_found c context p i j list e =
    let t = list_found context p i (list, j) e in
    record { front = t.bytes; spelled = t.spelled; parts = t.takes.parts; place = t.takes.place }

pub returns-clause-list_again : goal.returns-clause-list_again
returns-clause-list_again c context p at list front rest is = list_again context p at list front rest is

pub returns-clause-list_one : goal.returns-clause-list_one
returns-clause-list_one c context p = again_one (SpellsSiblings context p) (unit_siblings_at context p) (λ at list front rest is. list_again context p at list front rest is)

pub returns-clause-list_step : goal.returns-clause-list_step
returns-clause-list_step c = list_step

pub returns-clause-list_fault : goal.returns-clause-list_fault
returns-clause-list_fault c context p i f = (λ e. let s = list_fault context p i f e in (s.cut, s.faulty), λ is. list_fault_again context is.0 p i.at i.rest f is.1)

pub returns-clause-found : goal.returns-clause-found
returns-clause-found c context before i j tree e =
    let t = tree_found context before i j tree e in
    record { front = t.bytes; spelled = t.spelled; parts = t.takes.parts; place = t.takes.place }

pub returns-clause-again : goal.returns-clause-again
returns-clause-again c context before at tree front rest is = tree_again context before tree.0 tree.1 at front rest is

pub returns-clause-one : goal.returns-clause-one
returns-clause-one c context before =
    again_one (λ (tree : Tree). SpellsTree context before tree.0 tree.1) (tree_at context before) (λ at tree front rest is. tree_again context before tree.0 tree.1 at front rest is)

pub returns-clause-fault : goal.returns-clause-fault
returns-clause-fault c context before i f = (tree_fault context before i f, tree_fault_again context before i.at i.rest f)
