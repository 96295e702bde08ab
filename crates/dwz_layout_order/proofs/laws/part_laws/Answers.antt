use Rattle.dwz_layout_order.proofs.AllShown.{all_said}
use Rattle.dwz_layout_order.proofs.FileChains.{file_chain}
use Rattle.dwz_layout_order.proofs.PartShown.{part_shown}
use Rattle.dwz_layout_order.proofs.laws.part_laws.Goals as goal

pub returns-clause-leads : goal.returns-clause-leads
returns-clause-leads c = λ rows said file name s units from under. file_chain rows said file 0 name s units from under

pub returns-clause-said : goal.returns-clause-said
returns-clause-said c = all_said

pub returns-clause-part : goal.returns-clause-part
returns-clause-part c = λ units rows texts lists tops m k part items h row among put n names mine.
    part_shown units rows texts lists tops h.own h.numbers h.are h.leads m k part items row among put n names mine
