use Rattle.dwz_unit.specs.Rows.{units_of}
use Rattle.dwz_graph_view.proofs.AttrSteps.{Seeks}
use Rattle.dwz_graph_view.proofs.attr_forms.find_attr.Given as goal

abbrev pub invariant-loop-k : goal.invariant-loop-k
invariant-loop-k l = Seeks (units_of l.units) l.entry l.pairs l.index l.k l.left
