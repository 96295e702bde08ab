use Rattle.std.proofs.Common.{arith, ◌∙◌}
use Rattle.dwz_unit.specs.Rows.{units_of}
use Rattle.dwz_graph_view.proofs.EntrySteps.{pairs_few, pairs_many}
use Rattle.dwz_graph_view.proofs.entry_views.attrs_of.Goals as goal

pub overflow_cast-result : goal.overflow_cast-result
overflow_cast-result c =
    let few = pairs_few (units_of c.args.units.now) c.args.entry c.entry-count.result.attrs c.values-cursor.result.pairs.now c.values-cursor.result.cursor c.requires c.entry-count.ensures.attrs
    c.values-cursor.ensures.read in
    omega (arith, few, c.counted.ensures, c.entry-count.type_inv)

pub returns : goal.returns
returns c = λ row found. c.counted.ensures ∙ pairs_many row c.values-cursor.result.pairs.now c.values-cursor.result.cursor (c.values-cursor.ensures.read row found)
