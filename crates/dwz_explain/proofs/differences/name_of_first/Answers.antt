use Rattle.std.proofs.Common.{slice_get}
use Rattle.dwz_explain.proofs.EntrySteps.{means_here}
use Rattle.dwz_explain.proofs.differences.name_of_first.Goals as goal

pub returns : goal.returns
returns c = λ x y h k. (
    let contents = c.args.run.now.graph.now.given in
    let files = c.args.run.now.files.now in
    let m = means_here contents files c.args.first c.units_at.result.now x c.units_at.ensures h in
    let n = means_here contents files c.args.second c.units_at-2.result.now y c.units_at-2.ensures k in
    c.first_name.ensures (slice_get x.node.attrs c.args.index) (slice_get y.node.attrs c.args.index) (c.attribute_at-a.ensures m.s m.name x m.means) (c.attribute_at-b.ensures n.s n.name y n.means))
