use Rattle.std.proofs.Common.{arith}
use Rattle.dwz_unit.specs.Rows.{units_of}
use Rattle.dwz_graph_resolve.specs.Surroundings.{scope_within}
use Rattle.dwz_graph_resolve.proofs.ListGoes.{adds_at}
use Rattle.dwz_graph_resolve.proofs.lists.add_list.Goals as goal

pub returns-clause-goes : goal.returns-clause-goes
returns-clause-goes c = λ u before here k. (
    let raw = units_of c.args.units.now in
    let s = scope_within c.args.around.now raw u in
    let low = c.if-place-around.false in
    adds_at raw s c.args.here.now.number c.args.at c.args.place before c.args.state.now c.walk_once.new.state c.walk_once.result (omega arith) (c.walk_once.ensures.goes u before here k))
