use Rattle.dwz_unit.specs.Rows.{units_of}
use Rattle.dwz_graph_resolve.specs.Surroundings.{scope_within}
use Rattle.dwz_graph_resolve.proofs.ListStates.{state_again}
use Rattle.dwz_graph_resolve.proofs.lists.walk_once.Goals as goal

pub returns-then-was_read-clause-goes : goal.returns-then-was_read-clause-goes
returns-then-was_read-clause-goes c = λ u before here k. (
    let raw = units_of c.args.units.now in
    let s = scope_within c.args.around.now raw u in
    state_again raw s c.args.here.now.number before c.args.place c.args.state.now (c.was_read.ensures c.if-was_read.true) k)

pub returns-clause-goes : goal.returns-clause-goes
returns-clause-goes c = λ u before here k. c.walk.ensures.goes u before here k
