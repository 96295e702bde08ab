use Rattle.std.proofs.Common.{refl, Ok, Err}
use Rattle.std.proofs.lemmas.Result.{err_from_is_err_and}
use Rattle.dwz_unit.specs.Rows.{units_of}
use Rattle.dwz_graph_resolve.specs.declared.state.State.{State}
use Rattle.dwz_graph_resolve.specs.Surroundings.{scope_within}
use Rattle.dwz_graph_resolve.proofs.ListGoes.{by_slot, slot_fails}
use Rattle.dwz_graph_resolve.proofs.ListStates.{state_slot}
use Rattle.dwz_graph_resolve.proofs.lists.add_indexed.Goals as goal

pub returns-in_err-add_list-clause-goes : goal.returns-in_err-add_list-clause-goes
returns-in_err-add_list-clause-goes c = λ u before here k. (
    let p = err_from_is_err_and c.from_residual.result c.from_residual.ensures.1 in
    let raw = units_of c.args.units.now in
    let s = scope_within c.args.around.now raw u in
    let n = c.args.here.now.number in
    let x = c.in-Some-slot_at.slot in
    let sl = c.in-Some-slot_at.ensures in
    let e = c.in_err-add_list.field-0.0 in
    rw (p.1, p.2) (by_slot {Y = Unit {0}} raw s n c.args.at c.args.index c.in-Some.base sl.0 x.place x.at c.args.here.now.lists before c.args.state.now c.add_list.new.state (Err e) c.in-Some.is sl.1
    sl.3 sl.2
    (slot_fails raw s n c.args.at x.place x.at before c.args.state.now c.add_list.new.state c.add_list.new.state e (c.in_err-add_list.ensures.goes u before here k))))

pub returns-clause-goes : goal.returns-clause-goes
returns-clause-goes c = λ u before here k. (
    let raw = units_of c.args.units.now in
    let s = scope_within c.args.around.now raw u in
    let n = c.args.here.now.number in
    let x = c.in-Some-slot_at.slot in
    let sl = c.in-Some-slot_at.ensures in
    let g = c.in_ok-add_list.ensures.goes u before here k in
    let new : State = record c.add_list.new.state { lists = record c.add_list.new.state.lists { slots = c.push.new.self } } in
    by_slot {Y = Unit {0}} raw s n c.args.at c.args.index c.in-Some.base sl.0 x.place x.at c.args.here.now.lists before c.args.state.now new (Ok tt) c.in-Some.is sl.1 sl.3 sl.2
    (g.0, state_slot raw s n before x.place x.at c.args.state.now c.add_list.new.state new refl refl refl refl refl refl c.in_ok-push.ensures.items g.1))
