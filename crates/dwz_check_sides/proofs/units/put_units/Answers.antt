use Rattle.std.proofs.Common.{◌<◌, length, arith}
use Rattle.dwz_def_check.specs.CrossLists.{numbered_units}
use Rattle.dwz_model.proofs.ListFacts.{got_there}
use Rattle.dwz_check_sides.proofs.UnitNodes.{nodes_all, nodes_more, nodes_none, units_long}
use Rattle.dwz_check_sides.proofs.units.put_units.Goals as goal

pub loop-n-init : goal.loop-n-init
loop-n-init c = λ said starts side. nodes_none c.args.before (numbered_units starts.top starts.lone said) c.args.units.now.items

pub nodes_at-requires-clause-within : goal.nodes_at-requires-clause-within
nodes_at-requires-clause-within c =
    let r = c.requires.said in
    let long = (units_long c.args.side.now r.0 r.1 r.2).0 in
    let test = c.loop-n-test.true in
    let all = c.len-n-end.ensures in
    omega (arith, long, test, all)

pub loop-n-preserved : goal.loop-n-preserved
loop-n-preserved c = λ said starts side. (
    let xs = numbered_units starts.top starts.lone said in
    let long = (units_long c.args.side.now said starts side).1 in
    let test = c.loop-n-test.true in
    let all = c.len-n-end.ensures in
    let within : c.loop-n.n < length xs = omega (arith, long, test, all) in
    let x = got_there xs c.loop-n.n within in
    nodes_more c.args.before c.loop-n.n xs c.args.units.now.items c.loop-n.units.items c.push.new.self.items x.0 c.nodes_at.result x.1 (c.nodes_at.ensures said starts x.0 side x.1)
    (c.loop-n.invariant said starts side) c.in_ok-push.ensures.items)

pub returns : goal.returns
returns c = λ said starts side. (
    let xs = numbered_units starts.top starts.lone said in
    let long = (units_long c.args.side.now said starts side).1 in
    let test = c.loop-n-test.false in
    let all = c.len-n-end.ensures in
    nodes_all c.args.before c.loop-n.n xs c.args.units.now.items c.loop-n.units.items (omega (arith, long, test, all)) (c.loop-n.invariant said starts side))
