use Rattle.std.proofs.Common.{arith}
use Rattle.dwz_model.proofs.ListFacts.{got_there}
use Rattle.dwz_check_columns.proofs.FileSides.{said_long}
use Rattle.dwz_check_columns.proofs.UnitPuts.{paths_all, paths_more, paths_none}
use Rattle.dwz_check_columns.proofs.paths.put_paths.Goals as goal

pub loop-n-init : goal.loop-n-init
loop-n-init c = λ said starts side. paths_none c.args.first said c.args.edges.now.items

pub loop-n-preserved : goal.loop-n-preserved
loop-n-preserved c = λ said starts side. (
    let long = said_long c.args.side.now said starts side in
    let test = c.loop-n-test.true in
    let all = c.len-n-end.ensures in
    let u = got_there said c.loop-n.n (omega (arith, long, test, all)) in
    paths_more c.args.first c.loop-n.n said u.0 c.args.edges.now.items c.loop-n.edges.items c.put_path.new.edges.items u.1 (c.loop-n.invariant said starts side) (c.in_ok-put_path.ensures said starts u.0 side u.1))

pub returns : goal.returns
returns c = λ said starts side. (
    let long = said_long c.args.side.now said starts side in
    let test = c.loop-n-test.false in
    let all = c.len-n-end.ensures in
    paths_all c.args.first c.loop-n.n said c.args.edges.now.items c.loop-n.edges.items (omega (arith, long, test, all)) (c.loop-n.invariant said starts side))
