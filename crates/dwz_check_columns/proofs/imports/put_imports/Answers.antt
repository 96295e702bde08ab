use Rattle.std.proofs.Common.{map, arith}
use Rattle.dwz_check_columns.specs.Drawn.{among_all}
use Rattle.dwz_check_columns.proofs.UnitPuts.{imports_all, imports_more, imports_none}
use Rattle.dwz_check_columns.proofs.imports.put_imports.Goals as goal

pub loop-n-init : goal.loop-n-init
loop-n-init c = imports_none (map (among_all c.args.own c.args.first c.args.common)) c.args.first c.args.lists.now c.args.edges.now.items

pub loop-n-preserved : goal.loop-n-preserved
loop-n-preserved c =
    let test = c.loop-n-test.true in
    let all = c.len-n-end.ensures in
    imports_more (map (among_all c.args.own c.args.first c.args.common)) c.args.first c.loop-n.n c.args.lists.now c.get.result.now c.args.edges.now.items c.loop-n.edges.items c.put_list.new.edges.items
    (omega (arith, test, all)) c.get.ensures c.loop-n.invariant c.in_ok-put_list.ensures

pub returns : goal.returns
returns c =
    let test = c.loop-n-test.false in
    let all = c.len-n-end.ensures in
    imports_all (map (among_all c.args.own c.args.first c.args.common)) c.args.first c.loop-n.n c.args.lists.now c.args.edges.now.items c.loop-n.edges.items (omega (arith, test, all)) c.loop-n.invariant
