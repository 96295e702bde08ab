use Rattle.std.proofs.Common.{refl, arith}
use Rattle.dwz_def_tops.specs.Spots.{units_of}
use Rattle.dwz_graph.specs.Files.{docs_of}
use Rattle.dwz_layout_input.proofs.PlannedTops.{line_of_each, none_found, none_more, one_found}
use Rattle.dwz_layout_input.proofs.tops_beside.any_top_numbers_file.Goals as goal

pub loop-top-init : goal.loop-top-init
loop-top-init c = λ contents ts line knows are have. refl

pub returns-then-top_numbers_file : goal.returns-then-top_numbers_file
returns-then-top_numbers_file c = λ contents ts line knows are have. (
    let units = units_of (docs_of contents) in
    one_found units ts c.args.list.now are c.loop-top.top-index c.loop-top-test.true c.top_numbers_file.result
    (λ t there got. c.top_numbers_file.ensures contents t line knows got (line_of_each units ts line have t there)) c.if-top_numbers_file.true)

pub loop-top-preserved : goal.loop-top-preserved
loop-top-preserved c = λ contents ts line knows are have. (
    let units = units_of (docs_of contents) in
    none_more units ts c.args.list.now are c.loop-top.top-index c.loop-top-test.true c.top_numbers_file.result
    (λ t there got. c.top_numbers_file.ensures contents t line knows got (line_of_each units ts line have t there)) c.if-top_numbers_file.false (c.loop-top.invariant contents ts line knows are have))

pub returns : goal.returns
returns c = λ contents ts line knows are have. none_found (units_of (docs_of contents)) ts c.args.list.now are c.loop-top.top-index (omega (arith, c.loop-top-test.false))
    (c.loop-top.invariant contents ts line knows are have)
