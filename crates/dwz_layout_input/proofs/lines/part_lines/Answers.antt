use Rattle.std.proofs.Common.{length, arith}
use Rattle.dwz_def_reading.proofs.ListFacts.{got_in}
use Rattle.dwz_def_tops.proofs.Members.{nth_get}
use Rattle.dwz_def_tops.specs.Spots.{units_of}
use Rattle.dwz_graph.specs.Files.{docs_of}
use Rattle.dwz_layout_input.proofs.LinesLemmas.{all_lines, line_more, no_lines, part_shown}
use Rattle.dwz_layout_input.proofs.lines.part_lines.Goals as goal

pub loop-part-init : goal.loop-part-init
loop-part-init c = λ m planned. no_lines m (units_of (docs_of c.args.graph.now.given)) c.in_ok-lines.lines.items c.in_ok-lines.ensures.items

pub loop-part-preserved : goal.loop-part-preserved
loop-part-preserved c = λ m planned. (
    let contents = c.args.graph.now.given in
    let docs = docs_of contents in
    let i = c.loop-part.part-index in
    line_more m (units_of docs) i c.loop-part.lines.items c.push.new.self.items c.part_line.result (c.loop-part.invariant m planned) c.in_ok-push.ensures.items
    (λ part nth one. c.part_line.ensures contents part (record { kept = c.files-files.ensures; indexed = c.indexes-indexes.ensures; first = planned.rows }) one
    (planned.homes part (got_in m.parts i part (nth_get 0 m.parts i i part nth (omega arith))))
    (part_shown m (units_of docs) (length docs) c.args.plan.now.partials planned.moves.partials c.partials-partials.result.now i c.part-item.result part c.partials-partials.ensures c.loop-part-test.true c.part-item.is
    nth)))

pub returns : goal.returns
returns c = λ m planned. (
    let docs = docs_of c.args.graph.now.given in
    all_lines m (units_of docs) (length docs) c.args.plan.now.partials planned.moves.partials c.partials-partials.result.now c.loop-part.part-index c.loop-part.lines.items c.partials-partials.ensures
    (omega arith) (c.loop-part.invariant m planned))
