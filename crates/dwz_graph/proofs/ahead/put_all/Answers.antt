use Rattle.std.proofs.Common.{ℕ, List, Some, Vec, Global, map, arith}
use Rattle.std.proofs.lemmas.List.{length-map}
use Rattle.std.proofs.lemmas.List.Elements.{All-pop}
use Rattle.std.proofs.lemmas.Option.{slice_get_within}
use Rattle.dwz_graph.specs.Ahead.{IsAheadIn, IsFound}
use Rattle.dwz_graph.proofs.AheadLemmas.{put}
use Rattle.dwz_graph.proofs.ahead.put_all.Goals as goal

abbrev content : Vec ℕ Global → List ℕ
content v = v.items

pub bounds-ahead-number : goal.bounds-ahead-number
bounds-ahead-number c =
    let contents = map content c.args.files.now in
    let x = c.in-Some.field-0 in
    let p = All-pop (IsFound contents) c.loop-number.found.items c.pop.new.self.items (Some x) c.in-Some.ensures.items c.loop-number.invariant.found in
    let there : IsAheadIn contents x.number x.file = p.1 in
    let within = slice_get_within contents x.number there.bytes there.content in
    let many = length-map c.args.files.now content in
    omega arith

pub loop-number-preserved-in-Some : goal.loop-number-preserved-in-Some
loop-number-preserved-in-Some c =
    let contents = map content c.args.files.now in
    let x = c.in-Some.field-0 in
    let p = All-pop (IsFound contents) c.loop-number.found.items c.pop.new.self.items (Some x) c.in-Some.ensures.items c.loop-number.invariant.found in
    let there : IsAheadIn contents x.number x.file = p.1 in
    let within = slice_get_within contents x.number there.bytes there.content in
    let many = length-map c.args.files.now content in
    record { found = p.0; ahead = put contents c.loop-number.ahead x.number x.file (omega arith) there c.loop-number.invariant.ahead }

pub loop-number-preserved : goal.loop-number-preserved
loop-number-preserved c =
    let contents = map content c.args.files.now in
    let x = c.in-Some.field-0 in
    let p = All-pop (IsFound contents) c.loop-number.found.items c.pop.new.self.items (Some x) c.in-Some.ensures.items c.loop-number.invariant.found in
    let there : IsAheadIn contents x.number x.file = p.1 in
    let within = slice_get_within contents x.number there.bytes there.content in
    let many = length-map c.args.files.now content in
    record { found = p.0; ahead = put contents c.loop-number.ahead x.number x.file (omega arith) there c.loop-number.invariant.ahead }
