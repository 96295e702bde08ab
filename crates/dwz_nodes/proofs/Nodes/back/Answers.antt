use Rattle.std.proofs.Common.{◌≡◌, ℕ, [], List, length, sym, ap, subst, arith}
use Rattle.std.proofs.lemmas.List.{with_items_is}
use Rattle.std.specs.Vec.{with_items}
use Rattle.dwz_nodes.specs.declared.back.Span.{Span}
use Rattle.dwz_nodes.specs.Back.{AreBack}
use Rattle.dwz_nodes.specs.Graph.{Node}
use Rattle.dwz_nodes.specs.Rooms.{AreRooms, IsFilled, all_targets}
use Rattle.dwz_nodes.specs.Spans.{AreWithin, lists_of}
use Rattle.dwz_nodes.proofs.Filled.{filled-all, filled-none, filled-within}
use Rattle.dwz_nodes.proofs.Rows.{length-nodes_of}
use Rattle.dwz_nodes.proofs.Nodes.back.Goals as goal

pub fill-requires : goal.fill-requires
fill-requires c =
    let g : List Node = c.args.self.now in
    let spans : List Span = c.in_ok-spans.spans.items in
    let row : List ℕ = c.in_ok-row.row.items in
    let targets = c.all_targets-targets.ensures in
    let targets_len = ap (λ (xs : List ℕ). length xs) targets in
    let count = length-nodes_of 0 c.self.inside.rows.items c.self.inside.targets.items in
    let view = ap (λ (g : List Node). length g) c.self.view_is in
    let len : length spans ≡ length g = omega (arith, c.in_ok-spans.ensures.len, c.len.ensures) in
    let room : length row ≡ length (all_targets g) = omega (arith, c.in_ok-row.ensures.len) in
    let rooms = subst (λ (ts : List ℕ). AreRooms ts [] spans) targets c.in_ok-spans.ensures.rooms in
    subst (λ (ss : List Span). IsFilled g 0 ss c.as_mut_slice-2.result.now) (sym c.as_mut_slice.ensures.value)
    (subst (λ (ns : List ℕ). IsFilled g 0 spans ns) (sym c.as_mut_slice-2.ensures.value) (filled-none g spans row len room rooms))

pub invariant_of-result : goal.invariant_of-result
invariant_of-result c =
    let spans : (with_items c.in_ok-spans.spans c.fill.new.spans).items ≡ c.fill.new.spans = with_items_is c.in_ok-spans.spans c.fill.new.spans (omega arith) in
    let row : (with_items c.in_ok-row.row c.fill.new.row).items ≡ c.fill.new.row = with_items_is c.in_ok-row.row c.fill.new.row (omega arith) in
    subst (λ (ss : List Span). AreWithin ss (length (with_items c.in_ok-row.row c.fill.new.row).items)) (sym spans)
    (subst (λ (ns : List ℕ). AreWithin c.fill.new.spans (length ns)) (sym row) (filled-within c.args.self.now (length c.args.self.now) c.fill.new.spans c.fill.new.row c.fill.ensures))

pub returns : goal.returns
returns c =
    let spans : (with_items c.in_ok-spans.spans c.fill.new.spans).items ≡ c.fill.new.spans = with_items_is c.in_ok-spans.spans c.fill.new.spans (omega arith) in
    let row : (with_items c.in_ok-row.row c.fill.new.row).items ≡ c.fill.new.row = with_items_is c.in_ok-row.row c.fill.new.row (omega arith) in
    subst (λ (ss : List Span). AreBack c.args.self.now (lists_of ss (with_items c.in_ok-row.row c.fill.new.row).items)) (sym spans)
    (subst (λ (ns : List ℕ). AreBack c.args.self.now (lists_of c.fill.new.spans ns)) (sym row) (filled-all c.args.self.now c.fill.new.spans c.fill.new.row c.fill.ensures))
