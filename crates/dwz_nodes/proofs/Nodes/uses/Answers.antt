use Rattle.std.proofs.Common.{◌≡◌, ℕ, [], List, length, sym, ap, subst, arith}
use Rattle.std.proofs.lemmas.List.{with_items_is}
use Rattle.std.specs.Vec.{with_items}
use Rattle.dwz_nodes.specs.declared.back.Span.{Span}
use Rattle.dwz_nodes.specs.Uses.{AreUses}
use Rattle.dwz_nodes.specs.Graph.{Node}
use Rattle.dwz_nodes.specs.Rooms.{AreRooms, all_targets}
use Rattle.dwz_nodes.specs.UseRooms.{AreNoted}
use Rattle.dwz_nodes.specs.declared.uses.Use.{Use}
use Rattle.dwz_nodes.specs.Spans.{AreWithin, lists_of}
use Rattle.dwz_nodes.proofs.UseFilling.{noted-all, noted-none, noted-within}
use Rattle.dwz_nodes.proofs.Flat.{length-all_targets}
use Rattle.dwz_nodes.proofs.Rows.{length-nodes_of}
use Rattle.dwz_nodes.proofs.Nodes.uses.Goals as goal

pub fill-requires-clause-before : goal.fill-requires-clause-before
fill-requires-clause-before c =
    let g : List Node = c.args.self.now in
    let spans : List Span = c.in_ok-spans.spans.items in
    let row : List Use = c.in_ok-row.row.items in
    let targets = c.all_targets-targets.ensures in
    let targets_len = ap (λ (xs : List ℕ). length xs) targets in
    let count = length-nodes_of 0 c.self.inside.rows.items c.self.inside.targets.items in
    let view = ap (λ (g : List Node). length g) c.self.view_is in
    let len : length spans ≡ length g = omega (arith, c.in_ok-spans.ensures.len, c.len.ensures) in
    let room : length row ≡ length (all_targets g) = omega (arith, c.in_ok-row.ensures.len) in
    let rooms = subst (λ (ts : List ℕ). AreRooms ts [] spans) targets c.in_ok-spans.ensures.rooms in
    subst (λ (ss : List Span). AreNoted g 0 0 ss c.as_mut_slice-2.result.now) (sym c.as_mut_slice.ensures.value)
    (subst (λ (ns : List Use). AreNoted g 0 0 spans ns) (sym c.as_mut_slice-2.ensures.value) (noted-none g spans row len room rooms))

pub invariant_of-result : goal.invariant_of-result
invariant_of-result c =
    let spans : (with_items c.in_ok-spans.spans c.fill.new.spans).items ≡ c.fill.new.spans = with_items_is c.in_ok-spans.spans c.fill.new.spans (omega arith) in
    let row : (with_items c.in_ok-row.row c.fill.new.row).items ≡ c.fill.new.row = with_items_is c.in_ok-row.row c.fill.new.row (omega arith) in
    subst (λ (ss : List Span). AreWithin ss (length (with_items c.in_ok-row.row c.fill.new.row).items)) (sym spans)
    (subst (λ (ns : List Use). AreWithin c.fill.new.spans (length ns)) (sym row) (noted-within c.args.self.now (length c.args.self.now) c.fill.new.spans c.fill.new.row c.fill.ensures))

pub returns-clause-uses : goal.returns-clause-uses
returns-clause-uses c =
    let spans : (with_items c.in_ok-spans.spans c.fill.new.spans).items ≡ c.fill.new.spans = with_items_is c.in_ok-spans.spans c.fill.new.spans (omega arith) in
    let row : (with_items c.in_ok-row.row c.fill.new.row).items ≡ c.fill.new.row = with_items_is c.in_ok-row.row c.fill.new.row (omega arith) in
    subst (λ (ss : List Span). AreUses c.args.self.now (lists_of ss (with_items c.in_ok-row.row c.fill.new.row).items)) (sym spans)
    (subst (λ (ns : List Use). AreUses c.args.self.now (lists_of c.fill.new.spans ns)) (sym row) (noted-all c.args.self.now c.fill.new.spans c.fill.new.row c.fill.ensures))

pub returns-then-targets-clause-many : goal.returns-then-targets-clause-many
returns-then-targets-clause-many c =
    let e = ap (λ (xs : List ℕ). length xs) c.all_targets-targets.ensures in
    let t = c.if-targets.true in
    omega (arith, e, length-all_targets c.args.self.now)
