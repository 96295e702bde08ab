use Rattle.std.proofs.Common.{ℕ, List, [], subst, refl, arith}
use Rattle.dwz_unit.specs.Rows.{units_of}
use Rattle.dwz_layout_order.specs.Kept.{IsKept, from_source, imports_at}
use Rattle.dwz_layout_order.proofs.KeptSteps.{going_begins, going_ends, going_on, room_there, shown_there}
use Rattle.dwz_layout_order.proofs.kept.put_units.Goals as goal

pub loop-n-init : goal.loop-n-init
loop-n-init c = let s = c.args.source.now in
    going_begins (units_of s.units.now) c.args.marks.now (imports_at c.args.plan.now) (from_source s) c.args.from.now c.args.order.now.items refl c.requires.room

pub unit_items-requires-clause-room : goal.unit_items-requires-clause-room
unit_items-requires-clause-room c = let s = c.args.source.now in
    room_there (units_of s.units.now) c.args.marks.now (imports_at c.args.plan.now) (from_source s) c.args.from.now c.args.order.now.items c.loop-n.n c.loop-n.next c.loop-n.order.items
    c.loop-n.invariant

pub loop-n-preserved : goal.loop-n-preserved
loop-n-preserved c =
    let s = c.args.source.now in
    let raw = units_of s.units.now in
    let n = c.loop-n.n in
    let m = c.args.marks.now in
    let next = c.loop-n.next in
    let x = shown_there raw n (omega arith) in
    going_on raw m (imports_at c.args.plan.now) (from_source s) c.args.from.now c.args.order.now.items n next c.loop-n.order.items c.loop-n.invariant x.0 c.unit_items.new.next c.push.new.self.items
    c.in_ok-unit.unit x.1 c.in_ok-unit.ensures.next
    (λ u found. record {
      items = subst (λ (p : List ℕ). IsKept m u.kind u.below next p [] c.in_ok-unit.unit.items) c.imports-imports.ensures (c.in_ok-unit.ensures.items u x.0 found x.1);
      sort = c.in_ok-unit.ensures.sort u x.0 found x.1;
    })
    c.in_ok-push.ensures.items

pub returns : goal.returns
returns c = let s = c.args.source.now in
    going_ends (units_of s.units.now) c.args.marks.now (imports_at c.args.plan.now) (from_source s) c.args.from.now c.args.order.now.items c.loop-n.n c.loop-n.next c.loop-n.order.items
    c.loop-n.invariant (omega arith)
