use Rattle.std.proofs.Common.{◌≡◌, ℕ, ◌+◌, ◌<◌, length, sym, ap, subst, ◌∙◌, arith}
use Rattle.dwz_label.specs.declared.slots.Slots.{Slots}
use Rattle.dwz_label.specs.Slots.{AreSlotted}
use Rattle.dwz_label.proofs.Filling.{slotted_passed}
use Rattle.dwz_label.proofs.equal.put_all.Goals as goal
use Rattle.dwz_label.proofs.equal.put_all.Goals.{then-free+in_ok-put, else-free}

pub loop-n-preserved : goal.loop-n-preserved
loop-n-preserved c = elim c.if-free.branch [
  | then-free+in_ok-put w ↦
      record {
        size = (
            let now = c.loop-n.invariant.size in
            let size = ap (λ (s : Slots). s.size) w.slots-is ∙ w.in_ok-put.ensures.size in
            let slots = ap (λ (s : Slots). length s.slots.items) w.slots-is ∙ w.in_ok-put.ensures.slots in
            (let l = now.0 in omega (arith, l, size), slots ∙ now.1 ∙ ap (λ (m : ℕ). m + 16) (sym size)));
        len = ap (λ (s : Slots). length s.firsts.items) w.slots-is ∙ w.in_ok-put.ensures.firsts ∙ c.loop-n.invariant.len;
        put = subst (λ (s : Slots). AreSlotted c.args.labels.now c.args.movable.now (c.loop-n.n + 1) s) (sym w.slots-is)
            (w.in_ok-put.ensures.put c.args.movable.now c.loop-n.invariant.put w.if-free.true);
      }
  | else-free w ↦
      record {
        size = subst (λ (s : Slots). (0 < s.size) × (length s.slots.items ≡ s.size + 16)) (sym w.slots-is) c.loop-n.invariant.size;
        len = ap (λ (s : Slots). length s.firsts.items) w.slots-is ∙ c.loop-n.invariant.len;
        put = subst (λ (s : Slots). AreSlotted c.args.labels.now c.args.movable.now (c.loop-n.n + 1) s) (sym w.slots-is)
            (slotted_passed c.args.labels.now c.args.movable.now c.loop-n.n c.loop-n.slots w.if-free.false c.loop-n.invariant.put);
      }
]

pub returns-clause-put : goal.returns-clause-put
returns-clause-put c =
    let end : c.loop-n.n ≡ length c.args.labels.now = (let t = c.loop-n-test.false in let a = c.loop-n.auto.n-end in let m = c.requires.many in omega arith) in
    subst (λ (k : ℕ). AreSlotted c.args.labels.now c.args.movable.now k c.loop-n.slots) end c.loop-n.invariant.put
