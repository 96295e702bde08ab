use Rattle.std.proofs.Common.{ℕ, ◌+◌, ◌<◌, List, Vec, Global, sym, ap, subst, ◌∙◌, arith}
use Rattle.dwz_model.specs.Lists.{In}
use Rattle.dwz_groups.specs.Spreading.{IsMarked}
use Rattle.dwz_groups.proofs.SpreadLemmas.{found_all, found_more, found_skip}
use Rattle.dwz_groups.proofs.marks.marked_numbers.Goals as goal
use Rattle.dwz_groups.proofs.marks.marked_numbers.Goals.{then-mark+in_ok-push, else-mark}

pub loop-n-preserved : goal.loop-n-preserved
loop-n-preserved c =
    let Is : List ℕ → Type 0 = λ work. (m : ℕ) → (In m work → IsMarked c.args.marks.now m × (m < c.loop-n.n + 1)) × (IsMarked c.args.marks.now m × (m < c.loop-n.n + 1) → In m work) in
    elim c.if-mark.branch [
      | then-mark+in_ok-push w ↦ subst Is (sym (ap (λ (v : Vec ℕ Global). v.items) w.work-is ∙ w.in_ok-push.ensures.items))
          (found_more c.args.marks.now c.loop-n.n c.loop-n.work.items (omega arith) w.if-mark.true c.loop-n.invariant)
      | else-mark w ↦ subst Is (sym (ap (λ (v : Vec ℕ Global). v.items) w.work-is)) (found_skip c.args.marks.now c.loop-n.n c.loop-n.work.items w.if-mark.false c.loop-n.invariant)
    ]

pub returns : goal.returns
returns c = found_all c.args.marks.now c.loop-n.work.items c.loop-n.n (omega arith) c.loop-n.invariant
