use Rattle.std.proofs.Common.{ℕ, ◌+◌, List, ap, sym, subst, ◌∙◌}
use Rattle.dwz_rounds.specs.Start.{AreMoved}
use Rattle.dwz_rounds.proofs.Starting.{moved-yes, moved-no}
use Rattle.dwz_rounds.proofs.start.moved_nodes.Goals as goal
use Rattle.dwz_rounds.proofs.start.moved_nodes.Goals.{then-next-a+in_ok-push, else-next-a}

pub loop-a-preserved : goal.loop-a-preserved
loop-a-preserved c =
    let classes : List ℕ = c.args.classes.now in
    let next : List ℕ = c.args.next.now in
    let largest : List ℕ = c.args.largest.now in
    let n : ℕ = c.loop-a.a in
    let pending : List ℕ = c.loop-a.pending.items in
    elim c.if-next-a.branch [
      | then-next-a+in_ok-push w ↦ subst (λ (l : List ℕ). AreMoved classes next largest (n + 1) l) (sym (ap (λ v. v.items) w.pending-is ∙ w.in_ok-push.ensures.items))
          (moved-yes classes next largest n pending c.loop-a.invariant w.if-next-a.true)
      | else-next-a w ↦ subst (λ (l : List ℕ). AreMoved classes next largest (n + 1) l) (sym (ap (λ v. v.items) w.pending-is))
          (moved-no classes next largest n pending c.loop-a.invariant w.if-next-a.false)
    ]
