use Rattle.std.proofs.Common.{◌≡◌, ◌<◌, ◌++◌, ◌∷◌, [], ℕ, ◌+◌, List, length, ap, sym, subst, arith, ◌∙◌}
use Rattle.std.specs.Prelude.{slice_index}
use Rattle.std.proofs.lemmas.List.{get_or_default}
use Rattle.dwz_rounds.specs.Start.{AreNumbered}
use Rattle.dwz_rounds.proofs.Starting.{numbered-new, numbered-again}
use Rattle.dwz_rounds.proofs.start.number_classes.Goals as goal
use Rattle.dwz_rounds.proofs.start.number_classes.Goals.{then-class-a+in_ok-push, else-class-a+in_ok-push-2}

pub loop-a-preserved : goal.loop-a-preserved
loop-a-preserved c =
    let classes : List ℕ = c.args.classes.now in
    let n : ℕ = c.loop-a.a in
    let count : ℕ = c.loop-a.count in
    let numbers : List ℕ = c.loop-a.numbers.items in
    let i = c.loop-a.invariant in
    elim c.if-class-a.branch [
      | then-class-a+in_ok-push w ↦ subst (λ (q : ℕ × List ℕ). AreNumbered classes (n + 1) q.0 q.1) (λ j. (sym w.count-is j, sym (ap (λ v. v.items) w.numbers-is ∙ w.in_ok-push.ensures.items) j))
          (numbered-new classes n count numbers c.requires.led c.loop-a-test.true i w.if-class-a.true)
      | else-class-a+in_ok-push-2 w ↦
          let class : ℕ = slice_index classes n in
          let h = c.requires.led n c.loop-a-test.true in
          let ne = w.if-class-a.false in
          let inside : class < length numbers = let l = h.0 in let e = i.len in omega arith in
          let is : w.index-number.result.now ≡ slice_index numbers class = w.index-number.ensures ∙ get_or_default numbers class w.index-number.result.now 0 inside in
          subst (λ (q : ℕ × List ℕ). AreNumbered classes (n + 1) q.0 q.1)
          (λ j. (sym w.count-is j, sym (ap (λ v. v.items) w.numbers-is ∙ (w.in_ok-push-2.ensures.items ∙ ap (λ (x : ℕ). numbers ++ x ∷ []) is)) j))
          (numbered-again classes n count numbers c.requires.led c.loop-a-test.true i ne)
    ]
