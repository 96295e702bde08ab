use Rattle.std.proofs.Common.{ℕ, ◌+◌, ◌<◌, Bool, true, false, true≢false, List, length, ap, sym, subst, ◌∙◌}
use Rattle.std.specs.Prelude.{slice_index}
use Rattle.std.proofs.lemmas.List.{get_or_default}
use Rattle.dwz_rounds.specs.Marked.{IsMarked}
use Rattle.dwz_rounds.specs.Open.{AreOfMarked}
use Rattle.dwz_rounds.proofs.Opening.{marked-no, marked-yes}
use Rattle.dwz_rounds.proofs.opened.of_marked.Goals as goal
use Rattle.dwz_rounds.proofs.opened.of_marked.Goals.{then-marks-classes+in_ok-push, else-marks-classes}

pub loop-a-preserved : goal.loop-a-preserved
loop-a-preserved c =
    let classes : List ℕ = c.args.classes.now in
    let marks : List Bool = c.args.marks.now in
    let live : List ℕ = c.args.live.now in
    let n : ℕ = c.loop-a.a-index in
    let kept : List ℕ = c.loop-a.kept.items in
    let was = c.loop-a.invariant in
    let a : ℕ = slice_index live n in
    let here : a < length classes = c.requires.live n 0 c.loop-a-test.true in
    let class : ℕ = slice_index classes a in
    let inside : class < length marks = c.requires.classes a 0 here in
    elim c.if-marks-classes.branch [
      | then-marks-classes+in_ok-push w ↦
          subst (λ (l : List ℕ). AreOfMarked classes marks live (n + 1) l) (sym (ap (λ v. v.items) w.kept-is ∙ w.in_ok-push.ensures.items))
          (marked-yes classes marks live n kept was c.loop-a-test.true (get_or_default marks class true false inside ∙ w.if-marks-classes.true))
      | else-marks-classes w ↦
          let isnt : ¬ (IsMarked marks class) = λ m. true≢false (sym m ∙ (get_or_default marks class true false inside ∙ w.if-marks-classes.false)) in
          subst (λ (l : List ℕ). AreOfMarked classes marks live (n + 1) l) (sym (ap (λ v. v.items) w.kept-is)) (marked-no classes marks live n kept was isnt)
    ]
