use Rattle.std.proofs.Common.{◌≡◌, ℕ, suc, ◌+◌, ◌<◌, ◌++◌, ◌∷◌, [], Bool, true, List, length, get_or, take, Vec, Global, sym, ap, subst, ◌∙◌, arith}
use Rattle.std.proofs.Math.ListN.{set}
use Rattle.dwz_model.proofs.ListFacts.{in_at}
use Rattle.dwz_groups.specs.Spreading.{Marks}
use Rattle.dwz_groups.proofs.SpreadLemmas.{marks_add, marks_skip}
use Rattle.dwz_groups.proofs.marks.mark.Goals as goal
use Rattle.dwz_groups.proofs.marks.mark.Goals.{then-not-marks-n+in_ok-push, else-not-marks-n}

pub bounds-marks-n : goal.bounds-marks-n
bounds-marks-n c =
    let l : c.loop-n.n-index < length c.args.list.now = omega arith in
    let low = c.requires (get_or c.args.list.now c.loop-n.n-index 0) (in_at c.args.list.now c.loop-n.n-index l) in
    omega arith

pub bounds-marks-n-then-not-marks-n : goal.bounds-marks-n-then-not-marks-n
bounds-marks-n-then-not-marks-n c =
    let l : c.loop-n.n-index < length c.args.list.now = omega arith in
    let low = c.requires (get_or c.args.list.now c.loop-n.n-index 0) (in_at c.args.list.now c.loop-n.n-index l) in
    omega arith

-- the same where both lists are told
marks_as : (list : List ℕ) (i : ℕ) (old : List Bool) (work : List ℕ) (new new' : List Bool) (more more' : List ℕ) → new' ≡ new → more' ≡ more → Marks (take (suc i) list) old work new more
    → Marks (take (i + 1) list) old work new' more'
marks_as list i old work new new' more more' e f m =
    let one : suc i ≡ i + 1 = omega arith in
    subst (λ (k : ℕ). Marks (take k list) old work new' more') one
    (subst (λ (xs : List ℕ). Marks (take (suc i) list) old work new' xs) (sym f) (subst (λ (bs : List Bool). Marks (take (suc i) list) old work bs more) (sym e) m))

pub loop-n-preserved : goal.loop-n-preserved
loop-n-preserved c =
    let i = c.loop-n.n-index in
    let list : List ℕ = c.args.list.now in
    let l : i < length list = omega arith in
    let low : get_or list i 0 < length c.args.marks.now = c.requires (get_or list i 0) (in_at list i l) in
    elim c.if-not-marks-n.branch [
      | then-not-marks-n+in_ok-push w ↦
          marks_as list i c.args.marks.now c.args.work.now.items (set c.loop-n.marks (get_or list i 0) true) c.if-not-marks-n.marks (c.loop-n.work.items ++ get_or list i 0 ∷ [])
          c.if-not-marks-n.work.items
          w.marks-is (ap (λ (v : Vec ℕ Global). v.items) w.work-is ∙ w.in_ok-push.ensures.items)
          (marks_add list i c.args.marks.now c.args.work.now.items c.loop-n.marks c.loop-n.work.items l low w.if-not-marks-n.true c.loop-n.invariant)
      | else-not-marks-n w ↦
          marks_as list i c.args.marks.now c.args.work.now.items c.loop-n.marks c.if-not-marks-n.marks c.loop-n.work.items c.if-not-marks-n.work.items
          w.marks-is (ap (λ (v : Vec ℕ Global). v.items) w.work-is)
          (marks_skip list i c.args.marks.now c.args.work.now.items c.loop-n.marks c.loop-n.work.items l w.if-not-marks-n.false c.loop-n.invariant)
    ]
