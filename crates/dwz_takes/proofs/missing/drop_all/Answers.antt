use Rattle.std.proofs.Common.{◌≡◌, ℕ, ◌+◌, ◌<◌, Bool, List, Vec, Global, length, get_or, take, sym, ap, subst, ◌∙◌, arith}
use Rattle.dwz_model.proofs.ListFacts.{in_at}
use Rattle.dwz_takes.specs.Steps.{Drops}
use Rattle.dwz_takes.proofs.MissFacts.{drops_one, drops_skip}
use Rattle.dwz_takes.proofs.missing.drop_all.Goals as goal
use Rattle.dwz_takes.proofs.missing.drop_all.Goals.{then-flags-n+in_ok-push, else-flags-n}

pub bounds-flags-n : goal.bounds-flags-n
bounds-flags-n c =
    let l : c.loop-n.n-index < length c.args.list.now = omega arith in
    let low = c.requires (get_or c.args.list.now c.loop-n.n-index 0) (in_at c.args.list.now c.loop-n.n-index l) in
    omega arith

-- the same where both lists are told
drops_as : (list : List ℕ) (old : List Bool) (work : List ℕ) (new new' : List Bool) (more more' : List ℕ) → new' ≡ new → more' ≡ more → Drops list old work new more → Drops list old work new' more'
drops_as list old work new new' more more' e f d = subst (λ (xs : List ℕ). Drops list old work new' xs) (sym f) (subst (λ (bs : List Bool). Drops list old work bs more) (sym e) d)

pub loop-n-preserved : goal.loop-n-preserved
loop-n-preserved c =
    let i = c.loop-n.n-index in
    let list : List ℕ = c.args.list.now in
    let l : i < length list = omega arith in
    elim c.if-flags-n.branch [
      | then-flags-n+in_ok-push w ↦
          drops_as (take (i + 1) list) c.args.flags.now c.args.work.now.items _ c.if-flags-n.flags _ c.if-flags-n.work.items w.flags-is (ap (λ (v : Vec ℕ Global). v.items) w.work-is ∙ w.in_ok-push.ensures.items)
          (drops_one list i c.args.flags.now c.args.work.now.items c.loop-n.flags c.loop-n.work.items l w.if-flags-n.true c.loop-n.invariant)
      | else-flags-n w ↦
          drops_as (take (i + 1) list) c.args.flags.now c.args.work.now.items _ c.if-flags-n.flags _ c.if-flags-n.work.items w.flags-is (ap (λ (v : Vec ℕ Global). v.items) w.work-is)
          (drops_skip list i c.args.flags.now c.args.work.now.items c.loop-n.flags c.loop-n.work.items l w.if-flags-n.false c.loop-n.invariant)
    ]
