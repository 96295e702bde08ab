use Rattle.std.proofs.Common.{Global, Vec, ℕ, List, [], ◌∷◌, ◌++◌, take, get_or, sym, ap, subst, ◌∙◌}
use Rattle.std.proofs.lemmas.List.{take_more}
use Rattle.dwz_groups.specs.declared.groups.Edge.{Edge}
use Rattle.dwz_reuse.specs.Refers.{PutsList}
use Rattle.dwz_reuse.proofs.EdgeSteps.{put_target, skip_target}
use Rattle.dwz_reuse.proofs.own.put_list.Goals as goal
use Rattle.dwz_reuse.proofs.own.put_list.Goals.{in-Some+in_ok-push, in_default}

pub loop-target-preserved : goal.loop-target-preserved
loop-target-preserved c =
    let own = c.args.own.now in
    let from = c.args.from in
    let ts = take c.loop-target.target-index c.args.targets.now in
    let t : ℕ = get_or c.args.targets.now c.loop-target.target-index 0 in
    let old = c.args.edges.now.items in
    let more = take_more c.args.targets.now c.loop-target.target-index 0 c.loop-target-test.true in
    let next : PutsList own (ts ++ t ∷ []) from old c.match-at_or.edges.items = elim c.match-at_or.branch [
      | in-Some+in_ok-push w ↦ put_target own from ts t w.in-Some.to old c.loop-target.edges.items c.match-at_or.edges.items (sym c.at_or.ensures ∙ w.in-Some.is) (ap (λ (v : Vec Edge Global). v.items) w.edges-is ∙ w.in_ok-push.ensures.items)
          c.loop-target.invariant
      | in_default w ↦ subst (λ (v : Vec Edge Global). PutsList own (ts ++ t ∷ []) from old v.items) (sym w.edges-is) (skip_target own from ts t old c.loop-target.edges.items (sym c.at_or.ensures ∙ w.in_default.is) c.loop-target.invariant)
    ] in
    subst (λ (w : List ℕ). PutsList own w from old c.match-at_or.edges.items) (sym more) next
