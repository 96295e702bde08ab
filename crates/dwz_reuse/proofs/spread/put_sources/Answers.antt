use Rattle.std.proofs.Common.{◌≡◌, ◌+◌, List, Some, Vec, Global, get_or, slice_get, take, sym, ap, subst, ◌∙◌, arith}
use Rattle.dwz_groups.specs.declared.groups.Edge.{Edge}
use Rattle.dwz_reuse.specs.Spread.{PutsSources}
use Rattle.dwz_reuse.proofs.SpreadSteps.{found_at, puts_all, puts_next, puts_none, puts_skip}
use Rattle.dwz_reuse.proofs.spread.put_sources.Goals as goal
use Rattle.dwz_reuse.proofs.spread.put_sources.Goals.{then-target-first+in_ok-push, else-target-first}

pub loop-target-init : goal.loop-target-init
loop-target-init c = puts_none c.args.first c.args.top c.args.edges.now.items c.args.edges.now.items

pub loop-target-preserved : goal.loop-target-preserved
loop-target-preserved c =
    let targets = c.args.targets.now in
    let i = c.loop-target.target-index in
    let old = c.args.edges.now.items in
    let now = c.loop-target.edges.items in
    let got : slice_get targets i ≡ Some (get_or targets i 0) = found_at targets i 0 c.loop-target-test.true in
    let P : List Edge → Type 0 = λ es. PutsSources c.args.first c.args.top (take (i + 1) targets) old es in
    elim c.if-target-first.branch [
      | then-target-first+in_ok-push w ↦
          subst P (sym (ap (λ (v : Vec Edge Global). v.items) w.edges-is ∙ w.in_ok-push.ensures.items))
          (puts_next c.args.first c.args.top old now targets i (get_or targets i 0) got (omega arith) c.loop-target.invariant)
      | else-target-first w ↦
          subst P (sym (ap (λ (v : Vec Edge Global). v.items) w.edges-is))
          (puts_skip c.args.first c.args.top old now targets i (get_or targets i 0) got (omega arith) c.loop-target.invariant)
    ]

pub returns : goal.returns
returns c = puts_all c.args.first c.args.top c.args.edges.now.items c.loop-target.edges.items c.args.targets.now c.loop-target.target-index (omega (arith, c.loop-target-test.false)) c.loop-target.invariant
