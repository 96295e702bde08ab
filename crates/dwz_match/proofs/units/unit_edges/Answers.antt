use Rattle.std.proofs.Common.{◌+◌, List, Vec, Global, sym, ap, subst, ◌∙◌, arith}
use Rattle.std.proofs.lemmas.Bool.{false≢true}
use Rattle.dwz_model.specs.Lists.{In}
use Rattle.dwz_groups.specs.declared.groups.Edge.{Edge}
use Rattle.dwz_match.proofs.UnitFacts.{AreEdges, next_edge, skip_edge}
use Rattle.dwz_match.proofs.units.unit_edges.Goals as goal
use Rattle.dwz_match.proofs.units.unit_edges.Goals.{then-movable-top+in_ok-push, else-movable-top}

pub loop-top-init : goal.loop-top-init
loop-top-init c e = (λ i. absurd (subst (λ (w : List Edge). In e w) c.new-edges.ensures.items i), λ h. absurd (let l = h.1 in omega (arith, l)))

pub loop-top-preserved : goal.loop-top-preserved
loop-top-preserved c =
    let n = c.loop-top.top in
    let l = c.loop-top-test.true in
    let P : List Edge → Type 0 = λ es. AreEdges c.args.units.now c.args.movable.now (n + 1) es in
    elim c.if-movable-top.branch [
      | then-movable-top+in_ok-push w ↦
          subst P (sym (ap (λ (v : Vec Edge Global). v.items) w.edges-is ∙ w.in_ok-push.ensures.items))
          (next_edge c.args.units.now c.args.movable.now n c.loop-top.edges.items c.loop-top.invariant l w.if-movable-top.true)
      | else-movable-top w ↦
          subst P (sym (ap (λ (v : Vec Edge Global). v.items) w.edges-is))
          (skip_edge c.args.units.now c.args.movable.now n c.loop-top.edges.items c.loop-top.invariant (λ e. false≢true (sym w.if-movable-top.false ∙ e)))
    ]

pub returns : goal.returns
returns c e =
    let least = c.loop-top-test.false in
    (λ i. ((c.loop-top.invariant e).0 i).0, λ h. (c.loop-top.invariant e).1 (h, (let t = h.there in omega (arith, t, least))))
