use Rattle.std.proofs.Common.{suc, List, ◌∷◌, All, IfOk, IfSome, Option, Result, subst, arith}
use Rattle.dwz_model.specs.declared.fault.ReadErr.{ReadErr}
use Rattle.dwz_graph_resolve.specs.Stretches.{IsStretch}
use Rattle.dwz_graph_resolve.specs.declared.stretches.Stretch.{Stretch}
use Rattle.dwz_graph_resolve.proofs.stretches.together.Goals as goal

pub loop-one-preserved : goal.loop-one-preserved
loop-one-preserved c = λ s raw file all. (
    let P : Result Stretch ReadErr → Type 0 = λ one. IfOk one (IsStretch s raw file) in
    let known = c.loop-one.invariant s raw file all in
    let split : All P (c.in-Some.one ∷ c.next.new.self.rest.items) = subst (λ (w : List (Result Stretch ReadErr)). All P w) c.in-Some.ensures.steps.0 known.0 in
    let own : IsStretch s raw file c.in-Ok.next = subst P c.in-Ok.is (split 0 c.in-Some.one (omega arith)) in (
      λ k d low. split (suc k) d (omega arith),
      subst (λ (o : Option Stretch). IfSome o (IsStretch s raw file)) c.in-Some-2.is (c.in_ok-both.ensures s raw file known.1 own),
    ))
