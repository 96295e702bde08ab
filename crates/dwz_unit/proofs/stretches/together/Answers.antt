use Rattle.std.proofs.Common.{suc, List, ◌∷◌, All, IfOk, IfSome, Option, Result, subst, arith}
use Rattle.std.specs.declared.alloc.AllocError.{AllocError}
use Rattle.dwz_unit.specs.Stretches.{IsStretch}
use Rattle.dwz_unit.specs.declared.stretches.Stretch.{Stretch}
use Rattle.dwz_unit.proofs.stretches.together.Goals as goal

pub loop-one-preserved : goal.loop-one-preserved
loop-one-preserved c = λ info s all. (
    let P : Result (Option Stretch) AllocError → Type 0 = λ one. IfOk one (λ read. IfSome read (IsStretch info c.args.mode s)) in
    let known = c.loop-one.invariant info s all in
    let split : All P (c.in-Some.one ∷ c.next.new.self.rest.items) = subst (λ (w : List (Result (Option Stretch) AllocError)). All P w) c.in-Some.ensures.steps.0 known.0 in
    let read : IfSome c.in-Ok.read (IsStretch info c.args.mode s) = subst P c.in-Ok.is (split 0 c.in-Some.one (omega arith)) in
    let own : IsStretch info c.args.mode s c.in-Some-read.next = subst (λ (o : Option Stretch). IfSome o (IsStretch info c.args.mode s)) c.in-Some-read.is read in (
      λ k d low. split (suc k) d (omega arith),
      subst (λ (o : Option Stretch). IfSome o (IsStretch info c.args.mode s)) c.in-Some-2.is (c.in_ok-both.ensures info s known.1 own),
    ))
