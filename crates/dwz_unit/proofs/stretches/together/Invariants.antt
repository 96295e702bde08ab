use Rattle.std.proofs.Common.{ℕ, List, All, IfOk, IfSome}
use Rattle.dwz_unit.specs.Stretches.{IsStretch}
use Rattle.dwz_unit.specs.Tables.{Stored}
use Rattle.dwz_unit.proofs.stretches.together.Given as goal

abbrev pub invariant-loop-one : goal.invariant-loop-one
invariant-loop-one l = (info : List ℕ) (s : Stored) → All (λ one. IfOk one (λ read. IfSome read (IsStretch info l.mode s))) l.fn.all.items
    → All (λ one. IfOk one (λ read. IfSome read (IsStretch info l.mode s))) l.one-iterator.rest.items × IfSome l.whole (IsStretch info l.mode s)
