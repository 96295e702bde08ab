use Rattle.std.proofs.Common.{ℕ, List, All, IfOk, IfSome}
use Rattle.dwz_def_reading.specs.Units.{RawUnit}
use Rattle.dwz_graph_resolve.specs.declared.surroundings.Surroundings.{Surroundings}
use Rattle.dwz_graph_resolve.specs.Stretches.{IsStretch}
use Rattle.dwz_graph_resolve.proofs.stretches.together.Given as goal

abbrev pub invariant-loop-one : goal.invariant-loop-one
invariant-loop-one l = (s : Surroundings) (raw : List RawUnit) (file : ℕ) → All (λ one. IfOk one (IsStretch s raw file)) l.fn.all.items
    → All (λ one. IfOk one (IsStretch s raw file)) l.one-iterator.rest.items × IfSome l.whole (IsStretch s raw file)
