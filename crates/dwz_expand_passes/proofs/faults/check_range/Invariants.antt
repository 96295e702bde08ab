use Rattle.std.proofs.Common.{ℕ, ◌-◌, take}
use Rattle.dwz_def_cross.specs.Tops.{WithCommon}
use Rattle.dwz_def_expand.specs.Refusals.{Where}
use Rattle.dwz_def_expand.specs.Source.{Copy}
use Rattle.dwz_def_reading.specs.FirstOf.{OfFirst}
use Rattle.dwz_encode.specs.Shown.{Keys}
use Rattle.dwz_expand_sources.specs.Sources.{all_entries, in_range}
use Rattle.dwz_expand_passes.specs.Faults.{ValueRefusal, entry_sites}
use Rattle.dwz_expand_passes.specs.Files.{Knows, forms_of}
use Rattle.dwz_expand_passes.proofs.FaultLemmas.{Nothing}
use Rattle.dwz_expand_passes.proofs.faults.check_range.Given as goal

abbrev pub invariant-loop-entry : goal.invariant-loop-entry
invariant-loop-entry l =
    (w : WithCommon ℕ) (keys : Keys (Copy ℕ)) (stands : Where ℕ) → Knows l.known w keys stands
    → Nothing (OfFirst (ValueRefusal w (forms_of l.known w) stands) (entry_sites l.known.unit (take (l.entry - l.range.first) (in_range (all_entries w) l.range))))
