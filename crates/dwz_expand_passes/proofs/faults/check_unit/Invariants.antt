use Rattle.std.proofs.Common.{◌≡◌, ℕ, Some, slice_get, take}
use Rattle.std.specs.List.{flat_map}
use Rattle.dwz_def_cross.specs.Tops.{WithCommon}
use Rattle.dwz_def_expand.specs.Refusals.{Where, sites_of}
use Rattle.dwz_def_expand.specs.Source.{Copy}
use Rattle.dwz_def_reading.specs.FirstOf.{OfFirst}
use Rattle.dwz_expand_sources.specs.Index.{ListedEntry}
use Rattle.dwz_encode.specs.Shown.{Keys}
use Rattle.dwz_expand_sources.specs.declared.sources.SourceRange.{SourceRange}
use Rattle.dwz_expand_sources.specs.Sources.{all_entries, in_range, ranges_of}
use Rattle.dwz_expand_passes.specs.Faults.{ValueRefusal, entry_sites}
use Rattle.dwz_expand_passes.specs.Files.{Knows, forms_of}
use Rattle.dwz_expand_passes.proofs.FaultLemmas.{Nothing}
use Rattle.dwz_expand_passes.proofs.faults.check_unit.Given as goal

abbrev pub invariant-loop-range : goal.invariant-loop-range
invariant-loop-range l = record {
  root : (w : WithCommon ℕ) (keys : Keys (Copy ℕ)) (stands : Where ℕ) (d : ListedEntry ℕ) → Knows l.known w keys stands → slice_get (all_entries w) l.unit.root ≡ Some d
      → Nothing (OfFirst (ValueRefusal w (forms_of l.known w) stands) (sites_of l.known.unit d.0.at 0 d.0.attrs));
  ranges : (w : WithCommon ℕ) (keys : Keys (Copy ℕ)) (stands : Where ℕ) → Knows l.known w keys stands
      → Nothing (OfFirst (ValueRefusal w (forms_of l.known w) stands)
      (flat_map (λ (r : SourceRange). entry_sites l.known.unit (in_range (all_entries w) r)) (take l.range-index (ranges_of l.ranges l.unit))));
}
