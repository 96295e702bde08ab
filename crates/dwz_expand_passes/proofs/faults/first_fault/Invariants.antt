use Rattle.std.proofs.Common.{ℕ, take}
use Rattle.std.specs.List.{flat_map}
use Rattle.dwz_def_cross.specs.Tops.{WithCommon}
use Rattle.dwz_def_expand.specs.Chosen.{choice, paths_at}
use Rattle.dwz_def_expand.specs.Refusals.{Where, with_numbers}
use Rattle.dwz_def_expand.specs.Source.{Copy, source_units}
use Rattle.dwz_def_reading.specs.FirstOf.{OfFirst}
use Rattle.dwz_encode.specs.Shown.{Keys}
use Rattle.dwz_graph.specs.Surroundings.{sources_view}
use Rattle.dwz_expand_sources.specs.Imports.{same}
use Rattle.dwz_expand_sources.specs.Sources.{AreSources}
use Rattle.dwz_expand_passes.specs.Faults.{AreReady, KnowsBoth, ValueRefusal}
use Rattle.dwz_expand_passes.specs.Paths.{IsPathsOf}
use Rattle.dwz_expand_passes.proofs.FaultLemmas.{Nothing, numbered_sites}
use Rattle.dwz_expand_passes.proofs.faults.first_fault.Given as goal

abbrev pub invariant-loop-n : goal.invariant-loop-n
invariant-loop-n l = record {
  ready : AreReady l.own l.common l.sources l.numbers.roots l.copies;
  paths : IsPathsOf (paths_at (sources_view l.own.sections.now) l.paths.place) l.paths;
  none : (w : WithCommon ℕ) (keys : Keys (Copy ℕ)) (stands : Where ℕ) → KnowsBoth l.own l.common w keys stands → AreSources w l.sources
      → Nothing (OfFirst (ValueRefusal w (choice same w (sources_view l.own.sections.now)) stands) (flat_map numbered_sites (take l.n (with_numbers 0 (source_units same w)))));
}
