use Rattle.std.proofs.Common.{◌≡◌, ℕ, ◌++◌, List, Some, length, map, slice_get}
use Rattle.dwz_def_expand.specs.OneFile.{OneFile}
use Rattle.dwz_expand_layout.specs.Laid.{layout_view}
use Rattle.dwz_expand.specs.Walked.{HasLists, told_of}
use Rattle.dwz_expand_sources.specs.declared.sources.NewUnit.{NewUnit}
use Rattle.dwz_expand_sources.specs.Walk.{sources_of}
use Rattle.dwz_expand.proofs.numbers.put_sources.Given as goal

abbrev pub invariant-loop-i : goal.invariant-loop-i
invariant-loop-i l = record {
  done : List ℕ;
  whole : (new : NewUnit) → slice_get l.x.file.now.sources.now.units l.x.unit ≡ Some new → sources_of l.x.file.now.sources.now.ranges new ≡ done ++ l.walk;
  told : (f : OneFile) → HasLists f l.x.file.now (layout_view l.x.layout.now) → l.told.items ≡ l.fn.told.items ++ told_of f l.x.file.now (map (λ i. (l.x.unit, i)) done);
}

abbrev pub decreases-loop-i : goal.decreases-loop-i
decreases-loop-i l = length l.walk
