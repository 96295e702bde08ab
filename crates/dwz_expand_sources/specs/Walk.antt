-- The sources of a new unit by their numbers.
use Rattle.std.specs.Prelude.{ℕ, ◌-◌, ◌<◌, List, ◌∷◌, ◌++◌}
use Rattle.std.specs.List.{flat_map, range_with_len}
use Rattle.dwz_expand_sources.specs.declared.sources.NewUnit.{NewUnit}
use Rattle.dwz_expand_sources.specs.declared.sources.SourceRange.{SourceRange}
use Rattle.dwz_expand_sources.specs.Sources.{ranges_of}

-- a range has some
abbrev pub HasEntries : SourceRange → Type 0
HasEntries r = r.first < r.end

-- numbers from one on, before another
abbrev pub between : ℕ → ℕ → List ℕ
between first end = range_with_len first (end - first)

-- those, and then those of ranges
abbrev pub left : (next end : ℕ) → List SourceRange → List ℕ
left next end ranges = between next end ++ flat_map (λ r. between r.first r.end) ranges

-- its root, and the entries of its ranges
abbrev pub sources_of : List SourceRange → NewUnit → List ℕ
sources_of ranges x = x.root ∷ flat_map (λ r. between r.first r.end) (ranges_of ranges x)
