-- Units that stand one behind the other, and their bytes.
use Rattle.std.specs.Prelude.{ℕ, List}
use Rattle.std.specs.List.{flat_map}
use Rattle.dwz_layout.specs.declared.known.EntryTable.{EntryTable}
use Rattle.dwz_encode.specs.Pages.{units_page}
use Rattle.dwz_encode.specs.declared.stretches.Stretch.{Stretch}

abbrev pub stretch_page : EntryTable → (places roots : List ℕ) → Stretch → List ℕ
stretch_page k places roots s = units_page k places roots s.first s.units.now s.laid.now

-- stretches one behind the other
abbrev pub stretches_page : EntryTable → (places roots : List ℕ) → List Stretch → List ℕ
stretches_page k places roots stretches = flat_map (stretch_page k places roots) stretches
