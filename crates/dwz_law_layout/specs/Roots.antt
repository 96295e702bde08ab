-- At which entries of a file the roots of its units stand, with all below them.
use Rattle.std.specs.Prelude.{◌≡◌, ℕ, List, [], ◌∷◌, Some, slice_get}
use Rattle.dwz_def_reading.specs.Documents.{DwUnit, entries_map, kind_map, node_map}
use Rattle.dwz_def_tops.specs.Lists.{Nth}
use Rattle.dwz_def_reading.specs.Lists.{Each}
use Rattle.dwz_def_tops.specs.Spots.{EntryName, FileUnit}
use Rattle.dwz_def_images.specs.Moves.{image_in}
use Rattle.dwz_unit.specs.Rows.{units_of as raw_units}
use Rattle.dwz_graph.specs.declared.file.File.{File}
use Rattle.dwz_graph.specs.Index.{Index}
use Rattle.dwz_graph.specs.Across.{IsFileAmong}
use Rattle.dwz_graph.specs.EntryCounts.{starts_from}
use Rattle.dwz_layout_order.specs.declared.marks.Marks.{Marks}
use Rattle.dwz_layout_order.specs.declared.outline.Next.{Next}
use Rattle.dwz_layout_order.specs.Kept.{AreKept, From}
use Rattle.dwz_layout_order.specs.Shown.{IsOther}
use Rattle.dwz_law_layout.specs.Old.{EachOld}
use Rattle.dwz_layout.specs.declared.known.EntryTable.{EntryTable}
use Rattle.dwz_layout.specs.declared.order.Sort.{Sort}
use Rattle.dwz_layout.specs.declared.order.UnitItems.{UnitItems}
use Rattle.dwz_encode.specs.Shown.{SortShows}
use Rattle.dwz_law_layout.specs.Knows.{ShowsRoot, ShowsWhole}
use Rattle.dwz_law_layout.specs.Beside.{Beside}
use Rattle.dwz_law_layout.specs.Facts.{AreFacts, HasFile, RunFacts, file_read, move, units}
use Rattle.dwz_law_layout.specs.Listed.{AreListed, TextsAt}
use Rattle.dwz_law_layout.specs.Named.{keys}
use Rattle.dwz_law_layout.specs.Trees.{IsReadFile}

-- The unit of the file is kept by that sort: the root that is named there is its own, and so is all below it; and so is the entry of its
-- type, where it is a type unit.
pub record UnitShown {beside : Beside} (f : RunFacts beside) (n : ℕ) (bytes : List ℕ) (x : File) (u : DwUnit EntryName) (o : Sort) : Type 0 where
  pub sort : SortShows (keys f) o (kind_map (image_in (move f)) u.kind)
  pub root : (here : ℕ) → ShowsRoot (keys f) (file_read f n bytes x ∷ []) here o (node_map (image_in (move f)) u.root)
  pub whole : ShowsWhole (file_read f n bytes x ∷ []) o (node_map (image_in (move f)) u.root) (entries_map (image_in (move f)) u.below)

-- so it is of the units of a file, one by one, where the sorts are theirs
abbrev pub UnitsShownLaw : Type 0
UnitsShownLaw =
    (beside : Beside) (f : RunFacts beside) (t : TextsAt) (k : EntryTable) → AreFacts f → AreListed f t k
    → (n : ℕ) (bytes : List ℕ) (x : File) (index : Index) → HasFile f n bytes x index
    → (start : ℕ) → slice_get (starts_from 0 f.indexes) n ≡ Some start
    → (marks : Marks) (imports : ℕ → List ℕ) (from : From) (next : Next) (order : List UnitItems)
    → from.file ≡ n → from.start ≡ start → from.first ≡ 0
    → AreKept (raw_units x.units) marks imports from next (raw_units x.units) order
    → EachOld (λ i u o. UnitShown f n bytes x u.unit o.sort) n 0 (units f) order

-- each unit is of a file
abbrev pub UnitFilesLaw : Type 0
UnitFilesLaw = (beside : Beside) (f : RunFacts beside) → AreFacts f → (i : ℕ) (u : FileUnit EntryName) → Nth 0 (units f) i u → IsReadFile f u.file

-- before and behind the units of a file those of others stand
abbrev pub OthersLaw : Type 0
OthersLaw =
    (beside : Beside) (f : RunFacts beside) → AreFacts f → (n : ℕ) (bytes : List ℕ) (x : File) (index : Index) → HasFile f n bytes x index
    → (is : IsFileAmong f.contents n bytes x index) → Each (IsOther n) is.units.front × Each (IsOther n) is.units.back
