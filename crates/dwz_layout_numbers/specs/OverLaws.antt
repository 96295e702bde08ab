-- What is asked of a move holds of the one over a finished common file, and where the entries of that file stand.
use Rattle.std.specs.Prelude.{◌≡◌, ℕ, false, Bool, List, [], ◌∷◌, ◌++◌, ◌+◌, length, map, Ok, Some, slice_get}
use Rattle.dwz_def_reading.specs.Documents.{Doc}
use Rattle.dwz_def_reading.specs.Meanings.{Around}
use Rattle.dwz_def_reading.specs.Meant.{units_meaning}
use Rattle.dwz_def_reading.specs.Units.{RawUnit}
use Rattle.dwz_def_tops.specs.Spots.{EntryName, RootOf, Within, file_numbers, tops_among, tops_of, units_of}
use Rattle.dwz_unit.specs.Rows.{EntryRow, rows_of}
use Rattle.dwz_graph.specs.Index.{Index}
use Rattle.dwz_graph.specs.Names.{names_from}
use Rattle.dwz_def_images.specs.Homes.{Local}
use Rattle.dwz_def_images.specs.Moves.{Move}
use Rattle.dwz_def_images.specs.Units.{changes}
use Rattle.dwz_def_taken.specs.declared.fixed.Fixed.{Fixed}
use Rattle.dwz_def_taken.specs.Beside.{as_compile, compile_doc, reused_of}
use Rattle.dwz_def_taken.specs.Laws.{ArePlacedOver}
use Rattle.dwz_def_taken.specs.Over.{move_over}
use Rattle.dwz_def_taken.specs.Takes.{IsFixed}
use Rattle.dwz_layout_numbers.specs.Images.{HaveStandIns, IsFile}
use Rattle.dwz_graph.specs.AllNames.{AreTopEntries, all_names}
use Rattle.dwz_layout_numbers.specs.Numbering.{AreInOrder, parts_at}
use Rattle.dwz_layout_numbers.specs.OwnerLaws.{HoldTops}
use Rattle.dwz_layout_numbers.specs.Owners.{StandsIn, all_written}

abbrev pub over : List (Doc ℕ) → Doc ℕ → Fixed → Move
over docs common fixed = move_over (reused_of docs common) fixed (file_numbers 0 docs)

-- P holds of files, of a finished common file, and of what is taken from that
abbrev AlwaysOver : (List (Doc ℕ) → Doc ℕ → Fixed → Type 0) → Type 0
AlwaysOver P = (docs : List (Doc ℕ)) (common : Doc ℕ) (fixed : Fixed) → ArePlacedOver docs common → IsFixed (reused_of docs common) fixed
    → P docs common fixed

-- what stands for a top is a top of the files, or one of the common file, with trees of one shape
abbrev pub OverStandsLaw : Type 0
OverStandsLaw = AlwaysOver (λ docs common fixed. HaveStandIns (docs ++ compile_doc common ∷ []) (over docs common fixed))

-- a partial unit has its tops
abbrev pub OverHoldsLaw : Type 0
OverHoldsLaw = AlwaysOver (λ docs common fixed. HoldTops (units_of docs) (over docs common fixed))

-- partial units are in order
abbrev pub OverOrderLaw : Type 0
OverOrderLaw = AlwaysOver (λ docs common fixed. AreInOrder (over docs common fixed) (length docs))

-- a file of which nothing moves has none
abbrev pub OverStillLaw : Type 0
OverStillLaw = AlwaysOver (λ docs common fixed. (file : ℕ) → changes (over docs common fixed) (units_of docs) file ≡ false
    → parts_at (over docs common fixed) (Local file) ≡ [])

-- ---- the entries of the common file

-- their names, which are numbered behind those of the files
abbrev pub common_names : List (Doc ℕ) → Doc ℕ → List EntryName
common_names docs common = names_from (length (units_of docs)) (length (tops_of (units_of docs))) (map as_compile common.units)

abbrev pub CommonNamesLaw : Type 0
CommonNamesLaw =
    (docs : List (Doc ℕ)) (common : Doc ℕ) → all_names (docs ++ compile_doc common ∷ []) ≡ all_names docs ++ common_names docs common

-- what is known of a file by itself holds among all
abbrev pub FilesBesideLaw : Type 0
FilesBesideLaw =
    (docs more : List (Doc ℕ)) (names : List EntryName) (x : Index) (start : ℕ) → IsFile docs names x start
    → IsFile (docs ++ more) names x start

-- the entries of the tops of all, where these are those of the common file's tops, by their numbers in that file
abbrev pub TopsBesideLaw : Type 0
TopsBesideLaw =
    (docs : List (Doc ℕ)) (common : Doc ℕ) (tops entries : List ℕ) → AreTopEntries docs tops
    → length entries ≡ tops_among (map as_compile common.units)
    → ((k n : ℕ) → slice_get entries k ≡ Some n
    → slice_get (common_names docs common) n ≡ Some (Within (length (tops_of (units_of docs)) + k) []))
    → AreTopEntries (docs ++ compile_doc common ∷ []) (tops ++ map (λ i. length (all_names docs) + i) entries)

-- one that isn't the root of its unit has its name in that unit, as it stands
abbrev pub CommonOwnersLaw : Type 0
CommonOwnersLaw = AlwaysOver (λ docs common fixed.
    (around : Around ℕ) (raw : List RawUnit) → units_meaning around raw ≡ Ok common.units
    → (written : List Bool) (entry : ℕ) (row : EntryRow) (s : EntryName) → slice_get (rows_of raw) entry ≡ Some row
    → slice_get (common_names docs common) entry ≡ Some s → ((i : ℕ) → s ≡ RootOf i → ⊥)
    → StandsIn (all_written (over docs common fixed) (units_of docs) written) s row.unit)
