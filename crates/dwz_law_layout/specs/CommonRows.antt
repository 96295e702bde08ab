-- Where the names of a finished common file stand.
use Rattle.std.specs.Prelude.{◌≡◌, ℕ, List, map, Some, slice_get}
use Rattle.dwz_def_reading.specs.Documents.{Doc}
use Rattle.dwz_def_reading.specs.Lists.{Each, In}
use Rattle.dwz_def_reading.specs.Units.{RawUnit}
use Rattle.dwz_def_reading.specs.Values.{AreBytes}
use Rattle.dwz_def_tops.specs.Shown.{units_keys}
use Rattle.dwz_def_tops.specs.Spots.{EntryName, PartialRoot, RootOf}
use Rattle.dwz_def_taken.specs.Beside.{offsets_doc}
use Rattle.dwz_def_over.specs.Over.{AreOverFiles, OverFiles, standing_file}
use Rattle.dwz_unit.specs.Rows.{EntryRow, rows_of}
use Rattle.dwz_layout_numbers.specs.OverLaws.{common_names}
use Rattle.dwz_law_layout.specs.Beside.{Standing}

-- Just the names of its units have places. The root of each unit stands where it was read, and so does each other entry, by its number and
-- its name.
pub record AreCommonRows (s : Standing) (docs : List (Doc ℕ)) : Type 0 where
  pub names : map (λ row. row.0) s.file.rows ≡ units_keys s.file.units
  pub roots : (j : ℕ) (u : RawUnit) → slice_get s.file.raw j ≡ Some u → In (PartialRoot j, u.root.at) s.file.rows
  pub entries : (j : ℕ) (row : EntryRow) (name : EntryName) → slice_get (rows_of s.file.raw) j ≡ Some row
      → slice_get (common_names docs s.doc) j ≡ Some name → ((i : ℕ) → name ≡ RootOf i → ⊥) → In (name, row.entry.at) s.file.rows

-- ---- of files that were read beside it

abbrev pub standing_beside : OverFiles → Standing
standing_beside x = record { doc = offsets_doc x.said.common; fixed = x.fixed; file = standing_file x }

-- its names stand so
abbrev pub StandingRowsLaw : Type 0
StandingRowsLaw = (x : OverFiles) → Each AreBytes x.contents → AreOverFiles x → AreCommonRows (standing_beside x) x.said.docs
