-- Inner: the row of a top that begins at a place.
use Rattle.std.specs.Prelude.{◌≡◌, ℕ, true, List, Some, slice_get}
use Rattle.dwz_groups.specs.declared.tops.TopRow.{TopRow}
use Rattle.dwz_model.specs.declared.place.Place.{Place}

-- the top of the row may move, and begins there
abbrev pub IsRowAt : Place → TopRow → Type 0
IsRowAt p row = (row.movable ≡ true) × (row.place.file ≡ p.file) × (row.place.offset ≡ p.offset)

-- so does that of the row with a number
pub record HasRowAt (rows : List TopRow) (p : Place) (k : ℕ) : Type 0 where
  pub row : TopRow
  pub there : slice_get rows k ≡ Some row
  pub is : IsRowAt p row

-- that of no row does
abbrev pub NoRowAt : List TopRow → Place → Type 0
NoRowAt rows p = (k : ℕ) (row : TopRow) → slice_get rows k ≡ Some row → IsRowAt p row → ⊥
