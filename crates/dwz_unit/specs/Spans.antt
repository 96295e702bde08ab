-- Parts of a row of items.
use Rattle.std.specs.Prelude.{◌≡◌, ℕ, ◌+◌, ◌≤◌, All, List, slice_get, slice_range}
use Rattle.dwz_unit.specs.declared.flat_rows.Span.{Span}
use Rattle.dwz_unit.specs.declared.rows.Row.{Row}

-- the part ends in a row of so many items
abbrev pub IsWithin : ℕ → Span → Type 0
IsWithin items s = s.first + s.count ≤ items

-- the part of a row
abbrev pub part_of : {A : Type 0} → List A → Span → List A
part_of items s = slice_range items s.first (s.first + s.count)

-- parts of declarations: those that entries have are kept, and in a row of items that has all of the old ones are all of the new ones
pub record KeepsUsed (old new : List Span) (entries : List Row) : Type 0 where
  pub used : All (λ row. slice_get new row.decl ≡ slice_get old row.decl) entries
  pub within : (items : ℕ) → All (IsWithin items) old → All (IsWithin items) new
