-- Tables of codes, and the look into them.
use Rattle.std.specs.Prelude.{◌≡◌, ℕ, ◌+◌, ◌⊎◌, Bool, true, false, List, [], ◌∷◌, Option, Some, None, ◌==◌, nat_lt, if◌then◌else◌}
use Rattle.dwz_codes.specs.declared.shape.Shape.{Shape}
use Rattle.dwz_codes.specs.declared.shape.Shape.TheVariants.{Refused}
use Rattle.dwz_codes.specs.declared.row.Row.{Row}

-- a row as clauses see it: the name is its text
pub record RowView : Type 0 where
  pub code : ℕ
  pub shape : Shape
  pub name : List ℕ

abbrev pub row : ℕ → Shape → List ℕ → RowView
row code shape name = record { code = code; shape = shape; name = name }

abbrev pub view_of : Row → RowView
view_of r = row r.code r.shape r.name.now

-- the row of a code: the first that has it
abbrev pub row_of : List RowView → ℕ → Option RowView
row_of [] code = None
row_of (r ∷ rows) code = if r.code == code then Some r else row_of rows code

-- the shape of a code; what belongs to one without a row isn't read
abbrev pub shape_in : Option RowView → Shape
shape_in None = Refused
shape_in (Some r) = r.shape

abbrev pub shape_of : List RowView → ℕ → Shape
shape_of rows code = shape_in (row_of rows code)

-- n is one of the numbers
unfoldable pub has : ℕ → List ℕ → Bool
has n [] = false
has n (m ∷ ms) = if m == n then true else has n ms

-- each code is at least that much, and above the one before it
abbrev pub ascends : ℕ → List RowView → Bool
ascends least [] = true
ascends least (r ∷ rows) = if nat_lt r.code least then false else ascends (r.code + 1) rows

-- r is one of the rows
abbrev pub IsRow : RowView → List RowView → Type 0
IsRow r [] = ⊥
IsRow r (s ∷ rows) = (s ≡ r) ⊎ IsRow r rows

-- no two rows have one code
abbrev pub HaveOwnCodes : List RowView → Type 0
HaveOwnCodes rows = (r s : RowView) → IsRow r rows → IsRow s rows → r.code ≡ s.code → r ≡ s
