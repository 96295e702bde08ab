-- The spaces of all units, in order of entry: a space has the number of its place among them.
use Rattle.std.specs.Prelude.{ℕ, suc, List, [], ◌∷◌, ◌++◌, Option, Some, None, pos, slice_get}
use Rattle.dwz_def_reading.specs.Trees.{End, Entry}
use Rattle.dwz_def_reading.specs.Documents.{Compile, Entries, Kind, Node, OfType, Partial}
use Rattle.dwz_def_tops.specs.Spaces.{space_text}
use Rattle.dwz_def_tops.specs.Spots.{EntryName, FileUnit, SpaceName, name_of}

-- those in a row, and in the spaces of it
unfoldable pub spaces_under : {P : Type 0} → Entries P → List (Node P)
spaces_under End = []
spaces_under {P} (Entry e children next) = elim (space_text e) as (λ _. List (Node P)) [
  | None ↦ spaces_under next
  | Some text ↦ e ∷ (spaces_under children ++ spaces_under next)
]

-- a compile unit has spaces
abbrev pub spaces_below : {P : Type 0} → Kind P → Entries P → List (Node P)
spaces_below Compile below = spaces_under below
spaces_below (OfType signature main) below = []
spaces_below Partial below = []

unfoldable pub spaces_of : List (FileUnit EntryName) → List (Node EntryName)
spaces_of [] = []
spaces_of (f ∷ units) = spaces_below f.unit.kind f.unit.below ++ spaces_of units

-- ---- their names

abbrev pub name_by : Node EntryName → Option (List ℕ) → SpaceName
name_by e None = record { text = []; form = 0; raw = pos 0 }
name_by e (Some text) = name_of text e

abbrev pub name_in : Option (Node EntryName) → SpaceName
name_in None = record { text = []; form = 0; raw = pos 0 }
name_in (Some e) = name_by e (space_text e)

-- the name of the space with that number, and how it is stored there
abbrev pub said_of : List (FileUnit EntryName) → ℕ → SpaceName
said_of units k = name_in (slice_get (spaces_of units) k)

-- ---- lists whose elements are numbered

-- P holds of each element with its number, where the first has that number
abbrev pub Numbered : {X : Type 0} → (ℕ → X → Type 0) → ℕ → List X → Type 0
Numbered P n [] = Unit {0}
Numbered P n (x ∷ xs) = P n x × Numbered P (suc n) xs
