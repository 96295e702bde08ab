-- Units that stand at their own names, and the names of the places of several files.
use Rattle.std.specs.Prelude.{◌≡◌, ℕ, suc, ◌+◌, true, false, List, [], ◌∷◌, length, ◌==◌}
use Rattle.dwz_def_reading.specs.Documents.{Compile, Doc, DwUnit, Entries, Kind, OfType, Partial}
use Rattle.dwz_def_reading.specs.Places.{Place}
use Rattle.dwz_def_tops.specs.Spots.{EntryName, InType, Labelled, LabelledSpaces, RootOf, Row, UnitOf}
use Rattle.dwz_def_tops.specs.Spots.{no_name, spot_in, spots_from, tops_among}

-- the entries of a compile unit are tops and spaces; those of a type unit are at their own names; no unit is a partial unit
abbrev pub IsNamedBelow : ℕ → Kind EntryName → Row → Entries EntryName → Type 0
IsNamedBelow i Compile row below = LabelledSpaces i [] 0 row
IsNamedBelow i (OfType signature main) row below = Labelled (InType i) [] 0 below
IsNamedBelow i Partial row below = ⊥

-- a unit with that number is at its own name, with all in it but its tops
pub record IsNamedUnit (i : ℕ) (row : Row) (u : DwUnit EntryName) : Type 0 where
  pub unit : u.at ≡ UnitOf i
  pub root : u.root.at ≡ RootOf i
  pub below : IsNamedBelow i u.kind row u.below

-- the name of a place; the first file, its first unit and its first top have these numbers
unfoldable pub name_from : ℕ → ℕ → ℕ → List (Doc ℕ) → Place → EntryName
name_from file unit top [] p = no_name
name_from file unit top (doc ∷ docs) p = elim (file == p.file) as (λ _. EntryName) [
  | true ↦ spot_in (spots_from unit top doc.units) p.at
  | false ↦ name_from (suc file) (unit + length doc.units) (top + tops_among doc.units) docs p
]

abbrev pub name_of_place : List (Doc ℕ) → Place → EntryName
name_of_place docs = name_from 0 0 0 docs
