-- Inner: the partial units that entries import, as they are stored.
use Rattle.std.specs.Prelude.{◌≡◌, ◌⊎◌, ℕ, suc, ◌+◌, ◌&&◌, ◌==◌, Bool, true, false, not, List, [], ◌∷◌, ◌++◌, filter, get_or, length, map}
use Rattle.std.specs.Prelude.{Some}
use Rattle.std.specs.Prelude.{if◌then◌else◌, slice_get}
use Rattle.std.specs.List.{flat_map}
use Rattle.dwz_codes.specs.Rows.{has}
use Rattle.dwz_def_reading.specs.Classes.{Class, OfCommonEntry, OfInfoEntry, OfUnitEntry, class_of}
use Rattle.dwz_def_reading.specs.Entries.{RawAttr, RawEntry}
use Rattle.dwz_def_reading.specs.Meanings.{offset_of}
use Rattle.dwz_def_reading.specs.Trees.{End, Entry, Forest}
use Rattle.dwz_def_reading.specs.Units.{CompileUnit, PartialUnit, RawKind, RawUnit, TypeUnit}
use Rattle.dwz_groups.specs.declared.groups.Edge.{Edge}
use Rattle.dwz_unit.specs.Rows.{EntryRow}

-- ---- numbers of items

-- of those that pass the test, where the first item has that number
unfoldable pub numbers_where : {X : Type 0} → (X → Bool) → ℕ → List X → List ℕ
numbers_where p n [] = []
numbers_where p n (x ∷ xs) = elim (p x) as (λ _. List ℕ) [ true ↦ n ∷ numbers_where p (suc n) xs | false ↦ numbers_where p (suc n) xs ]

-- each number once, where it stands first
unfoldable pub once_each : List ℕ → List ℕ
once_each [] = []
once_each (n ∷ numbers) = n ∷ filter (λ m. not (m == n)) (once_each numbers)

-- ---- roots of partial units

-- where the root of each unit begins
abbrev pub roots : List RawUnit → List ℕ
roots raw = map (λ u. u.root.at) raw

abbrev pub is_partial_kind : RawKind → Bool
is_partial_kind CompileUnit = false
is_partial_kind (TypeUnit signature type_offset) = false
is_partial_kind PartialUnit = true

-- it is partial, and its root begins at one of these places
abbrev pub is_part_at : List ℕ → RawUnit → Bool
is_part_at places u = is_partial_kind u.kind && has u.root.at places

-- the unit with that number is such
abbrev pub IsPartNumber : List RawUnit → List ℕ → ℕ → Type 0
IsPartNumber raw places n = (u : RawUnit) × (slice_get raw n ≡ Some u) × (is_part_at places u ≡ true)

-- ---- places that DW_AT_import (0x18) names

-- the place of the file, or of the common file, to which a value of that class leads, in a unit that begins at a place
abbrev pub own_place : Class → ℕ → ℕ → List ℕ
own_place OfUnitEntry at offset = (at + offset) ∷ []
own_place OfInfoEntry at offset = offset ∷ []
own_place _ at offset = []

abbrev pub common_place : Class → ℕ → List ℕ
common_place OfCommonEntry offset = offset ∷ []
common_place _ offset = []

abbrev pub own_named : ℕ → RawAttr → List ℕ
own_named at a = if a.pair.name == 0x18 then own_place (class_of a.pair.form) at (offset_of a) else []

abbrev pub common_named : RawAttr → List ℕ
common_named a = if a.pair.name == 0x18 then common_place (class_of a.pair.form) (offset_of a) else []

-- the number is that of a partial unit at such a place: those of the common file have numbers behind those of the file's own
abbrev pub IsPartOf : List RawUnit → List RawUnit → List ℕ → List ℕ → ℕ → Type 0
IsPartOf own common places others n = IsPartNumber own places n ⊎ ((k : ℕ) × (n ≡ length own + k) × IsPartNumber common others k)

-- one of these attributes names it
abbrev pub NamesPart : List RawUnit → List RawUnit → ℕ → List RawAttr → ℕ → Type 0
NamesPart own common at [] n = ⊥
NamesPart own common at (a ∷ attrs) n = IsPartOf own common (own_named at a) (common_named a) n ⊎ NamesPart own common at attrs n

-- the numbers of all, in order
abbrev pub named_parts : List RawUnit → List RawUnit → ℕ → List RawAttr → List ℕ
named_parts own common at attrs =
    numbers_where (is_part_at (flat_map (own_named at) attrs)) 0 own ++ numbers_where (is_part_at (flat_map common_named attrs))
    (length own) common

-- ---- entries

-- of those that an entry imports (DW_TAG_imported_unit is 0x3d)
abbrev pub entry_parts : List RawUnit → List RawUnit → ℕ → RawEntry → List ℕ
entry_parts own common at e = if e.tag == 0x3d then named_parts own common at e.attrs else []

-- where the unit with a number begins
abbrev pub unit_place : List RawUnit → ℕ → ℕ
unit_place raw n = get_or (map (λ u. u.at) raw) n 0

abbrev pub row_parts : List RawUnit → List RawUnit → EntryRow → List ℕ
row_parts own common row = entry_parts own common (unit_place own row.unit) row.entry

abbrev pub is_some_number : List ℕ → Bool
is_some_number [] = false
is_some_number (n ∷ numbers) = true

abbrev pub row_imports : List RawUnit → List RawUnit → EntryRow → Bool
row_imports own common row = is_some_number (row_parts own common row)

-- a unit imports another
abbrev pub edge : ℕ → ℕ → Edge
edge unit part = record { key = unit; value = part }

-- those that the unit of a child of a root imports by it: a root has depth 1
abbrev pub row_edges : List RawUnit → List RawUnit → EntryRow → List Edge
row_edges own common row = if row.depth == 2 then map (edge row.unit) (row_parts own common row) else []

-- each list under its number, where the first has that number
unfoldable pub edges_of : ℕ → List (List ℕ) → List Edge
edges_of n [] = []
edges_of n (list ∷ lists) = map (edge n) list ++ edges_of (suc n) lists

-- those that entries beside each other import, in a unit that begins at a place
unfoldable pub parts_in : List RawUnit → List RawUnit → ℕ → Forest RawEntry → List ℕ
parts_in own common at End = []
parts_in own common at (Entry e children next) = entry_parts own common at e ++ parts_in own common at next
