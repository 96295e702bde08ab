-- Inner: edges from units to those that their references go into. Places are named by their units: as if each unit were a top.
use Rattle.std.specs.Prelude.{◌≡◌, ◌↔◌, ◌⊎◌, ℕ, Bool, true, List, Some, slice_get}
use Rattle.dwz_def_reading.specs.Documents.{Attr, DwUnit, unit_map}
use Rattle.dwz_def_reading.specs.Lists.{In}
use Rattle.dwz_def_taken.specs.Takes.{attr_goes_to, unit_goes_to}
use Rattle.dwz_def_tops.specs.Alike.{is_in}
use Rattle.dwz_def_tops.specs.Spots.{EntryName}
use Rattle.dwz_def_reading.specs.Units.{RawUnit}
use Rattle.dwz_graph.specs.Names.{top_in}
use Rattle.dwz_graph.specs.Resolved.{place_at}
use Rattle.dwz_groups.specs.declared.groups.Edge.{Edge}
use Rattle.dwz_unit.specs.Rows.{EntryRow, rows_of}

-- edges from that unit were put to all of which this holds
abbrev pub PutsIf : ℕ → (ℕ → Type 0) → List Edge → List Edge → Type 0
PutsIf unit Is old new = (e : Edge) → In e new ↔ (In e old ⊎ ((e.key ≡ unit) × Is e.value))

-- a reference goes to an entry of the unit with a number
abbrev pub goes_into : ℕ → Attr EntryName → Bool
goes_into n = attr_goes_to (is_in n)

-- one of these units refers into another
abbrev pub Refers : (ℕ → EntryName) → List (DwUnit ℕ) → ℕ → ℕ → Type 0
Refers name said p q = (v : DwUnit ℕ) × (slice_get said p ≡ Some v) × (unit_goes_to (is_in q) (unit_map name v) ≡ true)

-- an edge was put for each
abbrev pub PutsUnits : (ℕ → EntryName) → List (DwUnit ℕ) → List Edge → List Edge → Type 0
PutsUnits name said old new = (e : Edge) → In e new ↔ (In e old ⊎ Refers name said e.key e.value)

-- each entry's place is named by its unit
abbrev pub NamesUnits : List RawUnit → (ℕ → EntryName) → Type 0
NamesUnits raw name = (i : ℕ) (row : EntryRow) → slice_get (rows_of raw) i ≡ Some row → top_in (name (place_at raw i)) ≡ Some row.unit
