-- The name lists of the spaces of units, each under its number.
use Rattle.std.specs.Prelude.{◌≡◌, ◌⊎◌, ℕ, ◌+◌, ◌<◌, List, Some, slice_get, slice_index}
use Rattle.dwz_def_reading.specs.Documents.{DwUnit, Kind, Node, OfType}
use Rattle.dwz_def_reading.specs.Lists.{In}
use Rattle.dwz_def_reading.specs.Units.{RawUnit}
use Rattle.dwz_def_tops.specs.Spaces.{IsSpace}
use Rattle.dwz_check_sides.specs.declared.lists.NameLists.{NameLists}
use Rattle.dwz_check_sides.specs.Names.{IsListNumber}
use Rattle.dwz_groups.specs.declared.groups.Edge.{Edge}
use Rattle.dwz_unit.specs.Rows.{EntryRow, rows_of}

-- the unit has a space with these names
abbrev pub HasNamed : DwUnit ℕ → List (List ℕ) → Type 0
HasNamed u names = (e : Node ℕ) × IsSpace names e u.below

-- a unit of that kind is no type unit
abbrev pub IsNoType : {P : Type 0} → Kind P → Type 0
IsNoType (OfType signature main) = ⊥
IsNoType _ = Unit {0}

abbrev pub space_edge : ℕ → ℕ → Edge
space_edge unit number = record { key = unit; value = number }

-- under the number of a unit, where the first has that one, stands the number of the name list of one of its spaces
pub record IsSpaceEdge (known : NameLists) (first : ℕ) (said : List (DwUnit ℕ)) (e : Edge) : Type 0 where
  pub n : ℕ
  pub unit : DwUnit ℕ
  pub got : slice_get said n ≡ Some unit
  pub key : first + n ≡ e.key
  pub names : List (List ℕ)
  pub space : HasNamed unit names
  pub number : IsListNumber known names e.value

-- edges of these units were put behind others: of all spaces of those that are no type units
pub record PutsSpaces (known : NameLists) (first : ℕ) (said : List (DwUnit ℕ)) (old new : List Edge) : Type 0 where
  pub from : (e : Edge) → In e new → In e old ⊎ IsSpaceEdge known first said e
  pub kept : (e : Edge) → In e old → In e new
  pub found : (n : ℕ) (u : DwUnit ℕ) (names : List (List ℕ)) → slice_get said n ≡ Some u → IsNoType u.kind → HasNamed u names
      → (k : ℕ) × IsListNumber known names k × In (space_edge (first + n) k) new

-- ---- inner: by the rows of entries

-- of an entry before that number, which has a number other than 0: this one under that of its unit
pub record IsRowEdge (raw : List RawUnit) (numbers : List ℕ) (first count : ℕ) (e : Edge) : Type 0 where
  pub i : ℕ
  pub low : i < count
  pub row : EntryRow
  pub found : slice_get (rows_of raw) i ≡ Some row
  pub number : slice_index numbers i ≡ e.value
  pub some : 0 < e.value
  pub key : first + row.unit ≡ e.key

-- edges of the entries before that number were put behind others
pub record PutsRows (raw : List RawUnit) (numbers : List ℕ) (first count : ℕ) (old new : List Edge) : Type 0 where
  pub from : (e : Edge) → In e new → In e old ⊎ IsRowEdge raw numbers first count e
  pub kept : (e : Edge) → In e old → In e new
  pub found : (i : ℕ) (row : EntryRow) → i < count → slice_get (rows_of raw) i ≡ Some row → 0 < slice_index numbers i
      → In (space_edge (first + row.unit) (slice_index numbers i)) new
