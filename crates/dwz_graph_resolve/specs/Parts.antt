-- The references of each entry, and the line table of each unit.
use Rattle.std.specs.Prelude.{◌≡◌, ℕ, ◌+◌, ◌-◌, ◌<◌, ◌≤◌, ◌^◌, Bool, true, false, List, [], ◌∷◌, ◌++◌, length, map, Option, Some, None, Ok, ◌&&◌}
use Rattle.std.specs.Prelude.{drop, slice_get, slice_index, slice_range, take}
use Rattle.dwz_def_reading.specs.Entries.{RawAttr, RawEntry}
use Rattle.dwz_def_reading.specs.Lists.{In}
use Rattle.dwz_def_reading.specs.Units.{RawUnit, entries_in}
use Rattle.dwz_def_reading.specs.Documents.{Node}
use Rattle.dwz_def_reading.specs.LineTables.{FileTable}
use Rattle.dwz_def_reading.specs.Meanings.{Around, scope_of, stmt_list}
use Rattle.dwz_def_reading.specs.Classes.{OfConstant}
use Rattle.dwz_def_reading.specs.Classes.{Class, class_of, names_file}
use Rattle.dwz_def_reading.specs.Meant.{node_meaning}
use Rattle.dwz_graph_resolve.specs.FileRows.{HasTable, number_at}
use Rattle.dwz_graph_resolve.specs.Named.{attrs_refs, entries_of}
use Rattle.dwz_graph_resolve.specs.Surroundings.{around_in, place_among}
use Rattle.dwz_graph_resolve.specs.declared.files.Files.{Files}
use Rattle.dwz_graph_resolve.specs.declared.parts.Parts.{Parts}
use Rattle.dwz_graph_resolve.specs.declared.state.State.{State}
use Rattle.dwz_graph_resolve.specs.declared.surroundings.Surroundings.{Surroundings}
use Rattle.dwz_unit.specs.Rows.{EntryRow, rows_of}

-- ---- references

-- Of the first `count` entries: the numbers of those that an entry names stand from its start to before the next one's.
pub record AreParted (around : Around ℕ) (raw : List RawUnit) (count : ℕ) (refs starts : List ℕ) : Type 0 where
  pub many : length starts ≡ count + 1
  pub first : slice_index starts 0 ≡ 0
  pub last : slice_index starts count ≡ length refs
  pub rise : (i : ℕ) → i < count → (slice_index starts i ≤ slice_index starts (i + 1)) × (slice_index starts (i + 1) ≤ length refs)
  pub part : (i : ℕ) (row : EntryRow) (u : RawUnit) (d : Node ℕ) → i < count → slice_get (rows_of raw) i ≡ Some row
      → slice_get raw row.unit ≡ Some u → node_meaning (scope_of around u) row.entry ≡ Ok d
      → map (place_among around.common raw) (slice_range refs (slice_index starts i) (slice_index starts (i + 1))) ≡ attrs_refs d.attrs

-- ---- line tables

abbrev is_constant : Class → Bool
is_constant OfConstant = true
is_constant _ = false

-- a value of that class, of an attribute of that name, is the number of a file
abbrev pub numbers_as : Class → ℕ → Bool
numbers_as k name = is_constant k && names_file name

abbrev pub numbers_file : RawAttr → Bool
numbers_file a = numbers_as (class_of a.pair.form) a.pair.name

-- the unit has no line table, or no value of its entries is the number of a file
abbrev pub NumbersNone : Around ℕ → RawUnit → Type 0
NumbersNone around u = (e : RawEntry) (a : RawAttr) → In e (entries_of u) → In a e.attrs → numbers_file a ≡ true
    → stmt_list (scope_of around u) ≡ None

-- the line table of the unit has that number, or none is asked for
abbrev pub HasLine : Around ℕ → RawUnit → List FileTable → Option ℕ → Type 0
HasLine around u tables (Some number) = (place : ℕ) × (stmt_list (scope_of around u) ≡ Some place) × HasTable around.sources tables place
    number
HasLine around u tables None = NumbersNone around u

-- the same of the first `count` units
pub record HaveLines (around : Around ℕ) (raw : List RawUnit) (count : ℕ) (tables : List FileTable) (lines : List (Option ℕ)) : Type 0 where
  pub many : length lines ≡ count
  pub line : (n : ℕ) (u : RawUnit) (number : Option ℕ) → slice_get raw n ≡ Some u → slice_get lines n ≡ Some number
      → HasLine around u tables number

-- ---- as they are kept

-- the number of its line table is kept for the place of that
abbrev pub KnowsLine : Around ℕ → Files → RawUnit → Option ℕ → Type 0
KnowsLine around files u (Some number) = number_at files (stmt_list (scope_of around u)) ≡ Some number
KnowsLine around files u None = NumbersNone around u

pub record KnowLines (around : Around ℕ) (raw : List RawUnit) (count : ℕ) (files : Files) (lines : List (Option ℕ)) : Type 0 where
  pub many : length lines ≡ count
  pub line : (n : ℕ) (u : RawUnit) (number : Option ℕ) → slice_get raw n ≡ Some u → slice_get lines n ≡ Some number
      → KnowsLine around files u number

-- References of entries and their starts, counted from the first of these: put behind those of the entries before number `from`, they are
-- those of the entries before number `to`, as long as there are fewer than 2^32.
abbrev pub GoesOn : Around ℕ → List RawUnit → ℕ → ℕ → List ℕ → List ℕ → Type 0
GoesOn around raw from to refs starts = (before ends : List ℕ) → AreParted around raw from before (ends ++ length before ∷ [])
    → length (before ++ refs) < 2 ^ 32 → AreParted around raw to (before ++ refs) (ends ++ map (λ k. length before + k) starts)

-- Behind the units before the n-th: of the units from number `first` to there, and of their entries.
pub record IsParted (s : Surroundings) (raw : List RawUnit) (first n : ℕ) (st : State) (parts : Parts) : Type 0 where
  pub starts : GoesOn (around_in s raw) raw (entries_in (take first raw)) (entries_in (take n raw)) st.refs.items parts.starts.items
  pub lines : KnowLines (around_in s raw) (drop first raw) (n - first) st.files parts.lines.items
