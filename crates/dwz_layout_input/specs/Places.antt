-- The spaces of a file among all, by the numbers of their entries and by their names.
use Rattle.std.specs.Prelude.{◌≡◌, ℕ, ◌+◌, ◌<◌, List, length, Option, Some, None, slice_get, slice_index_or}
use Rattle.std.specs.List.{flat_map}
use Rattle.dwz_def_reading.specs.Units.{RawUnit, entries_in}
use Rattle.dwz_def_tops.specs.Spots.{EntryName, UnitOf}
use Rattle.dwz_graph.specs.declared.index.SpaceEntry.{SpaceEntry}
use Rattle.dwz_graph.specs.Index.{Index}
use Rattle.dwz_graph.specs.ListOperand.{ListOperand}
use Rattle.dwz_graph.specs.Resolved.{place_at}
use Rattle.dwz_move.specs.Marked.{if_asked}

-- ---- by entries

-- the number of the space that an entry is
abbrev pub number_at : List (Option ℕ) → ℕ → Option ℕ
number_at numbers entry = slice_index_or numbers entry None

abbrev pub AreNone : List (Option ℕ) → Type 0
AreNone numbers = (entry : ℕ) → number_at numbers entry ≡ None

-- of these spaces, the first of which has that number, one is of that entry, and has the number n
pub record IsSpaceNumber (first : ℕ) (spaces : List SpaceEntry) (entry n : ℕ) : Type 0 where
  pub j : ℕ
  pub x : SpaceEntry
  pub there : slice_get spaces j ≡ Some x
  pub is_entry : x.entry ≡ entry
  pub number : n ≡ first + j

-- each number is of a space of its entry, and each entry that is a space has one
pub record AreSpaceNumbers (first : ℕ) (spaces : List SpaceEntry) (numbers : List (Option ℕ)) : Type 0 where
  pub each : (entry n : ℕ) → number_at numbers entry ≡ Some n → IsSpaceNumber first spaces entry n
  pub all : (j : ℕ) (x : SpaceEntry) → slice_get spaces j ≡ Some x → x.entry < length numbers
      → (n : ℕ) × (number_at numbers x.entry ≡ Some n)

-- the spaces that operands of location lists name that are ULEB128 numbers
abbrev pub list_spaces : List (Option ℕ) → List ListOperand → List (Option ℕ)
list_spaces numbers rows = flat_map (λ row. if_asked row.uleb (number_at numbers row.entry)) rows

-- ---- by names

abbrev pub spot_at : List EntryName → ℕ → EntryName
spot_at spots n = slice_index_or spots n (UnitOf 0)

-- Of the names of all spaces no two are equal; the spaces of the file have theirs, and no other entry of it has one of them.
pub record NamesApart (spots : List EntryName) (x : Index) (raw : List RawUnit) (name : ℕ → EntryName) : Type 0 where
  pub one : (m n : ℕ) (s : EntryName) → slice_get spots m ≡ Some s → slice_get spots n ≡ Some s → m ≡ n
  pub own : (j : ℕ) (e : SpaceEntry) → slice_get x.spaces j ≡ Some e → slice_get spots (x.starts.space + j)
      ≡ Some (name (place_at raw e.entry))
  pub found : (n entry : ℕ) → entry < entries_in raw → slice_get spots n ≡ Some (name (place_at raw entry))
      → IsSpaceNumber x.starts.space x.spaces entry n
