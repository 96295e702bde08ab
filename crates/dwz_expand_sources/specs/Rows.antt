-- Rows that have a copy of each entry, by the entry's number, and what they say.
use Rattle.std.specs.Prelude.{◌≡◌, ℕ, ◌+◌, ◌<◌, ◌≤◌, ◌^◌, true, false, List, [], ◌∷◌, length, map, get_or, slice_set}
use Rattle.std.specs.List.{flat_map, range_with_len}
use Rattle.dwz_model.specs.Lists.{Each}
use Rattle.dwz_def_encoding.specs.Placing.{has_key}
use Rattle.dwz_imports.specs.Imports.{same}
use Rattle.dwz_expand_sources.specs.declared.sources.NewUnit.{NewUnit}
use Rattle.dwz_expand_sources.specs.declared.sources.SourceRange.{SourceRange}
use Rattle.dwz_expand_sources.specs.Numbers.{HasRanges, copy_count, range_count, root_numbers}
use Rattle.dwz_expand_sources.specs.Sources.{IsRange, Sources, ranges_of}
use Rattle.dwz_expand_sources.specs.Copies.{IsCopyNumber}
use Rattle.dwz_expand_sources.specs.declared.copies.CopyAt.{CopyAt}

-- ---- entries by their numbers

abbrev pub range_entries : SourceRange → List ℕ
range_entries r = range_with_len r.first (range_count r)

-- a root, and the entries of ranges
abbrev pub with_root : ℕ → List SourceRange → List ℕ
with_root root ranges = root ∷ flat_map range_entries ranges

-- the sources of a new unit
abbrev pub unit_entries : List SourceRange → NewUnit → List ℕ
unit_entries ranges x = with_root x.root (ranges_of ranges x)

abbrev pub entry_lists : Sources → List (List ℕ)
entry_lists s = map (unit_entries s.ranges) s.units

-- ---- what is written

abbrev pub copy_at : ℕ → ℕ → CopyAt
copy_at unit number = record { unit = unit; number = number }

-- a row with the copies of entries in a unit, of which the first has that number
unfoldable pub noted : (unit number : ℕ) → List ℕ → List CopyAt → List CopyAt
noted unit number [] row = row
noted unit number (e ∷ entries) row = noted unit (number + 1) entries (slice_set row e (copy_at unit number))

-- a new row differs in just the entries of a unit: it has their copies there
pub record NotesUnit (units : List (List ℕ)) (n : ℕ) (old new : List CopyAt) : Type 0 where
  pub len : length new ≡ length old
  pub own : (i : ℕ) (d : CopyAt) → i < length old → has_key same i (get_or units n []) ≡ true
      → ((get_or new i d).unit ≡ n) × IsCopyNumber units n i (get_or new i d).number
  pub others : (i : ℕ) (d : CopyAt) → has_key same i (get_or units n []) ≡ false → get_or new i d ≡ get_or old i d

-- nothing is noted: each names the unit behind the last, which isn't there
abbrev pub IsBlank : ℕ → List CopyAt → Type 0
IsBlank units row = (i : ℕ) (d : CopyAt) → i < length row → (get_or row i d).unit ≡ units

-- ---- what rows say

-- units and ranges have entries among so many, and these are the numbers of the copies of roots
pub record HaveEntries (count : ℕ) (s : Sources) (starts : List ℕ) : Type 0 where
  pub ranges : Each (IsRange count) s.ranges
  pub units : Each (HasRanges s.ranges) s.units
  pub roots : Each (λ x. x.root < count) s.units
  pub numbers : starts ≡ root_numbers s.ranges 0 s.units
  pub few : copy_count s.ranges s.units < 2 ^ 64

-- of each entry a copy in one of these units, or none
abbrev pub NameCopies : List (List ℕ) → List CopyAt → Type 0
NameCopies units row = (i : ℕ) (d : CopyAt) → i < length row → (get_or row i d).unit < length units → IsCopyNumber units (get_or row i d).unit i (get_or row i d).number

-- none in a unit behind one that has the entry, of those from that number on
abbrev pub AreFirstFrom : ℕ → List (List ℕ) → List CopyAt → Type 0
AreFirstFrom from units row = (i m : ℕ) (d : CopyAt) → i < length row → from ≤ m → has_key same i (get_or units m []) ≡ true → (get_or row i d).unit ≤ m

-- in that unit, where it has the entry
abbrev pub AreAtHand : ℕ → List (List ℕ) → List CopyAt → Type 0
AreAtHand n units row = (i : ℕ) (d : CopyAt) → i < length row → has_key same i (get_or units n []) ≡ true → (get_or row i d).unit ≡ n

-- of each entry the first copy, and the copy in the unit at hand; how many units there are, and which of them that is
pub record Copies : Type 0 where
  pub units : ℕ
  pub first : List CopyAt
  pub here : List CopyAt
  pub unit : ℕ

-- they are the copies of these sources
pub record AreCopies (s : Sources) (starts : List ℕ) (c : Copies) : Type 0 where
  pub entries : HaveEntries (length c.first) s starts
  pub units : c.units ≡ length s.units
  pub len : length c.here ≡ length c.first
  pub first : NameCopies (entry_lists s) c.first
  pub least : AreFirstFrom 0 (entry_lists s) c.first
  pub here : NameCopies (entry_lists s) c.here
  pub at_hand : AreAtHand c.unit (entry_lists s) c.here
