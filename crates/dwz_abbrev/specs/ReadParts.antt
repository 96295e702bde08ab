-- Names and forms that were read from a section: parts of a row, and where in the section each begins.
use Rattle.std.specs.Prelude.{◌≡◌, ℕ, ◌≤◌, All, List, [], drop, length, Ok, Some, slice_get, slice_range}
use Rattle.dwz_bytes.specs.Input.{Input, input}
use Rattle.dwz_model.specs.declared.place.Pair.{Pair}
use Rattle.dwz_def_reading.specs.Abbrevs.{pairs_at}
use Rattle.dwz_abbrev.specs.declared.pair_row.PairPart.{PairPart}

-- a section, and names and forms of its declarations
pub record SectionRow : Type 0 where
  pub section : List ℕ
  pub row : List Pair

-- an input is a place of the section and what follows there
pub record IsIn (section : List ℕ) (i : Input) : Type 0 where
  pub here : i ≡ input section i.at
  pub within : i.at ≤ length section

-- from the first place on these pairs are read, and their end, which ends at the second
pub record ReadsPairs (section : List ℕ) (place : ℕ) (pairs : List Pair) (behind : ℕ) : Type 0 where
  pub within : behind ≤ length section
  pub read : (start : ℕ) → pairs_at start [] (input section place) ≡ Ok (pairs, input section behind)

-- from the place of each of these pairs on, it and those behind it are read, up to their end
pub record ArePlaced (section : List ℕ) (pairs : List Pair) (places : List ℕ) (behind : ℕ) : Type 0 where
  pub as_many : length places ≡ length pairs
  pub each : (n place : ℕ) → slice_get places n ≡ Some place → ReadsPairs section place (drop n pairs) behind

-- a part of a row that was read from a section
pub record IsPart (section : List ℕ) (row : List Pair) (places : List ℕ) (p : PairPart) : Type 0 where
  pub order : p.first ≤ p.end
  pub within : p.end ≤ length row
  pub placed : ArePlaced section (slice_range row p.first p.end) (slice_range places p.first p.end) p.behind

-- a part of a row has the pairs that are read from a place on
pub record IsPartAt (section : List ℕ) (row : List Pair) (place : ℕ) (p : PairPart) : Type 0 where
  pub order : p.first ≤ p.end
  pub within : p.end ≤ length row
  pub reads : ReadsPairs section place (slice_range row p.first p.end) p.behind

-- a row, where in the section each of its pairs begins, and parts that were read
pub record AreParts (section : List ℕ) (row : List Pair) (places : List ℕ) (parts : List PairPart) : Type 0 where
  pub as_many : length places ≡ length row
  pub each : All (IsPart section row places) parts
