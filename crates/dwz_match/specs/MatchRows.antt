-- Rows that show files with a finished common file beside them, before it is known what is taken.
use Rattle.std.specs.Prelude.{◌≡◌, ◌↔◌, ◌⊎◌, ℕ, ◌<◌, ◌^◌, true, List, length, slice_index}
use Rattle.dwz_def_reading.specs.Lists.{In}
use Rattle.dwz_def_tops.specs.Alike.{Alike, refers_to}
use Rattle.dwz_def_tops.specs.Spots.{EntryName, FileUnit, Top, tops_of}
use Rattle.dwz_def_taken.specs.Beside.{Reused, together}
use Rattle.dwz_law_taken.specs.Shown.{ShowReused}
use Rattle.dwz_takes.specs.declared.rows.Rows.{Rows}
use Rattle.dwz_takes.specs.Takes.{AreBelow, list_at}

-- Kin and targets are of each of so many tops, and told by their numbers.
pub record AreKinRows (count : ℕ) (kin : List ℕ) (targets : List (List ℕ)) : Type 0 where
  pub few : count < 2 ^ 32
  pub len : length kin ≡ count
  pub numbers : (k : ℕ) → In k kin → k < count
  pub targets_len : length targets ≡ count
  pub below : AreBelow count targets

-- Each top of the files has a number that just its kin have: itself, and those alike to it in its file.
pub record AreSameKin (units : List (FileUnit EntryName)) (kin : List ℕ) : Type 0 where
  pub same : (t : Top) → In t (tops_of units) → (n : ℕ) → n < length kin → slice_index kin n ≡ slice_index kin t.number
      → (a : Top) × In a (tops_of units) × (a.number ≡ n) × (a.file ≡ t.file) × ((a.number ≡ t.number) ⊎ Alike units t.number a.number)
  pub alike : (t a : Top) → In t (tops_of units) → In a (tops_of units) → a.file ≡ t.file → Alike units t.number a.number
      → slice_index kin a.number ≡ slice_index kin t.number

-- of each top of the files there is what it refers into
abbrev pub ShowRefers : List (FileUnit EntryName) → List (List ℕ) → Type 0
ShowRefers units targets =
    (n m : ℕ) → In m (list_at targets n) ↔ ((t : Top) × In t (tops_of units) × (t.number ≡ n) × (refers_to m t ≡ true))

-- Rows, kin and targets show files and the common file: there are rows for all units, and classes for all tops.
pub record ShowMatch (r : Reused) (name : ℕ → List (List ℕ)) (rows : Rows) (kin : List ℕ) (targets : List (List ℕ)) : Type 0 where
  pub shown : ShowReused r name rows
  pub units : length rows.unit_tops ≡ length (together r)
  pub tops : length rows.classes ≡ length (tops_of (together r))
  pub same : AreSameKin r.units kin
  pub refers : ShowRefers r.units targets
