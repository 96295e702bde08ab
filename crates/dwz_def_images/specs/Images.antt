-- Which entries share an image.
use Rattle.std.specs.Prelude.{◌⊎◌, ◌≡◌, ◌≢◌, ◌↔◌, ℕ, List, map}
use Rattle.dwz_def_reading.specs.Documents.{DwUnit}
use Rattle.dwz_def_reading.specs.Lists.{In}
use Rattle.dwz_def_tops.specs.Seen.{Seen, all_seen}
use Rattle.dwz_def_tops.specs.Alike.{Alike, InScope, TopScope}
use Rattle.dwz_def_tops.specs.Spots.{EntryName, FileUnit, Top, Within, tops_of}

abbrev pub units_in : List (FileUnit EntryName) → List (DwUnit EntryName)
units_in units = map (λ f. f.unit) units

-- there is an entry at this path under the top
abbrev pub IsEntry : List (FileUnit EntryName) → Top → List ℕ → Type 0
IsEntry units t path = (d : Seen EntryName) × In d (all_seen (units_in units)) × (d.at ≡ Within t.number path)

-- Entries of different units in one scope have one image exactly if their paths are equal and their tops are alike and move. Entries
-- of one unit have one exactly if they are the same entry, or their paths are equal and their tops are alike and move.
pub record OneImage (scope : TopScope) (units : List (FileUnit EntryName)) (moving : ℕ → Type 0) {Q : Type 0} (f : EntryName
    → Q) : Type 0 where
  pub apart : (a b : Top) (p q : List ℕ) → In a (tops_of units) → In b (tops_of units) → InScope scope a b → IsEntry units a p
      → IsEntry units b q → a.unit ≢ b.unit
      → (f (Within a.number p) ≡ f (Within b.number q)) ↔ ((p ≡ q) × Alike units a.number b.number × moving a.number)
  pub one : (a b : Top) (p q : List ℕ) → In a (tops_of units) → In b (tops_of units) → IsEntry units a p → IsEntry units b q
      → a.unit ≡ b.unit
      → (f (Within a.number p) ≡ f (Within b.number q)) ↔
      ((p ≡ q) × ((a.number ≡ b.number) ⊎ (Alike units a.number b.number × moving a.number)))

-- the name is of no entry of a top
abbrev pub InNoTop : EntryName → Type 0
InNoTop (Within t path) = ⊥
InNoTop _ = Unit {0}

-- an entry in no top shares its image with no other
abbrev pub IsAlone : List (FileUnit EntryName) → {Q : Type 0} → (EntryName → Q) → Type 0
IsAlone units f =
    (d e : Seen EntryName) → In d (all_seen (units_in units)) → In e (all_seen (units_in units)) → InNoTop d.at → f d.at ≡ f e.at
    → d.at ≡ e.at
