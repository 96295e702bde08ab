-- What a layout and its bytes are, of files whose units the order shows.
use Rattle.std.specs.Prelude.{◌≡◌, ◌⊎◌, ℕ, ◌+◌, ◌<◌, ◌≤◌, List, [], ◌∷◌, ◌++◌, length, map, slice_index, None}
use Rattle.dwz_def_reading.specs.Lists.{Each, In}
use Rattle.dwz_def_tops.specs.Spots.{EntryName, same_spot}
use Rattle.dwz_def_tops.specs.Lists.{NoneTwice}
use Rattle.dwz_def_encoding.specs.Placing.{FileOut, FitsSections, UnitsStand, files_keys, files_placed, number_of_key, numbering, sections}
use Rattle.dwz_def_encoding.specs.Sound.{SoundUnit}
use Rattle.dwz_def_encoding.specs.Writing.{Numbering, joined}
use Rattle.dwz_layout.specs.declared.known.EntryTable.{EntryTable}
use Rattle.dwz_layout.specs.declared.order.UnitItems.{UnitItems}
use Rattle.dwz_layout.specs.Laid.{FileMade, Standing, made_of, over_made, over_of}
use Rattle.dwz_encode.specs.Limits.{too_large_in}
use Rattle.dwz_encode.specs.Pages.{units_page}
use Rattle.dwz_encode.specs.Shown.{FilesRefer, IsWritten, Keys, ShowFiles, There, unit_count, written_in}

-- The order shows the units of the files, which are sound; no name stands twice in all files; and what references name is written.
pub record IsOrderOf (keys : Keys EntryName) (k : EntryTable) (order : List (List UnitItems)) (files : List (FileOut EntryName)) : Type 0
  where
    pub shows : ShowFiles keys k 0 order files
    pub sound : (f : FileOut EntryName) → In f files → Each SoundUnit f.units
    pub apart : NoneTwice (files_keys files)
    pub refer : FilesRefer (written_in k order) k 0 order

-- What is laid of a file, the first unit of which has that number, and the bytes of its units, are its sections; its units end where these
-- do; and where neither is found too large, both have room.
pub record FileIs (n : Numbering EntryName) (k : EntryTable) (places roots : List ℕ) (first : ℕ) (order : List UnitItems) (m : FileMade)
    (f : FileOut EntryName) : Type 0 where
  pub info : units_page k places roots first order m.units ≡ (sections n f.units).info
  pub abbrevs : joined m.tables ≡ (sections n f.units).abbrevs
  pub end : m.end ≡ length (sections n f.units).info
  pub room : too_large_in m.end (length (joined m.tables)) ≡ None → FitsSections (sections n f.units)

abbrev pub FilesAre : Numbering EntryName → EntryTable → (places roots : List ℕ) → ℕ → List (List UnitItems) → List FileMade
    → List (FileOut EntryName)
    → Type 0
FilesAre n k places roots first [] [] [] = Unit {0}
FilesAre n k places roots first (units ∷ order) (m ∷ made) (f ∷ files) = FileIs n k places roots first units m f
    × FilesAre n k places roots (first + length units) order made files
FilesAre n k places roots first _ _ _ = ⊥

-- each file is laid as the definitions of what is written say
abbrev pub SectionsAre : EntryTable → List (List UnitItems) → List (FileOut EntryName) → Type 0
SectionsAre k order files = let all = made_of k order in FilesAre (numbering same_spot files) k all.places all.roots 0 order all.files files

-- the place that is kept of an entry is that of its name
abbrev pub IsPlaced : Keys EntryName → Numbering EntryName → List ℕ → ℕ → Type 0
IsPlaced keys n places i = slice_index places i ≡ n.place (keys.row i)

abbrev pub PlacesAre : Keys EntryName → EntryTable → List (List UnitItems) → List (FileOut EntryName) → Type 0
PlacesAre keys k order files =
    (i : ℕ) → i < length k.owners.items → IsWritten k i order → IsPlaced keys (numbering same_spot files) (made_of k order).places i

-- ---- over a common file that stands already

-- the places of names where these have theirs already, and files stand behind
abbrev pub numbers_behind : List (EntryName × ℕ) → List (FileOut EntryName) → Numbering EntryName
numbers_behind rows files = record { place = number_of_key same_spot (rows ++ files_placed files) }

abbrev pub AreApart : List (EntryName × ℕ) → List (FileOut EntryName) → Type 0
AreApart rows files = NoneTwice (map (λ p. p.0) rows ++ files_keys files)

-- both are where the numbers say
pub record StandBehind (rows : List (EntryName × ℕ)) (files : List (FileOut EntryName)) : Type 0 where
  pub standing : Each (λ p. (numbers_behind rows files).place p.0 ≡ p.1) rows
  pub written : (f : FileOut EntryName) → In f files → Each SoundUnit f.units → UnitsStand (numbers_behind rows files) f.units 0

-- entries that were read are there if they are written, or have their places already; and so are all units
abbrev pub there_over : Keys EntryName → Numbering EntryName → EntryTable → Standing → List (List UnitItems) → There
there_over keys n k s order =
    let count = length k.owners.items in
    record { row = λ i. (i < count) × (IsPlaced keys n (over_made count s).places i ⊎ IsWritten k i order); units = length s.roots + unit_count order }

-- The order shows the units of the files, which are sound, and stand where these numbers say; so do the roots that stand already; and what
-- references name is there.
pub record IsOrderOver (keys : Keys EntryName) (n : Numbering EntryName) (k : EntryTable) (s : Standing) (order : List (List UnitItems))
    (files : List (FileOut EntryName)) : Type 0 where
  pub shows : ShowFiles keys k (length s.roots) order files
  pub sound : (f : FileOut EntryName) → In f files → Each SoundUnit f.units
  pub stand : (f : FileOut EntryName) → In f files → UnitsStand n f.units 0
  pub within : length s.places ≤ length k.owners.items
  pub roots : (j : ℕ) → j < length s.roots → slice_index s.roots j ≡ n.place (keys.root j)
  pub refer : FilesRefer (there_over keys n k s order) k (length s.roots) order

-- then each file is laid as the definitions say of what is written by these numbers
abbrev pub SectionsOver : Numbering EntryName → EntryTable → Standing → List (List UnitItems) → List (FileOut EntryName) → Type 0
SectionsOver n k s order files = let all = over_of k s order in FilesAre n k all.places all.roots (length s.roots) order all.files files

-- and each entry that is there has its place
abbrev pub PlacesOver : Keys EntryName → Numbering EntryName → EntryTable → Standing → List (List UnitItems) → Type 0
PlacesOver keys n k s order = (i : ℕ) → (there_over keys n k s order).row i → IsPlaced keys n (over_of k s order).places i
