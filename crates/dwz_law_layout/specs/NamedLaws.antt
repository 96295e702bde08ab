-- What the lists of a layout say of each file that was read: its entries, what these refer to, and what they are named.
use Rattle.std.specs.Prelude.{◌≡◌, ℕ, List}
use Rattle.dwz_def_reading.specs.Documents.{Node}
use Rattle.dwz_def_tops.specs.Spots.{EntryName}
use Rattle.dwz_def_images.specs.Moves.{image_in}
use Rattle.dwz_def_reading.specs.Places.{at_file}
use Rattle.dwz_unit.specs.Rows.{EntryRow}
use Rattle.dwz_graph.specs.declared.file.File.{File}
use Rattle.dwz_graph.specs.Index.{Index}
use Rattle.dwz_layout.specs.declared.known.EntryTable.{EntryTable}
use Rattle.dwz_layout.specs.Entries.{row}
use Rattle.dwz_layout.specs.Known.{number_of}
use Rattle.dwz_law_layout.specs.Knows.{IsRead, KnowsFile, KnowsReferences}
use Rattle.dwz_law_layout.specs.Beside.{Beside}
use Rattle.dwz_law_layout.specs.Facts.{AreFacts, HasFile, RunFacts, file_read, move, run}
use Rattle.dwz_law_layout.specs.Listed.{AreListed, TextsAt}
use Rattle.dwz_law_layout.specs.Named.{keys}

-- P holds of each file that was read: of what is known of the run, of the lists, and of the file with its number
abbrev pub OfFiles : ((beside : Beside) → RunFacts beside → EntryTable → ℕ → List ℕ → File → Type 0) → Type 0
OfFiles P =
    (beside : Beside) (f : RunFacts beside) (t : TextsAt) (k : EntryTable) → AreFacts f → AreListed f t k
    → (n : ℕ) (bytes : List ℕ) (x : File) (index : Index) → HasFile f n bytes x index → P beside f k n bytes x

-- its entries are known, and each value as the file stores it
abbrev pub KnownLaw : Type 0
KnownLaw = OfFiles (λ beside f k n bytes x. KnowsFile k (file_read f n bytes x))

-- its references lead to what stands for their targets after
abbrev pub ReferencesLaw : Type 0
ReferencesLaw = OfFiles (λ beside f k n bytes x. KnowsReferences (keys f) k (file_read f n bytes x))

-- ---- names

-- the name of an entry of the file with that number
abbrev pub entry_name : {beside : Beside} → RunFacts beside → ℕ → Node ℕ → EntryName
entry_name f n d = (run f).name (at_file n d.at)

-- what has this name stands for itself after
abbrev pub IsItself : {beside : Beside} → RunFacts beside → EntryName → Type 0
IsItself f s = image_in (move f) s ≡ s

-- the number of an entry among all has its name
abbrev pub EntryNamesLaw : Type 0
EntryNamesLaw = OfFiles (λ beside f k n bytes x. (i : ℕ) (r : EntryRow) (d : Node ℕ) → IsRead (file_read f n bytes x) i r d
    → (keys f).row (number_of k (row n i)) ≡ entry_name f n d)

-- so where it stands for itself that is the name of what stands for it after
abbrev pub SelfNamesLaw : Type 0
SelfNamesLaw = OfFiles (λ beside f k n bytes x. (i : ℕ) (r : EntryRow) (d : Node ℕ) → IsRead (file_read f n bytes x) i r d
    → IsItself f (entry_name f n d) → (keys f).row (number_of k (row n i)) ≡ (file_read f n bytes x).after d.at)
