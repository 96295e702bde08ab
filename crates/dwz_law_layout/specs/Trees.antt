-- At which entries of files tops and spaces stand.
use Rattle.std.specs.Prelude.{◌≡◌, ℕ, List, Some, slice_get}
use Rattle.dwz_def_reading.specs.Lists.{In}
use Rattle.dwz_def_reading.specs.Documents.{Node, entries_map, node_map}
use Rattle.dwz_def_tops.specs.Lists.{Nth}
use Rattle.dwz_def_tops.specs.Spaces.{space_text}
use Rattle.dwz_def_tops.specs.Spots.{EntryName, FileUnit, Top, name_of, tops_of}
use Rattle.dwz_def_images.specs.Moves.{image_in}
use Rattle.dwz_graph.specs.declared.file.File.{File}
use Rattle.dwz_graph.specs.Index.{Index}
use Rattle.dwz_layout_order.specs.Spaces.{said_of, spaces_of}
use Rattle.dwz_law_layout.specs.Old.{IsSpaceIn}
use Rattle.dwz_layout.specs.declared.known.EntryTable.{EntryTable}
use Rattle.dwz_layout.specs.Known.{space_at, top_row}
use Rattle.dwz_law_layout.specs.Knows.{ShowsRow, ShowsTree}
use Rattle.dwz_law_layout.specs.Beside.{Beside}
use Rattle.dwz_law_layout.specs.Facts.{AreFacts, HasFile, RunFacts, file_read, move, units}
use Rattle.dwz_law_layout.specs.Listed.{entry_row, space_entries}
use Rattle.dwz_law_layout.specs.NamedLaws.{OfFiles}

-- one of the files that were read has that number
pub record IsReadFile {beside : Beside} (f : RunFacts beside) (n : ℕ) : Type 0 where
  pub bytes : List ℕ
  pub x : File
  pub index : Index
  pub has : HasFile f n bytes x index

-- ---- tops

-- a top of a file stands from the row on that the lists have for it, with all below it
abbrev pub TopTreesLaw : Type 0
TopTreesLaw = OfFiles (λ beside f k n bytes x. (top : Top) → In top (tops_of (units f)) → top.file ≡ n
    → ShowsTree (file_read f n bytes x) (top_row k top.number) (node_map (image_in (move f)) top.node)
    (entries_map (image_in (move f)) top.below))

-- each top is of a file
abbrev pub TopFilesLaw : Type 0
TopFilesLaw = (beside : Beside) (f : RunFacts beside) → AreFacts f → (top : Top) → In top (tops_of (units f)) → IsReadFile f top.file

-- ---- spaces

-- The space with that number, which is this entry, stands at the row that the lists have for it; it means a space with the name that the
-- number has.
pub record SpaceShown {beside : Beside} (f : RunFacts beside) (k : EntryTable) (n : ℕ) (bytes : List ℕ) (x : File) (s : ℕ)
    (e : Node EntryName) : Type 0 where
  pub shows : ShowsRow (file_read f n bytes x) (space_at k s).row (node_map (image_in (move f)) e)
  pub listed : slice_get (space_entries 0 f.indexes) s ≡ Some (entry_row n shows.i)
  pub text : List ℕ
  pub is_space : space_text shows.d ≡ Some text
  pub said : said_of (units f) s ≡ name_of text shows.d

-- so it is of each space of a unit of the file
abbrev pub SpaceRowsLaw : Type 0
SpaceRowsLaw = OfFiles (λ beside f k n bytes x. (i s : ℕ) (u : FileUnit EntryName) (e : Node EntryName) → Nth 0 (units f) i u → u.file ≡ n
    → IsSpaceIn (units f) i s → slice_get (spaces_of (units f)) s ≡ Some e → SpaceShown f k n bytes x s e)

-- the unit that the space with that number is in
pub record InSomeUnit (units : List (FileUnit EntryName)) (s : ℕ) : Type 0 where
  pub i : ℕ
  pub unit : FileUnit EntryName
  pub nth : Nth 0 units i unit
  pub space : IsSpaceIn units i s

-- each space is in a unit
abbrev pub SpaceUnitsLaw : Type 0
SpaceUnitsLaw = (units : List (FileUnit EntryName)) (s : ℕ) (e : Node EntryName) → slice_get (spaces_of units) s ≡ Some e
    → InSomeUnit units s
