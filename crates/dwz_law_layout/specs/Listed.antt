-- What the lists of `EntryTable` are made of, file by file.
use Rattle.std.specs.Prelude.{◌≡◌, ℕ, suc, length, List, [], ◌∷◌, ◌++◌, map, Some, slice_get, slice_index}
use Rattle.dwz_def_tops.specs.Spots.{EntryName}
use Rattle.dwz_graph.specs.declared.file.File.{File}
use Rattle.dwz_graph.specs.declared.index.SpaceEntry.{SpaceEntry}
use Rattle.dwz_graph.specs.declared.index.TopEntry.{TopEntry}
use Rattle.dwz_graph.specs.Index.{Index, IsIndex}
use Rattle.dwz_layout_numbers.specs.declared.firsts.CountsBefore.{CountsBefore}
use Rattle.dwz_layout_numbers.specs.Befores.{befores_from}
use Rattle.dwz_layout_numbers.specs.Images.{AreImages, IsFile}
use Rattle.dwz_graph.specs.EntryCounts.{starts_from}
use Rattle.dwz_layout_numbers.specs.Owners.{AreOwners}
use Rattle.dwz_layout.specs.declared.known.FileRows.{FileRows}
use Rattle.dwz_layout.specs.declared.known.ValueCounts.{ValueCounts}
use Rattle.dwz_layout.specs.declared.known.EntryTable.{EntryTable}
use Rattle.dwz_layout.specs.declared.known.Row.{Row}
use Rattle.dwz_layout.specs.declared.known.SpaceRow.{SpaceRow}
use Rattle.dwz_layout.specs.declared.known.TextAt.{TextAt}
use Rattle.dwz_unit.specs.Rows.{rows_of, units_of}
use Rattle.dwz_law_layout.specs.Beside.{Beside}
use Rattle.dwz_law_layout.specs.Facts.{RunFacts, every, move, owners_beside}

-- where texts are written: of each file those of its entries, in order; and the names of the spaces of all files, in order, in a partial
-- unit of their file, and in one of the common file. And for each file the numbers that its values have in the common file, which number
-- files (DWARF 5, 2.14), in order.
pub record TextsAt : Type 0 where
  pub files : List (List TextAt)
  pub spaces : List TextAt
  pub commons : List TextAt
  pub numbers : List (List ℕ)

-- ---- entries

abbrev pub none_before : CountsBefore
none_before = record { texts = 0; files = 0 }

-- where the references of an entry begin, and its texts and numbers of files, before which so many come
abbrev pub firsts_from : ℕ → CountsBefore → ValueCounts
firsts_from reference b = record { reference = reference; text = b.texts; file = b.files }

-- each entry of a file has its firsts
abbrev pub HaveFirsts : File → List ValueCounts → Type 0
HaveFirsts x firsts =
    (i : ℕ) (b : CountsBefore) → slice_get (befores_from none_before (rows_of (units_of x.units))) i ≡ Some b
    → slice_get firsts i ≡ Some (firsts_from (slice_index x.resolved.starts.items i) b)

-- the rows of a file, whose first entry has that number among those of all files, and whose texts are written there
pub record IsListed {beside : Beside} (f : RunFacts beside) (x : File) (index : Index) (start : ℕ) (texts : List TextAt) (r : FileRows) : Type 0 where
  pub units : r.units.now ≡ x.units
  pub start_is : r.start ≡ start
  pub firsts : HaveFirsts x r.firsts.items
  pub references : (names : List EntryName) → IsFile (every f) names index start
      → AreImages (every f) (move f) names x.resolved.refs.items r.references.items
  pub texts_are : r.texts.items ≡ texts

-- file by file
abbrev pub AreRows : {beside : Beside} → RunFacts beside → List File → List Index → List ℕ → List (List TextAt) → List FileRows → Type 0
AreRows f [] [] [] [] [] = Unit {0}
AreRows f (x ∷ files) (index ∷ indexes) (start ∷ starts) (t ∷ texts) (r ∷ rows) =
    IsListed f x index start t r × AreRows f files indexes starts texts rows
AreRows f _ _ _ _ _ = ⊥

-- ---- owners

-- those of the entries of each file, one behind the other, and then those of the entries of the common file, if it stands
abbrev pub AreAllOwners : {beside : Beside} → RunFacts beside → List File → List Index → List ℕ → Type 0
AreAllOwners f [] [] owners = owners ≡ owners_beside f
AreAllOwners f (x ∷ files) (index ∷ indexes) owners =
    (more : List ℕ) × (rest : List ℕ) × (owners ≡ more ++ rest)
    × ((names : List EntryName) → IsIndex names index
    → AreOwners f.planned f.parts f.olds index.starts.unit (rows_of (units_of x.units)) names
    more)
    × AreAllOwners f files indexes rest
AreAllOwners f _ _ owners = ⊥

-- ---- tops and spaces

abbrev pub entry_row : ℕ → ℕ → Row
entry_row file entry = record { file = file; entry = entry }

-- the entries of the tops of files, the first of which has that number
unfoldable pub top_rows : ℕ → List Index → List Row
top_rows file [] = []
top_rows file (x ∷ indexes) = map (λ (t : TopEntry). entry_row file t.entry) x.tops ++ top_rows (suc file) indexes

-- so those of spaces
unfoldable pub space_entries : ℕ → List Index → List Row
space_entries file [] = []
space_entries file (x ∷ indexes) = map (λ (s : SpaceEntry). entry_row file s.entry) x.spaces ++ space_entries (suc file) indexes

-- each with the places of its name
abbrev pub space_rows : List Row → (texts commons : List TextAt) → List SpaceRow
space_rows [] texts commons = []
space_rows (row ∷ rows) [] commons = []
space_rows (row ∷ rows) (t ∷ texts) [] = []
space_rows (row ∷ rows) (t ∷ texts) (c ∷ commons) = record { row = row; text = t; common = c } ∷ space_rows rows texts commons

-- ---- all

-- the lists are made of the files, their plan, and where texts are written
pub record AreListed {beside : Beside} (f : RunFacts beside) (t : TextsAt) (k : EntryTable) : Type 0 where
  pub rows : AreRows f f.files f.indexes (starts_from 0 f.indexes) t.files k.files.items
  pub owners : AreAllOwners f f.files f.indexes k.owners.items
  pub tops : k.tops.items ≡ top_rows 0 f.indexes
  pub numbers : map (λ (r : FileRows). r.files.items) k.files.items ≡ t.numbers
  pub spaces : k.spaces.items ≡ space_rows (space_entries 0 f.indexes) t.spaces t.commons
  pub many_spaces : length t.spaces ≡ length (space_entries 0 f.indexes)
  pub many_commons : length t.commons ≡ length (space_entries 0 f.indexes)
  pub parts : k.parts.items ≡ f.parts
  pub commons : k.commons ≡ f.commons
