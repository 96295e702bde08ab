-- Where texts stand before any is taken out, once the common file has its texts.
use Rattle.std.specs.Prelude.{◌≡◌, ℕ, List, [], ◌∷◌, None, Some, slice_get}
use Rattle.dwz_def_reading.specs.Documents.{Node, node_map}
use Rattle.dwz_def_reading.specs.Lists.{Each}
use Rattle.dwz_graph.specs.declared.file.File.{File}
use Rattle.dwz_graph.specs.Index.{Index}
use Rattle.dwz_unit.specs.Rows.{EntryRow}
use Rattle.dwz_layout.specs.declared.known.EntryTable.{EntryTable}
use Rattle.dwz_layout.specs.declared.known.TextAt.{TextAt}
use Rattle.dwz_layout.specs.declared.order.UnitItems.{UnitItems}
use Rattle.dwz_layout.specs.Known.{space_at, text_at}
use Rattle.dwz_law_layout.specs.Knows.{EachFrom, IsRead, NewNumbers, Writes, firsts_at, texts_in}
use Rattle.dwz_law_layout.specs.Beside.{Alone, Beside, Over}
use Rattle.dwz_law_layout.specs.Facts.{HasFile, RunFacts, file_read, files_written}
use Rattle.dwz_law_layout.specs.Laid.{FilesTexts, TextsKnown}
use Rattle.dwz_law_layout.specs.Listed.{entry_row, space_entries}
use Rattle.dwz_encode_texts.specs.MovedTexts.{IsPooled}
use Rattle.dwz_run_files.specs.Prepared.{IsOrdered}

-- P holds of the place of each text that a unit writes of an entry of the file with that number
abbrev pub EachText : {beside : Beside} → (TextAt → Type 0) → RunFacts beside → EntryTable → UnitItems → ℕ → Type 0
EachText P f k o n =
    (bytes : List ℕ) (x : File) (index : Index) → HasFile f n bytes x index
    → (i : ℕ) (r : EntryRow) (d : Node ℕ) → IsRead (file_read f n bytes x) i r d → Writes k o (file_read f n bytes x) i
    → EachFrom (λ j a. P (text_at k n j)) (firsts_at k (file_read f n bytes x) i).text
    (texts_in (node_map (file_read f n bytes x).after d).attrs)

-- all that a unit writes of entries of any file are texts of the common file, in a unit of that file
abbrev pub PoolsUnit : {beside : Beside} → RunFacts beside → EntryTable → UnitItems → Type 0
PoolsUnit f k o = (n : ℕ) → EachText IsPooled f k o n

-- the text isn't one that the common file holds
abbrev pub IsNotPooled : TextAt → Type 0
IsNotPooled t = IsPooled t → ⊥

-- the name of each space of the file with that number, in a partial unit of it, isn't one
abbrev pub OwnsNames : {beside : Beside} → RunFacts beside → EntryTable → ℕ → Type 0
OwnsNames f k n =
    (bytes : List ℕ) (x : File) (index : Index) → HasFile f n bytes x index → (space i : ℕ) (r : EntryRow) (d : Node ℕ)
    → slice_get (space_entries 0 f.indexes) space ≡ Some (entry_row n i) → IsRead (file_read f n bytes x) i r d
    → IsNotPooled (space_at k space).text

-- Where the texts of what is written stand: those of the common file, if it is made, which has the first order, and of all files. Over one
-- that stands nothing is written of it.
abbrev pub TextsKnownBy : (beside : Beside) → RunFacts beside → EntryTable → (ℕ → NewNumbers) → List (List UnitItems) → Type 0
TextsKnownBy Alone f k numbers orders = TextsKnown f k numbers orders
TextsKnownBy (Over s) f k numbers [] = ⊥
TextsKnownBy (Over s) f k numbers (common ∷ orders) = (common ≡ []) × FilesTexts f k numbers (files_written f) orders

-- All texts stand where the definitions say while none is taken out. Those of units of the common file are its own texts, which no
-- pruning of a file moves, and those of units of other files aren't.
pub record StandWhole {beside : Beside} (f : RunFacts beside) (k : EntryTable) (orders : List (List UnitItems)) : Type 0 where
  pub known : TextsKnownBy beside f k (λ n. None) orders
  pub pooled : (common : List UnitItems) (others : List (List UnitItems)) → orders ≡ common ∷ others → Each (PoolsUnit f k) common
  pub owned : (n rank first : ℕ) (order : List UnitItems) → IsOrdered f orders n rank first order
      → Each (λ o. EachText IsNotPooled f k o n) order
  pub names : (n : ℕ) → OwnsNames f k n
