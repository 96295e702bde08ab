-- Which texts are written as those of the common file, once the lists have its texts: all that its units write, and none of other units.
-- So these keep their places where texts of a file get new numbers.
use Rattle.std.specs.Prelude.{◌≡◌, ℕ, Bool, true, false, List, Some, slice_get}
use Rattle.dwz_def_reading.specs.Documents.{Node, node_map}
use Rattle.dwz_def_reading.specs.Classes.{class_of}
use Rattle.dwz_def_reading.specs.Lists.{Each}
use Rattle.dwz_def_tops.specs.Spaces.{space_text}
use Rattle.dwz_def_tops.specs.Spots.{name_of}
use Rattle.dwz_unit.specs.Rows.{EntryRow}
use Rattle.dwz_graph.specs.declared.file.File.{File}
use Rattle.dwz_graph.specs.Index.{Index}
use Rattle.dwz_def_encoding.specs.Placing.{CommonUnit, UnitRole}
use Rattle.dwz_layout.specs.declared.known.EntryTable.{EntryTable}
use Rattle.dwz_layout.specs.declared.order.UnitItems.{UnitItems}
use Rattle.dwz_layout.specs.Known.{space_at, text_at, text_held}
use Rattle.dwz_law_layout.specs.Knows.{EachFrom, IsRead, Writes, firsts_at, is_placed, texts_in}
use Rattle.dwz_law_layout.specs.Beside.{Alone, Beside}
use Rattle.dwz_law_layout.specs.Facts.{AreFacts, HasFile, RunFacts, file_read}
use Rattle.dwz_law_layout.specs.Listed.{AreListed, TextsAt, entry_row, space_entries}
use Rattle.dwz_law_layout.specs.Unfitted.{HasChained}
use Rattle.dwz_encode_texts.specs.TextLaws.{StandAsRead}
use Rattle.dwz_encode_texts.specs.MovedTexts.{IsPooled}
use Rattle.dwz_encode_common.specs.CommonLaws.{IsCommonOrder}
use Rattle.dwz_encode_common.specs.SharedLaws.{HasCommon, HasTexts, is_common_entry}

-- Each text that is written in this unit, of an entry of any file, is one of the common file; so is the name of each space in its chains,
-- where names are stored by an offset or a slot (DWARF 5, 7.5.5, class string). A name that stands in its entry has no place.
pub record PoolsUnit (f : RunFacts Alone) (k : EntryTable) (o : UnitItems) : Type 0 where
  pub entries : (n : ℕ) (bytes : List ℕ) (x : File) (index : Index) → HasFile f n bytes x index
      → (i : ℕ) (r : EntryRow) (d : Node ℕ) → IsRead (file_read f n bytes x) i r d → Writes k o (file_read f n bytes x) i
      → EachFrom (λ j a. IsPooled (text_at k n j)) (firsts_at k (file_read f n bytes x) i).text
      (texts_in (node_map (file_read f n bytes x).after d).attrs)
  pub spaces : (n : ℕ) (bytes : List ℕ) (x : File) (index : Index) → HasFile f n bytes x index
      → (s i : ℕ) (r : EntryRow) (d : Node ℕ) (text : List ℕ) → HasChained s o.items
      → slice_get (space_entries 0 f.indexes) s ≡ Some (entry_row n i) → IsRead (file_read f n bytes x) i r d → space_text d ≡ Some text
      → is_placed (class_of (name_of text d).form) ≡ true → IsPooled (space_at k s).common

-- so of each unit
abbrev pub ArePooled : RunFacts Alone → EntryTable → List UnitItems → Type 0
ArePooled f k order = Each (PoolsUnit f k) order

-- The units of the common file, written in that order, are so.
abbrev pub PooledLaw : Type 0
PooledLaw =
    (f : RunFacts Alone) (sharing : List Bool) (before k : EntryTable) (order : List UnitItems) → IsCommonOrder f before order
    → HasCommon f sharing before k → ArePooled f k order

-- of a file whose texts stood where they were read
abbrev pub OfOwn : ((beside : Beside) → RunFacts beside → EntryTable → EntryTable → ℕ → List ℕ → File → Type 0) → Type 0
OfOwn P =
    (beside : Beside) (f : RunFacts beside) (t : TextsAt) (sharing : List Bool) (before k : EntryTable) → AreFacts f → AreListed f t before
    → StandAsRead f t → HasTexts f sharing before k
    → (n : ℕ) (bytes : List ℕ) (x : File) (index : Index) → HasFile f n bytes x index → P beside f before k n bytes x

-- No text of an entry that isn't written in the common file is one of that file.
abbrev pub NotPooledLaw : Type 0
NotPooledLaw = OfOwn (λ beside f before k n bytes x. (i : ℕ) (r : EntryRow) (d : Node ℕ) → IsRead (file_read f n bytes x) i r d
    → is_common_entry f before n i ≡ false
    → EachFrom (λ j a. IsPooled (text_at k n j) → ⊥) (firsts_at k (file_read f n bytes x) i).text
    (texts_in (node_map (file_read f n bytes x).after d).attrs))

-- Nor is the name of a space, in a unit of its own file.
abbrev pub NameNotPooledLaw : Type 0
NameNotPooledLaw = OfOwn (λ beside f before k n bytes x. (holder : UnitRole) → (holder ≡ CommonUnit → ⊥)
    → (space i : ℕ) (r : EntryRow) (d : Node ℕ) (text : List ℕ) → slice_get (space_entries 0 f.indexes) space ≡ Some (entry_row n i)
    → IsRead (file_read f n bytes x) i r d → space_text d ≡ Some text → IsPooled (text_held holder (space_at k space)) → ⊥)
