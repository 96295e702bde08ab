-- What is known of texts, and of numbers of paths, once the common file has them, or stands with its texts.
use Rattle.std.specs.Prelude.{◌≡◌, ℕ, Bool, List, None, Some, false, true, slice_get}
use Rattle.dwz_def_reading.specs.Documents.{Node, node_map}
use Rattle.dwz_def_tops.specs.Spaces.{space_text}
use Rattle.dwz_def_tops.specs.Spots.{EntryName, name_of}
use Rattle.dwz_def_images.specs.Units.{common_units}
use Rattle.dwz_unit.specs.Rows.{EntryRow}
use Rattle.dwz_graph.specs.declared.file.File.{File}
use Rattle.dwz_graph.specs.Index.{Index}
use Rattle.dwz_def_encoding.specs.Placing.{CommonUnit, UnitForms}
use Rattle.dwz_def_readback.specs.Files.{name_after, paths, shared_if, texts, texts_by}
use Rattle.dwz_layout.specs.declared.known.EntryTable.{EntryTable}
use Rattle.dwz_layout.specs.declared.order.UnitItems.{UnitItems}
use Rattle.dwz_layout.specs.Known.{space_at, text_at, text_held}
use Rattle.dwz_law_layout.specs.Knows.{EachFrom, IsRead, IsText, firsts_at, name_attr, texts_in}
use Rattle.dwz_law_layout.specs.Beside.{Alone, Beside, Over}
use Rattle.dwz_law_layout.specs.Facts.{AreFacts, HasFile, RunFacts, common, file_read, move, run}
use Rattle.dwz_law_layout.specs.Listed.{AreListed, TextsAt, entry_row, space_entries}
use Rattle.dwz_law_layout.specs.Unfitted.{KnowCommon}
use Rattle.dwz_encode_texts.specs.TextLaws.{unshared}
use Rattle.dwz_encode_common.specs.CommonLaws.{IsCommonOrder}
use Rattle.dwz_encode_common.specs.Placed.{shares_in, written_there}
use Rattle.dwz_encode_common.specs.WithCommon.{IsWithCommon, IsWithTexts}

-- whether the common file is made
abbrev pub makes_common : Beside → Bool
makes_common Alone = true
makes_common (Over s) = false

-- whether that entry of the file is written in the common file of the run
abbrev pub is_common_entry : {beside : Beside} → RunFacts beside → EntryTable → (file i : ℕ) → Bool
is_common_entry {beside} f k n i = written_there (makes_common beside) k n i

-- the lists have the texts of the common file of the run, which these files share
abbrev pub HasTexts : {beside : Beside} → RunFacts beside → List Bool → (before after : EntryTable) → Type 0
HasTexts {beside} f sharing before k = IsWithTexts (makes_common beside) f.files (texts_by (common f) (run f)) sharing before k

-- ---- a common file that is made

-- the lists have the texts and the paths of the common file of the run, which these files share
abbrev pub HasCommon : RunFacts Alone → List Bool → (before after : EntryTable) → Type 0
HasCommon f sharing before k = IsWithCommon f.files (texts (run f)) (paths (run f)) sharing before k

-- Then what is written of the common file is known, where its units are written in that order.
abbrev pub KnowCommonLaw : Type 0
KnowCommonLaw =
    (f : RunFacts Alone) (sharing : List Bool) (before k : EntryTable) (order : List UnitItems) → IsCommonOrder f before order
    → HasCommon f sharing before k → KnowCommon f k order (common_units (move f))

-- ---- files, with a common file that is made or that stands

-- P holds of each file that was read, and of how the values of a unit of that file are written, which shares texts as the list says
abbrev pub OfSharing : ((beside : Beside) → RunFacts beside → EntryTable → EntryTable → ℕ → List ℕ → File → UnitForms EntryName → Type 0) → Type 0
OfSharing P =
    (beside : Beside) (f : RunFacts beside) (t : TextsAt) (sharing : List Bool) (before k : EntryTable) → AreFacts f → AreListed f t before
    → HasTexts f sharing before k
    → (n : ℕ) (bytes : List ℕ) (x : File) (index : Index) → HasFile f n bytes x index
    → (ft : UnitForms EntryName) → (ft.holder ≡ CommonUnit → ⊥)
    → ft.shared ≡ shared_if (shares_in sharing n) (texts_by (common f) (run f)) → P beside f before k n bytes x ft

-- In a unit of its own file the texts of an entry that isn't written in the common file stand where the definition of forms says, where
-- they stood there before, as if the file shared none.
abbrev pub SharedTextsLaw : Type 0
SharedTextsLaw = OfSharing (λ beside f before k n bytes x ft. (i : ℕ) (r : EntryRow) (d : Node ℕ) → IsRead (file_read f n bytes x) i r d
    → is_common_entry f before n i ≡ false
    → EachFrom (λ j a. IsText (unshared ft) None a (text_at before n j)) (firsts_at before (file_read f n bytes x) i).text
    (texts_in (node_map (name_after (run f) n) d).attrs)
    → EachFrom (λ j a. IsText ft None a (text_at k n j)) (firsts_at k (file_read f n bytes x) i).text
    (texts_in (node_map (name_after (run f) n) d).attrs))

-- So does the name of a space.
abbrev pub SharedNamesLaw : Type 0
SharedNamesLaw = OfSharing (λ beside f before k n bytes x ft. (space i : ℕ) (r : EntryRow) (d : Node ℕ) (text : List ℕ)
    → slice_get (space_entries 0 f.indexes) space ≡ Some (entry_row n i) → IsRead (file_read f n bytes x) i r d → space_text d ≡ Some text
    → IsText (unshared ft) None (name_attr (name_of text d)) (space_at before space).text
    → IsText ft None (name_attr (name_of text d)) (text_held ft.holder (space_at k space)))
