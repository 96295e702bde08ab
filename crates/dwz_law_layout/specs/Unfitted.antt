-- The files that are written before their values have forms, and where the texts of a unit are written.
use Rattle.std.specs.Prelude.{◌≡◌, ℕ, List, [], ◌∷◌, None, Some, map, slice_get}
use Rattle.dwz_def_reading.specs.Lists.{In}
use Rattle.dwz_def_reading.specs.Documents.{DwUnit, Node}
use Rattle.dwz_def_tops.specs.Spaces.{space_text}
use Rattle.dwz_def_tops.specs.Shown.{units_keys}
use Rattle.dwz_def_tops.specs.Spots.{EntryName, name_of}
use Rattle.dwz_graph.specs.declared.file.File.{File}
use Rattle.dwz_graph.specs.Index.{Index}
use Rattle.dwz_layout_items.specs.declared.order.Item.{Item}
use Rattle.dwz_layout_items.specs.declared.order.ItemKind.{ItemKind}
use Rattle.dwz_layout_items.specs.declared.order.ItemKind.TheVariants.{InChain}
use Rattle.dwz_def_images.specs.Units.{common_units, out_units}
use Rattle.dwz_def_encoding.specs.Placing.{KeyedForms, UnitForms, unit_forms, with_keys}
use Rattle.dwz_def_readback.specs.Files.{common_forms, file_forms_by}
use Rattle.dwz_layout.specs.declared.known.EntryTable.{EntryTable}
use Rattle.dwz_layout.specs.declared.order.UnitItems.{UnitItems}
use Rattle.dwz_layout.specs.Known.{space_at, text_held}
use Rattle.dwz_unit.specs.Rows.{EntryRow}
use Rattle.dwz_law_layout.specs.Fitted.{Unfitted}
use Rattle.dwz_law_layout.specs.Knows.{IsRead, IsText, KnowsFiles, KnowsTexts, NewNumbers, name_attr}
use Rattle.dwz_law_layout.specs.Beside.{Beside}
use Rattle.dwz_law_layout.specs.Facts.{HasFile, RunFacts, common, file_read, files_written, move, run, units}
use Rattle.dwz_law_layout.specs.Listed.{entry_row, space_entries}

-- ---- files

-- the units of a file after, and those of the common file; of each file that is written the new numbers of its texts are these
abbrev pub unfitted_common : {beside : Beside} → RunFacts beside → Unfitted
unfitted_common f = record { number = (run f).common; forms = common_forms (run f); texts = None; units = common_units (move f) }

abbrev pub unfitted_file : {beside : Beside} → RunFacts beside → (ℕ → NewNumbers) → ℕ → Unfitted
unfitted_file f numbers n = record {
  number = n;
  forms = file_forms_by (common f) (run f) n;
  texts = numbers n;
  units = out_units (move f) (units f) n;
}

-- those of the files that are written
abbrev pub before_files : {beside : Beside} → RunFacts beside → (ℕ → NewNumbers) → List Unfitted
before_files f numbers = map (unfitted_file f numbers) (files_written f)

-- and a common file that is made before them
abbrev pub before_forms : {beside : Beside} → RunFacts beside → (ℕ → NewNumbers) → List Unfitted
before_forms f numbers = unfitted_common f ∷ before_files f numbers

-- what forms are chosen by in the common file, and in the file after with that number
abbrev pub common_keyed_forms : {beside : Beside} → RunFacts beside → KeyedForms EntryName
common_keyed_forms f = with_keys (common_forms (run f)) (units_keys (common_units (move f)))

abbrev pub file_keyed_forms : {beside : Beside} → RunFacts beside → ℕ → KeyedForms EntryName
file_keyed_forms f n = with_keys (file_forms_by (common f) (run f) n) (units_keys (out_units (move f) (units f) n))

-- and in a unit of it
abbrev pub common_unit_forms : {beside : Beside} → RunFacts beside → DwUnit EntryName → UnitForms EntryName
common_unit_forms f u = unit_forms (common_keyed_forms f) u

abbrev pub file_unit_forms : {beside : Beside} → RunFacts beside → ℕ → DwUnit EntryName → UnitForms EntryName
file_unit_forms f n u = unit_forms (file_keyed_forms f n) u

-- ---- texts

-- the item names a space of a chain
abbrev pub NamesChained : ℕ → ItemKind → Type 0
NamesChained s (InChain chain space) = space ≡ s
NamesChained s _ = ⊥

pub record HasChained (s : ℕ) (items : List Item) : Type 0 where
  pub item : Item
  pub there : In item items
  pub names : NamesChained s item.what

-- In a unit that is written so, and whose forms are chosen so, the texts of the entries of that file stand where the definitions of what
-- is written say, with these new numbers; and so do the names of those of its spaces that stand in chains.
pub record KnowsTextsOf {beside : Beside} (f : RunFacts beside) (k : EntryTable) (ft : UnitForms EntryName) (numbers : NewNumbers) (n : ℕ)
    (o : UnitItems) : Type 0 where
  pub entries : (bytes : List ℕ) (x : File) (index : Index) → HasFile f n bytes x index → KnowsTexts k (file_read f n bytes x) o ft numbers
  pub spaces : (bytes : List ℕ) (x : File) (index : Index) → HasFile f n bytes x index
      → (s i : ℕ) (r : EntryRow) (d : Node ℕ) (text : List ℕ) → HasChained s o.items
      → slice_get (space_entries 0 f.indexes) s ≡ Some (entry_row n i) → IsRead (file_read f n bytes x) i r d → space_text d ≡ Some text
      → IsText ft numbers (name_attr (name_of text d)) (text_held ft.holder (space_at k s))

-- so in that unit of the file itself
abbrev pub KnowsUnitTexts : {beside : Beside} → RunFacts beside → EntryTable → NewNumbers → ℕ → UnitItems → DwUnit EntryName → Type 0
KnowsUnitTexts f k numbers n o u = KnowsTextsOf f k (file_unit_forms f n u) numbers n o

-- so of each unit of the file
abbrev pub KnowTexts : {beside : Beside} → RunFacts beside → EntryTable → NewNumbers → ℕ → List UnitItems → List (DwUnit EntryName) → Type 0
KnowTexts f k numbers n [] [] = Unit {0}
KnowTexts f k numbers n (o ∷ order) (u ∷ some) = KnowsUnitTexts f k numbers n o u × KnowTexts f k numbers n order some
KnowTexts f k numbers n _ _ = ⊥

-- ---- the common file

-- In that unit of it, which is written so, texts of entries of any file stand where the definitions say, and names of spaces; and values
-- that number files have the numbers of their paths (DWARF 5, 2.14).
pub record KnowsCommonUnit {beside : Beside} (f : RunFacts beside) (k : EntryTable) (o : UnitItems) (u : DwUnit EntryName) : Type 0 where
  pub texts : (n : ℕ) → KnowsTextsOf f k (common_unit_forms f u) None n o
  pub files : (n : ℕ) (bytes : List ℕ) (x : File) (index : Index) → HasFile f n bytes x index
      → KnowsFiles k (file_read f n bytes x) o (common_unit_forms f u)

-- so of each of its units
abbrev pub KnowCommon : {beside : Beside} → RunFacts beside → EntryTable → List UnitItems → List (DwUnit EntryName) → Type 0
KnowCommon f k [] [] = Unit {0}
KnowCommon f k (o ∷ order) (u ∷ some) = KnowsCommonUnit f k o u × KnowCommon f k order some
KnowCommon f k _ _ = ⊥
