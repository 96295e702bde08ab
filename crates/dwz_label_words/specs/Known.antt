-- The names of what entries of a file name again and again.
use Rattle.std.specs.Prelude.{◌≡◌, ℕ, ◌+◌, ◌*◌, ◌<◌, List, Option, Some, None, slice_get}
use Rattle.dwz_def_reading.specs.Documents.{File, Text}
use Rattle.dwz_def_reading.specs.LineTables.{FileTable, nth_path}
use Rattle.dwz_def_reading.specs.TextRows.{text_number}
use Rattle.dwz_def_reading.specs.Texts.{text_at}
use Rattle.dwz_label.specs.Labels.{plain_label}
use Rattle.dwz_label_marks.specs.Found.{Has}
use Rattle.dwz_label_marks.specs.Told.{Keeps}
use Rattle.dwz_label_marks.specs.declared.found.Slot.{Slot}
use Rattle.dwz_label_words.specs.Shapes.{pairs_shape}
use Rattle.dwz_model.specs.declared.place.Pair.{Pair}
use Rattle.dwz_unit.specs.Declarations.{Declarations}

-- the texts of a file, its line tables, the declarations of its entries, and the names that there are
pub record FileNames : Type 0 where
  pub strs : List ℕ
  pub tables : List FileTable
  pub declarations : Declarations
  pub names : List (List ℕ)

-- only names were added
pub record StaysNamed (old new : FileNames) : Type 0 where
  pub same : new ≡ record old { names = new.names }
  pub kept : Keeps old.names new.names

-- the number of the name of these bytes was found
abbrev pub HasName : List (List ℕ) → List ℕ → Option ℕ → Type 0
HasName names bytes (Some n) = text_number names bytes ≡ Some n
HasName names bytes None = ⊥

-- ---- inner: what is kept of names that were found. No public clause cites what follows

-- of a text by its offset
abbrev pub AreTexts : List (List ℕ) → List ℕ → List Slot → Type 0
AreTexts names strs slots =
    (key n : ℕ) (text : List ℕ) → Has slots key n → text_at strs key ≡ Some text → text_number names (plain_label (Text text)) ≡ Some n

-- of a path by the number of its table and its own, which is below 4096
abbrev pub ArePaths : List (List ℕ) → List FileTable → List Slot → Type 0
ArePaths names tables slots =
    (table row n : ℕ) (t : FileTable) (path : List ℕ) → row < 4096 → Has slots (4096 * table + row) n → slice_get tables table ≡ Some t
    → nth_path t.paths row ≡ Some path → text_number names (plain_label (File (Some path))) ≡ Some n

-- of a shape by the tag and the number of the declaration, which is below 2^32
abbrev pub AreShapes : List (List ℕ) → Declarations → List Slot → Type 0
AreShapes names declarations slots =
    (decl tag n : ℕ) → decl < 4294967296 → Has slots (4294967296 * tag + decl) n
    → (pairs : List Pair) → slice_get declarations.pairs decl ≡ Some pairs → text_number names (pairs_shape tag pairs) ≡ Some n

pub record AreFound (names : List (List ℕ)) (strs : List ℕ) (tables : List FileTable) (declarations : Declarations) (texts paths shapes : List Slot) : Type 0
  where
    pub texts_are : AreTexts names strs texts
    pub paths_are : ArePaths names tables paths
    pub shapes_are : AreShapes names declarations shapes
