-- The texts of a unit of a file that shares none, by the bases of the units that its entries and the spaces of its chains were read in.
use Rattle.std.proofs.Common.{◌≡◌, ℕ, List, None, Some, slice_get, sym, subst}
use Rattle.dwz_def_reading.specs.Documents.{DwUnit, Node}
use Rattle.dwz_def_reading.specs.Files.{around_of}
use Rattle.dwz_def_reading.specs.Meanings.{scope_of}
use Rattle.dwz_def_tops.specs.Seen.{IsPartial}
use Rattle.dwz_def_tops.specs.Shown.{units_keys}
use Rattle.dwz_def_tops.specs.Spots.{EntryName, name_of}
use Rattle.dwz_def_images.specs.Units.{out_units}
use Rattle.dwz_graph.specs.declared.file.File.{File}
use Rattle.dwz_graph.specs.Index.{Index}
use Rattle.dwz_unit.specs.Rows.{EntryRow, units_of as raw_units}
use Rattle.dwz_layout.specs.declared.known.EntryTable.{EntryTable}
use Rattle.dwz_layout.specs.declared.order.UnitItems.{UnitItems}
use Rattle.dwz_layout.specs.declared.known.TextAt.{TextAt}
use Rattle.dwz_layout.specs.Known.{space_at}
use Rattle.dwz_law_layout.specs.Knows.{IsRead, IsText, Writes, name_attr}
use Rattle.dwz_law_layout.specs.Beside.{Beside}
use Rattle.dwz_law_layout.specs.Facts.{AreFacts, HasFile, RunFacts, file_read, move, units}
use Rattle.dwz_law_layout.specs.Listed.{AreListed, TextsAt, entry_row, space_entries}
use Rattle.dwz_law_layout.specs.Unfitted.{HasChained, KnowsTextsOf, file_unit_forms}
use Rattle.dwz_encode_texts.specs.TextLaws.{ComesFromScope, StandAsRead, unshared}
use Rattle.dwz_encode_texts.proofs.LawLemmas.{names_law, texts_law}
use Rattle.dwz_run_files.proofs.HeldTexts.{held_in_file}

module _ {beside : Beside} (f : RunFacts beside) (k : EntryTable) (n : ℕ) (o : UnitItems) (u : DwUnit EntryName) where
  -- the values of the unit come from those units
  abbrev pub EntriesCome : Type 0
  EntriesCome =
      (bytes : List ℕ) (x : File) (index : Index) → HasFile f n bytes x index
      → (i : ℕ) (r : EntryRow) (d : Node ℕ) (read : IsRead (file_read f n bytes x) i r d) → Writes k o (file_read f n bytes x) i
      → ComesFromScope f u (scope_of (around_of bytes (raw_units x.units)) read.unit)

  abbrev pub SpacesCome : Type 0
  SpacesCome =
      (bytes : List ℕ) (x : File) (index : Index) → HasFile f n bytes x index
      → (s i : ℕ) (r : EntryRow) (d : Node ℕ) (read : IsRead (file_read f n bytes x) i r d) → HasChained s o.items
      → slice_get (space_entries 0 f.indexes) s ≡ Some (entry_row n i)
      → ComesFromScope f u (scope_of (around_of bytes (raw_units x.units)) read.unit)

module _ {beside : Beside} (f : RunFacts beside) (t : TextsAt) (k : EntryTable) (facts : AreFacts f) (listed : AreListed f t k) (stand : StandAsRead f t)
    (n : ℕ) (o : UnitItems) (u : DwUnit EntryName) where
  abbrev keys : List EntryName
  keys = units_keys (out_units (move f) (units f) n)

  -- they stand where the definitions say, if the file shares none
  abbrev pub Stand : Type 0
  Stand = KnowsTextsOf f k (unshared (file_unit_forms f n u)) None n o

  pub unit_texts : EntriesCome f k n o u → SpacesCome f k n o u → Stand
  unit_texts entries spaces = record {
    entries = λ bytes x index h. record {
      are = λ i r d read writes.
          texts_law f t k facts listed stand n bytes x index h keys u i r d read (entries bytes x index h i r d read writes);
    };
    spaces = λ bytes x index h s i r d text has at read is.
        subst (λ (w : TextAt). IsText (unshared (file_unit_forms f n u)) None (name_attr (name_of text d)) w)
        (sym (held_in_file u.kind (space_at k s)))
        (names_law f t k facts listed stand n bytes x index h keys u i r d read (spaces bytes x index h s i r d read has at) s text at is);
  }

  -- so are those of a unit that isn't partial
  pub whole_texts : (IsPartial u.kind → ⊥) → Stand
  whole_texts whole =
      unit_texts (λ bytes x index h i r d read writes is. absurd (whole is)) (λ bytes x index h s i r d read has at is. absurd (whole is))
