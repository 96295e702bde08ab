-- The texts of files once the common file has its texts: where they stood as if none were shared, they stand where the definitions say of
-- a file that shares these texts where it imports from the common file.
use Rattle.std.proofs.Common.{◌≡◌, ℕ, ◌+◌, ◌<◌, Bool, false, List, [], ◌∷◌, length, map, None, sym, ap, subst, ◌∙◌, inl, inr, arith}
use Rattle.std.specs.Prelude.{slice_index_or}
use Rattle.dwz_def_reading.proofs.ListFacts.{got_below}
use Rattle.dwz_def_reading.specs.Documents.{DwUnit}
use Rattle.dwz_def_reading.specs.Lists.{Each}
use Rattle.dwz_def_tops.specs.Spots.{EntryName, file_numbers, name_of}
use Rattle.dwz_def_images.specs.Units.{out_units}
use Rattle.dwz_graph.specs.declared.file.File.{File}
use Rattle.dwz_graph.specs.Index.{Index}
use Rattle.dwz_graph.proofs.FileCounts.{are_many}
use Rattle.dwz_def_readback.specs.Files.{imports_common, shared_if, texts_by}
use Rattle.dwz_layout.specs.declared.known.EntryTable.{EntryTable}
use Rattle.dwz_layout.specs.declared.known.TextAt.{TextAt}
use Rattle.dwz_layout.specs.declared.order.UnitItems.{UnitItems}
use Rattle.dwz_layout.specs.declared.walk.Origin.{Origin}
use Rattle.dwz_layout.specs.declared.walk.Origin.TheVariants.{Chained, Imported, OwnRoot, Read as OfRow}
use Rattle.dwz_layout.specs.declared.walk.Slot.{Slot}
use Rattle.dwz_layout.specs.Entries.{items_slots, row}
use Rattle.dwz_layout.specs.Known.{number_of, space_at}
use Rattle.dwz_encode.specs.Shown.{HasRow, IsRow}
use Rattle.dwz_law_layout.specs.Knows.{FileRead, IsText, Writes, name_attr}
use Rattle.dwz_law_layout.specs.Beside.{Beside}
use Rattle.dwz_law_layout.specs.Facts.{AreFacts, HasFile, RunFacts, common, docs, file_read, move, run, units}
use Rattle.dwz_law_layout.specs.Laid.{FilesTexts}
use Rattle.dwz_law_layout.specs.Listed.{AreListed, TextsAt}
use Rattle.dwz_law_layout.specs.Unfitted.{KnowTexts, KnowsTextsOf, file_unit_forms}
use Rattle.dwz_law_layout.proofs.FilesKnown.{flag_is}
use Rattle.dwz_law_layout.proofs.UnitsKnown.{not_common}
use Rattle.dwz_encode_texts.specs.TextLaws.{unshared}
use Rattle.dwz_encode_common.specs.Placed.{shares_in}
use Rattle.dwz_encode_common.specs.SharedLaws.{HasTexts, makes_common}
use Rattle.dwz_encode_common.proofs.SharedEntries.{files_many, names_shared, texts_shared}
use Rattle.dwz_encode_common.proofs.WithLists.{items_kept, number_kept}
use Rattle.dwz_run_files.specs.Stood.{FilesUnshared, KnowUnshared, WritesOwn}
use Rattle.dwz_run_files.proofs.HeldTexts.{held_in_file}

-- where numbers are the same, an entry that is there was there before
had_row : (before k : EntryTable) (number : ℕ) → ((r : _) → number_of k r ≡ number_of before r) → (slots : List Slot) → HasRow k number slots
    → HasRow before number slots
had_row before k number same [] has = absurd has
had_row before k number same (s ∷ slots) (inr later) = inr (had_row before k number same slots later)
had_row before k number same (s ∷ slots) (inl is) = inl (by s.origin is) where
  by : (origin : Origin) → IsRow k number origin → IsRow before number origin
  by (OfRow r) is = sym (same r) ∙ is
  by (OwnRoot line) is = absurd is
  by (Chained chain space) is = absurd is
  by (Imported part) is = absurd is

module _ {beside : Beside} (f : RunFacts beside) (t : TextsAt) (sharing : List Bool) (before k : EntryTable) (facts : AreFacts f) (listed : AreListed f t before)
    (has : HasTexts f sharing before k) where
  -- what a unit writes it wrote before
  pub wrote : (o : UnitItems) (F : FileRead) (i : ℕ) → Writes k o F i → Writes before o F i
  wrote o F i writes =
      let many = files_many f t sharing before k facts listed has in
      let number = number_kept (makes_common beside) f.files (texts_by (common f) (run f)) sharing before k has many in
      let r = row F.number i in
      subst (λ (slots : List Slot). HasRow before (number_of before r) slots)
      (items_kept (makes_common beside) f.files (texts_by (common f) (run f)) sharing before k has many o.sort o.items)
      (subst (λ (m : ℕ). HasRow before m (items_slots k o.sort o.items)) (number r)
      (had_row before k (number_of k r) number (items_slots k o.sort o.items) writes))

  module _ (flags : sharing ≡ map (imports_common (move f) (units f)) (file_numbers 0 (docs f))) where
    -- the flag of a file says whether it imports from the common file
    flag : (n : ℕ) → n < length (docs f) → shares_in sharing n ≡ imports_common (move f) (units f) n
    flag n low =
        let none : 0 + n ≡ n = omega arith in
        ap (λ (w : List Bool). slice_index_or w n false) flags
        ∙ flag_is (imports_common (move f) (units f)) 0 (docs f) n low
        ∙ ap (imports_common (move f) (units f)) none

    shared_is : (n : ℕ) (u : DwUnit EntryName) (bytes : List ℕ) (x : File) (index : Index) → HasFile f n bytes x index
        → (file_unit_forms f n u).shared ≡ shared_if (shares_in sharing n) (texts_by (common f) (run f))
    shared_is n u bytes x index h =
        let many = are_many f.contents f.files f.indexes facts.kept facts.indexed in
        let files = many.0 in
        let below = got_below f.files n x h.file in
        ap (λ (b : Bool). shared_if b (texts_by (common f) (run f))) (sym (flag n (omega (arith, files, below))))

    -- ---- a unit

    unit_shared : (n : ℕ) (o : UnitItems) (u : DwUnit EntryName) → KnowsTextsOf f before (unshared (file_unit_forms f n u)) None n o
        → WritesOwn f before n o → KnowsTextsOf f k (file_unit_forms f n u) None n o
    unit_shared n o u old own = record {
      entries = λ bytes x index h. record {
        are = λ i r d read writes. (
            let wrote_it = wrote o (file_read f n bytes x) i writes in
            texts_shared beside f t sharing before k facts listed has n bytes x index h (file_unit_forms f n u) (not_common u.kind)
            (shared_is n u bytes x index h) i r d read (own bytes x index h i r d read wrote_it)
            ((old.entries bytes x index h).are i r d read wrote_it));
      };
      spaces = λ bytes x index h s i r d text chained at read is.
          names_shared beside f t sharing before k facts listed has n bytes x index h (file_unit_forms f n u) (not_common u.kind)
          (shared_is n u bytes x index h) s i r d text at read is
          (subst (λ (w : TextAt). IsText (unshared (file_unit_forms f n u)) None (name_attr (name_of text d)) w)
          (held_in_file u.kind (space_at before s)) (old.spaces bytes x index h s i r d text chained at read is));
    }

    units_shared : (n : ℕ) (order : List UnitItems) (us : List (DwUnit EntryName)) → KnowUnshared f before n order us
        → Each (WritesOwn f before n) order → KnowTexts f k None n order us
    units_shared n [] [] old own = tt
    units_shared n [] (u ∷ us) old own = absurd old
    units_shared n (o ∷ order) [] old own = absurd old
    units_shared n (o ∷ order) (u ∷ us) old own = (unit_shared n o u old.0 own.0, units_shared n order us old.1 own.1)

    -- ---- all files

    pub files_shared : (files : List ℕ) (orders : List (List UnitItems)) → FilesUnshared f before files orders
        → FilesTexts f k (λ n. None) files orders
    files_shared [] [] old = tt
    files_shared [] (order ∷ orders) old = absurd old
    files_shared (n ∷ files) [] old = absurd old
    files_shared (n ∷ files) (order ∷ orders) old =
        (units_shared n order (out_units (move f) (units f) n) old.0 old.1, files_shared files orders old.2)
