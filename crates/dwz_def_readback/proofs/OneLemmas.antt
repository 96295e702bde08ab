-- One file by itself.
use Rattle.std.proofs.Common.{◌≡◌, ◌↔◌, ℕ, Bool, true, false, List, [], ◌∷◌, refl, sym, subst, ◌∙◌, inl, inr}
use Rattle.dwz_def_reading.specs.Documents.{Doc}
use Rattle.dwz_def_reading.specs.Files.{Limits, Reads, debug_info}
use Rattle.dwz_def_reading.specs.Lists.{Each, In}
use Rattle.dwz_def_reading.specs.Units.{RawUnit}
use Rattle.dwz_def_reading.specs.Values.{AreBytes}
use Rattle.dwz_def_tops.specs.Alike.{Apart, IsAlike}
use Rattle.dwz_def_tops.specs.Spots.{file_numbers, units_of}
use Rattle.dwz_def_tops.specs.Lists.{Nth}
use Rattle.dwz_def_images.specs.Homes.{IsChoice, Rule}
use Rattle.dwz_def_images.specs.After.{ArePlaced}
use Rattle.dwz_def_images.specs.Units.{changes, common_units}
use Rattle.dwz_def_encoding.specs.Placing.{FitsSections}
use Rattle.dwz_def_readback.specs.AllFiles.{AreOver, AreRead}
use Rattle.dwz_def_readback.specs.Back.{CanWrite, FileOver, OneBack, one_run, one_stored}
use Rattle.dwz_def_readback.specs.Prunable.{IsPrunable}
use Rattle.dwz_def_readback.specs.Files.{HasSections, Run, Stored, place_of, sections_of}
use Rattle.dwz_def_readback.proofs.AllLemmas.{can_write}
use Rattle.dwz_def_readback.proofs.HomeLemmas.{no_common}
use Rattle.dwz_def_readback.proofs.ReadPlaces.{read_from}
use Rattle.dwz_def_readback.proofs.SameLemmas.{same_back}
use Rattle.dwz_def_readback.proofs.SaysLemmas.{alone_back, written_places}

nth_first : (doc : Doc ℕ) (file : ℕ) (d : Doc ℕ) → Nth 0 (doc ∷ []) file d → In file (file_numbers 0 (doc ∷ []))
unfolding file_numbers
nth_first doc file d (inl e) = inl e.0
nth_first doc file d (inr x) = absurd x

-- the only file is the first
first_file : (doc : Doc ℕ) (file : ℕ) → In file (file_numbers 0 (doc ∷ [])) → file ≡ 0
unfolding file_numbers
first_file doc file (inl e) = sym e
first_file doc file (inr r) = absurd r

is_first : (doc : Doc ℕ) → In 0 (file_numbers 0 (doc ∷ []))
unfolding file_numbers
is_first doc = inl refl

module _ (l : Limits) (input : List ℕ) (raw : List RawUnit) (doc : Doc ℕ) (reads : Reads l input raw doc) (are : AreBytes (debug_info input)) (prunes : Bool)
    (prunable : (prunes ≡ true) ↔ IsPrunable input doc.units)
    (rule : Rule) (is : IsAlike Apart (units_of (doc ∷ [])) rule.alike) (choice : IsChoice (units_of (doc ∷ [])) rule) (over : FileOver (one_run rule doc input raw prunes) 0) where
  abbrev docs : List (Doc ℕ)
  docs = doc ∷ []

  abbrev stored : Stored
  stored = one_stored input raw prunes

  abbrev r : Run
  r = one_run rule doc input raw prunes

  placed : Each (λ d. ArePlaced d.units) docs
  placed = ((read_from l input raw doc reads are).placed, tt)

  are_read : AreRead stored docs
  are_read file d (inl e) = record {
    limits = l;
    reads = subst (Reads l input raw) e.1 reads;
    are_bytes = are;
    prunable = subst (λ (w : Doc ℕ). (prunes ≡ true) ↔ IsPrunable input w.units) e.1
        prunable;
  }
  are_read file d (inr x) = absurd x

  none_shared : common_units r.move ≡ []
  unfolding common_units
  none_shared = no_common (units_of docs) rule is r.files r.move refl

  all_over : AreOver r
  all_over file there changed = subst (FileOver r) (sym (first_file doc file there)) over

  can : CanWrite r
  can = can_write Apart docs stored are_read rule is choice all_over

  pub one_back : changes r.move r.units 0 ≡ true → (out : List ℕ) → HasSections r 0 out → FitsSections (sections_of r 0) → OneBack doc rule input raw prunes out
  one_back changed out has small =
      let ok = written_places r can.apart in
      let not_old : (file : ℕ) → In file r.files → changes r.move r.units file ≡ false
      → ⊥ = λ file there still. (let yes = subst (λ (f : ℕ). changes r.move r.units f ≡ true) (sym (first_file doc file there)) changed in let both : true ≡ false = sym yes ∙ still in cc) in
      record {
        says = alone_back r can (place_of r) ok out none_shared 0 (is_first doc) changed has small;
        same = same_back Apart docs rule placed is choice stored (place_of r) ok (record {
          shown = λ file d nth still. absurd (not_old file (nth_first doc file d nth) still);
          file = λ file there still. absurd (not_old file there still);
          one = λ file there still. absurd (not_old file there still);
        });
      }
