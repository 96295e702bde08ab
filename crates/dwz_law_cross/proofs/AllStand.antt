-- The entries of all that was written may stand as they do.
use Rattle.std.proofs.Common.{◌≡◌, ℕ, suc, ◌<◌, ◌≤◌, ◌^◌, Bool, true, false, List, [], Option, Some, None, length, refl, sym, ap, subst, ◌∙◌, arith, inl, inr}
use Rattle.dwz_def_reading.specs.Lists.{Each, In, Nth}
use Rattle.dwz_def_reading.specs.Documents.{Doc, DwUnit}
use Rattle.dwz_def_reading.specs.Meanings.{Common, Sources}
use Rattle.dwz_def_reading.specs.Places.{Place}
use Rattle.dwz_def_reading.specs.Units.{RawUnit}
use Rattle.dwz_def_reading.specs.Values.{AreBytes}
use Rattle.dwz_def_tops.specs.Alike.{IsAlike, TopScope}
use Rattle.dwz_def_tops.specs.Deciding.{alike_test}
use Rattle.dwz_def_tops.specs.Seen.{Named, Seen, all_seen}
use Rattle.dwz_def_tops.specs.Shown.{units_keys}
use Rattle.dwz_def_tops.specs.Spots.{EntryName, FileUnit, units_of}
use Rattle.dwz_def_tops.proofs.AlikeLaws.{alike_decides}
use Rattle.dwz_def_images.specs.Homes.{IsChoice, Rule}
use Rattle.dwz_def_images.specs.Plan.{PartialUnit}
use Rattle.dwz_def_images.proofs.GainLemmas.{gain_choice}
use Rattle.dwz_def_images.specs.After.{Replaces}
use Rattle.dwz_def_images.specs.Units.{all_units, changes, common_units, partial_unit}
use Rattle.dwz_def_images.proofs.FileLemmas.{replaced}
use Rattle.dwz_def_encoding.specs.Carried.{OfAny}
use Rattle.dwz_def_encoding.specs.Fitting.{EachAttr, depth}
use Rattle.dwz_def_encoding.specs.Meant.{all_entry_keys}
use Rattle.dwz_def_encoding.specs.Placing.{texts_bytes, texts_of, units_with}
use Rattle.dwz_def_encoding.specs.Writing.{tables_of}
use Rattle.dwz_def_encoding.proofs.Rising.{entries_are_keys}
use Rattle.dwz_def_encoding.proofs.SameLemmas.{spots_same}
use Rattle.dwz_def_readback.specs.AllFiles.{AreRead, CommonMade}
use Rattle.dwz_def_readback.specs.Back.{CanWrite, SaysUnits}
use Rattle.dwz_def_readback.specs.Files.{Made, Run, common_fitted, common_forms, imports_common, shared_if, places, texts}
use Rattle.dwz_def_readback.proofs.AllLemmas.{all_placed, can_write}
use Rattle.dwz_def_readback.proofs.NameLemmas.{common_entries, common_names}
use Rattle.dwz_def_output.specs.FilesAfter.{common_bytes, file_after}
use Rattle.dwz_def_output.specs.Written.{CanBeWritten, common_under, rule_under, run_under, stored_of}
use Rattle.dwz_def_output.proofs.AllMade as made
use Rattle.dwz_law_cross.specs.ReadLaws.{AllMayStand, IsFormOfBack, IsFormOfCommon}
use Rattle.dwz_law_cross.specs.StandLaws.{StandAs, StandLaw}
use Rattle.dwz_law_cross.proofs.ChosenForms.{IsUnbound}
use Rattle.dwz_law_cross.proofs.Depths.{part_deep}
use Rattle.dwz_law_cross.proofs.FileStand.{read_deep, stands_alone, stands_beside, top_read, was_read}
use Rattle.dwz_law_cross.proofs.FreeForms.{part_free}
use Rattle.dwz_law_cross.proofs.OwnFiles.{own_closed}
use Rattle.dwz_law_cross.proofs.StoredForms.{UnitStandsSo, stored_stand}
use Rattle.dwz_law_cross.proofs.WrittenForms.{shared_stand}
use Rattle.dwz_law_cross.proofs.WrittenRaw.{common_low, common_raw, made_stand}

module _ (scope : TopScope) (name : List ℕ) (contents : List (List ℕ)) (docs : List (Doc ℕ)) (prunes : List Bool) (bytes : Each AreBytes contents)
    (written : CanBeWritten scope name contents docs prunes) where
  abbrev r : Run
  r = run_under scope contents docs prunes

  abbrev rule : Rule
  rule = rule_under scope docs

  are : AreRead (stored_of contents prunes) docs
  are = made.are scope name contents docs prunes bytes written

  alike : IsAlike scope (units_of docs) rule.alike
  alike = alike_decides scope (units_of docs)

  choice : IsChoice (units_of docs) rule
  choice = gain_choice scope (units_of docs) (alike_test scope (units_of docs)) (alike_decides scope (units_of docs))

  can : CanWrite r
  can = can_write scope docs (stored_of contents prunes) are rule alike choice (made.are_over scope name contents docs prunes bytes written)

  whole : Replaces (units_of docs) r.move (all_units r.move r.units r.files)
  whole = replaced scope docs rule (all_placed 0 docs (λ file doc nth. (was_read docs (stored_of contents prunes) are file doc nth).placed)) alike choice

  -- ---- depths and forms

  low : (i : ℕ) (u : FileUnit EntryName) → Nth 0 (units_of docs) i u → suc (depth u.unit.below) ≤ 256
  low = read_deep docs (stored_of contents prunes) are

  low_part : (n : ℕ) (part : PartialUnit) → Nth 0 r.move.parts n part → suc (depth (partial_unit r.move n).below) ≤ 256
  low_part n part nth = part_deep (units_of docs) rule r.files 256 low (omega arith) whole.held n part nth

  free : (n : ℕ) (part : PartialUnit) → Nth 0 r.move.parts n part → EachAttr IsUnbound (partial_unit r.move n).below
  free n part nth = part_free scope (units_of docs) rule alike choice r.files whole.held (top_read docs (stored_of contents prunes) are) n part nth

  -- ---- the common file

  shared_refs : (e : Seen EntryName) (a : Named EntryName) (k : EntryName) → In e (all_seen (common_units r.move)) → In a e.attrs → In k a.value.refs → In k (units_keys (common_units r.move))
  shared_refs e a k e_in a_in k_in = elim (can.common.closed e a k e_in a_in k_in) [
    | inl own ↦ subst (In k) (common_names r) (entries_are_keys (common_fitted r) k own)
    | inr none ↦ absurd none
  ]

  common_so : Each (UnitStandsSo IsFormOfCommon) (common_fitted r)
  unfolding common_fitted
  common_so = shared_stand (units_of docs) rule r.files low_part free (common_forms r) spots_same refl OfAny can.common.carried shared_refs

  abbrev IsMade : Option (List ℕ) → Type 0
  IsMade common = CommonMade r common

  made_common : IsMade (common_under scope r)
  made_common = (made.are_made scope name contents docs prunes bytes written).common

  pub common_stands : common_under scope r ≡ Some (common_bytes r) → (common : Option (Common Place)) (number : ℕ) (raw : List RawUnit) (said : List (DwUnit Place))
      → SaysUnits common number (common_bytes r) raw said → AllMayStand IsFormOfCommon raw
  common_stands there common number raw said says =
      let has = subst IsMade there made_common in
      let same = common_raw r can (common_bytes r) has.0 has.1 common number raw said says in
      subst (AllMayStand IsFormOfCommon) (sym same) (stored_stand IsFormOfCommon (places r) (tables_of [] (common_fitted r)) (common_fitted r) common_so)

  -- ---- a file

  none_texts : common_units r.move ≡ [] → length (texts_bytes (texts r)) < 2 ^ 32
  unfolding texts_bytes units_with
  none_texts none = subst (λ (us : List (DwUnit EntryName)). length (texts_bytes (texts_of [] us)) < 2 ^ 32) (sym none) (omega arith)

  -- the texts that a file shares are those of the common file
  shared_few : length (texts_bytes (texts r)) < 2 ^ 32 → (b : Bool) → length (texts_bytes (shared_if b (texts r))) < 2 ^ 32
  unfolding texts_bytes
  shared_few few true = few
  shared_few few false = omega arith

  few_by : (o : Option (List ℕ)) → IsMade o → length (texts_bytes (texts r)) < 2 ^ 32
  few_by None none = none_texts none
  few_by (Some common) has = subst (λ (w : Sources). length w.strs < 2 ^ 32) has.0.sources has.0.small

  none_low : common_units r.move ≡ [] → (k : EntryName) → In k (all_entry_keys (common_fitted r)) → ⊥
  unfolding all_entry_keys
  none_low none k is = subst (In k) (common_entries r ∙ ap (λ (us : List (DwUnit EntryName)). all_entry_keys us) none) is

  low_by : (o : Option (List ℕ)) → IsMade o → (k : EntryName) → In k (all_entry_keys (common_fitted r)) → (places r).place k < 2 ^ 32
  low_by None none k is = absurd (none_low none k is)
  low_by (Some common) has k is = common_low r can has.1 k is

  module _ (file : ℕ) (there : In file r.files) (changed : changes r.move r.units file ≡ true) where
    abbrev AsBeside : Type 0
    AsBeside = StandAs (IsFormOfBack true) (file_after name r file)

    abbrev AsAlone : Type 0
    AsAlone = StandAs (IsFormOfBack false) (file_after name r file)

    few : (b : Bool) → length (texts_bytes (shared_if b (texts r))) < 2 ^ 32
    few = shared_few (few_by (common_under scope r) made_common)

    small : (k : EntryName) → In k (all_entry_keys (common_fitted r)) → (places r).place k < 2 ^ 32
    small = low_by (common_under scope r) made_common

    pub file_stands : AsBeside
    file_stands =
        let all = made.are_made scope name contents docs prunes bytes written in
        stands_beside Made r can (made_stand r can) whole.old low few small file there changed (λ n part nth home. low_part n part nth) (λ n part nth home. free n part nth) (file_after name r file)
        (all.file file there changed) (all.file_fits file there changed)

    -- one that imports nothing from the common file
    pub own_stands : imports_common r.move r.units file ≡ false → AsAlone
    own_stands imports =
        let all = made.are_made scope name contents docs prunes bytes written in
        stands_alone Made r can (made_stand r can) whole.old low few small file there changed (λ n part nth home. low_part n part nth) (λ n part nth home. free n part nth) (file_after name r file)
        (all.file file there changed) (all.file_fits file there changed) imports
        (own_closed scope docs rule (all_placed 0 docs (λ n doc nth. (was_read docs (stored_of contents prunes) are n doc nth).placed)) alike choice file imports)

pub stand_so : StandLaw
stand_so scope name contents docs prunes bytes written = record {
  common = common_stands scope name contents docs prunes bytes written;
  file = file_stands scope name contents docs prunes bytes written;
  alone = own_stands scope name contents docs prunes bytes written;
}
