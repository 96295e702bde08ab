-- What is written of files that nothing refuses is stored as its units are.
use Rattle.std.proofs.Common.{◌≡◌, ℕ, suc, ◌+◌, ◌<◌, ◌≤◌, ◌^◌, Bool, true, false, List, [], length, Option, refl, sym, ap, subst, arith}
use Rattle.dwz_def_reading.specs.Lists.{Each, In, NoneTwice}
use Rattle.dwz_def_reading.proofs.Members.{each_more}
use Rattle.dwz_def_reading.specs.Documents.{DwUnit}
use Rattle.dwz_def_reading.specs.Entries.{Mode}
use Rattle.dwz_def_reading.specs.Files.{debug_abbrev, debug_info, sources_of}
use Rattle.dwz_def_reading.specs.Meanings.{Common, Sources}
use Rattle.dwz_def_reading.specs.Places.{Place}
use Rattle.dwz_def_reading.specs.Pruning.{new_number}
use Rattle.dwz_def_reading.specs.ElfLayout.{too_large}
use Rattle.dwz_def_reading.specs.Units.{RawUnit, SpellsUnits}
use Rattle.dwz_def_tops.specs.Shown.{units_keys}
use Rattle.dwz_def_tops.specs.Spots.{EntryName, same_spot}
use Rattle.dwz_def_images.specs.Units.{changes, common_units, out_units}
use Rattle.dwz_def_encoding.specs.Carried.{OfAny, OfFile}
use Rattle.dwz_def_encoding.specs.Fitting.{AreWritable, IsRoomy, UnitHasRoom, depth, mode_for}
use Rattle.dwz_def_encoding.specs.Meant.{Tells, UnitsSay, all_entry_keys}
use Rattle.dwz_def_encoding.specs.Placing.{FitsSections, UnitsStand, lines_bytes, sections, texts_bytes}
use Rattle.dwz_def_encoding.specs.Pruned.{with_texts}
use Rattle.dwz_def_encoding.specs.Sound.{SoundUnit}
use Rattle.dwz_def_encoding.specs.Writing.{Numbering, tables_of}
use Rattle.dwz_def_encoding.proofs.Chosen.{fit_units_all, fit_units_fixed, units_good}
use Rattle.dwz_def_encoding.proofs.Places.{numbering_stands}
use Rattle.dwz_def_encoding.proofs.PoolLemmas.{paths_texts, units_paths, units_texts}
use Rattle.dwz_def_encoding.proofs.PrunedUnits.{units_pruned}
use Rattle.dwz_def_encoding.proofs.RawUnits.{raw_units}
use Rattle.dwz_def_encoding.proofs.Renumbered.{renumbered_room}
use Rattle.dwz_def_encoding.proofs.Rising.{entries_are_keys, place_within}
use Rattle.dwz_def_encoding.proofs.SameLemmas.{spots_same}
use Rattle.dwz_def_encoding.proofs.UnitsSpelled.{units_len}
use Rattle.dwz_def_encoding.proofs.WriteLaws.{fits, is_roomy, spelled}
use Rattle.dwz_def_readback.specs.Back.{CanWrite, CanWriteBy, SaysUnits}
use Rattle.dwz_def_readback.specs.Files.{CommonFile, HasCommon, HasSectionsBy, Made, OffsetsIfBy, Run, common_fitted, common_fitted_by, common_forms, common_out, common_sections}
use Rattle.dwz_def_readback.specs.Files.{file_forms_by, file_out, files_out, fitted, fitted_by, fitted_if_by, formed_by, paths, places, places_by, sections_by, shared_by, sources, strs_if_by}
use Rattle.dwz_def_readback.specs.Files.{tells_by, tells_common, texts, uses_by}
use Rattle.dwz_def_readback.proofs.NameLemmas.{common_names, common_there, file_once, file_there, fitted_entries_by, fitted_fixed, fitted_names_by, not_common, run_once}
use Rattle.dwz_def_readback.proofs.OverSays.{FilesStand}
use Rattle.dwz_def_readback.proofs.PathLemmas.{paths_carried}
use Rattle.dwz_law_cross.proofs.OneRaw.{IsOfAll, one_raw, with_room}

-- ---- units that can be written are stored in one way

module _ {K : Type 0} (n : Numbering K) (t : Tells K) (units : List (DwUnit K)) (all : t.all ≡ all_entry_keys units) (w : AreWritable n t.common units) (says : UnitsSay t units) where
  roomy : (m : Mode) → IsRoomy units (with_room m (mode_for units))
  roomy m =
      let own = is_roomy units in
      record {
        whole = refl;
        partial = refl;
        forms = refl;
        entries = (let fit = own.entries in omega (arith, fit));
        depth = each_more (λ u. suc (depth u.below) ≤ (mode_for units).depth) (λ u. suc (depth u.below) ≤ m.depth + (mode_for units).depth) units (λ u low. omega (arith, low)) own.depth;
      }

  pub stored_so : (common : Option (Common Place)) (number : ℕ) (bytes : List ℕ) (raw : List RawUnit) (said : List (DwUnit Place)) → SaysUnits common number bytes raw said
      → debug_info bytes ≡ (sections n units).info
      → debug_abbrev bytes ≡ (sections n units).abbrevs → raw ≡ raw_units n (tables_of [] units) units
  stored_so common number bytes raw said h info abbrevs =
      let m = h.mode in
      let of_all : IsOfAll m = record { whole = h.whole; partial = h.partial; forms = h.forms } in
      let read = subst (λ (x : List ℕ). SpellsUnits (sections n units).abbrevs m 0 raw 0 x) info (subst (λ (x : List ℕ). SpellsUnits x m 0 raw 0 (debug_info bytes)) abbrevs h.spelled) in
      one_raw (sections n units).abbrevs m (mode_for units) of_all raw (raw_units n (tables_of [] units) units) (sections n units).info read
      (spelled n t.common units (with_room m (mode_for units)) w (fits n t.common units t all refl w says) (roomy m))

-- ---- the files of a run

module _ (r : Run) (can : CanWrite r) where
  abbrev n : Numbering EntryName
  n = places r

  common_stands : UnitsStand n (common_fitted r) 0
  unfolding common_fitted
  common_stands = numbering_stands same_spot spots_same (files_out r) (run_once r can.apart) (common_out r) (common_there r) (fit_units_fixed (common_forms r) (common_units r.move))

  file_stands : (file : ℕ) → In file r.files → UnitsStand n (fitted r file) 0
  file_stands file there = numbering_stands same_spot spots_same (files_out r) (run_once r can.apart) (file_out r file) (file_there r file there) (fitted_fixed r file)

  common_all : all_entry_keys (common_fitted r) ≡ all_entry_keys (common_units r.move)
  unfolding common_fitted
  common_all = fit_units_all (common_forms r) (common_units r.move)

  few_places : (units : List (DwUnit EntryName)) → UnitsStand n units 0 → FitsSections (sections n units) → (k : EntryName) → In k (units_keys units) → n.place k < 2 ^ 32
  unfolding sections
  few_places units stands small k is =
      let within = place_within n units stands k is in
      let len = units_len n (tables_of [] units) units in
      let few = small.0 in
      omega (arith, within, len, few)

  -- ---- the common file

  common_good : length (texts_bytes (texts r)) < 2 ^ 32 → length (lines_bytes (paths r)) < too_large → Each SoundUnit (common_fitted r) × UnitsSay (tells_common r) (common_fitted r)
  unfolding common_fitted
  common_good small few =
      let c = can.common in
      units_good (common_forms r) spots_same OfAny (tells_common r) (common_units r.move) common_all
      (subst NoneTwice (common_names r) (file_once (files_out r) (run_once r can.apart) (common_out r) (common_there r))) c.carried c.closed (λ k is. absurd is) (
        small,
        record {
          strs = refl;
          texts = units_texts [] (common_units r.move);
          line = refl;
          few = few;
          are_texts = paths_texts (common_units r.move) (paths_carried OfAny (common_forms r).origin (common_units r.move) c.carried);
          paths = units_paths [] (common_units r.move);
        },
      ) c.over.bases c.over.operands

  common_room : Each (UnitHasRoom n) (common_fitted r)
  unfolding common_fitted
  common_room = can.common.over.room

  pub common_raw : (out : List ℕ) → HasCommon out (common_sections r) (texts r) (paths r) → FitsSections (common_sections r) → (common : Option (Common Place)) (number : ℕ) (raw : List RawUnit)
      (said : List (DwUnit Place)) → SaysUnits common number out raw said → raw ≡ raw_units n (tables_of [] (common_fitted r)) (common_fitted r)
  common_raw out has small common number raw said says =
      let good = common_good (subst (λ (w : Sources). length w.strs < 2 ^ 32) has.sources has.small) (subst (λ (w : Sources). length w.line < too_large) has.sources has.few) in
      stored_so n (tells_common r) (common_fitted r) refl
      (record { sound = good.0; stands = common_stands; room = common_room; fits = small; common_fits = λ k is. absurd is })
      good.1 common number out raw said says has.info has.abbrevs

  pub common_low : FitsSections (common_sections r) → (k : EntryName) → In k (all_entry_keys (common_fitted r)) → n.place k < 2 ^ 32
  common_low small k is = few_places (common_fitted r) common_stands small k (entries_are_keys (common_fitted r) k is)

  -- each file stands where its names are counted
  pub made_stand : FilesStand Made r
  made_stand = record {
    stands = file_stands;
    once = λ file there. file_once (files_out r) (run_once r can.apart) (file_out r file) (file_there r file there);
    apart = λ file there. not_common r can.apart file there;
  }

-- ---- a file, whose common file is made or stands

module _ (cf : CommonFile) (r : Run) (can : CanWriteBy cf r) (fs : FilesStand cf r) where
  abbrev places_are : Numbering EntryName
  places_are = places_by cf r

  formed_good : (file : ℕ) → In file r.files → changes r.move r.units file ≡ true → length (texts_bytes (shared_by cf r file)) < 2 ^ 32
      → Each SoundUnit (formed_by cf r file) × UnitsSay (tells_by cf r file) (formed_by cf r file)
  unfolding formed_by
  formed_good file there changed few =
      let names = fitted_names_by cf r file in
      let c = can.file file there changed in
      units_good (file_forms_by cf r file) spots_same (OfFile (sources r file)) (tells_by cf r file) (out_units r.move r.units file) (fitted_entries_by cf r file)
      (subst NoneTwice names (fs.once file there)) c.carried c.closed
      (λ k common own. fs.apart file there k (entries_are_keys (common_fitted_by cf r) k common) (subst (In k) (sym names) own)) (
        can.few file there,
        λ s a is. record {
          strs = ap (λ (x : Sources). x.strs) (sym is);
          line_strs = ap (λ (x : Sources). x.line_strs) (sym is);
          offsets = ap (λ (x : Sources). x.offsets) (sym is);
          line = ap (λ (x : Sources). x.line) (sym is);
          slots = ap (λ (x : Sources). x.offsets) (sym is);
        },
        record { strs = refl; few = few },
      ) c.over.bases c.over.operands

  file_good : (file : ℕ) → In file r.files → changes r.move r.units file ≡ true → length (texts_bytes (shared_by cf r file)) < 2 ^ 32 → (offsets : List ℕ)
      → OffsetsIfBy (r.input.prunes file) cf r file offsets
      → Each SoundUnit (fitted_by cf r file) × UnitsSay (with_texts (tells_by cf r file) (strs_if_by (r.input.prunes file) cf r file) offsets) (fitted_by cf r file)
  unfolding fitted_by uses_by
  file_good file there changed few offsets new = by (r.input.prunes file) refl new where
    good : Each SoundUnit (formed_by cf r file) × UnitsSay (tells_by cf r file) (formed_by cf r file)
    good = formed_good file there changed few

    by : (b : Bool) → r.input.prunes file ≡ b → OffsetsIfBy b cf r file offsets
        → Each SoundUnit (fitted_if_by b cf r file) × UnitsSay (with_texts (tells_by cf r file) (strs_if_by b cf r file) offsets) (fitted_if_by b cf r file)
    by true e new = units_pruned (tells_by cf r file) (formed_by cf r file) offsets (can.few file there) new (can.stay file there changed e) good.0 good.1
    by false e new = (good.0, subst (λ (w : List ℕ). UnitsSay (with_texts (tells_by cf r file) (sources r file).strs w) (formed_by cf r file)) (sym new) good.1)

  file_room : (file : ℕ) → In file r.files → changes r.move r.units file ≡ true → Each (UnitHasRoom places_are) (fitted_by cf r file)
  unfolding fitted_by formed_by
  file_room file there changed = by (r.input.prunes file) where
    by : (b : Bool) → Each (UnitHasRoom places_are) (fitted_if_by b cf r file)
    by true = renumbered_room (new_number (sources r file).strs (uses_by cf r file)) places_are (formed_by cf r file) (can.file file there changed).over.room
    by false = (can.file file there changed).over.room

  -- its texts are few, and places of the common file are small
  pub file_raw : (file : ℕ) → In file r.files → changes r.move r.units file ≡ true → length (texts_bytes (shared_by cf r file)) < 2 ^ 32
      → ((k : EntryName) → In k (all_entry_keys (common_fitted_by cf r)) → places_are.place k < 2 ^ 32) → (out : List ℕ) → HasSectionsBy cf r file out → FitsSections (sections_by cf r file)
      → (common : Option (Common Place)) (number : ℕ) (raw : List RawUnit) (said : List (DwUnit Place))
      → SaysUnits common number out raw said → raw ≡ raw_units places_are (tables_of [] (fitted_by cf r file)) (fitted_by cf r file)
  file_raw file there changed few low out has small common number raw said says =
      let good = file_good file there changed few (sources_of out).offsets has.offsets in
      stored_so places_are (with_texts (tells_by cf r file) (strs_if_by (r.input.prunes file) cf r file) (sources_of out).offsets) (fitted_by cf r file) refl
      (record { sound = good.0; stands = fs.stands file there; room = file_room file there changed; fits = small; common_fits = low }) good.1 common number out raw said says has.info has.abbrevs
