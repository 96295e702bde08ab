-- The entries of what is written of a file may stand as they do, whether its common file is made or stands.
use Rattle.std.proofs.Common.{◌≡◌, ℕ, suc, ◌<◌, ◌≤◌, ◌^◌, Bool, true, false, List, [], length, Option, sym, ap, subst, arith}
use Rattle.dwz_def_reading.specs.Lists.{Each, In, Nth}
use Rattle.dwz_def_reading.proofs.Members.{nth_in}
use Rattle.dwz_def_reading.specs.Documents.{Doc, DwUnit}
use Rattle.dwz_def_reading.specs.Entries.{given}
use Rattle.dwz_def_reading.specs.Files.{around_of, debug_abbrev, debug_info, sources_of}
use Rattle.dwz_def_reading.specs.Meanings.{Common}
use Rattle.dwz_def_reading.specs.Places.{Place}
use Rattle.dwz_def_reading.specs.Pruning.{new_number}
use Rattle.dwz_def_reading.specs.Units.{RawUnit}
use Rattle.dwz_def_tops.specs.Seen.{Closed, Named, Seen, all_seen}
use Rattle.dwz_def_tops.specs.Shown.{units_keys}
use Rattle.dwz_def_tops.specs.Spots.{EntryName, FileUnit, Top, tops_of, units_of}
use Rattle.dwz_def_tops.proofs.ShownLemmas.{ref_key}
use Rattle.dwz_def_images.specs.Homes.{Local}
use Rattle.dwz_def_images.specs.Plan.{PartialUnit}
use Rattle.dwz_def_images.specs.After.{AreOld}
use Rattle.dwz_def_images.specs.Units.{changes, out_units, partial_unit}
use Rattle.dwz_def_encoding.specs.Bases.{bases_in}
use Rattle.dwz_def_encoding.specs.Carried.{CarriedUnit, From, OfFile}
use Rattle.dwz_def_encoding.specs.Fitting.{EachAttr, depth}
use Rattle.dwz_def_encoding.specs.Meant.{all_entry_keys}
use Rattle.dwz_def_encoding.specs.Placing.{FitsSections, texts_bytes}
use Rattle.dwz_def_encoding.specs.Writing.{tables_of}
use Rattle.dwz_def_encoding.proofs.SameLemmas.{spots_same}
use Rattle.dwz_def_readback.specs.AllFiles.{AreRead}
use Rattle.dwz_def_readback.specs.Back.{CanWriteBy, SaysUnits, WasReadFrom}
use Rattle.dwz_def_readback.specs.Files.{CommonFile, HasSectionsBy, Run, Stored, common_fitted_by, file_forms_by, fitted_by, fitted_if_by, formed_by, imports_common, places_by, sections_by, shared_by, shared_if}
use Rattle.dwz_def_readback.specs.Files.{sources, texts_by, uses_by}
use Rattle.dwz_def_readback.proofs.AllLemmas.{files_carried}
use Rattle.dwz_def_readback.proofs.OverSays.{FilesStand}
use Rattle.dwz_def_readback.proofs.ReadPlaces.{read_from}
use Rattle.dwz_law_cross.specs.ReadLaws.{AllMayStand, IsFormOfBack}
use Rattle.dwz_law_cross.specs.StandLaws.{StandAs}
use Rattle.dwz_law_cross.proofs.ChosenForms.{IsUnbound}
use Rattle.dwz_law_cross.proofs.Depths.{kept_deep, units_deep, units_read}
use Rattle.dwz_law_cross.proofs.StoredForms.{UnitStandsSo, renumbered_stand, stored_stand}
use Rattle.dwz_law_cross.proofs.WrittenForms.{own_stand}
use Rattle.dwz_law_cross.proofs.WrittenRaw.{file_raw}

-- ---- files that were read

module _ (docs : List (Doc ℕ)) (input : Stored) (are : AreRead input docs) where
  pub was_read : (file : ℕ) (doc : Doc ℕ) → Nth 0 docs file doc → WasReadFrom (sources_of (input.bytes file)) doc.units
  was_read file doc nth = (let o = are file doc nth in read_from o.limits (input.bytes file) (input.raw file) doc o.reads o.are_bytes)

  -- their units are not too deep
  pub read_deep : (i : ℕ) (u : FileUnit EntryName) → Nth 0 (units_of docs) i u → suc (depth u.unit.below) ≤ 256
  read_deep i u nth =
      units_deep 256 0 0 0 docs (λ file doc at.
      let o = are file doc at in
      units_read (debug_abbrev (input.bytes file)) (given o.limits.entries) (around_of (input.bytes file) (input.raw file)) (input.raw file) doc.units 0 0 (debug_info (input.bytes file))
      o.reads.spelled o.reads.means) u
      (nth_in 0 (units_of docs) i u nth)

  abbrev of_file : ℕ → From
  of_file file = OfFile (sources_of (input.bytes file))

  -- the file of a top was read so
  pub top_read : (t : Top) → In t (tops_of (units_of docs)) → (from : From) × ((i : ℕ) (u : FileUnit EntryName) → Nth 0 (units_of docs) i u → u.file ≡ t.file → CarriedUnit from (bases_in u.unit) u.unit)
  top_read t there = (
    of_file t.file,
    (λ i u nth same. subst (λ (k : ℕ). CarriedUnit (of_file k) (bases_in u.unit) u.unit) same
        (files_carried of_file 0 0 0 docs (λ file doc at. (was_read file doc at).carried) u (nth_in 0 (units_of docs) i u nth))),
  )

-- ---- a file of which something moves

-- units stand so with new numbers of texts too
fitted_stand : (cf : CommonFile) (r : Run) (file : ℕ) (IsForm : ℕ → Bool → ℕ → Type 0) → Each (UnitStandsSo IsForm) (formed_by cf r file) → Each (UnitStandsSo IsForm) (fitted_by cf r file)
unfolding fitted_by
fitted_stand cf r file IsForm formed = by (r.input.prunes file) where
  by : (b : Bool) → Each (UnitStandsSo IsForm) (fitted_if_by b cf r file)
  by true = renumbered_stand (new_number (sources r file).strs (uses_by cf r file)) IsForm (formed_by cf r file) formed
  by false = formed

module _ (cf : CommonFile) (r : Run) (can : CanWriteBy cf r) (stand : FilesStand cf r) (old : AreOld r.units)
    (low : (i : ℕ) (u : FileUnit EntryName) → Nth 0 r.units i u → suc (depth u.unit.below) ≤ 256)
    (few : (b : Bool) → length (texts_bytes (shared_if b (texts_by cf r))) < 2 ^ 32) (small : (k : EntryName) → In k (all_entry_keys (common_fitted_by cf r)) → (places_by cf r).place k < 2 ^ 32)
    (file : ℕ)
    (there : In file r.files) (changed : changes r.move r.units file ≡ true)
    (deep : (n : ℕ) (part : PartialUnit) → Nth 0 r.move.parts n part → part.home ≡ Local file → suc (depth (partial_unit r.move n).below) ≤ 256)
    (free : (n : ℕ) (part : PartialUnit) → Nth 0 r.move.parts n part → part.home ≡ Local file → EachAttr IsUnbound (partial_unit r.move n).below)
    (out : List ℕ) (has : HasSectionsBy cf r file out) (fits : FitsSections (sections_by cf r file)) where
  abbrev outs : List (DwUnit EntryName)
  outs = out_units r.move r.units file

  module _ (sup : Bool) (none : sup ≡ false → shared_by cf r file ≡ [])
      (refs : sup ≡ false → (e : Seen EntryName) (a : Named EntryName) (k : EntryName) → In e (all_seen outs) → In a e.attrs → In k a.value.refs → In k (units_keys outs)) where
    formed_so : Each (UnitStandsSo (IsFormOfBack sup)) (formed_by cf r file)
    unfolding formed_by
    formed_so =
        own_stand r.units r.move file deep free sup old (kept_deep r.units r.move 256 low (omega arith)) (file_forms_by cf r file) spots_same (OfFile (sources r file))
        (can.file file there changed).carried none refs

    stands_so : (common : Option (Common Place)) (number : ℕ) (raw : List RawUnit) (said : List (DwUnit Place)) → SaysUnits common number out raw said → AllMayStand (IsFormOfBack sup) raw
    stands_so common number raw said says =
        let same = file_raw cf r can stand file there changed (few (imports_common r.move r.units file)) small out has fits common number raw said says in
        subst (AllMayStand (IsFormOfBack sup)) (sym same)
        (stored_stand (IsFormOfBack sup) (places_by cf r) (tables_of [] (fitted_by cf r file)) (fitted_by cf r file) (fitted_stand cf r file (IsFormOfBack sup) formed_so))

  -- beside a common file
  pub stands_beside : StandAs (IsFormOfBack true) out
  stands_beside = stands_so true (λ e. absurd (let z : true ≡ false = e in cc)) (λ e. absurd (let z : true ≡ false = e in cc))

  -- and without one, where it imports nothing from it and its references name entries of it
  pub stands_alone : imports_common r.move r.units file ≡ false → Closed outs → StandAs (IsFormOfBack false) out
  stands_alone imports closed =
      stands_so false (λ e. ap (λ (b : Bool). shared_if b (texts_by cf r)) imports) (λ e d a k d_in a_in k_in. ref_key outs closed d d_in a a_in k k_in)
