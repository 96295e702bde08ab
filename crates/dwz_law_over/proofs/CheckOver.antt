-- What was read of a file, and what is read back of it over a finished common file, mean the same beside that.
use Rattle.std.proofs.Common.{◌≡◌, ◌≢◌, ◌⊎◌, ℕ, false, List, ◌++◌, map, Some, None, sym, ap, subst, ◌∙◌, inl, inr, arith}
use Rattle.dwz_def_reading.specs.Documents.{Doc, DwUnit, Partial, kind_map, unit_map}
use Rattle.dwz_def_reading.specs.Finished.{given_by}
use Rattle.dwz_def_reading.specs.Lists.{Each, In, Nth}
use Rattle.dwz_def_reading.specs.Places.{Place, at_file}
use Rattle.dwz_def_reading.specs.Units.{RawUnit}
use Rattle.dwz_def_reading.specs.Values.{AreBytes}
use Rattle.dwz_def_reading.proofs.ListFacts.{in_cases}
use Rattle.dwz_def_reading.proofs.Members.{each_of, in_map_from}
use Rattle.dwz_def_tops.specs.Shown.{OnePlace, UnitsShown, units_keys}
use Rattle.dwz_def_tops.specs.Spots.{EntryName, file_numbers}
use Rattle.dwz_def_tops.proofs.ShownLemmas.{map_shown, root_key, shown_from, shown_then}
use Rattle.dwz_def_tops.proofs.UnitKeys.{keys_joined}
use Rattle.dwz_def_images.specs.Units.{changes, common_units, out_units}
use Rattle.dwz_def_encoding.specs.Meant.{placed_units}
use Rattle.dwz_def_encoding.specs.Writing.{Numbering}
use Rattle.dwz_def_readback.specs.Back.{CanWriteBy, SaysUnits}
use Rattle.dwz_def_readback.specs.Files.{Run, fitted_by, places_by}
use Rattle.dwz_def_readback.proofs.NameLemmas.{fitted_names_by}
use Rattle.dwz_def_readback.proofs.SameLemmas.{file_shown_by, numbers_in}
use Rattle.dwz_def_readback.proofs.StillPlaces.{nth_number}
use Rattle.dwz_def_taken.specs.Beside.{offsets_doc, reused_of}
use Rattle.dwz_def_taken.specs.Laws.{ArePlacedOver}
use Rattle.dwz_def_taken.specs.Over.{standing_unit}
use Rattle.dwz_def_taken.specs.Takes.{IsFixed}
use Rattle.dwz_def_taken.proofs.CommonUnits.{common_stands}
use Rattle.dwz_def_over.specs.Over.{AreOverFiles, OverFiles, run_over, stands}
use Rattle.dwz_def_over.specs.Written.{CanBeWrittenOver, IsAnew, ReadBackOver, given_over}
use Rattle.dwz_def_over.proofs.AllOver.{can}
use Rattle.dwz_def_over.proofs.CommonOver.{common_shown_at}
use Rattle.dwz_def_over.proofs.PlacedOver.{placed_over}
use Rattle.dwz_def_cross.specs.CrossSame.{CrossSame}
use Rattle.dwz_law_cross.specs.CheckLaws.{SaySame}
use Rattle.dwz_law_cross.specs.PairLaws.{with_common}
use Rattle.dwz_law_cross.specs.ReadLaws.{doc_in}
use Rattle.dwz_law_cross.proofs.CheckLemmas.{given_moved, moved_to, own_moved, shared_moved, still_says}
use Rattle.dwz_law_cross.proofs.RenumberLemmas.{placed_then, says_renumbered, units_then}
use Rattle.dwz_law_over.specs.CheckOverLaws.{CheckOverLaw, StayOverLaw}
use Rattle.dwz_law_over.specs.PairOverLaws.{AreAtOver}
use Rattle.dwz_law_over.proofs.MeetOver.{meet_over}
use Rattle.dwz_law_over.proofs.OverPlaces.{all_one, own_among, shared_among}
use Rattle.dwz_law_over.proofs.OverRefs.{over_refs}

module _ (name : List ℕ) (o : OverFiles) (are : Each AreBytes o.contents) (w : CanBeWrittenOver name o) (output : ℕ → List ℕ) (back : ReadBackOver o output) (file : ℕ) (doc : Doc ℕ)
    (nth : Nth 0 o.said.docs file doc) (new common : ℕ) (new_apart : new ≢ common) where
  abbrev is : AreOverFiles o
  is = w.read

  abbrev docs : List (Doc ℕ)
  docs = o.said.docs

  abbrev commons : Doc ℕ
  commons = offsets_doc o.said.common

  abbrev r : Run
  r = run_over o

  abbrev n : Numbering EntryName
  n = places_by (stands o) (run_over o)

  abbrev g : EntryName → Place
  g = back.place

  abbrev fx : IsFixed (reused_of o.said.docs (offsets_doc o.said.common)) o.fixed
  fx = is.taken.lists

  p : ArePlacedOver docs commons
  p = placed_over o are is

  ready : CanWriteBy (stands o) r
  ready = can name o are w

  there : In file (file_numbers 0 docs)
  there = nth_number 0 docs file doc nth

  apart : file ≢ r.common
  apart e = (let less = numbers_in 0 docs file there in omega (arith, e, less))

  abbrev outs : List (DwUnit EntryName)
  outs = out_units (run_over o).move (run_over o).units file

  -- ---- with those numbers

  abbrev to : Place → Place
  to = moved_to file new common

  abbrev at : EntryName → Place
  at = λ k. moved_to file new common (back.place k)

  abbrev shared : List (DwUnit Place)
  shared = map (unit_map (moved_to file new common)) o.said.common.units

  pub common_says : SaysUnits None common o.common o.raw (map (unit_map (moved_to file new common)) o.said.common.units)
  common_says = says_renumbered to None None r.common common o.common o.raw o.said.common.units (shared_moved file r.common new common apart) tt back.back.common

  shared_shown : UnitsShown at (common_units r.move) shared
  shared_shown = shown_then g to (common_units r.move) o.said.common.units shared (common_shown_at o are is g back.placing) (map_shown to o.said.common.units)

  shared_place : (k : EntryName) → In k (units_keys (common_units r.move)) → at_file r.common (n.place k) ≡ g k
  shared_place k h = back.placing.common k (subst (In k) (sym ready.common.names) h)

  shared_at : (k : EntryName) → In k (units_keys (common_units r.move)) → at k ≡ at_file common (n.place k)
  shared_at k h = ap to (sym (shared_place k h)) ∙ sym (shared_moved file r.common new common apart (n.place k))

  shared_apart : (old : ℕ) → old ≢ common → Each (λ u. u.root.at.file ≢ old) shared
  shared_apart old old_apart = each_of (λ (u : DwUnit Place). u.root.at.file ≢ old) shared (λ u i e. (
      let x = shown_from at (common_units r.move) shared shared_shown u i in
      let number : u.root.at.file ≡ common = ap (λ (q : Place). q.file) (x.shown.root.at ∙ shared_at x.unit.root.at (root_key (common_units r.move) x.unit x.there)) in
      old_apart (sym e ∙ number)))

  pub shared_partial : Each (λ u. u.kind ≡ Partial) (map (unit_map (moved_to file new common)) o.said.common.units)
  shared_partial = each_of (λ (u : DwUnit Place). u.kind ≡ Partial) shared (λ u i. (
      let x = shown_from at (common_units r.move) shared shared_shown u i in
      let s = in_map_from (standing_unit (reused_of docs commons)) x.unit (reused_of docs commons).commons (subst (In x.unit) (common_stands docs commons o.fixed p fx) x.there) in
      x.shown.kind ∙ ap (λ (y : DwUnit EntryName). kind_map at y.kind) (sym s.is)))

  -- ---- the units of the file after

  -- beside the common file the old file says the document, and these bytes say the same
  abbrev pub Said : ℕ → List ℕ → Type 0
  Said old bytes =
      SaySame (Some (given_by common o.common o.raw)) (map (unit_map (moved_to file new common)) o.said.common.units) old new doc ((run_over o).input.bytes file) bytes

  module _ (own : List (DwUnit Place)) (own_shown : UnitsShown at outs own) (own_place : (k : EntryName) → In k (units_keys outs) → (x : ℕ) × (g k ≡ at_file file x)) where
    own_at : (k : EntryName) (h : In k (units_keys outs)) → at k ≡ at_file new (own_place k h).0
    own_at k h = ap to (own_place k h).1 ∙ sym (own_moved file r.common new common apart (own_place k h).0)

    which : (k : EntryName) → In k (units_keys (outs ++ common_units r.move)) → In k (units_keys outs) ⊎ In k (units_keys (common_units r.move))
    which k h = in_cases k (units_keys outs) (units_keys (common_units r.move)) (subst (In k) (keys_joined outs (common_units r.move)) h)

    one : OnePlace at (outs ++ common_units r.move)
    one x y a b e = elim (which x a) [
      | inl i ↦ elim (which y b) [
        | inl j ↦ all_one name o are w g back.placing back.old x y (own_among name o are w file there x i) (own_among name o are w file there y j)
            ((own_place x i).1 ∙ ap (at_file file) (ap (λ (q : Place). q.at) (sym (own_at x i) ∙ e ∙ own_at y j)) ∙ sym (own_place y j).1)
        | inr j ↦ absurd (new_apart (ap (λ (q : Place). q.file) (sym (own_at x i) ∙ e ∙ shared_at y j)))
      ]
      | inr i ↦ elim (which y b) [
        | inl j ↦ absurd (new_apart (ap (λ (q : Place). q.file) (sym (own_at y j) ∙ sym e ∙ shared_at x i)))
        | inr j ↦ all_one name o are w g back.placing back.old x y (shared_among name o are w x i) (shared_among name o are w y j)
            (sym (shared_place x i) ∙ ap (at_file r.common) (ap (λ (q : Place). q.at) (sym (shared_at x i) ∙ e ∙ shared_at y j)) ∙ shared_place y j)
      ]
    ]

    stands_at : AreAtOver docs commons o.fixed file at own shared
    stands_at = record { own_shown = own_shown; common_shown = shared_shown; one = one; closed = over_refs o are is file }

    met : (old : ℕ) → old ≢ common → CrossSame (with_common (doc_in old doc).units shared) (with_common own shared)
    met old old_apart = meet_over docs commons o.fixed p fx file doc nth at own shared stands_at old (shared_apart old old_apart)

    say : (old : ℕ) → old ≢ common → (bytes : List ℕ) (raw : List RawUnit) → SaysUnits (Some (given_by common o.common o.raw)) new bytes raw own → Said old bytes
    say old old_apart bytes raw says =
        let still = back.back.still file doc nth in
        record {
          old_raw = still.raw;
          old_says = still_says file r.common old common apart (Some (given_over o)) (Some (given_by common o.common o.raw)) (given_moved file r.common old common apart o.common o.raw) (r.input.bytes file) doc still;
          new_raw = raw;
          new_units = own;
          new_says = says;
          same = met old old_apart;
        }

  -- written anew
  pub say_moved : (old : ℕ) → old ≢ common → IsAnew o file
      → SaySame (Some (given_by common o.common o.raw)) (map (unit_map (moved_to file new common)) o.said.common.units) old new doc ((run_over o).input.bytes file) (output file)
  say_moved old old_apart anew =
      let fitted = fitted_by (stands o) r file in
      let says = back.back.file file anew in
      let new_says = subst (λ (us : List (DwUnit Place)). SaysUnits (Some (given_by common o.common o.raw)) new (output file) says.raw us) (placed_then n g to fitted)
      (says_renumbered to (Some (given_over o)) (Some (given_by common o.common o.raw)) file new (output file) says.raw (placed_units n g fitted) (own_moved file r.common new common apart)
      (given_moved file r.common new common apart o.common o.raw) says.says) in
      say (placed_units n at fitted) (file_shown_by (stands o) r at file)
      (λ k h. (n.place k, sym (back.placing.written file anew.0 anew.1 k (subst (In k) (sym (fitted_names_by (stands o) r file)) h)))) old old_apart (output file) says.raw new_says

  -- as it was
  still_shown : changes r.move r.units file ≡ false → UnitsShown at outs (doc_in new doc).units
  still_shown stays =
      let still = map (unit_map (at_file file)) doc.units in
      subst (UnitsShown at outs) (units_then (at_file file) to (at_file new) (λ q. sym (own_moved file r.common new common apart q)) doc.units)
      (shown_then g to outs still (map (unit_map to) still) (back.old.shown file doc nth stays) (map_shown to still))

  still_place : changes r.move r.units file ≡ false → (k : EntryName) → In k (units_keys outs) → (x : ℕ) × (g k ≡ at_file file x)
  still_place stays k h = ((g k).at, (let e = back.old.file file there stays k h in λ i. record { file = e i; at = (g k).at }))

  pub still_same : (old : ℕ) → old ≢ common → changes (run_over o).move (run_over o).units file ≡ false
      → CrossSame (with_common (doc_in old doc).units (map (unit_map (moved_to file new common)) o.said.common.units))
      (with_common (doc_in new doc).units (map (unit_map (moved_to file new common)) o.said.common.units))
  still_same old old_apart stays = met (doc_in new doc).units (still_shown stays) (still_place stays) old old_apart

  pub say_still : (old : ℕ) → old ≢ common → changes (run_over o).move (run_over o).units file ≡ false
      → SaySame (Some (given_by common o.common o.raw)) (map (unit_map (moved_to file new common)) o.said.common.units) old new doc ((run_over o).input.bytes file)
      ((run_over o).input.bytes file)
  say_still old old_apart stays =
      let says = back.back.still file doc nth in
      say (doc_in new doc).units (still_shown stays) (still_place stays) old old_apart (r.input.bytes file) says.raw
      (still_says file r.common new common apart (Some (given_over o)) (Some (given_by common o.common o.raw)) (given_moved file r.common new common apart o.common o.raw) (r.input.bytes file) doc says)

pub check_over : CheckOverLaw
check_over name o are w output back file doc nth anew old new common old_apart new_apart = (
  o.raw,
  map (unit_map (moved_to file new common)) o.said.common.units,
  common_says name o are w output back file doc nth new common new_apart,
  shared_partial name o are w output back file doc nth new common new_apart,
  say_moved name o are w output back file doc nth new common new_apart old old_apart anew,
)

pub stay_over : StayOverLaw
stay_over name o are w output back file doc nth stays old new common old_apart new_apart = (
  o.raw,
  map (unit_map (moved_to file new common)) o.said.common.units,
  common_says name o are w output back file doc nth new common new_apart,
  shared_partial name o are w output back file doc nth new common new_apart,
  say_still name o are w output back file doc nth new common new_apart old old_apart stays,
)
