-- A file that imports nothing from a finished common file means after by itself what it meant.
use Rattle.std.proofs.Common.{◌≡◌, ℕ, false, List, [], map, refl, sym, ap, subst, ◌∙◌}
use Rattle.dwz_def_reading.specs.Documents.{Doc, DwUnit, unit_map}
use Rattle.dwz_def_reading.specs.Lists.{Each, In, Nth}
use Rattle.dwz_def_reading.specs.Places.{Place, at_file}
use Rattle.dwz_def_reading.specs.Values.{AreBytes}
use Rattle.dwz_def_reading.proofs.Members.{each_in, in_map_from, nth_in}
use Rattle.dwz_def_tops.specs.Seen.{IsPartial}
use Rattle.dwz_def_tops.specs.Shown.{OnePlace, UnitsShown, units_keys}
use Rattle.dwz_def_tops.specs.Spots.{EntryName, file_numbers, units_of}
use Rattle.dwz_def_tops.specs.UnitNames.{name_of_place}
use Rattle.dwz_def_tops.proofs.MainLemmas.{mains_map}
use Rattle.dwz_def_tops.proofs.ShownLemmas.{closed_shown, map_shown, shown_then}
use Rattle.dwz_def_images.specs.After.{ArePlaced}
use Rattle.dwz_def_images.specs.Units.{changes, out_units, units_of_file}
use Rattle.dwz_def_encoding.specs.Meant.{placed_units}
use Rattle.dwz_def_encoding.specs.Writing.{Numbering}
use Rattle.dwz_def_readback.specs.Files.{Run, fitted_by, imports_common, places_by}
use Rattle.dwz_def_readback.proofs.NameLemmas.{fitted_names_by}
use Rattle.dwz_def_readback.proofs.SameLemmas.{file_shown_by}
use Rattle.dwz_def_readback.proofs.StillPlaces.{nth_number}
use Rattle.dwz_def_taken.specs.Beside.{offsets_doc}
use Rattle.dwz_def_taken.specs.Laws.{ArePlacedOver}
use Rattle.dwz_def_over.specs.Over.{OverFiles, run_over, stands}
use Rattle.dwz_def_over.specs.Written.{CanBeWrittenOver, IsAnew, ReadBackOver}
use Rattle.dwz_def_over.proofs.PlacedOver.{placed_over}
use Rattle.dwz_def_cross.specs.CrossSame.{CrossSame}
use Rattle.dwz_law_cross.specs.PairLaws.{with_common}
use Rattle.dwz_law_cross.specs.ReadLaws.{doc_in}
use Rattle.dwz_law_cross.proofs.AloneLemmas.{no_more}
use Rattle.dwz_law_cross.proofs.MeetLemmas.{partial_was, units_moved}
use Rattle.dwz_law_cross.proofs.PairLemmas.{named_at}
use Rattle.dwz_law_cross.proofs.RenumberLemmas.{units_then}
use Rattle.dwz_law_over.proofs.OverAfter.{own_mains, own_once}
use Rattle.dwz_law_over.proofs.OverPairs.{over_same}
use Rattle.dwz_law_over.proofs.OverPlaces.{all_one, own_among}
use Rattle.dwz_law_over.proofs.OwnOver.{after_own, closed_own}

same_place : (p q : Place) → p.file ≡ q.file → p.at ≡ q.at → p ≡ q
same_place p q file at = λ i. record { file = file i; at = at i }

module _ (name : List ℕ) (o : OverFiles) (are : Each AreBytes o.contents) (w : CanBeWrittenOver name o) (output : ℕ → List ℕ) (back : ReadBackOver o output) (file : ℕ) (doc : Doc ℕ)
    (nth : Nth 0 o.said.docs file doc) (imports : imports_common (run_over o).move (run_over o).units file ≡ false) (old new : ℕ) where
  abbrev docs : List (Doc ℕ)
  docs = o.said.docs

  abbrev commons : Doc ℕ
  commons = offsets_doc o.said.common

  abbrev r : Run
  r = run_over o

  abbrev n : Numbering EntryName
  n = places_by (stands o) (run_over o)

  abbrev g : EntryName → Place
  g = back.place

  p : ArePlacedOver docs commons
  p = placed_over o are w.read

  abbrev outs : List (DwUnit EntryName)
  outs = out_units (run_over o).move (run_over o).units file

  there : In file (file_numbers 0 docs)
  there = nth_number 0 docs file doc nth

  was : ArePlaced doc.units
  was = each_in (λ (d : Doc ℕ). ArePlaced d.units) doc docs p.each (nth_in 0 docs file doc nth)

  abbrev olds : List (DwUnit Place)
  olds = (doc_in old doc).units

  abbrev names : Place → EntryName
  names = λ q. name_of_place docs (at_file file q.at)

  kinds : (u : DwUnit Place) → In u olds → IsPartial u.kind → ⊥
  kinds u h partial =
      let x = in_map_from (unit_map (at_file old)) u doc.units h in
      was.kinds x.source x.there (partial_was (at_file old) x.source.kind (subst (λ (y : DwUnit Place). IsPartial y.kind) (sym x.is) partial))

  -- at whatever places its units stand after
  alone_with : (at : EntryName → Place) (own : List (DwUnit Place)) → UnitsShown at outs own → OnePlace at outs → CrossSame (with_common olds []) (with_common own [])
  alone_with at own shown one =
      over_same docs commons o.fixed p w.read.taken.lists file outs (after_own docs commons o.fixed p w.read.taken.lists file imports) (closed_own docs commons o.fixed p w.read.taken.lists file imports)
      (own_once docs commons o.fixed p w.read.taken.lists file there) (own_mains docs commons o.fixed p w.read.taken.lists file there) (λ u is. is) at own [] shown
      (subst (UnitsShown at outs) (sym (no_more own)) shown) one names (with_common olds []) (units_moved (at_file old) names doc.units (units_of_file file (units_of docs)) (named_at docs file doc nth)) kinds
      (closed_shown (at_file old) doc.units olds (map_shown (at_file old) doc.units) was.closed) (mains_map (at_file old) doc.units was.mains) (λ u d u_in. absurd u_in)

  abbrev to : Place → Place
  to q = at_file new q.at

  -- each name of the file has one place with that number too
  module _ (own_file : (k : EntryName) → In k (units_keys outs) → (g k).file ≡ file) where
    one : OnePlace (λ k. to (g k)) outs
    one x y a b e =
        all_one name o are w g back.placing back.old x y (own_among name o are w file there x a) (own_among name o are w file there y b)
        (same_place (g x) (g y) (own_file x a ∙ sym (own_file y b)) (ap (λ (q : Place). q.at) e))

  -- written anew
  pub moved_alone_over : IsAnew o file → CrossSame (with_common (doc_in old doc).units [])
      (with_common (placed_units (places_by (stands o) (run_over o)) (λ k. at_file new (back.place k).at) (fitted_by (stands o) (run_over o) file)) [])
  moved_alone_over anew =
      let at : EntryName → Place = λ k. to (g k) in
      alone_with at (placed_units n at (fitted_by (stands o) r file)) (file_shown_by (stands o) r at file)
      (one (λ k h. sym (ap (λ (q : Place). q.file) (back.placing.written file anew.0 anew.1 k (subst (In k) (sym (fitted_names_by (stands o) r file)) h)))))

  -- as it was
  pub still_alone_over : changes (run_over o).move (run_over o).units file ≡ false → CrossSame (with_common (doc_in old doc).units []) (with_common (doc_in new doc).units [])
  still_alone_over stays =
      let still = map (unit_map (at_file file)) doc.units in
      alone_with (λ k. to (g k)) (doc_in new doc).units
      (subst (UnitsShown (λ k. to (g k)) outs) (units_then (at_file file) to (at_file new) (λ q. refl) doc.units)
      (shown_then g to outs still (map (unit_map to) still) (back.old.shown file doc nth stays) (map_shown to still)))
      (one (λ k h. back.old.file file there stays k h))
