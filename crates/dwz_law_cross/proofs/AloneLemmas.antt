-- A file that imports nothing from the common file means by itself what it meant.
use Rattle.std.proofs.Common.{◌≡◌, ℕ, false, List, [], ◌∷◌, ◌++◌, map, refl, sym, ap, subst, ◌∙◌}
use Rattle.dwz_def_reading.specs.Lists.{Each, In, NoneTwice, Nth}
use Rattle.dwz_def_reading.proofs.Members.{each_in, in_map_from, nth_in}
use Rattle.dwz_def_reading.proofs.OnceLemmas.{none_left}
use Rattle.dwz_def_reading.specs.Documents.{Doc, DwUnit, unit_map}
use Rattle.dwz_def_reading.specs.Places.{Place, at_file}
use Rattle.dwz_def_tops.specs.Alike.{IsAlike, TopScope}
use Rattle.dwz_def_tops.specs.Seen.{IsPartial}
use Rattle.dwz_def_tops.specs.Shown.{OnePlace, UnitsShown, units_keys}
use Rattle.dwz_def_tops.specs.Spots.{EntryName, units_of}
use Rattle.dwz_def_tops.proofs.MainLemmas.{mains_map}
use Rattle.dwz_def_tops.proofs.ShownLemmas.{closed_shown, map_shown, shown_then}
use Rattle.dwz_def_images.specs.Homes.{IsChoice, Rule}
use Rattle.dwz_def_images.specs.After.{ArePlaced}
use Rattle.dwz_def_tops.specs.UnitNames.{name_of_place}
use Rattle.dwz_def_images.specs.Units.{changes, common_units, out_units, units_of_file}
use Rattle.dwz_def_readback.specs.Back.{AreAtOld, run_of}
use Rattle.dwz_def_readback.specs.Files.{Made, Run, Stored, fitted, imports_common, places}
use Rattle.dwz_def_readback.proofs.NameLemmas.{fitted_names}
use Rattle.dwz_def_readback.proofs.SameLemmas.{file_shown_by}
use Rattle.dwz_def_readback.proofs.StillPlaces.{nth_number}
use Rattle.dwz_def_cross.specs.CrossSame.{CrossSame}
use Rattle.dwz_law_cross.specs.BesideLaws.{new_units}
use Rattle.dwz_law_cross.specs.PairLaws.{with_common}
use Rattle.dwz_law_cross.specs.ReadLaws.{doc_in}
use Rattle.dwz_law_cross.proofs.BesideLemmas.{names_apart, none_in, placed_keys}
use Rattle.dwz_law_cross.proofs.MeetLemmas.{own_one, partial_was, units_moved}
use Rattle.dwz_law_cross.proofs.OwnFiles.{own_after, own_closed}
use Rattle.dwz_law_cross.proofs.PairLemmas.{meets_in, named_at}
use Rattle.dwz_law_cross.proofs.RenumberLemmas.{units_then}
use Rattle.dwz_law_cross.proofs.StayLemmas.{units_mapped}

pub no_more : {X : Type 0} (xs : List X) → xs ++ [] ≡ xs
no_more [] = refl
no_more {X} (x ∷ xs) = ap (λ (ys : List X). x ∷ ys) (no_more xs)

module _ (scope : TopScope) (docs : List (Doc ℕ)) (rule : Rule) (placed : Each (λ doc. ArePlaced doc.units) docs) (is : IsAlike scope (units_of docs) rule.alike)
    (choice : IsChoice (units_of docs) rule) (input : Stored) (file : ℕ) (doc : Doc ℕ) (nth : Nth 0 docs file doc)
    (imports : imports_common (run_of rule docs input).move (units_of docs) file ≡ false) (old : ℕ) where
  abbrev r : Run
  r = run_of rule docs input

  abbrev outs : List (DwUnit EntryName)
  outs = out_units r.move r.units file

  abbrev olds : List (DwUnit Place)
  olds = (doc_in old doc).units

  abbrev names : Place → EntryName
  names p = name_of_place docs (at_file file p.at)

  was : ArePlaced doc.units
  was = each_in (λ (d : Doc ℕ). ArePlaced d.units) doc docs placed (nth_in 0 docs file doc nth)

  kinds : (u : DwUnit Place) → In u olds → IsPartial u.kind → ⊥
  kinds u h p =
      let o = in_map_from (unit_map (at_file old)) u doc.units h in
      was.kinds o.source o.there (partial_was (at_file old) o.source.kind (subst (λ (w : DwUnit Place). IsPartial w.kind) (sym o.is) p))

  -- at whatever places its units stand after
  alone_with : (g : EntryName → Place) (own : List (DwUnit Place)) → UnitsShown g outs own → OnePlace g outs → NoneTwice (units_keys own) → CrossSame (with_common olds []) (with_common own [])
  alone_with g own shown one apart =
      meets_in scope docs rule placed is choice file outs (own_after (units_of docs) rule r.files file imports) g own [] shown (subst (UnitsShown g outs) (sym (no_more own)) shown)
      (own_closed scope docs rule placed is choice file imports) one (subst (λ (w : List (DwUnit Place)). NoneTwice (units_keys w)) (sym (no_more own)) apart) names (with_common olds [])
      (units_moved (at_file old) names doc.units (units_of_file file (units_of docs)) (named_at docs file doc nth)) kinds
      (closed_shown (at_file old) doc.units olds (map_shown (at_file old) doc.units) was.closed) (mains_map (at_file old) doc.units was.mains) (λ u d u_in. absurd u_in)

  once : NoneTwice (units_keys outs)
  once = none_left (units_keys outs) (units_keys (common_units r.move)) (names_apart scope docs rule placed is choice input file doc nth)

  -- where something of it moves, at those where it is written
  module _ (new : ℕ) (g : EntryName → Place) (ok : (k : EntryName) → In k (units_keys (fitted r file)) → g k ≡ at_file new ((places r).place k)) where
    at : (k : EntryName) → In k (units_keys outs) → g k ≡ at_file new ((places r).place k)
    at k h = ok k (subst (In k) (sym (fitted_names r file)) h)

    one : OnePlace g outs
    one x y a b e = own_one scope docs rule placed is choice input file doc nth x y a b (ap (λ (w : Place). w.at) (sym (at x a) ∙ e ∙ at y b))

    pub moved_alone : CrossSame (with_common olds []) (with_common (new_units r g file) [])
    moved_alone =
        alone_with g (new_units r g file) (file_shown_by Made r g file) one
        (subst NoneTwice (sym (placed_keys (places r) g (fitted r file) ∙ ap (map g) (fitted_names r file))) (none_in g (units_keys outs) one once))

  -- and where nothing of it moves, at its own
  module _ (new : ℕ) (stays : changes r.move r.units file ≡ false) (g : EntryName → Place) (at_old : AreAtOld r g docs) where
    abbrev to : Place → Place
    to p = at_file new p.at

    abbrev news : List (DwUnit Place)
    news = (doc_in new doc).units

    still_shown : UnitsShown (λ k. to (g k)) outs news
    still_shown =
        let still = map (unit_map (at_file file)) doc.units in
        subst (UnitsShown (λ k. to (g k)) outs) (units_then (at_file file) to (at_file new) (λ p. refl) doc.units)
        (shown_then g to outs still (map (unit_map to) still) (at_old.shown file doc nth stays) (map_shown to still))

    still_one : OnePlace (λ k. to (g k)) outs
    still_one x y a b e =
        let there = nth_number 0 docs file doc nth in
        at_old.one file there stays x y a b (same_place (g x) (g y) (at_old.file file there stays x a ∙ sym (at_old.file file there stays y b)) (ap (λ (w : Place). w.at) e))
      where
        same_place : (p q : Place) → p.file ≡ q.file → p.at ≡ q.at → p ≡ q
        same_place p q file at = λ i. record { file = file i; at = at i }

    pub still_alone : CrossSame (with_common olds []) (with_common news [])
    still_alone =
        alone_with (λ k. to (g k)) news still_shown still_one
        (subst NoneTwice (sym (units_mapped (at_file new) doc.units)) (none_in (at_file new) (units_keys doc.units) (λ a b p q e. ap (λ (w : Place). w.at) e) was.apart))
