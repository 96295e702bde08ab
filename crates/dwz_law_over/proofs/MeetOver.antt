-- A file before, at its own places or with a number of its own, and what stands after in its place.
use Rattle.std.proofs.Common.{◌≡◌, ◌≢◌, ℕ, List, ◌++◌, map, sym, ap, subst, ◌∙◌}
use Rattle.dwz_def_reading.specs.Documents.{Doc, DwUnit, unit_map}
use Rattle.dwz_def_reading.specs.Lists.{Each, In, Nth}
use Rattle.dwz_def_reading.specs.Places.{Place, at_file}
use Rattle.dwz_def_reading.proofs.ListFacts.{in_left}
use Rattle.dwz_def_reading.proofs.Members.{each_in, in_map_from, nth_in}
use Rattle.dwz_def_tops.specs.Seen.{IsPartial, Seen, all_seen, seen_map}
use Rattle.dwz_def_tops.specs.Shown.{UnitsShown}
use Rattle.dwz_def_tops.specs.Spots.{EntryName, file_numbers, units_of}
use Rattle.dwz_def_tops.specs.UnitNames.{name_of_place}
use Rattle.dwz_def_tops.proofs.MainLemmas.{mains_map}
use Rattle.dwz_def_tops.proofs.ShownLemmas.{all_shown, closed_shown, map_shown}
use Rattle.dwz_def_images.specs.After.{ArePlaced}
use Rattle.dwz_def_images.specs.Moves.{Move}
use Rattle.dwz_def_images.specs.Units.{common_units, out_units, units_of_file}
use Rattle.dwz_def_images.proofs.OldFiles.{shown_append}
use Rattle.dwz_def_readback.proofs.StillPlaces.{nth_number}
use Rattle.dwz_def_taken.specs.declared.fixed.Fixed.{Fixed}
use Rattle.dwz_def_taken.specs.Beside.{reused_of}
use Rattle.dwz_def_taken.specs.Laws.{ArePlacedOver}
use Rattle.dwz_def_taken.specs.Takes.{IsFixed}
use Rattle.dwz_def_cross.specs.CrossSame.{CrossSame}
use Rattle.dwz_law_cross.specs.PairLaws.{alone, with_common}
use Rattle.dwz_law_cross.proofs.MeetLemmas.{partial_was, units_moved}
use Rattle.dwz_law_cross.proofs.PairLemmas.{named_at}
use Rattle.dwz_law_over.specs.PairOverLaws.{AreAtOver, MeetOverLaw, SameMeaningOverLaw, over_move}
use Rattle.dwz_law_over.proofs.OverAfter.{outs_mains, outs_once}
use Rattle.dwz_law_over.proofs.OverPairs.{over_same}
use Rattle.dwz_law_over.proofs.OwnOver.{outs_over}

module _ (docs : List (Doc ℕ)) (common : Doc ℕ) (fixed : Fixed) (p : ArePlacedOver docs common) (fx : IsFixed (reused_of docs common) fixed) (file : ℕ) (doc : Doc ℕ) (nth : Nth 0 docs file doc)
    (g : EntryName → Place) (own shared : List (DwUnit Place)) (at : AreAtOver docs common fixed file g own shared) where
  abbrev m : Move
  m = over_move docs common fixed

  was : ArePlaced doc.units
  was = each_in (λ (d : Doc ℕ). ArePlaced d.units) doc docs p.each (nth_in 0 docs file doc nth)

  there : In file (file_numbers 0 docs)
  there = nth_number 0 docs file doc nth

  shown : UnitsShown g (out_units m (units_of docs) file ++ common_units m) (own ++ shared)
  shown = shown_append g (out_units m (units_of docs) file) (common_units m) own shared at.own_shown at.common_shown

  pub same_over : CrossSame (alone doc) (with_common own shared)
  same_over =
      over_same docs common fixed p fx file (out_units m (units_of docs) file ++ common_units m) (outs_over docs common fixed p fx file) at.closed (outs_once docs common fixed p fx file there)
      (outs_mains docs common fixed p fx file there) (λ u is. in_left u (out_units m (units_of docs) file) (common_units m) is) g own shared at.own_shown shown at.one
      (λ a. name_of_place docs (at_file file a)) (alone doc) (named_at docs file doc nth) was.kinds was.closed was.mains (λ u d is. absurd is)

  module _ (old : ℕ) (apart : Each (λ u. u.root.at.file ≢ old) shared) where
    abbrev olds : List (DwUnit Place)
    olds = map (unit_map (at_file old)) doc.units

    abbrev names : Place → EntryName
    names = λ q. name_of_place docs (at_file file q.at)

    kinds : (u : DwUnit Place) → In u olds → IsPartial u.kind → ⊥
    kinds u h partial =
        let o = in_map_from (unit_map (at_file old)) u doc.units h in
        was.kinds o.source o.there (partial_was (at_file old) o.source.kind (subst (λ (w : DwUnit Place). IsPartial w.kind) (sym o.is) partial))

    -- entries of the old file have its number
    old_number : (d : Seen Place) → In d (all_seen olds) → d.at.file ≡ old
    old_number d h =
        let o = in_map_from (seen_map (at_file old)) d (all_seen doc.units) (subst (In d) (all_shown (at_file old) doc.units olds (map_shown (at_file old) doc.units)) h) in
        sym (ap (λ (w : Seen Place). w.at.file) o.is)

    pub met_over : CrossSame (with_common (map (unit_map (at_file old)) doc.units) shared) (with_common own shared)
    met_over =
        over_same docs common fixed p fx file (out_units m (units_of docs) file ++ common_units m) (outs_over docs common fixed p fx file) at.closed (outs_once docs common fixed p fx file there)
        (outs_mains docs common fixed p fx file there) (λ u is. in_left u (out_units m (units_of docs) file) (common_units m) is) g own shared at.own_shown shown at.one
        names (with_common olds shared) (units_moved (at_file old) names doc.units (units_of_file file (units_of docs)) (named_at docs file doc nth)) kinds
        (closed_shown (at_file old) doc.units olds (map_shown (at_file old) doc.units) was.closed) (mains_map (at_file old) doc.units was.mains)
        (λ u d u_in d_in e. each_in (λ (w : DwUnit Place). w.root.at.file ≢ old) u shared apart u_in (ap (λ (q : Place). q.file) (sym e) ∙ old_number d d_in))

pub same_meaning_over : SameMeaningOverLaw
same_meaning_over = same_over

pub meet_over : MeetOverLaw
meet_over docs common fixed p fx file doc nth g own shared at old apart = met_over docs common fixed p fx file doc nth g own shared at old apart
