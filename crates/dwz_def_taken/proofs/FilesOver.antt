-- Files over a finished common file are the same along images, where copies count as one place.
use Rattle.std.proofs.Common.{◌≡◌, ℕ, List, refl, ap, subst, ◌∙◌, inl, inr}
use Rattle.dwz_def_reading.specs.Documents.{Doc, DwUnit}
use Rattle.dwz_def_tops.specs.Seen.{Closed, SameAlong}
use Rattle.dwz_def_tops.specs.Shown.{HasMain, HaveMains, OnePlace, UnitsShown, keys}
use Rattle.dwz_def_tops.specs.Spots.{EntryName, FileUnit, file_numbers}
use Rattle.dwz_def_tops.proofs.MainLemmas.{keys_map, main_by}
use Rattle.dwz_def_tops.proofs.ShownLemmas.{closed_shown, entries_placed, map_shown, types_placed}
use Rattle.dwz_def_tops.proofs.ShownUnits.{entries_named, types_named, units_named, units_placed}
use Rattle.dwz_def_images.specs.Moves.{Move, image_in}
use Rattle.dwz_def_images.specs.After.{units_placed_from}
use Rattle.dwz_def_tops.specs.UnitNames.{name_of_place}
use Rattle.dwz_def_reading.specs.Places.{Place}
use Rattle.dwz_def_images.specs.Images.{units_in}
use Rattle.dwz_def_images.specs.Units.{all_units, kept_unit}
use Rattle.dwz_def_images.proofs.EntryLemmas.{kept_type}
use Rattle.dwz_def_images.proofs.OldLemmas.{in_units}
use Rattle.dwz_def_images.proofs.FileLemmas.{files_are}
use Rattle.dwz_def_images.proofs.OldFiles.{files_shown}
use Rattle.dwz_def_taken.specs.declared.fixed.Fixed.{Fixed}
use Rattle.dwz_def_taken.specs.Beside.{Reused, reused_of}
use Rattle.dwz_def_taken.specs.Laws.{ArePlacedOver, FilesOverLaw, copied_units}
use Rattle.dwz_def_taken.specs.Over.{copy_of, move_over}
use Rattle.dwz_def_taken.specs.Takes.{IsFixed}
use Rattle.dwz_def_taken.proofs.AfterOver.{after_over}
use Rattle.dwz_def_taken.proofs.ClosedOver.{over_closed}
use Rattle.dwz_def_taken.proofs.CommonUnits.{common_stands}
use Rattle.dwz_def_taken.proofs.CopyAfter.{same_over}
use Rattle.dwz_def_taken.proofs.KeptOwn.{over_apart}
use Rattle.dwz_def_taken.proofs.NamesOver.{named_over}

module _ (docs : List (Doc ℕ)) (common : Doc ℕ) (fixed : Fixed) (p : ArePlacedOver docs common) (fx : IsFixed (reused_of docs common) fixed) where
  abbrev r : Reused
  r = reused_of docs common

  abbrev m : Move
  m = move_over (reused_of docs common) fixed (file_numbers 0 docs)

  abbrev outs : List (DwUnit EntryName)
  outs = copied_units (reused_of docs common) (move_over (reused_of docs common) fixed (file_numbers 0 docs)) (file_numbers 0 docs)

  names_same : SameAlong (λ s. copy_of r (image_in m s)) (units_in r.units) outs
  names_same = same_over r fixed (file_numbers 0 docs) (all_units m r.units (file_numbers 0 docs)) (named_over docs common p) fx (files_are docs) (after_over docs common fixed p fx)

  over_mains : HaveMains (all_units m r.units (file_numbers 0 docs))
  over_mains = λ v is. elim ((after_over docs common fixed p fx).from v is) [
    | inl n ↦ λ signature main q. absurd (let z = ap (λ (w : DwUnit EntryName). w.kind) n.is in cc)
    | inr k ↦
        let u = k.unit.unit in
        subst (λ (w : DwUnit EntryName). HasMain w) k.is
        (main_by (image_in m) u u.kind refl ((named_over docs common p).own.mains u (in_units 0 r.units k.number k.unit k.nth)) (kept_unit m r.units k.number k.unit) refl (root_at k.number k.unit)
        (λ s t e. ap keys (kept_type m r.units k.number k.unit s t e) ∙ keys_map (image_in m) u.below))
  ]
    where
      root_at : (i : ℕ) (u : FileUnit EntryName) → (kept_unit m r.units i u).root.at ≡ image_in m u.unit.root.at
      root_at i u = refl

  copies_closed : Closed outs
  copies_closed = closed_shown (copy_of r) (all_units m r.units (file_numbers 0 docs)) outs (map_shown (copy_of r) (all_units m r.units (file_numbers 0 docs))) (over_closed docs common fixed p fx)

  places_same : (g : EntryName → Place) (placed : List (DwUnit Place)) → UnitsShown g outs placed → OnePlace g outs
      → SameAlong (λ p. g (copy_of r (image_in m (name_of_place docs p)))) (units_placed_from 0 docs) placed
  places_same g placed shown one =
      let f : EntryName → EntryName = λ s. copy_of r (image_in m s) in
      let h : EntryName → Place = λ s. g (copy_of r (image_in m s)) in
      let before = units_in r.units in
      record {
        entries = entries_named (name_of_place docs) h (units_placed_from 0 docs) before placed (files_shown docs) (entries_placed g f before outs placed shown names_same.entries);
        units = units_named (name_of_place docs) h (units_placed_from 0 docs) before placed (files_shown docs)
            (units_placed g f before outs placed shown copies_closed one names_same.units);
        types = types_named (name_of_place docs) h (units_placed_from 0 docs) before placed (files_shown docs) (types_placed g f before outs placed shown names_same.types);
      }

pub files_over : FilesOverLaw
files_over docs common fixed p fx = record {
  common = common_stands docs common fixed p fx;
  after = after_over docs common fixed p fx;
  apart = over_apart docs common fixed p fx;
  closed = over_closed docs common fixed p fx;
  mains = over_mains docs common fixed p fx;
  names = names_same docs common fixed p fx;
  same = places_same docs common fixed p fx;
}
