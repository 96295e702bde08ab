-- All files at once.
use Rattle.std.proofs.Common.{◌≡◌, ℕ, suc, ◌+◌, ◌<◌, ◌≤◌, ◌⊎◌, true, List, [], ◌∷◌, length, map, refl, sym, ap, subst, ◌∙◌, arith, inl, inr}
use Rattle.dwz_def_reading.specs.Documents.{Doc, DwUnit}
use Rattle.dwz_def_reading.specs.Lists.{Each, In}
use Rattle.dwz_def_reading.proofs.ListFacts.{in_cases}
use Rattle.dwz_def_tops.specs.Lists.{Nth, Rising}
use Rattle.dwz_def_tops.specs.Seen.{Closed, SameAlong, Seen, UnitSame, all_seen, see, seen_inside, seen_map, seen_roots}
use Rattle.dwz_def_tops.specs.Shown.{OnePlace, UnitsShown, units_keys}
use Rattle.dwz_def_tops.proofs.Members.{each_of, in_map_from, nth_in}
use Rattle.dwz_def_tops.proofs.SeenLemmas.{inner_from}
use Rattle.dwz_def_tops.proofs.ShownLemmas.{entries_placed, entry_key, types_placed}
use Rattle.dwz_def_tops.proofs.ShownUnits.{entries_named, types_named, units_named, units_placed}
use Rattle.dwz_def_tops.specs.Alike.{IsAlike, TopScope}
use Rattle.dwz_def_tops.specs.Spots.{EntryName, FileUnit, file_numbers, in_file, named, named_files, tops_among, units_of}
use Rattle.dwz_def_plan.specs.Homes.{IsChoice, Rule, moves}
use Rattle.dwz_def_plan.specs.IsPlan.{AreFilesOf}
use Rattle.dwz_def_plan.specs.Moves.{Move, image_in, plan}
use Rattle.dwz_def_plan.specs.Plan.{image}
use Rattle.dwz_def_images.specs.Units.{all_units, kept_unit}
use Rattle.dwz_def_images.specs.After.{AreAfter, AreAfterOf, AreOld, ArePlaced, FilesSame, IsOfFile, Replaces, units_placed_from}
use Rattle.dwz_def_tops.specs.UnitNames.{name_of_place}
use Rattle.dwz_def_reading.specs.Places.{Place}
use Rattle.dwz_def_images.specs.Held.{Serves}
use Rattle.dwz_def_images.specs.Images.{units_in}
use Rattle.dwz_def_images.proofs.ApartUnits.{all_apart}
use Rattle.dwz_def_images.proofs.BackLemmas.{stands_back}
use Rattle.dwz_def_images.proofs.ClosedLemmas.{image_there, out_closed}
use Rattle.dwz_def_images.proofs.EntryLemmas.{entries_same, unit_seen}
use Rattle.dwz_def_images.proofs.ExpandLemmas.{kept_same, type_root, types_same, units_same}
use Rattle.dwz_def_images.proofs.HeldLemmas.{plan_held}
use Rattle.dwz_def_images.proofs.OldFiles.{files_old, files_shown}
use Rattle.dwz_def_images.proofs.OneImageLemmas.{alone_names, one_image, one_placed}
use Rattle.dwz_def_images.proofs.OutLemmas.{all_outs}
use Rattle.dwz_def_images.proofs.OutMains.{out_mains}
use Rattle.dwz_def_images.proofs.ServeLemmas.{held_serves}
use Rattle.dwz_def_images.proofs.StillLemmas.{still}

-- ---- the files of units

numbers_from : (n : ℕ) (docs : List (Doc ℕ)) (m : ℕ) → In m (file_numbers n docs) → n ≤ m
unfolding file_numbers
numbers_from n [] m h = absurd h
numbers_from n (doc ∷ docs) m (inl e) = omega (arith, e)
numbers_from n (doc ∷ docs) m (inr r) = omega (arith, numbers_from (suc n) docs m r)

pub numbers_rise : (n : ℕ) (docs : List (Doc ℕ)) → Rising (file_numbers n docs)
unfolding file_numbers
numbers_rise n [] = tt
numbers_rise n (doc ∷ docs) = (each_of (λ m. n < m) (file_numbers (suc n) docs) (λ m is. omega (arith, numbers_from (suc n) docs m is)), numbers_rise (suc n) docs)

in_files : (file unit top : ℕ) (docs : List (Doc ℕ)) (u : FileUnit EntryName) → In u (named_files file unit top docs) → In u.file (file_numbers file docs)
unfolding named_files file_numbers
in_files file unit top [] u h = absurd h
in_files file unit top (doc ∷ docs) u h =
    go (in_cases u (map (in_file file) (named unit top doc.units)) (named_files (suc file) (unit + length doc.units) (top + tops_among doc.units) docs) h)
    (in_files (suc file) (unit + length doc.units) (top + tops_among doc.units) docs u)
  where
    go : In u (map (in_file file) (named unit top doc.units)) ⊎ In u (named_files (suc file) (unit + length doc.units) (top + tops_among doc.units) docs)
        → (In u (named_files (suc file) (unit + length doc.units) (top + tops_among doc.units) docs) → In u.file (file_numbers (suc file) docs)) → In u.file (file ∷ file_numbers (suc file) docs)
    go (inl a) more = inl (let o = in_map_from (in_file file) u (named unit top doc.units) a in ap (λ (w : FileUnit EntryName). w.file) o.is)
    go (inr b) more = inr (more b)

pub files_are : (docs : List (Doc ℕ)) → AreFilesOf (units_of docs) (file_numbers 0 docs)
files_are docs = λ i u nth. in_files 0 0 0 docs u (nth_in 0 (units_of docs) i u nth)

-- ---- what replaces units

pub served_same : (units : List (FileUnit EntryName)) (m : Move) (outs : List (DwUnit EntryName)) → AreOld units → Serves units m → AreAfter m units outs → SameAlong (image_in m) (units_in units) outs
served_same units m outs old serves after = record {
  entries = entries_same units m old serves outs after;
  units = units_same units m old serves outs after;
  types = types_same units m old serves outs after;
}

-- it is of one unit
only : {X : Type 0} (x y : X) → In x (y ∷ []) → y ≡ x
only x y (inl e) = e
only x y (inr never) = absurd never

pub served_of : (units : List (FileUnit EntryName)) (m : Move) (outs : List (DwUnit EntryName)) (Of : ℕ → Type 0) → AreOld units → Serves units m → AreAfterOf Of m units outs
    → (i : ℕ) (u : FileUnit EntryName)
    → Nth 0 units i u → Of i → SameAlong (image_in m) (u.unit ∷ []) outs
served_of units m outs Of old serves after i u nth mine = record {
  entries = λ e h.
      let o = inner_from (u.unit ∷ []) e h in
      let is = only o.unit u.unit o.there in
      unit_seen units m old serves outs Of after i u nth mine e u.unit.kind refl (subst (λ (w : DwUnit EntryName). In e (seen_inside w.kind w.below)) (sym is) o.is);
  units = λ v there. (
    kept_unit m units i u,
    subst (λ (w : DwUnit EntryName). UnitSame (image_in m) outs w (kept_unit m units i u)) (only v u.unit there) (kept_same units m old serves outs Of after i u nth mine),
  );
  types = λ v signature main there kind.
      let is = only v u.unit there in
      subst (λ (w : DwUnit EntryName). In (seen_map (image_in m) (see w.root w.below)) (seen_roots outs)) is
      (type_root units m old serves outs Of after i u nth mine signature main (ap (λ (w : DwUnit EntryName). w.kind) is ∙ kind));
}

pub served_file : (units : List (FileUnit EntryName)) (m : Move) (outs : List (DwUnit EntryName)) (file : ℕ) → AreOld units → Serves units m → AreAfterOf (IsOfFile units file) m units outs → (i : ℕ)
    (u : FileUnit EntryName) → Nth 0 units i u → u.file ≡ file → SameAlong (image_in m) (u.unit ∷ []) outs
served_file units m outs file old serves after i u nth is = served_of units m outs (IsOfFile units file) old serves after i u nth (u, nth, is)

module _ (units : List (FileUnit EntryName)) (m : Move) (outs : List (DwUnit EntryName)) (r : Replaces units m outs) where
  pub same_names : SameAlong (image_in m) (units_in units) outs
  same_names = served_same units m outs r.old (held_serves units m r.old r.held) r.after

  pub closed_names : Closed outs
  closed_names = out_closed units m r.old r.held outs r.after

  pub same_places : (g : EntryName → Place) (placed : List (DwUnit Place)) → UnitsShown g outs placed → OnePlace g outs → SameAlong (λ s. g (image_in m s)) (units_in units) placed
  same_places g placed shown one = record {
    entries = entries_placed g (image_in m) (units_in units) outs placed shown same_names.entries;
    units = units_placed g (image_in m) (units_in units) outs placed shown closed_names one same_names.units;
    types = types_placed g (image_in m) (units_in units) outs placed shown same_names.types;
  }

  -- images that have one place are one
  pub places_tell : (g : EntryName → Place) → OnePlace g outs → (d e : Seen EntryName) → In d (all_seen (units_in units)) → In e (all_seen (units_in units)) → g (image_in m d.at) ≡ g (image_in m e.at)
      → image_in m d.at ≡ image_in m e.at
  places_tell g one d e x y same =
      let a = image_there units m r.old r.held outs r.after d x in
      let b = image_there units m r.old r.held outs r.after e y in
      one (image_in m d.at) (image_in m e.at) (subst (λ (w : EntryName). In w (units_keys outs)) a.2 (entry_key outs a.0 a.1)) (subst (λ (w : EntryName). In w (units_keys outs)) b.2 (entry_key outs
      b.0 b.1))
      same

-- ---- files

pub replaced : (scope : TopScope) (docs : List (Doc ℕ)) (rule : Rule) → Each (λ doc. ArePlaced doc.units) docs → IsAlike scope (units_of docs) rule.alike → IsChoice (units_of docs) rule
    → Replaces (units_of docs) (plan rule (units_of docs) (file_numbers 0 docs)) (all_units (plan rule (units_of docs) (file_numbers 0 docs)) (units_of docs) (file_numbers 0 docs))
replaced scope docs rule placed is choice = record {
  old = files_old docs placed;
  held = plan_held scope (units_of docs) rule (file_numbers 0 docs) is choice (files_old docs placed) (files_are docs);
  after = all_outs (units_of docs) rule (file_numbers 0 docs) (files_are docs);
}

pub files_same : (scope : TopScope) (docs : List (Doc ℕ)) (rule : Rule) → Each (λ doc. ArePlaced doc.units) docs → IsAlike scope (units_of docs) rule.alike → IsChoice (units_of docs) rule
    → FilesSame scope docs rule (file_numbers 0 docs)
files_same scope docs rule placed is choice =
    let units = units_of docs in
    let files = file_numbers 0 docs in
    let m = plan rule units files in
    let outs = all_units m units files in
    let r = replaced scope docs rule placed is choice in
    record {
      still = still scope docs rule is choice files;
      stands = stands_back scope docs rule placed is choice files (numbers_rise 0 docs);
      apart = all_apart units rule r.old files (numbers_rise 0 docs);
      closed = closed_names units m outs r;
      mains = out_mains units m outs r;
      same = λ g after shown one. (
          let s = same_places units m outs r g after shown one in
          let f = λ (x : EntryName). g (image_in m x) in
          record {
            entries = entries_named (name_of_place docs) f (units_placed_from 0 docs) (units_in units) after (files_shown docs) s.entries;
            units = units_named (name_of_place docs) f (units_placed_from 0 docs) (units_in units) after (files_shown docs) s.units;
            types = types_named (name_of_place docs) f (units_placed_from 0 docs) (units_in units) after (files_shown docs) s.types;
          });
      alone = λ g one d e x y h same. alone_names units rule d e x y h (places_tell units m outs r g one d e x y same);
      images = λ g one. one_placed scope units (λ n. moves rule units n ≡ true) (image rule units) g (places_tell units m outs r g one) (one_image scope units rule is choice);
    }
