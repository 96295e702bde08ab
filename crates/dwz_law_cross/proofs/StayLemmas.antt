-- A file of which nothing moves means what it meant, beside the common file.
use Rattle.std.proofs.Common.{◌≡◌, ◌≢◌, ◌⊎◌, ℕ, false, List, [], ◌∷◌, ◌++◌, map, Option, Some, None, refl, sym, ap, subst, ◌∙◌, arith, inl, inr}
use Rattle.std.proofs.lemmas.List.{map-append}
use Rattle.dwz_def_reading.specs.Lists.{Each, In, NoneTwice, Nth}
use Rattle.dwz_def_reading.proofs.ListFacts.{in_cases, in_right}
use Rattle.dwz_def_reading.proofs.Members.{each_in, in_map_from, nth_in}
use Rattle.dwz_def_reading.proofs.OnceLemmas.{none_append, none_right}
use Rattle.dwz_def_reading.specs.Documents.{Doc, DwUnit, Entries, entries_map, unit_map}
use Rattle.dwz_def_reading.specs.Finished.{given_by}
use Rattle.dwz_def_reading.specs.Places.{Place, at_file}
use Rattle.dwz_def_reading.specs.Trees.{End, Entry}
use Rattle.dwz_def_tops.specs.Alike.{IsAlike, TopScope}
use Rattle.dwz_def_tops.specs.Shown.{OnePlace, UnitsShown, keys, unit_keys, units_keys}
use Rattle.dwz_def_tops.specs.Spots.{EntryName, units_of}
use Rattle.dwz_def_tops.proofs.ShownLemmas.{map_shown, shown_then}
use Rattle.dwz_def_images.specs.Homes.{IsChoice, Rule}
use Rattle.dwz_def_images.specs.After.{ArePlaced}
use Rattle.dwz_def_images.specs.Units.{changes, common_units, out_units}
use Rattle.dwz_def_tops.proofs.UnitKeys.{keys_joined}
use Rattle.dwz_def_readback.specs.AllFiles.{AllBack}
use Rattle.dwz_def_readback.specs.Back.{AreAtOld, IsPlacing, run_of}
use Rattle.dwz_def_readback.specs.Files.{Run, Stored, common_fitted, places}
use Rattle.dwz_def_readback.proofs.NameLemmas.{common_names}
use Rattle.dwz_def_readback.proofs.SameLemmas.{beside_one, common_shown_by, numbers_in}
use Rattle.dwz_def_readback.proofs.StillPlaces.{nth_number}
use Rattle.dwz_def_cross.specs.CrossSame.{CrossSame}
use Rattle.dwz_def_expand.proofs.FileLemmas.{same_both}
use Rattle.dwz_law_cross.specs.BesideLaws.{shared_units}
use Rattle.dwz_law_cross.specs.CheckLaws.{MeanSame, StayLaw}
use Rattle.dwz_law_cross.specs.PairLaws.{AreAt, plan_of, with_common}
use Rattle.dwz_law_cross.specs.ReadLaws.{doc_in}
use Rattle.dwz_law_cross.proofs.BesideLemmas.{closed, names_apart, none_in, placed_keys}
use Rattle.dwz_law_cross.proofs.CheckLemmas.{all_partial, common_says, given_moved, moved_to, none_shared, own_moved, shared_moved, still_says}
use Rattle.dwz_law_cross.proofs.MeetLemmas.{met_with}
use Rattle.dwz_law_cross.proofs.RenumberLemmas.{units_then}

-- ---- places of mapped units

module _ {A B : Type 0} (f : A → B) where
  keys_mapped : (t : Entries A) → keys (entries_map f t) ≡ map f (keys t)
  unfolding keys entries_map
  keys_mapped End = refl
  keys_mapped (Entry e s t) =
      ap (λ (w : List B). f e.at ∷ w)
      (ap (λ (w : List B). w ++ keys (entries_map f t)) (keys_mapped s) ∙ ap (λ (w : List B). map f (keys s) ++ w) (keys_mapped t) ∙ sym (map-append f (keys s) (keys t)))

  pub units_mapped : (units : List (DwUnit A)) → units_keys (map (unit_map f) units) ≡ map f (units_keys units)
  unfolding units_keys unit_keys
  units_mapped [] = refl
  units_mapped (u ∷ units) =
      ap (λ (w : List B). (f u.at ∷ f u.root.at ∷ w) ++ units_keys (map (unit_map f) units)) (keys_mapped u.below)
      ∙ ap (λ (w : List B). map f (unit_keys u) ++ w) (units_mapped units)
      ∙ sym (map-append f (unit_keys u) (units_keys units))

module _ (scope : TopScope) (docs : List (Doc ℕ)) (rule : Rule) (placed : Each (λ doc. ArePlaced doc.units) docs) (is : IsAlike scope (units_of docs) rule.alike)
    (choice : IsChoice (units_of docs) rule) (input : Stored) (file : ℕ) (doc : Doc ℕ) (nth : Nth 0 docs file doc)
    (stays : changes (run_of rule docs input).move (units_of docs) file ≡ false) (old new common : ℕ) (old_apart : old ≢ common) (new_apart : new ≢ common) (g : EntryName → Place)
    (placing : IsPlacing (run_of rule docs input) g) (at_old : AreAtOld (run_of rule docs input) g docs) where
  abbrev r : Run
  r = run_of rule docs input

  there : In file r.files
  there = nth_number 0 docs file doc nth

  apart : file ≢ r.common
  apart e = (let less = numbers_in 0 docs file there in omega (arith, e, less))

  abbrev outs : List (DwUnit EntryName)
  outs = out_units r.move r.units file

  abbrev shared : List (DwUnit EntryName)
  shared = common_units r.move

  abbrev at : EntryName → Place
  at k = moved_to file new common (g k)

  abbrev news : List (DwUnit Place)
  news = (doc_in new doc).units

  own_shown : UnitsShown at outs news
  own_shown =
      let still = map (unit_map (at_file file)) doc.units in
      subst (UnitsShown at outs) (units_then (at_file file) (moved_to file new common) (at_file new) (λ p. sym (own_moved file r.common new common apart p)) doc.units)
      (shown_then g (moved_to file new common) outs still (map (unit_map (moved_to file new common)) still) (at_old.shown file doc nth stays) (map_shown (moved_to file new common) still))

  own_place : (k : EntryName) → In k (units_keys outs) → at k ≡ at_file new (g k).at
  own_place k h = ap (λ (n : ℕ). moved_to file new common (at_file n (g k).at)) (at_old.file file there stays k h) ∙ sym (own_moved file r.common new common apart (g k).at)

  shared_at : (k : EntryName) → In k (units_keys shared) → g k ≡ at_file r.common ((places r).place k)
  shared_at k h = sym (placing.common k (subst (In k) (sym (common_names r)) h))

  shared_place : (k : EntryName) → In k (units_keys shared) → at k ≡ at_file common ((places r).place k)
  shared_place k h = ap (moved_to file new common) (shared_at k h) ∙ sym (shared_moved file r.common new common apart ((places r).place k))

  which : (k : EntryName) → In k (units_keys (outs ++ shared)) → In k (units_keys outs) ⊎ In k (units_keys shared)
  which k h = in_cases k (units_keys outs) (units_keys shared) (subst (In k) (keys_joined outs shared) h)

  -- places that are one were one before
  before : (x y : EntryName) → In x (units_keys outs) ⊎ In x (units_keys shared) → In y (units_keys outs) ⊎ In y (units_keys shared) → at x ≡ at y → g x ≡ g y
  before x y (inl p) (inl q) e = same_both (g x) (g y) (at_old.file file there stays x p ∙ sym (at_old.file file there stays y q)) (ap (λ (w : Place). w.at) (sym (own_place x p) ∙ e ∙ own_place y q))
  before x y (inl p) (inr q) e = absurd (new_apart (ap (λ (w : Place). w.file) (sym (own_place x p) ∙ e ∙ shared_place y q)))
  before x y (inr p) (inl q) e = absurd (new_apart (ap (λ (w : Place). w.file) (sym (own_place y q) ∙ sym e ∙ shared_place x p)))
  before x y (inr p) (inr q) e = shared_at x p ∙ ap (at_file r.common) (ap (λ (w : Place). w.at) (sym (shared_place x p) ∙ e ∙ shared_place y q)) ∙ sym (shared_at y q)

  one : OnePlace at (outs ++ shared)
  one x y a b e = beside_one scope docs rule placed is choice input g placing at_old file there x y a b (before x y (which x a) (which y b) e)

  shared_keys : units_keys (shared_units r at) ≡ map at (units_keys shared)
  shared_keys = placed_keys (places r) at (common_fitted r) ∙ ap (map at) (common_names r)

  once : NoneTwice (units_keys (news ++ shared_units r at))
  once =
      let own = (each_in (λ (d : Doc ℕ). ArePlaced d.units) doc docs placed (nth_in 0 docs file doc nth)).apart in
      let names = none_right (units_keys outs) (units_keys shared) (names_apart scope docs rule placed is choice input file doc nth) in
      let all : (k : EntryName) → In k (units_keys shared) → In k (units_keys (outs ++ shared)) = λ k h. subst (In k) (sym (keys_joined outs shared))
      (in_right k (units_keys outs) (units_keys shared) h) in
      let new_keys = units_mapped (at_file new) doc.units in
      subst NoneTwice (sym (keys_joined news (shared_units r at)))
      (none_append (units_keys news) (units_keys (shared_units r at))
      (subst NoneTwice (sym new_keys) (none_in (at_file new) (units_keys doc.units) (λ a b p q e. ap (λ (w : Place). w.at) e) own))
      (subst NoneTwice (sym shared_keys) (none_in at (units_keys shared) (λ a b p q e. one a b (all a p) (all b q) e) names))
      (λ k a b.
      let o = in_map_from (at_file new) k (units_keys doc.units) (subst (In k) new_keys a) in
      let c = in_map_from at k (units_keys shared) (subst (In k) shared_keys b) in
      new_apart (ap (λ (w : Place). w.file) (o.is ∙ sym c.is ∙ shared_place c.source c.there))))

  are : AreAt (plan_of rule docs) docs file at news (shared_units r at)
  are = record { own_shown = own_shown; common_shown = common_shown_by r at; one = one; closed = closed scope docs rule placed is choice input file doc nth; apart = once }

  pub same : CrossSame (with_common (doc_in old doc).units (shared_units r at)) (with_common news (shared_units r at))
  same = met_with scope docs rule placed is choice input file doc nth old common old_apart at (λ k h. shared_place k (subst (In k) (common_names r) h)) news are

  mean : (output : ℕ → List ℕ) (common_bytes : Option (List ℕ)) → AllBack scope docs rule input output common_bytes g → MeanSame common_bytes old new common doc (input.bytes file) (input.bytes file)
  mean output None back =
      let still = back.still file doc nth in
      record {
        old_raw = still.raw;
        old_says = still_says file r.common old common apart None None tt (input.bytes file) doc still;
        new_raw = still.raw;
        new_units = news;
        new_says = still_says file r.common new common apart None None tt (input.bytes file) doc still;
        same = subst (λ (w : List (DwUnit Place)). CrossSame (with_common (doc_in old doc).units w) (with_common news w)) (none_shared r at back.common) same;
      }
  mean output (Some bytes) back =
      let still = back.still file doc nth in
      let c = back.common in
      let given = Some (given_by r.common bytes c.raw) in
      let then = Some (given_by common bytes c.raw) in (
        c.raw,
        shared_units r at,
        common_says r g file new common apart bytes c,
        all_partial r at,
        record {
          old_raw = still.raw;
          old_says = still_says file r.common old common apart given then (given_moved file r.common old common apart bytes c.raw) (input.bytes file) doc still;
          new_raw = still.raw;
          new_units = news;
          new_says = still_says file r.common new common apart given then (given_moved file r.common new common apart bytes c.raw) (input.bytes file) doc still;
          same = same;
        },
      )

pub stays_so : StayLaw
stays_so scope docs rule placed is choice input output common_bytes back file doc nth stays old new common old_apart new_apart =
    mean scope docs rule placed is choice input file doc nth stays old new common old_apart new_apart back.place back.placing back.old output common_bytes back.back
