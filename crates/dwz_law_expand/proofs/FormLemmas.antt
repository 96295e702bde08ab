-- What is written of a file that reads, and that nothing refuses, can be written.
use Rattle.std.proofs.Common.{◌≡◌, ◌⊎◌, ℕ, ◌<◌, ◌≤◌, List, [], ◌∷◌, ◌++◌, ◌==◌, length, refl, sym, ap, subst, ◌∙◌, inl, inr}
use Rattle.std.proofs.lemmas.Bool.{and_parts, cases_lt, eq-eqb, eqb-true}
use Rattle.dwz_def_reading.specs.Fault.{Fault}
use Rattle.dwz_def_reading.specs.Refusal.{Refusal}
use Rattle.dwz_def_reading.specs.Lists.{Each, NoneTwice}
use Rattle.dwz_def_reading.specs.Documents.{DwUnit}
use Rattle.dwz_def_reading.specs.ElfLayout.{too_large}
use Rattle.dwz_def_reading.specs.FirstOf.{OfFirst}
use Rattle.dwz_def_reading.specs.Places.{Place}
use Rattle.dwz_def_tops.specs.Shown.{keys, unit_keys, units_keys}
use Rattle.dwz_def_encoding.specs.Fitting.{AreWritable, UnitHasRoom}
use Rattle.dwz_def_encoding.specs.Meant.{UnitSays, UnitsSay}
use Rattle.dwz_def_encoding.specs.Placing.{FileOut, FitsSections, UnitsStand, files_keys, sections}
use Rattle.dwz_def_encoding.specs.Sound.{SoundUnit}
use Rattle.dwz_def_encoding.proofs.Places.{IsSame, numbering_stands}
use Rattle.dwz_def_encoding.proofs.WriteLaws.{fits}
use Rattle.dwz_def_encoding.proofs.WriteLengths.{sound_units}
use Rattle.dwz_def_output.specs.Refusals.{IsLargeSection, too_large_at}
use Rattle.dwz_def_expand.specs.Chosen.{Choice, chosen_units}
use Rattle.dwz_def_expand.specs.OneFile.{OneFile, ReadsOne, said_by_file, same_place}
use Rattle.dwz_def_expand.specs.Output.{ExpandRefusal, LargeRefusal, NarrowIn, NarrowInLists, SiteRefusal, forms, new_places, new_sections, sites_of_file}
use Rattle.dwz_def_expand.specs.Refusals.{AllCopied}
use Rattle.dwz_def_expand.specs.Source.{Copy, expanded}
use Rattle.dwz_def_expand.specs.Written.{expanded_sections, same_copy, written}
use Rattle.dwz_def_expand.proofs.FileLemmas.{file_whole, test}
use Rattle.dwz_def_expand.proofs.RefusalLemmas.{all_copied}
use Rattle.dwz_law_expand.specs.FormLaws.{CanBeExpanded}
use Rattle.dwz_def_expand.specs.After.{new_units}
use Rattle.dwz_law_expand.specs.Told.{IsOfBytes, told}
use Rattle.dwz_law_expand.proofs.CopyLemmas.{chosen_keys, each_written}
use Rattle.dwz_law_expand.proofs.FitLemmas.{NoneNarrow}
use Rattle.dwz_law_expand.proofs.OriginLemmas.{apart, w}
use Rattle.dwz_law_expand.proofs.UnitLemmas.{unit_good}

-- ---- names that stand once

copies_same : IsSame (same_copy same_place)
copies_same = record {
  true_is = λ x y e.
      (let both = and_parts (x.unit == y.unit) (same_place x.source y.source) e in
      let unit = eqb-true x.unit y.unit both.0 in
      let source = test.yes x.source y.source both.1 in
      (λ i. record { unit = unit i; source = source i }));
  refl_is = λ x. rw (eq-eqb x.unit x.unit refl, test.no x.source) refl;
}

units_chosen : {P : Type 0} (c : Choice P) (units : List (DwUnit (Copy P))) → units_keys (chosen_units c units) ≡ units_keys units
unfolding units_keys unit_keys
units_chosen c [] = refl
units_chosen {P} c (u ∷ units) =
    ap (λ (ks : List (Copy P)). u.at ∷ u.root.at ∷ (ks ++ units_keys (chosen_units c units))) (chosen_keys c u.below) ∙ ap (λ (ks : List (Copy P)). u.at ∷ u.root.at ∷ (keys u.below ++ ks)) (units_chosen c units)

no_more : {X : Type 0} (xs : List X) → xs ++ [] ≡ xs
no_more [] = refl
no_more {X} (x ∷ xs) = ap (λ (ys : List X). x ∷ ys) (no_more xs)

module _ (f : OneFile) (reads : ReadsOne f) (bytes : IsOfBytes f) (free : (q : Refusal) → ¬ ExpandRefusal f q) where
  -- ---- none of the refusals

  copied : AllCopied same_place (forms f) (said_by_file f)
  copied = all_copied f free

  no_site : (q : Refusal) → ¬ OfFirst (SiteRefusal f) (sites_of_file f) q
  no_site q h = free q (inl h)

  no_own : (q : Refusal) → ¬ NarrowIn f 0 q
  no_own q h = free q (inr (no_site, inl h))

  no_lists : (q : Refusal) → ¬ NarrowInLists f q
  no_lists q h = free q (inr (no_site, inr (no_own, inl h)))

  no_common : (q : Refusal) → ¬ NarrowIn f 1 q
  no_common q h = free q (inr (no_site, inr (no_own, inr (no_lists, inl h))))

  no_large : (q : Refusal) → ¬ LargeRefusal f q
  no_large q h = free q (inr (no_site, inr (no_own, inr (no_lists, inr (no_common, h)))))

  pub none_narrow : NoneNarrow f
  none_narrow = record { own = λ y h. no_own _ (y, h, refl); common = λ y h. no_common _ (y, h, refl); lists = λ y h. no_lists _ (y, h, refl) }

  section_fits : (code : ℕ) (content : List ℕ) → ((y : Fault) → ¬ IsLargeSection (record { code = code; bytes = content }) y) → length content < too_large
  section_fits code content small = by (cases_lt (length content) too_large) where
    by : (length content < too_large) ⊎ (too_large ≤ length content) → length content < too_large
    by (inl less) = less
    by (inr large) = absurd (small (too_large_at code) (refl, large))

  both_fit : FitsSections (sections (new_places f) (new_units f))
  unfolding new_sections
  both_fit =
      let s = expanded_sections same_place (forms f) (said_by_file f) in
      let first : (y : Fault) → ¬ IsLargeSection (record { code = 1; bytes = s.info }) y = λ y h. no_large _ (y, inl h, refl) in
      let second : (y : Fault) → ¬ IsLargeSection (record { code = 2; bytes = s.abbrevs }) y = λ y h. no_large _ (y, inr (first, inl h), refl) in
      (section_fits 1 s.info first, section_fits 2 s.abbrevs second)

  -- ---- the units

  sound : Each SoundUnit (new_units f)
  sound = each_written same_place test (w f reads bytes) (apart f reads bytes) (forms f) SoundUnit (λ n u nth. (unit_good f reads bytes copied none_narrow n u nth).sound)

  say : UnitsSay (told f) (new_units f)
  say = each_written same_place test (w f reads bytes) (apart f reads bytes) (forms f) (UnitSays (told f)) (λ n u nth. (unit_good f reads bytes copied none_narrow n u nth).says)

  room : Each (UnitHasRoom (new_places f)) (new_units f)
  room = each_written same_place test (w f reads bytes) (apart f reads bytes) (forms f) (UnitHasRoom (new_places f)) (λ n u nth. (unit_good f reads bytes copied none_narrow n u nth).room)

  abbrev out : FileOut (Copy Place)
  out = record { number = 0; units = new_units f }

  once : NoneTwice (files_keys (out ∷ []))
  unfolding files_keys written
  once = subst NoneTwice (sym (no_more (units_keys (new_units f)) ∙ units_chosen (forms f) (expanded same_place (said_by_file f)))) (file_whole f reads free).apart

  stands : UnitsStand (new_places f) (new_units f) 0
  stands = numbering_stands (same_copy same_place) copies_same (out ∷ []) once out (inl refl) (sound_units (new_units f) sound)

  writable : AreWritable (new_places f) [] (new_units f)
  writable = record { sound = sound; stands = stands; room = room; fits = both_fit; common_fits = λ k is. absurd is }

  pub can_be : CanBeExpanded f
  can_be = record { writable = writable; fit = fits (new_places f) [] (new_units f) (told f) refl refl writable say; say = say }
