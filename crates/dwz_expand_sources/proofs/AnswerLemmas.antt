-- What rows say of an entry is so of its place.
use Rattle.std.proofs.Common.{◌≡◌, ℕ, ◌<◌, ◌≤◌, List, length, get_or, Option, Some, None, slice_get, sym, ap, subst, ◌∙◌, arith}
use Rattle.std.proofs.lemmas.List.{length-map}
use Rattle.dwz_model.specs.Lists.{NoneTwice}
use Rattle.dwz_model.proofs.ListFacts.{got_index_or, got_map}
use Rattle.dwz_def_tops.specs.Shown.{units_keys}
use Rattle.dwz_def_encoding.specs.Placing.{has_key}
use Rattle.dwz_def_cross.specs.Tops.{WithCommon, units_with_common}
use Rattle.dwz_def_expand.specs.Source.{source_places, unit_for}
use Rattle.dwz_check_index.specs.Index.{ListedEntry}
use Rattle.dwz_imports.specs.Imports.{same}
use Rattle.dwz_expand_sources.specs.Sources.{AreSources, Sources, all_entries}
use Rattle.dwz_expand_sources.specs.Copies.{IsCopyFor, IsCopyNumber}
use Rattle.dwz_expand_sources.specs.Rows.{AreCopies, Copies, HaveEntries, entry_lists}
use Rattle.dwz_expand_sources.specs.declared.copies.CopyAt.{CopyAt}
use Rattle.dwz_expand_sources.proofs.ForLemmas.{IsNumberFor, answer_first, answer_here, answer_none, has_below}
use Rattle.dwz_expand_sources.proofs.PlaceLemmas.{for_placed, number_placed}
use Rattle.dwz_expand_sources.proofs.SourceLemmas.{have_ranges, have_roots, low_lists, one_number, place, place_in, places, places_once, sources_places}
use Rattle.dwz_expand_sources.specs.Numbers.{copy_count, root_numbers}
use Rattle.std.proofs.Common.{◌^◌, true, []}
use Rattle.std.specs.Prelude.{IfSome}

-- what is asked for holds of sources
pub sources_have : (w : WithCommon ℕ) (s : Sources) (starts : List ℕ) (count : ℕ) → AreSources w s → length (all_entries w) ≡ count → starts ≡ root_numbers s.ranges 0 s.units
    → copy_count s.ranges s.units < 2 ^ 64 → HaveEntries count s starts
sources_have w s starts count are many numbers few = subst (λ (n : ℕ). HaveEntries n s starts) many (record {
  ranges = are.ranges;
  units = have_ranges w s.ranges s.units _ are.units;
  roots = have_roots w s.ranges s.units _ are.units;
  numbers = numbers;
  few = few;
})

module _ (w : WithCommon ℕ) (s : Sources) (starts : List ℕ) (c : Copies) (are : AreSources w s) (apart : NoneTwice (units_keys (units_with_common w))) (copies : AreCopies s starts c)
    (count : length (all_entries w) ≡ length c.first) (inside : c.unit < length s.units) (i : ℕ) (d : ListedEntry ℕ) (found : slice_get (all_entries w) i ≡ Some d) (low : i < length c.first) where
  abbrev lists : List (List ℕ)
  lists = entry_lists s

  at : place w i ≡ d.0.at
  at = got_index_or (places w) i d.0.at 0 (got_map place_in (all_entries w) i d found)

  one : (j k : ℕ) → j < length c.first → k < length c.first → place w j ≡ place w k → j ≡ k
  one j k a b e =
      let long = length-map (all_entries w) place_in in
      one_number (places w) (places_once (units_with_common w) apart) j k (omega arith) (omega arith) e

  told : (answer : Option CopyAt) → IsNumberFor lists c.unit i answer → IsCopyFor w c.unit d.0.at answer
  told answer is = record {
    unit = is.unit ∙ sym (for_placed (place w) (length c.first) one lists (low_lists (length c.first) s starts copies.entries) c.unit i low) ∙ (λ j. unit_for same (sources_places w s are j) c.unit (at j));
    number = number answer is;
  } where
    one_told : (x : CopyAt) → IsCopyNumber lists x.unit i x.number → IsCopyNumber (source_places same w) x.unit d.0.at x.number
    one_told x r =
        subst (λ (p : ℕ). IsCopyNumber (source_places same w) x.unit p x.number) at
        (subst (λ (units : List (List ℕ)). IsCopyNumber units x.unit (place w i) x.number) (sources_places w s are) (number_placed (place w) lists x.unit i x.number r))

    number : (answer : Option CopyAt) → IsNumberFor lists c.unit i answer → IfSome answer (λ x. IsCopyNumber (source_places same w) x.unit d.0.at x.number)
    number None r = tt
    number (Some x) r = one_told x r.number

  units_long : length lists ≡ length s.units
  units_long = length-map s.units _

  module _ (e f : CopyAt) where
    pub here_told : (get_or c.here i e).unit ≡ c.unit → IsCopyFor w c.unit d.0.at (Some (get_or c.here i e))
    here_told is =
        let long = copies.len in
        let many = units_long in
        let x = get_or c.here i e in
        told (Some x) (answer_here lists c.unit i x is (copies.here i e (omega arith) (omega arith)))

    other : ((get_or c.here i e).unit ≡ c.unit → ⊥) → has_key same i (get_or lists c.unit []) ≡ true → ⊥
    other never has = never (copies.at_hand i e (let long = copies.len in omega arith) has)

    pub first_told : ((get_or c.here i e).unit ≡ c.unit → ⊥) → (get_or c.first i f).unit < c.units → IsCopyFor w c.unit d.0.at (Some (get_or c.first i f))
    first_told never lt =
        let many = units_long in
        let same_many = copies.units in
        let x = get_or c.first i f in
        told (Some x) (answer_first lists c.unit i (other never) x (copies.first i f low (omega arith)) (λ m has. copies.least i m f low (omega arith) has))

    pub none_told : ((get_or c.here i e).unit ≡ c.unit → ⊥) → c.units ≤ (get_or c.first i f).unit → IsCopyFor w c.unit d.0.at None
    none_told never le =
        told None (answer_none lists c.unit i (other never) (λ m has. (
        let many = units_long in
        let same_many = copies.units in
        let least = copies.least i m f low (omega arith) has in
        let there = has_below lists m i has in
        omega arith)))

-- ---- what is answered

abbrev pub Tells : ℕ → Copies → Option CopyAt → Type 0
Tells i c answer = (w : WithCommon ℕ) (s : Sources) (starts : List ℕ) → AreSources w s → NoneTwice (units_keys (units_with_common w)) → AreCopies s starts c
    → length (all_entries w) ≡ length c.first → c.unit < length s.units → (d : ListedEntry ℕ) → slice_get (all_entries w) i ≡ Some d → IsCopyFor w c.unit d.0.at answer

module _ (i : ℕ) (c : Copies) (low : i < length c.first) (x : CopyAt) (is_here : x ≡ get_or c.here i x) where
  pub here_tells : x.unit ≡ c.unit → Tells i c (Some x)
  here_tells own w s starts are apart copies count inside d found =
      subst (λ (y : CopyAt). IsCopyFor w c.unit d.0.at (Some y)) (sym is_here)
      (here_told w s starts c are apart copies count inside i d found low x x (ap (λ (y : CopyAt). y.unit) (sym is_here) ∙ own))

  module _ (other : x.unit ≡ c.unit → ⊥) (y : CopyAt) (is_first : y ≡ get_or c.first i y) where
    not_here : (get_or c.here i x).unit ≡ c.unit → ⊥
    not_here own = other (ap (λ (z : CopyAt). z.unit) is_here ∙ own)

    pub first_tells : y.unit < c.units → Tells i c (Some y)
    first_tells lt w s starts are apart copies count inside d found =
        subst (λ (z : CopyAt). IsCopyFor w c.unit d.0.at (Some z)) (sym is_first)
        (first_told w s starts c are apart copies count inside i d found low x y not_here (subst (λ (z : CopyAt). z.unit < c.units) is_first lt))

    pub none_tells : c.units ≤ y.unit → Tells i c None
    none_tells le w s starts are apart copies count inside d found =
        none_told w s starts c are apart copies count inside i d found low x y not_here (subst (λ (z : CopyAt). c.units ≤ z.unit) is_first le)
