-- What is so of entries by their numbers is so of them by their places, where no two have the same.
use Rattle.std.proofs.Common.{◌≡◌, ℕ, zero, suc, ◌+◌, ◌<◌, Bool, true, false, List, [], ◌∷◌, length, map, get_or, take, Some, slice_get, if◌then◌else◌, refl, sym, ap, ◌∙◌}
use Rattle.std.specs.Prelude.{◌==◌}
use Rattle.std.proofs.lemmas.Bool.{eq-eqb, eqb-false, eqb-true, ne_eqb}
use Rattle.std.proofs.lemmas.List.{length-map}
use Rattle.std.proofs.lemmas.List.Sums.{sum_by-cons}
use Rattle.dwz_model.specs.Lists.{Each}
use Rattle.dwz_model.proofs.ListFacts.{got_map}
use Rattle.dwz_def_encoding.specs.Placing.{has_key}
use Rattle.dwz_def_expand.specs.Source.{first_with, unit_for}
use Rattle.dwz_imports.specs.Imports.{same}
use Rattle.dwz_expand_sources.specs.Copies.{IsCopyNumber}
use Rattle.dwz_expand_sources.proofs.StartLemmas.{many}

module _ (f : ℕ → ℕ) where
  abbrev placed : List (List ℕ) → List (List ℕ)
  placed units = map (λ (list : List ℕ). map f list) units

  unit_placed : (units : List (List ℕ)) (n : ℕ) → get_or (placed units) n [] ≡ map f (get_or units n [])
  unit_placed [] n = refl
  unit_placed (list ∷ units) zero = refl
  unit_placed (list ∷ units) (suc n) = unit_placed units n

  many_placed : (units : List (List ℕ)) (n : ℕ) → many (take n (placed units)) ≡ many (take n units)
  many_placed [] zero = refl
  many_placed [] (suc n) = refl
  many_placed (list ∷ units) zero = refl
  many_placed (list ∷ units) (suc n) =
      sum_by-cons (λ (x : List ℕ). length x) (map f list) (take n (placed units))
      ∙ (λ j. length-map list f j + many_placed units n j)
      ∙ sym (sum_by-cons (λ (x : List ℕ). length x) list (take n units))

  pub number_placed : (units : List (List ℕ)) (n i number : ℕ) → IsCopyNumber units n i number → IsCopyNumber (placed units) n (f i) number
  number_placed units n i number is = record {
    before = is.before;
    counts = is.counts ∙ ap (λ (k : ℕ). k + is.before) (sym (many_placed units n));
    stands = ap (λ (list : List ℕ). slice_get list is.before) (unit_placed units n) ∙ got_map f (get_or units n []) is.before i is.stands;
  }

  module _ (count : ℕ) (one : (i j : ℕ) → i < count → j < count → f i ≡ f j → i ≡ j) where
    abbrev pub Below : List ℕ → Type 0
    Below list = Each (λ e. e < count) list

    same_placed : (i j : ℕ) → i < count → j < count → (f j == f i) ≡ (j == i)
    same_placed i j low inside = by (j == i) refl where
      by : (t : Bool) → (j == i) ≡ t → (f j == f i) ≡ t
      by true is = eq-eqb (f j) (f i) (ap f (eqb-true j i is))
      by false is = ne_eqb (f j) (f i) (λ e. eqb-false j i is (one j i inside low e))

    has_placed : (i : ℕ) → i < count → (list : List ℕ) → Below list → has_key same (f i) (map f list) ≡ has_key same i list
    unfolding has_key
    has_placed i low [] below = refl
    has_placed i low (e ∷ list) below =
        (λ j. elim (same_placed i e low below.0 j) as (λ _. Bool) [ true ↦ true | false ↦ has_placed i low list below.1 j ])

    first_placed : (s i : ℕ) → i < count → (units : List (List ℕ)) → Each Below units → first_with same s (placed units) (f i) ≡ first_with same s units i
    unfolding first_with
    first_placed s i low [] below = refl
    first_placed s i low (list ∷ units) below = (λ j. if has_placed i low list below.0 j then Some s else first_placed (suc s) i low units below.1 j)

    below_at : (units : List (List ℕ)) (n : ℕ) → Each Below units → Below (get_or units n [])
    below_at [] n below = tt
    below_at (list ∷ units) zero below = below.0
    below_at (list ∷ units) (suc n) below = below_at units n below.1

    pub for_placed : (units : List (List ℕ)) → Each Below units → (n i : ℕ) → i < count → unit_for same (placed units) n (f i) ≡ unit_for same units n i
    unfolding unit_for
    for_placed units below n i low =
        let own : has_key same (f i) (get_or (placed units) n []) ≡ has_key same i (get_or units n []) =
        ap (λ (list : List ℕ). has_key same (f i) list) (unit_placed units n) ∙ has_placed i low (get_or units n []) (below_at units n below) in
        (λ j. if own j then Some n else first_placed 0 i low units below j)
