-- Slots ascend, and a binary search among them tells whether one stands at a place.
use Rattle.std.proofs.Common.{◌≡◌, ◌⊎◌, ℕ, zero, suc, ◌+◌, ◌<◌, ◌≤◌, Bool, true, false, List, [], ◌∷◌, length, get_or, Option, Some, Result, Ok, Err, refl, sym, subst, inl, inr, arith}
use Rattle.std.specs.Ordering.{nat_cmp}
use Rattle.std.specs.Prelude.{is_ok}
use Rattle.std.specs.List.Sorted.{IsBinarySearchResult, IsStrictlyIncreasing}
use Rattle.std.proofs.lemmas.Bool.{cases_lt}
use Rattle.std.proofs.lemmas.List.Sorted.{searched}
use Rattle.dwz_def_reading.specs.Lists.{In}
use Rattle.dwz_def_reading.specs.Rows.{has}
use Rattle.dwz_def_reading.specs.OffsetTables.{slots_in}
use Rattle.dwz_def_reading.proofs.ListFacts.{in_at}
use Rattle.dwz_strs.proofs.MovedLemmas.{rising}
use Rattle.dwz_def_reading.proofs.MeaningLemmas.{has_in}
use Rattle.dwz_def_tops.specs.Lists.{EachPair}
use Rattle.dwz_def_reading.proofs.HasLemmas.{in_has}
use Rattle.dwz_def_encoding.specs.Pruned.{slots_or_none}
use Rattle.dwz_def_encoding.proofs.SlotsLemmas.{slots_stand}

-- ---- they ascend

abbrev Apart : List ℕ → Type 0
Apart xs = EachPair (λ p q. p + 4 ≤ q) xs

apart_rise : (xs : List ℕ) → Apart xs → IsStrictlyIncreasing xs
apart_rise [] h k lt = absurd (omega (arith, lt))
apart_rise (x ∷ []) h k lt = absurd (omega (arith, lt))
apart_rise (x ∷ y ∷ xs) h zero lt = omega (arith, h.0.0)
apart_rise (x ∷ y ∷ xs) h (suc k) lt =
    let one : suc k + 1 ≡ suc (k + 1) = omega arith in
    subst (λ (n : ℕ). get_or (y ∷ xs) k 0 < get_or (x ∷ y ∷ xs) n 0) (sym one) (apart_rise (y ∷ xs) h.1 k (omega (arith, lt)))

pub slots_rise : (section places : List ℕ) → slots_in section ≡ Some places → IsStrictlyIncreasing places
slots_rise section places e = apart_rise places (subst (λ (o : Option (List ℕ)). Apart (slots_or_none o)) e (slots_stand section).1)

-- ---- what is among them

index_of : (xs : List ℕ) (x : ℕ) → In x xs → (k : ℕ) × (k < length xs) × (get_or xs k 0 ≡ x)
index_of [] x h = absurd h
index_of (y ∷ xs) x (inl e) = (0, omega arith, e)
index_of (y ∷ xs) x (inr r) = (let o = index_of xs x r in (suc o.0, omega (arith, o.1), o.2))

has_none : (x : ℕ) (xs : List ℕ) → (In x xs → ⊥) → has x xs ≡ false
has_none x xs none = go (has x xs) refl where
  go : (b : Bool) → has x xs ≡ b → has x xs ≡ false
  go true e = absurd (none (has_in x xs e))
  go false e = e

found : (xs : List ℕ) (i x : ℕ) → i < length xs → get_or xs i 0 ≡ x → true ≡ has x xs
found xs i x lt at = sym (in_has x xs (subst (λ (n : ℕ). In n xs) at (in_at xs i lt)))

missing : (xs : List ℕ) (i x : ℕ) → ((k : ℕ) → k < i → get_or xs k 0 < x) → ((k : ℕ) → i ≤ k → k < length xs → x < get_or xs k 0) → false ≡ has x xs
missing xs i x below above = sym (has_none x xs none) where
  none : In x xs → ⊥
  none h = (let o = index_of xs x h in go o.0 (cases_lt o.0 i) o.1 o.2) where
    go : (k : ℕ) → (k < i) ⊎ (i ≤ k) → k < length xs → get_or xs k 0 ≡ x → ⊥
    go k (inl less) lt at = omega (arith, below k less, at)
    go k (inr more) lt at = omega (arith, above k more lt, at)

pub too_far : (xs : List ℕ) (x : ℕ) → ((k : ℕ) → k < length xs → get_or xs k 0 < x) → false ≡ has x xs
too_far xs x small = sym (has_none x xs (λ h. (let o = index_of xs x h in omega (arith, small o.0 o.1, o.2))))

-- ---- what a search among them answers

pub searched_is : (slots : List ℕ) → IsStrictlyIncreasing slots → (place : ℕ) (r : Result ℕ ℕ) → IsBinarySearchResult (λ y. nat_cmp y place) slots r → is_ok r ≡ has place slots
searched_is slots up place (Ok i) h = (let s = searched slots place (Ok i) h (rising slots up) in found slots i place s.0 s.1)
searched_is slots up place (Err i) h = (let s = searched slots place (Err i) h (rising slots up) in missing slots i place s.1 s.2)
