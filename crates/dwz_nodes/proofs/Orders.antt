-- Orders of numbers and lists: what is not less, and not greater, is equal.
use Rattle.std.proofs.Common.{◌≡◌, ℕ, Equal, List, sym, ap, ◌∙◌, nat_cmp, ◌<◌, ◌≤◌, false, true≢false, is_lt, refl, arith, Ordering, Less, Greater, subst}
use Rattle.std.specs.Cmp.Lexicographic.{slice_cmp}
use Rattle.std.proofs.lemmas.Map.Text.{is_eq-slice_cmp}
use Rattle.std.proofs.lemmas.Slice.Eq.{bytes_eq-Decides}
use Rattle.std.specs.Ordering.{is_eq, ordering_reverse, ordering_then}
use Rattle.std.proofs.lemmas.Cmp.{by_ranked, ranked}

pub bytes_equal : (xs ys : List ℕ) → slice_cmp nat_cmp xs ys ≡ Equal → xs ≡ ys
bytes_equal xs ys e = (bytes_eq-Decides xs ys).0 (sym (is_eq-slice_cmp xs ys) ∙ ap is_eq e)

pub number_low : (x y : ℕ) → is_lt (nat_cmp x y) ≡ false → y ≤ x
number_low x y e = by_ranked (x < y) (x ≡ y) (y < x) (nat_cmp x y) (ranked x y (nat_cmp x y) refl)
    (λ o l. absurd (true≢false (sym (ap is_lt o) ∙ e)))
    (λ o s. omega arith)
    (λ o g. omega arith)

pub first_low : (o p : Ordering) → is_lt (ordering_then o p) ≡ false → is_lt o ≡ false
first_low Less p e = e
first_low Equal p e = refl
first_low Greater p e = refl

pub second_low : (o p : Ordering) → o ≡ Equal → is_lt (ordering_then o p) ≡ false → is_lt p ≡ false
second_low o p is e = subst (λ (q : Ordering). is_lt (ordering_then q p) ≡ false) is e

pub both_equal : (o : Ordering) → is_lt o ≡ false → is_lt (ordering_reverse o) ≡ false → o ≡ Equal
both_equal Less e f = absurd (true≢false e)
both_equal Equal e f = refl
both_equal Greater e f = absurd (true≢false f)
