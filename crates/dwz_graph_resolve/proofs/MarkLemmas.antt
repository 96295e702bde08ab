-- Marks of places.
use Rattle.std.proofs.Common.{◌≡◌, ℕ, ◌+◌, List, [], ◌∷◌, take, Some, slice_get, sym, subst, inl, inr}
use Rattle.dwz_def_reading.specs.Lists.{In}
use Rattle.dwz_def_reading.proofs.ListFacts.{in_left, in_right}
use Rattle.dwz_graph_resolve.specs.ListParts.{Marks, Puts}
use Rattle.dwz_unit.proofs.RowsFound.{take_here}

still_in : (places : List ℕ) (k p q : ℕ) → slice_get places k ≡ Some p → In q (take k places) → In q (take (k + 1) places)
still_in places k p q there is = subst (λ (xs : List ℕ). In q xs) (sym (take_here places k p there)) (in_left q (take k places) (p ∷ []) is)

pub marks_past : (old mid places : List ℕ) (k p number : ℕ) → slice_get places k ≡ Some p → Marks old (take k places) number mid → Marks old (take (k + 1) places) number mid
marks_past old mid places k p number there h place n e = elim (h place n e) [
  | inl before ↦ inl before
  | inr (is, same) ↦ inr (still_in places k p place there is, same)
]

pub marks_put : (old mid new places : List ℕ) (k p number : ℕ) → slice_get places k ≡ Some p → Puts mid p number new → Marks old (take k places) number mid
    → Marks old (take (k + 1) places) number new
marks_put old mid new places k p number there puts h place n e = elim (puts place n e) [
  | inl before ↦ marks_past old mid places k p number there h place n before
  | inr here ↦ inr (subst (λ (xs : List ℕ). In place xs) (sym (take_here places k p there)) (in_right place (take k places) (p ∷ []) (inl (sym here.0))), here.1)
]
