-- A slot that holds a number for a key.
use Rattle.std.proofs.Common.{◌≡◌, ℕ, List, Option, Some, None, IfSome, refl, ap, ◌∙◌, slice_get}
use Rattle.dwz_label_marks.specs.declared.found.Slot.{Slot}
use Rattle.dwz_label_marks.specs.Found.{Has}

pub kept_here : (slots : List Slot) (at key : ℕ) (s : Slot) → slice_get slots at ≡ Some s → s.key ≡ key → IfSome s.number (λ n. Has slots key n)
kept_here slots at key s g e = go s.number refl where
  go : (o : Option ℕ) → s.number ≡ o → IfSome o (λ n. Has slots key n)
  go None h = tt
  go (Some n) h =
      let same : s ≡ record { key = key; number = Some n } = λ i. record { key = e i; number = h i } in
      record { at = at; slot = g ∙ ap (λ (x : Slot). Some x) same }
