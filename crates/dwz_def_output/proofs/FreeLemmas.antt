-- What holds where no refusal is the first.
use Rattle.std.proofs.Common.{◌<◌, List, [], ◌∷◌, length, refl, subst, inl, inr}
use Rattle.std.proofs.lemmas.Bool.{cases_lt}
use Rattle.dwz_def_reading.specs.declared.elf.NewContent.{NewContent}
use Rattle.dwz_def_reading.specs.ElfLayout.{too_large}
use Rattle.dwz_def_reading.specs.Lists.{In}
use Rattle.dwz_def_output.specs.Refusals.{IsLargeSection, too_large_at}
use Rattle.dwz_def_reading.specs.FirstOf.{OfFirst, OrElse}

abbrev pub Nothing : {X : Type 0} → (X → Type 0) → Type 0
Nothing {X} P = (x : X) → ¬ P x

pub not_first : {X : Type 0} (First Then : X → Type 0) → Nothing (OrElse First Then) → Nothing First
not_first First Then free x is = free x (inl is)

pub not_then : {X : Type 0} (First Then : X → Type 0) → Nothing (OrElse First Then) → Nothing Then
not_then First Then free x is = free x (inr (not_first First Then free, is))

pub not_any : {X Y : Type 0} (Has : Y → X → Type 0) (ys : List Y) → Nothing (OfFirst Has ys) → (y : Y) → In y ys → Nothing (Has y)
not_any Has [] free y there = absurd there
not_any {X} {Y} Has (z ∷ ys) free y (inl same) = subst (λ (w : Y). Nothing (Has w)) same (not_first (Has z) (OfFirst Has ys) free)
not_any Has (z ∷ ys) free y (inr later) = not_any Has ys (not_then (Has z) (OfFirst Has ys) free) y later

-- a section that is too large for none is short
pub is_short : (new : List NewContent) → Nothing (OfFirst IsLargeSection new) → (n : NewContent) → In n new → length n.bytes < too_large
is_short new free n there = elim (cases_lt (length n.bytes) too_large) [
  | inl less ↦ less
  | inr large ↦ absurd (not_any IsLargeSection new free n there (too_large_at n.code) (refl, large))
]
