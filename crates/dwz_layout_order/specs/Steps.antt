-- Inner: no public clause cites what follows. What is written, step by step.
use Rattle.std.specs.Prelude.{◌≡◌, ℕ, ◌<◌, All, Bool, List, [], ◌∷◌, ◌++◌, Some, length, slice_get}
use Rattle.dwz_groups.specs.Groups.{values_at}
use Rattle.dwz_def_reading.specs.Meanings.{IfSo}
use Rattle.dwz_layout_order.specs.Parts.{file_pairs}
use Rattle.dwz_layout.specs.declared.order.UnitItems.{UnitItems}
use Rattle.dwz_plan.specs.declared.plan.Partial.{Partial}
use Rattle.dwz_layout_order.specs.declared.orders.Settled.{Settled}
use Rattle.dwz_layout_order.specs.Ordered.{PartPut}

-- the numbers of the partial units of a file
abbrev pub AreNumbersOf : Settled → ℕ → List ℕ → Type 0
AreNumbersOf s file numbers = numbers ≡ values_at (file_pairs 0 s.plan.now.partials) file

-- the partial unit of that number holds tops whose spaces are known
abbrev pub HoldsSpaced : Settled → ℕ → Type 0
HoldsSpaced s n = (part : Partial) → slice_get s.plan.now.partials n ≡ Some part → All (λ t. t < length s.of_tops.now) part.tops

-- the partial unit of that number is there, and is written so
pub record NumberPut (s : Settled) (n : ℕ) (o : UnitItems) : Type 0 where
  pub part : Partial
  pub there : slice_get s.plan.now.partials n ≡ Some part
  pub put : PartPut s n part o

abbrev pub NumbersPut : Settled → List ℕ → List UnitItems → Type 0
NumbersPut s [] [] = Unit {0}
NumbersPut s (n ∷ numbers) (o ∷ order) = NumberPut s n o × NumbersPut s numbers order
NumbersPut s _ _ = ⊥

-- if the file is written, what P holds of was appended
abbrev pub PutsFile : (List UnitItems → Type 0) → Bool → List (List UnitItems) → List (List UnitItems) → Type 0
PutsFile P written old new = IfSo written ((order : List UnitItems) × (new ≡ old ++ order ∷ []) × P order) (new ≡ old)
