-- The units of orders are counted one order after the other, so that the first of each has the number of all before it.
use Rattle.std.proofs.Common.{◌≡◌, ℕ, zero, suc, ◌+◌, ◌<◌, ◌≤◌, List, [], ◌∷◌, ◌++◌, length, drop, take, get_or, Some, slice_get, sym, ap, ◌∙◌, arith}
use Rattle.std.proofs.lemmas.List.{append-nil, append_assoc, drop_all}
use Rattle.dwz_def_reading.proofs.ListFacts.{drop_next}
use Rattle.dwz_layout.specs.declared.order.UnitItems.{UnitItems}
use Rattle.dwz_encode.specs.Shown.{unit_count}
use Rattle.dwz_run_files.specs.Prepared.{firsts_from}

pub firsts_next : (orders : List (List UnitItems)) (i first next : ℕ) (order : List UnitItems) (old new all : List ℕ) → i < length orders
    → order ≡ get_or orders i order → next ≡ first + length order
    → new ≡ old ++ first ∷ [] → old ++ firsts_from first (drop i orders) ≡ all → new ++ firsts_from next (drop (i + 1) orders) ≡ all
unfolding firsts_from
firsts_next orders i first next order old new all lt there behind put so =
    (λ j. put j ++ firsts_from (behind j) (drop (i + 1) orders))
    ∙ append_assoc old (first ∷ []) (firsts_from (first + length order) (drop (i + 1) orders))
    ∙ sym (ap (λ (w : List (List UnitItems)). old ++ firsts_from first w) (drop_next orders i order lt there))
    ∙ so

pub firsts_end : (orders : List (List UnitItems)) (i first : ℕ) (firsts all : List ℕ) → length orders ≤ i
    → firsts ++ firsts_from first (drop i orders) ≡ all → firsts ≡ all
unfolding firsts_from
firsts_end orders i first firsts all le so =
    sym (append-nil firsts) ∙ sym (ap (λ (w : List (List UnitItems)). firsts ++ firsts_from first w) (drop_all i orders le)) ∙ so

pub first_got : (orders : List (List UnitItems)) (i first : ℕ) → i < length orders
    → slice_get (firsts_from first orders) i ≡ Some (first + unit_count (take i orders))
unfolding firsts_from unit_count
first_got [] i first lt = absurd (omega arith)
first_got (o ∷ orders) zero first lt = (let none : first ≡ first + 0 = omega arith in ap (λ (w : ℕ). Some w) none)
first_got (o ∷ orders) (suc i) first lt =
    let sum : first + length o + unit_count (take i orders) ≡ first + (length o + unit_count (take i orders)) = omega arith in
    first_got orders i (first + length o) (omega arith) ∙ ap (λ (w : ℕ). Some w) sum
