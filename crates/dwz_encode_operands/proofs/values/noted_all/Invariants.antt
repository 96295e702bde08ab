use Rattle.std.proofs.Common.{◌≡◌, ◌++◌, ℕ, drop, map, List}
use Rattle.dwz_encode_operands.specs.Narrow.{number_by}
use Rattle.dwz_encode_operands.proofs.FirstLemmas.{Noted}
use Rattle.dwz_def_output.specs.Refusals.{all_of_unit}
use Rattle.dwz_def_encoding.specs.Meant.{led_to}
use Rattle.dwz_encode_operands.proofs.values.noted_all.Given as goal

abbrev pub invariant-loop-k : goal.invariant-loop-k
invariant-loop-k l = (after : ℕ → ℕ) (at : ℕ) (more : List ℕ) → l.unit ≡ after at → l.targets ≡ map (λ o. after (led_to at o)) l.operands ++ more
    → Noted (number_by after) l.fn.first (all_of_unit at l.operands) l.so_far (all_of_unit at (drop l.k l.operands))
