use Rattle.std.proofs.Common.{◌≡◌, ℕ, None, drop, map, List}
use Rattle.dwz_def_reading.specs.Units.{RawUnit}
use Rattle.dwz_def_reading.specs.Shared.{ListOperand}
use Rattle.dwz_encode_operands.proofs.FirstLemmas.{Noted}
use Rattle.dwz_graph.specs.ListRows.{operand_view}
use Rattle.dwz_encode_operands.proofs.listed.first_listed.Given as goal

abbrev pub invariant-loop-k : goal.invariant-loop-k
invariant-loop-k l = (raw : List RawUnit) (number : ListOperand → ℕ) → l.numbers ≡ map (λ o. number (operand_view raw o)) l.operands
    → Noted number None (map (operand_view raw) l.operands) l.first (map (operand_view raw) (drop l.k l.operands))
