use Rattle.std.proofs.Common.{◌≡◌, ◌++◌, ℕ, List, take}
use Rattle.dwz_def_tops.specs.Spots.{EntryName}
use Rattle.dwz_layout_items.specs.Chains.{AreUp, chains_lines, down}
use Rattle.dwz_layout_items.specs.Order.{Names, order_lines}
use Rattle.dwz_layout_items.proofs.partial.put_chains.Given as goal

abbrev pub invariant-loop-chain : goal.invariant-loop-chain
invariant-loop-chain l =
    (names : Names EntryName) (ups : ℕ → List ℕ) → AreUp l.rows l.of_tops ups l.chains → order_lines names l.order.items ≡ order_lines names l.fn.order.items
    ++ chains_lines names (λ t. down (ups t)) 0 (take l.chain l.chains)
