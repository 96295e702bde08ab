use Rattle.std.proofs.Common.{◌≡◌, ◌==◌, not, filter, take}
use Rattle.dwz_layout_items.specs.Chains.{names_at}
use Rattle.dwz_layout_items.proofs.chains.split.Given as goal

abbrev pub invariant-loop-top : goal.invariant-loop-top
invariant-loop-top l =
    record {
      unspaced : l.unspaced.items ≡ filter (λ t. names_at l.of_tops t == 0) (take l.top-index l.tops);
      spaced : l.spaced.items ≡ filter (λ t. not (names_at l.of_tops t == 0)) (take l.top-index l.tops);
    }
