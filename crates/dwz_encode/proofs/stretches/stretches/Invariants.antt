use Rattle.std.proofs.Common.{◌≡◌, ℕ, List, ◌++◌, length}
use Rattle.dwz_layout.specs.declared.known.EntryTable.{EntryTable}
use Rattle.dwz_encode.specs.Pages.{units_page}
use Rattle.dwz_encode.specs.Stretches.{stretches_page}
use Rattle.dwz_encode.proofs.stretches.stretches.Given as goal

abbrev pub invariant-loop-left : goal.invariant-loop-left
invariant-loop-left l =
    (k : EntryTable) (places roots : List ℕ)
    → stretches_page k places roots l.stretches.items ++ units_page k places roots l.here l.left l.left_laid
    ≡ units_page k places roots l.first l.units l.laid

abbrev pub decreases-loop-left : goal.decreases-loop-left
decreases-loop-left l = length l.left
