use Rattle.std.proofs.Common.{◌≡◌, ℕ, ◌++◌, List, length, map, take}
use Rattle.dwz_model.specs.Lists.{Each}
use Rattle.dwz_graph.specs.Surroundings.{AreAmong}
use Rattle.dwz_expand_passes.specs.Copied.{Added, Lost}
use Rattle.dwz_expand_passes.specs.Known.{Fits, Setting, place_named, raw_of}
use Rattle.dwz_expand_passes.proofs.named.put_operands.Given as goal

abbrev pub invariant-loop-k : goal.invariant-loop-k
invariant-loop-k l = (q : Setting) (places others : List ℕ) → Fits l.x q → AreAmong q.around.common (raw_of l.x) l.refs → map (place_named q (raw_of l.x)) l.refs ≡ places ++ others
    → length places ≡ length l.read → Added q (take l.k l.read) (take l.k places) l.fn.operands.items l.operands.items × Each (λ p. ¬ Lost q p) (take l.k places)
