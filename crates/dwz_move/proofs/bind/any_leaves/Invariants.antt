use Rattle.std.proofs.Common.{◌≡◌, ℕ, List, length}
use Rattle.dwz_def_tops.specs.Spots.{EntryName, Top}
use Rattle.dwz_move.specs.Bound.{AreInto, HasTops}
use Rattle.dwz_move.proofs.FormBinds.{LeavesLeft}
use Rattle.dwz_move.proofs.bind.any_leaves.Given as goal

abbrev pub invariant-loop-k : goal.invariant-loop-k
invariant-loop-k l = (tops : List Top) (unit : ℕ) (name : ℕ → EntryName) (places : List ℕ) → HasTops tops unit l.own → AreInto name l.into places → l.count ≡ length places
    → LeavesLeft tops unit name l.into places l.k
