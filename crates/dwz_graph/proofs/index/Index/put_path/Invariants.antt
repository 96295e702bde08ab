use Rattle.std.proofs.Common.{◌≡◌, ◌<◌, ℕ, List, Some, length, slice_get}
use Rattle.dwz_def_tops.specs.Spots.{EntryName}
use Rattle.dwz_graph.specs.Index.{IsIndex}
use Rattle.dwz_graph.proofs.WayLemmas.{OnWay}
use Rattle.dwz_graph.proofs.index.Index.put_path.Given as goal

pub record Going (old out : List ℕ) (count at : ℕ) (OnPath : List EntryName → EntryName → Type 0) : Type 0 where
  pub within : at < count
  pub way : (names : List EntryName) (s : EntryName) → OnPath names s

abbrev pub invariant-loop-at : goal.invariant-loop-at
invariant-loop-at l =
    Going l.fn.path.items l.path.items (length l.self.steps) l.at (λ names s. IsIndex names l.self → slice_get names l.entry ≡ Some s → OnWay names l.at l.path.items l.fn.path.items s)

abbrev pub decreases-loop-at : goal.decreases-loop-at
decreases-loop-at l = l.at
