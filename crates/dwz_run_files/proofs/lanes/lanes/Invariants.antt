use Rattle.std.proofs.Common.{◌≡◌, ◌+◌, length, map}
use Rattle.std.specs.Vec.Iter.{into_iter_items, into_iter_len}
use Rattle.dwz_law_layout.specs.Beside.{Beside}
use Rattle.dwz_law_layout.specs.Facts.{RunFacts, common, run}
use Rattle.dwz_run_files.specs.Lanes.{AreLanes}
use Rattle.dwz_run_files.specs.Works.{IsWork}
use Rattle.dwz_run_files.proofs.LanesDealt.{AreMade}
use Rattle.dwz_run_files.proofs.lanes.lanes.Given as goal

abbrev pub invariant-loop-lane : goal.invariant-loop-lane
invariant-loop-lane g l =
    let done = length l.lanes.items in
    let left = l.lane-iterator in
    (done + into_iter_len left ≡ l.fn.step)
    × ((beside : Beside) (f : RunFacts beside) → IsWork f l.work → AreLanes (common f) (run f) l.fn.step 0 (map into_iter_items l.lanes.items)
    × AreMade (common f) (run f) l.fn.step done (into_iter_len left) (into_iter_items left))
