use Rattle.std.proofs.Common.{◌≡◌, length, map}
use Rattle.std.specs.Vec.Iter.{into_iter_items}
use Rattle.dwz_def_readback.specs.Files.{CommonFile, Run}
use Rattle.dwz_run_files.specs.Lanes.{AreLanes}
use Rattle.dwz_run_files.proofs.LanesDealt.{Dealt}
use Rattle.dwz_run_files.proofs.lanes.take_turns.Given as goal

abbrev pub invariant-loop-number : goal.invariant-loop-number
invariant-loop-number l =
    let step = length l.fn.lanes.items in
    (length l.lanes.items ≡ step)
    × ((k : CommonFile) (r : Run) → AreLanes k r step 0 (map into_iter_items l.fn.lanes.items) → l.count ≡ length r.files
    → Dealt k r step l._number l.made.items (map into_iter_items l.lanes.items))
