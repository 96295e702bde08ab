use Rattle.std.proofs.Common.{◌-◌, ◌++◌, List, Option, length}
use Rattle.dwz_def_output.specs.declared.new_file.NewFile.{NewFile}
use Rattle.dwz_run_files.specs.Lanes.{AreEvery}
use Rattle.dwz_law_layout.specs.Beside.{Beside}
use Rattle.dwz_law_layout.specs.Facts.{RunFacts, common, run}
use Rattle.dwz_run_files.specs.Works.{IsWork}
use Rattle.dwz_run_files.proofs.lanes.every.Given as goal

abbrev pub invariant-loop-number : goal.invariant-loop-number
invariant-loop-number g l =
    (beside : Beside) (f : RunFacts beside) → IsWork f l.work → (rest : List (Option NewFile)) → AreEvery (common f) (run f) l.step l.number rest
    → AreEvery (common f) (run f) l.step l.first (l.made.items ++ rest)

abbrev pub decreases-loop-number : goal.decreases-loop-number
decreases-loop-number g l = length l.ranks - l.number
