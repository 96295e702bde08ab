use Rattle.std.proofs.Common.{◌≡◌, ℕ, List, length, map, take}
use Rattle.dwz_def_reading.specs.Documents.{Doc}
use Rattle.dwz_def_tops.specs.Spots.{tops_of, units_of}
use Rattle.dwz_plan.specs.Shows.{ShowsTops}
use Rattle.dwz_reuse.proofs.file_kin.files_of.Given as goal

abbrev pub invariant-loop-row : goal.invariant-loop-row
invariant-loop-row l = (docs : List (Doc ℕ)) → ShowsTops (units_of docs) l.tops → l.files.items ≡ take l.row-index (map (λ t. t.file) (tops_of (units_of docs)))
