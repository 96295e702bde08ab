use Rattle.std.proofs.Common.{◌≡◌, ◌+◌, drop}
use Rattle.std.specs.List.{sum_by}
use Rattle.dwz_run_course.specs.Demo.{old_length}
use Rattle.dwz_run_course.proofs.demo.old_length.Given as goal

abbrev pub invariant-loop-file : goal.invariant-loop-file
invariant-loop-file l = l.len + sum_by (λ file. file.1) (drop l.file-index l.file-items) ≡ old_length l.summary
