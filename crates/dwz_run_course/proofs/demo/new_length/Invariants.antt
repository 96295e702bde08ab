use Rattle.std.proofs.Common.{◌≡◌, ◌+◌, drop}
use Rattle.std.specs.List.{sum_by}
use Rattle.std.specs.Prelude.{unwrap_or}
use Rattle.dwz_run_course.specs.Demo.{new_length}
use Rattle.dwz_run_course.proofs.demo.new_length.Given as goal

abbrev pub invariant-loop-file : goal.invariant-loop-file
invariant-loop-file l = l.len + sum_by (λ file. unwrap_or file.2 file.1) (drop l.file-index l.file-items) ≡ new_length l.summary
