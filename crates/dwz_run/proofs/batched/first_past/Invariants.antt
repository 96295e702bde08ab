use Rattle.std.proofs.Common.{◌≡◌, ◌+◌, length, map, take}
use Rattle.dwz_def_reading.specs.Files.{longest_files}
use Rattle.dwz_words.specs.declared.options.Options.{Options}
use Rattle.dwz_def_run.specs.Reuses.{common_got}
use Rattle.dwz_def_run.specs.Batches.{all_got, bytes_together}
use Rattle.dwz_run.proofs.batched.first_past.Given as goal

abbrev pub invariant-loop-number : goal.invariant-loop-number
invariant-loop-number l =
    (o : Options) → length o.files ≡ l.count
    → l.left + bytes_together (common_got (map (λ c. c.items) l.contents)) (take l.number (all_got o (map (λ c. c.items) l.contents))) ≡ longest_files
