use Rattle.std.proofs.Common.{◌≡◌, ◌++◌, drop, map}
use Rattle.dwz_def_readback.specs.Files.{CommonFile, Run}
use Rattle.dwz_def_run.specs.Out.{summary_lines_by, sup_name}
use Rattle.dwz_words.specs.declared.options.Options.{Options}
use Rattle.dwz_run_output.specs.Making.{AreBefore, AreBytesOf}
use Rattle.dwz_run_output.proofs.summary.lines.Given as goal

abbrev pub invariant-loop-file : goal.invariant-loop-file
invariant-loop-file l =
    (k : CommonFile) (o : Options) (r : Run) → AreBefore r (map (λ c. c.items) l.contents) → AreBytesOf k (sup_name o) r l.files
    → l.lines.items ++ summary_lines_by k o r l.file (drop l.file l.names) ≡ summary_lines_by k o r 0 l.names
