use Rattle.std.proofs.Common.{◌≡◌, ℕ, ◌≤◌, ◌++◌, None, drop, get_or, map}
use Rattle.dwz_def_readback.specs.Files.{CommonFile, Run}
use Rattle.dwz_words.specs.declared.options.Options.{Options}
use Rattle.dwz_def_run.specs.Out.{files_puts_by, sup_name}
use Rattle.dwz_run_output.specs.Making.{AreBefore, AreBytesOf}
use Rattle.dwz_run_output.proofs.puts.add_files.Given as goal

abbrev pub invariant-loop-file : goal.invariant-loop-file
invariant-loop-file l =
    ((n : ℕ) → l.file ≤ n → get_or l.files.items n None ≡ get_or l.initial.files.items n None)
    × ((k : CommonFile) (o : Options) (r : Run) → o.out ≡ l.out → AreBefore r (map (λ c. c.items) l.contents) → AreBytesOf k (sup_name o) r l.initial.files.items
    → l.puts.items ++ files_puts_by k o r l.file (drop l.file l.names) ≡ l.initial.puts.items ++ files_puts_by k o r 0 l.names)
