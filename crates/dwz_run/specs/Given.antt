-- Inner: what the work of a run gives.
use Rattle.std.specs.Prelude.{ℕ, List}
use Rattle.dwz_def_run.specs.BatchesLaws.{OneYieldsLaw}
use Rattle.dwz_def_run.specs.Yields.{Yields}
use Rattle.dwz_run_course.specs.Outcome.{Outcome}
use Rattle.dwz_words.specs.declared.options.Options.{Options}

-- what comes of options and contents, with the law that at most one thing does
abbrev pub Gives : Options → List (List ℕ) → Outcome → Type 0
Gives o contents outcome = Yields o contents outcome × OneYieldsLaw
