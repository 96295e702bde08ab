-- What comes of options and contents: with `--reuse` of files that are written over a finished common file, and else without one.
use Rattle.std.specs.Prelude.{ℕ, List, Option, Some, None}
use Rattle.dwz_words.specs.declared.options.Options.{Options}
use Rattle.dwz_run_course.specs.Outcome.{Outcome}
use Rattle.dwz_def_run.specs.Out.{Out}
use Rattle.dwz_def_run.specs.Reuses.{Reuses}

-- the options, in which the common file is the finished one
abbrev pub reusing : Options → Options
reusing o = record o { common = o.reuse }

-- by the name of the finished common file, where there is one
abbrev pub ComesBy : Option (List ℕ) → Options → List (List ℕ) → Outcome → Type 0
ComesBy None o = Out o
ComesBy (Some common) o = Reuses (reusing o)

abbrev pub Comes : Options → List (List ℕ) → Outcome → Type 0
Comes o = ComesBy o.reuse o
