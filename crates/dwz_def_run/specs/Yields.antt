-- What comes of options and contents: with `--batch` of many files over a finished common file, each as if it were alone with it, and else
-- what comes without it.
use Rattle.std.specs.Prelude.{◌≡◌, ℕ, false, List, Option, Some, None, Ok, Err}
use Rattle.dwz_words.specs.declared.options.Options.{Options}
use Rattle.dwz_run_course.specs.declared.output.Output.{Output}
use Rattle.dwz_run_course.specs.declared.output.Said.TheVariants.{Parts}
use Rattle.dwz_run_course.specs.Outcome.{Outcome, refuses, writes}
use Rattle.dwz_def_run.specs.Comes.{Comes, reusing}
use Rattle.dwz_def_run.specs.Batches.{Batch, Batches}

-- the options of `--reuse` with the common file of `--batch`, in which that is the common file
abbrev pub batching : Options → Options
batching o = reusing (record o { reuse = o.batch; batch = None })

-- what is put and said of all
abbrev pub output_of_batch : Batch → Output
output_of_batch all = record { puts = all.puts; said = Parts all.parts; differs = false; partly = all.partly }

-- what comes of all, or the refusal of all
abbrev pub Batched : Options → List (List ℕ) → Outcome → Type 0
Batched o contents (writes out) = (all : Batch) × Batches o contents (Ok all) × (out ≡ output_of_batch all)
Batched o contents (refuses q) = Batches o contents (Err q)

-- by the name of the common file of `--batch`, where there is one
abbrev pub YieldsBy : Option (List ℕ) → Options → List (List ℕ) → Outcome → Type 0
YieldsBy None o = Comes o
YieldsBy (Some common) o = Batched (batching o)

abbrev pub Yields : Options → List (List ℕ) → Outcome → Type 0
Yields o = YieldsBy o.batch o
