-- What is made of what came of all jobs is what comes of options that ask for many files over a finished common file.
use Rattle.std.proofs.Common.{◌≡◌, ◌≤◌, ◌<◌, ℕ, List, length, Ok, sym, subst, ◌∙◌, arith}
use Rattle.dwz_def_reading.specs.Files.{longest_files}
use Rattle.dwz_batch.specs.declared.job.Outcome.{Outcome}
use Rattle.dwz_batch.specs.Jobs.{AreOutcomes}
use Rattle.dwz_words.specs.declared.options.Options.{Options}
use Rattle.dwz_run_course.specs.declared.output.Output.{Output}
use Rattle.dwz_run_course.specs.Answers.{CanBeSaid, IsAnswer}
use Rattle.dwz_def_run.specs.Reuses.{common_got}
use Rattle.dwz_def_run.specs.Batches.{IsCommonRead, all_got, bytes_together}
use Rattle.dwz_def_run.specs.Yields.{Batched, batching, output_of_batch}
use Rattle.dwz_law_batch.specs.Jobs.{JobsLaw, batch_of_jobs, gives_of}
use Rattle.dwz_run.specs.Batching.{IsOfSection}

pub all_batched : (o : Options) (contents : List (List ℕ)) (outcomes : List Outcome) (out : Output) (count : ℕ) → JobsLaw → length o.files ≡ count
    → IsCommonRead (batching o) (common_got contents) → bytes_together (common_got contents) (all_got o contents) ≤ longest_files
    → AreOutcomes count (λ i outcome. gives_of (batching o) contents i outcome × IsOfSection outcome) outcomes
    → out ≡ output_of_batch (batch_of_jobs (all_got o contents) outcomes) → IsAnswer (Batched (batching o) contents) (Ok out)
all_batched o contents outcomes out count law many reads few are is =
    let each : AreOutcomes (length o.files) (gives_of (batching o) contents) outcomes = record { len = are.len ∙ sym many; each = λ i d lt. (are.each i d (omega (arith, lt, many))).0 } in (
      (batch_of_jobs (all_got o contents) outcomes, law (batching o) contents outcomes reads few each, is),
      subst (λ (x : Output). CanBeSaid x.said) (sym is) tt,
    )
