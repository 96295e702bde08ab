-- What comes of jobs, each of which writes one FILE over a finished common file, and what is made of that.
use Rattle.std.specs.Prelude.{◌≡◌, ℕ, suc, ◌≤◌, Bool, true, false, not, List, [], ◌∷◌, length, map, get_or, Ok}
use Rattle.std.specs.List.{flat_map, list_any, zip}
use Rattle.dwz_def_reading.specs.Files.{longest_files}
use Rattle.dwz_outside.specs.declared.puts.Put.{Put}
use Rattle.dwz_words.specs.declared.options.Options.{Options}
use Rattle.dwz_run_course.specs.declared.output.Output.{Output}
use Rattle.dwz_run_course.specs.declared.output.TextPart.{TextPart}
use Rattle.dwz_run_course.specs.Outcome.{refuses, writes}
use Rattle.dwz_batch.specs.declared.job.Outcome.{Outcome}
use Rattle.dwz_batch.specs.declared.job.Outcome.TheVariants.{Nothing, Bytes, Refused}
use Rattle.dwz_batch.specs.Jobs.{AreOutcomes, Gives}
use Rattle.dwz_batch.specs.Texts.{outcome_text}
use Rattle.dwz_def_run.specs.Out.{put_of}
use Rattle.dwz_def_run.specs.Reuses.{common_got}
use Rattle.dwz_def_run.specs.Batches.{Alone, Batch, Batches, FileGot, IsCommonRead, all_got, bytes_together}

-- ---- one job

-- what comes of the FILE alone: an output that puts nothing, or one that puts these bytes at it, or this refusal
abbrev pub IsOfJob : Options → List ℕ → FileGot → Outcome → Type 0
IsOfJob o common file Nothing = (out : Output) × Alone o common file (writes out) × (out.puts ≡ [])
IsOfJob o common file (Bytes bytes) = (out : Output) × Alone o common file (writes out) × (out.puts ≡ put_of file.name bytes ∷ [])
IsOfJob o common file (Refused q) = Alone o common file (refuses q)

-- the FILE with that number, of contents of which the first is the common file's
abbrev pub file_at : Options → List (List ℕ) → ℕ → FileGot
file_at o contents i = record { name = get_or o.files i []; content = get_or contents (suc i) [] }

-- each FILE has a job
abbrev pub gives_of : Options → List (List ℕ) → Gives
gives_of o contents i outcome = IsOfJob o (common_got contents) (file_at o contents i) outcome

-- ---- what is made of what comes of jobs

abbrev pub job_puts : List ℕ → Outcome → List Put
job_puts name (Bytes bytes) = put_of name bytes ∷ []
job_puts name _ = []

abbrev pub is_refused_job : Outcome → Bool
is_refused_job (Refused q) = true
is_refused_job _ = false

-- its line; it sums up what was done, unless it is of a refusal
abbrev pub job_part : FileGot → Outcome → TextPart
job_part file outcome = record {
  text = outcome_text file.name (length file.content) outcome false;
  is_summary = not (is_refused_job outcome);
}

-- file by file, in order
abbrev pub batch_of_jobs : List FileGot → List Outcome → Batch
batch_of_jobs files outcomes = record {
  puts = flat_map (λ row. job_puts row.0.name row.1) (zip files outcomes);
  parts = map (λ row. job_part row.0 row.1) (zip files outcomes);
  partly = list_any is_refused_job outcomes;
}

-- ---- the law

-- The common file reads, and there aren't too many bytes: what is made of what comes of all jobs is what comes of all FILEs.
abbrev pub JobsLaw : Type 0
JobsLaw =
    (o : Options) (contents : List (List ℕ)) (outcomes : List Outcome) → IsCommonRead o (common_got contents)
    → bytes_together (common_got contents) (all_got o contents) ≤ longest_files → AreOutcomes (length o.files) (gives_of o contents) outcomes
    → Batches o contents (Ok (batch_of_jobs (all_got o contents) outcomes))
