-- What is made of what comes of all jobs is what comes of all files.
use Rattle.std.proofs.Common.{◌≡◌, ℕ, suc, ◌+◌, ◌<◌, ◌≤◌, List, [], ◌∷◌, ◌++◌, length, get_or, Bool, Ok, refl, sym, ap, subst, ◌∙◌, arith}
use Rattle.std.specs.Prelude.{slice_index_or, ◌||◌}
use Rattle.dwz_def_reading.specs.Files.{longest_files}
use Rattle.dwz_outside.specs.declared.puts.Put.{Put}
use Rattle.dwz_words.specs.declared.options.Options.{Options}
use Rattle.dwz_run_course.specs.declared.output.TextPart.{TextPart}
use Rattle.dwz_run_course.specs.Outcome as Run
use Rattle.dwz_batch.specs.declared.job.Outcome.{Outcome}
use Rattle.dwz_batch.specs.Jobs as Jobs
use Rattle.dwz_def_run.specs.Reuses.{common_got}
use Rattle.dwz_def_run.specs.Batches.{AreOutcomes, Batch, Batches, FileGot, IsCommonRead, all_got, batch_of, bytes_together, got_from}
use Rattle.dwz_def_run.specs.Batches.{is_refused, part_of, puts_of}
use Rattle.dwz_law_batch.specs.Jobs.{IsOfJob, batch_of_jobs, gives_of, job_part, job_puts}
use Rattle.dwz_law_batch.proofs.OneJob.{as_alone}

-- these come of the jobs of the files, each of its own
abbrev AreOfJobs : Options → List ℕ → List FileGot → List Outcome → Type 0
AreOfJobs o common [] [] = Unit {0}
AreOfJobs o common (file ∷ files) (outcome ∷ outcomes) = IsOfJob o common file outcome × AreOfJobs o common files outcomes
AreOfJobs o common _ _ = ⊥

-- ---- by number, and one by one

abbrev file_from : List (List ℕ) → List (List ℕ) → ℕ → ℕ → FileGot
file_from names contents n i = record { name = get_or names i []; content = get_or contents (n + i) [] }

one_by_one : (o : Options) (common : List ℕ) (n : ℕ) (names contents : List (List ℕ)) (outcomes : List Outcome) → length outcomes ≡ length names
    → ((i : ℕ) (d : Outcome) → i < length names → IsOfJob o common (file_from names contents n i) (slice_index_or outcomes i d))
    → AreOfJobs o common (got_from n names contents) outcomes
unfolding got_from
one_by_one o common n [] contents [] len each = tt
one_by_one o common n [] contents (y ∷ ys) len each = absurd cc
one_by_one o common n (name ∷ names) contents [] len each = absurd cc
one_by_one o common n (name ∷ names) contents (y ∷ ys) len each =
    let Is : List ℕ → ℕ → Outcome → Type 0 = λ file at outcome. IsOfJob o common (record { name = file; content = get_or contents at [] }) outcome in
    let first_at : n + 0 ≡ n = omega (arith) in (
      subst (λ (k : ℕ). Is name k y) first_at (each 0 y (omega (arith))),
      one_by_one o common (suc n) names contents ys (omega (arith, len)) (λ i d lt.
          let at : n + suc i ≡ suc n + i = omega (arith) in
          subst (λ (k : ℕ). Is (get_or names i []) k (slice_index_or ys i d)) at (each (suc i) d (omega (arith, lt)))),
    )

-- ---- what is made of them

record AreAsAlone (o : Options) (common : List ℕ) (files : List FileGot) (outcomes : List Outcome) : Type 0 where
  each : List Run.Outcome
  come : AreOutcomes o common files each
  same : batch_of o files each ≡ batch_of_jobs files outcomes

abbrev with_one : List Put → TextPart → Bool → Batch → Batch
with_one puts part refused b = record { puts = puts ++ b.puts; parts = part ∷ b.parts; partly = refused || b.partly }

as_all : (o : Options) (common : List ℕ) (files : List FileGot) (outcomes : List Outcome) → AreOfJobs o common files outcomes
    → AreAsAlone o common files outcomes
as_all o common [] [] is = record { each = []; come = tt; same = refl }
as_all o common [] (y ∷ ys) is = absurd is
as_all o common (f ∷ files) [] is = absurd is
as_all o common (f ∷ files) (y ∷ ys) is =
    let one = as_alone o common f y is.0 in
    let more = as_all o common files ys is.1 in
    let later = batch_of_jobs files ys in
    record {
      each = one.alone ∷ more.each;
      come = (one.comes, more.come);
      same =
          ap (with_one (puts_of one.alone) (part_of o f.name one.alone) (is_refused one.alone)) more.same
          ∙ ap (λ (w : List Put). with_one w (part_of o f.name one.alone) (is_refused one.alone) later) one.puts
          ∙ ap (λ (w : TextPart). with_one (job_puts f.name y) w (is_refused one.alone) later) one.part
          ∙ ap (λ (w : Bool). with_one (job_puts f.name y) (job_part f y) w later) one.refused;
    }

pub jobs_law : (o : Options) (contents : List (List ℕ)) (outcomes : List Outcome) → IsCommonRead o (common_got contents)
    → bytes_together (common_got contents) (all_got o contents) ≤ longest_files → Jobs.AreOutcomes (length o.files) (gives_of o contents) outcomes
    → Batches o contents (Ok (batch_of_jobs (all_got o contents) outcomes))
jobs_law o contents outcomes reads few are =
    let common = common_got contents in
    let each : (i : ℕ) (d : Outcome) → i < length o.files → IsOfJob o common (file_from o.files contents 1 i) (slice_index_or outcomes i d) =
    λ i d lt.
    let next : suc i ≡ 1 + i = omega (arith) in
    subst (λ (k : ℕ). IsOfJob o common (record { name = get_or o.files i []; content = get_or contents k [] }) (slice_index_or outcomes i d)) next
    (are.each i d lt) in
    let all = as_all o common (all_got o contents) outcomes (one_by_one o common 1 o.files contents outcomes are.len each) in
    (reads, few, (all.each, all.come, sym all.same))
