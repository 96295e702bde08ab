-- The number of workers is in nothing that comes of options: what is put and said of a file is by names, contents and what moves.
use Rattle.std.proofs.Common.{◌≡◌, ℕ, true, List, [], ◌∷◌, map, Result, Ok, Err, refl, ap, ◌∙◌}
use Rattle.std.specs.List.{zip}
use Rattle.dwz_def_reading.specs.Refusal.{Refusal}
use Rattle.dwz_words.specs.declared.options.Options.{Options}
use Rattle.dwz_run_course.specs.declared.output.Said.{Said}
use Rattle.dwz_run_course.specs.declared.output.Said.TheVariants.{Parts, Slimmed}
use Rattle.dwz_run_course.specs.declared.output.TextPart.{TextPart}
use Rattle.dwz_run_course.specs.Ends.{said_text}
use Rattle.dwz_run_course.specs.Outcome.{Outcome, refuses, writes}
use Rattle.dwz_def_over.specs.Over.{OverFiles}
use Rattle.dwz_def_run.specs.Out.{files_puts_by, summary_lines_by}
use Rattle.dwz_def_run.specs.Reuses.{common_got, output_over}
use Rattle.dwz_def_run.specs.Batches.{Alone, AreOutcomes, Batch, Batches, BatchesOf, FileGot, all_got, batch_of, options_alone, part_of}

module _ (o : Options) (n : ℕ) where
  -- the same with so many workers
  abbrev other : Options
  other = record o { workers = n }

  same_output : (name : List ℕ) (x : OverFiles) → output_over (options_alone o name) x ≡ output_over (options_alone other name) x
  unfolding files_puts_by summary_lines_by
  same_output name x = refl

  same_alone : (common : List ℕ) (file : FileGot) (outcome : Outcome) → Alone o common file outcome → Alone other common file outcome
  same_alone common file (writes out) is = (is.0, is.1, is.2, is.3 ∙ same_output file.name is.0)
  same_alone common file (refuses q) is = is

  same_each : (common : List ℕ) (files : List FileGot) (outcomes : List Outcome) → AreOutcomes o common files outcomes
      → AreOutcomes other common files outcomes
  same_each common [] [] are = tt
  same_each common [] (y ∷ ys) are = absurd are
  same_each common (f ∷ files) [] are = absurd are
  same_each common (f ∷ files) (y ∷ ys) are = (same_alone common f y are.0, same_each common files ys are.1)

  same_said : (name : List ℕ) (said : Said) → said_text (options_alone o name) said ≡ said_text (options_alone other name) said
  same_said name (Slimmed summary partials) = refl
  same_said name (Parts parts) = refl

  same_part : (name : List ℕ) (outcome : Outcome) → part_of o name outcome ≡ part_of other name outcome
  same_part name (writes out) = ap (λ (w : List ℕ). record { text = w; is_summary = true }) (same_said name out.said)
  same_part name (refuses q) = refl

  same_parts : (rows : List (FileGot × Outcome)) → map (λ row. part_of o row.0.name row.1) rows ≡ map (λ row. part_of other row.0.name row.1) rows
  same_parts [] = refl
  same_parts (row ∷ rows) =
      ap (λ (w : TextPart). w ∷ map (λ row. part_of o row.0.name row.1) rows) (same_part row.0.name row.1)
      ∙ ap (λ (w : List TextPart). part_of other row.0.name row.1 ∷ w) (same_parts rows)

  abbrev with_parts : Batch → List TextPart → Batch
  with_parts b parts = record b { parts = parts }

  same_of : (common : List ℕ) (files : List FileGot) (all : Result Batch Refusal) → BatchesOf o common files all → BatchesOf other common files all
  same_of common files (Ok all) is = (
    is.0,
    is.1,
    (is.2.0, same_each common files is.2.0 is.2.1, is.2.2 ∙ ap (with_parts (batch_of o files is.2.0)) (same_parts (zip files is.2.0))),
  )
  same_of common files (Err q) is = is

pub workers_law : (o : Options) (contents : List (List ℕ)) (all : Result Batch Refusal) (n : ℕ) → Batches o contents all
    → Batches (record o { workers = n }) contents all
workers_law o contents all n is = same_of o n (common_got contents) (all_got o contents) all is
