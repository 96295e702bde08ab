-- The number of workers is in nothing that comes of options: what is put and said is by names, contents and what moves, or by two places.
use Rattle.std.proofs.Common.{◌≡◌, ℕ, suc, Bool, true, false, List, [], ◌∷◌, ◌++◌, Option, None, Some, Ok, Err, length, refl, ap, ◌∙◌, inl, inr}
use Rattle.dwz_def_images.specs.Units.{changes}
use Rattle.dwz_def_readback.specs.Files.{CommonFile, Made, Run}
use Rattle.dwz_outside.specs.declared.puts.Put.{Put}
use Rattle.dwz_words.specs.declared.options.Options.{Options}
use Rattle.dwz_run_course.specs.declared.output.Output.{Output}
use Rattle.dwz_run_course.specs.declared.output.Said.TheVariants.{Slimmed}
use Rattle.dwz_run_course.specs.Outcome.{Outcome, refuses, writes}
use Rattle.dwz_def_output.specs.FilesAfter.{bytes_after_by}
use Rattle.dwz_def_run.specs.Out.{Out, OutBy, Slims, common_length_after, common_puts, file_puts_by, files_puts_by, length_if_new, output_of, run_for, summary_lines_by, sup_name}
use Rattle.dwz_def_run.specs.Compares.{Compares}
use Rattle.dwz_def_run.specs.Expands.{Expands}
use Rattle.dwz_def_run.specs.Tells.{TellsWhy}
use Rattle.dwz_def_over.specs.Over.{OverFiles, run_over, stands}
use Rattle.dwz_def_run.specs.Comes.{Comes, ComesBy, reusing}
use Rattle.dwz_def_run.specs.Reuses.{Reuses, output_over}
use Rattle.dwz_def_run.specs.Yields.{Batched, Yields, YieldsBy, batching}
use Rattle.dwz_def_run.proofs.SameWorkers.{workers_law}

module _ (o : Options) (n : ℕ) where
  -- the same with so many workers
  abbrev other : Options
  other = record o { workers = n }

  same_puts : (k : CommonFile) (r : Run) (s : ℕ) (names : List (List ℕ)) → files_puts_by k o r s names ≡ files_puts_by k other r s names
  unfolding files_puts_by
  same_puts k r s [] = refl
  same_puts k r s (name ∷ names) = ap (λ (rest : List Put). file_puts_by k o r s name ++ rest) (same_puts k r (suc s) names)

  same_lines : (k : CommonFile) (r : Run) (s : ℕ) (names : List (List ℕ)) → summary_lines_by k o r s names ≡ summary_lines_by k other r s names
  unfolding summary_lines_by
  same_lines k r s [] = refl
  same_lines k r s (name ∷ names) =
      ap (λ (rest : List (List ℕ × ℕ × Option ℕ)). (name, length (r.input.bytes s), length_if_new (changes r.move r.units s) (bytes_after_by k (sup_name o) r s)) ∷ rest)
      (same_lines k r (suc s) names)

  same_output : (r : Run) → output_of o r ≡ output_of other r
  same_output r =
      let by : List Put → List (List ℕ × ℕ × Option ℕ) → Output = λ ps ls. record {
        puts = common_puts o.common r ++ ps;
        said = Slimmed (record { common = common_length_after o.common r; files = ls }) (length r.move.parts);
        differs = false;
        partly = false;
      } in
      ap (λ (ps : List Put). by ps (summary_lines_by Made o r 0 o.files)) (same_puts Made r 0 o.files) ∙ ap (by (files_puts_by Made other r 0 o.files)) (same_lines Made r 0 o.files)

  same_slimmed : (contents : List (List ℕ)) (outcome : Outcome) → Slims o contents outcome → Slims other contents outcome
  same_slimmed contents (writes out) is =
      (is.0, is.1, record { read = is.2.read; free = is.2.free }, is.3 ∙ same_output (run_for o contents is.0 is.1))
  same_slimmed contents (refuses q) (inl first) = inl first
  same_slimmed contents (refuses q) (inr is) = inr (is.0, is.1, record { read = is.2.read; fault = is.2.fault })

  same_told : (contents : List (List ℕ)) (outcome : Outcome) → TellsWhy o contents outcome → TellsWhy other contents outcome
  same_told contents (writes out) is = is
  same_told contents (refuses q) is = is

  same_compared : (contents : List (List ℕ)) (outcome : Outcome) → Compares o contents outcome → Compares other contents outcome
  same_compared contents (writes out) is = is
  same_compared contents (refuses q) is = is

  same_expanded : (contents : List (List ℕ)) (outcome : Outcome) → Expands o contents outcome → Expands other contents outcome
  same_expanded contents (writes out) is = is
  same_expanded contents (refuses q) is = is

  same_out : (contents : List (List ℕ)) (outcome : Outcome) → Out o contents outcome → Out other contents outcome
  same_out contents outcome = by o.explain o.check o.expand where
    by : (b c d : Bool) → OutBy b c d o contents outcome → OutBy b c d other contents outcome
    by true c d = same_told contents outcome
    by false true d = same_compared contents outcome
    by false false true = same_expanded contents outcome
    by false false false = same_slimmed contents outcome

  -- ---- over a finished common file

  same_output_over : (x : OverFiles) → output_over o x ≡ output_over other x
  same_output_over x =
      let by : List Put → List (List ℕ × ℕ × Option ℕ) → Output = λ ps ls. record {
        puts = ps;
        said = Slimmed (record { common = None; files = ls }) (length (run_over x).move.parts);
        differs = false;
        partly = false;
      } in
      ap (λ (ps : List Put). by ps (summary_lines_by (stands x) o (run_over x) 0 o.files)) (same_puts (stands x) (run_over x) 0 o.files)
      ∙ ap (by (files_puts_by (stands x) other (run_over x) 0 o.files)) (same_lines (stands x) (run_over x) 0 o.files)

  pub same_reused : (contents : List (List ℕ)) (outcome : Outcome) → Reuses o contents outcome → Reuses other contents outcome
  same_reused contents (writes out) is = (is.0, is.1, is.2, is.3 ∙ same_output_over is.0)
  same_reused contents (refuses q) is = is

-- ---- either way

pub same_comes : (o : Options) (n : ℕ) (contents : List (List ℕ)) (outcome : Outcome) → Comes o contents outcome → Comes (record o { workers = n }) contents outcome
same_comes o n contents outcome = by o.reuse where
  by : (reuse : Option (List ℕ)) → ComesBy reuse o contents outcome → ComesBy reuse (record o { workers = n }) contents outcome
  by None = same_out o n contents outcome
  by (Some common) = same_reused (reusing o) n contents outcome

-- ---- or of many files, each as if it were alone

same_batched : (o : Options) (n : ℕ) (contents : List (List ℕ)) (outcome : Outcome) → Batched o contents outcome → Batched (record o { workers = n }) contents outcome
same_batched o n contents (writes out) is = (is.0, workers_law o contents (Ok is.0) n is.1, is.2)
same_batched o n contents (refuses q) is = workers_law o contents (Err q) n is

pub same_yields : (o : Options) (n : ℕ) (contents : List (List ℕ)) (outcome : Outcome) → Yields o contents outcome → Yields (record o { workers = n }) contents outcome
same_yields o n contents outcome = by o.batch where
  by : (batch : Option (List ℕ)) → YieldsBy batch o contents outcome → YieldsBy batch (record o { workers = n }) contents outcome
  by None = same_comes o n contents outcome
  by (Some common) = same_batched (batching o) n contents outcome
