-- What is made of what comes of one job is what comes of its file alone.
use Rattle.std.proofs.Common.{◌≡◌, ℕ, true, List, [], ◌∷◌, length, None, Some, refl, sym, ap, ◌∙◌, inl, inr}
use Rattle.dwz_outside.specs.declared.puts.Put.{Put}
use Rattle.dwz_report.specs.Texts.{file_text}
use Rattle.dwz_words.specs.declared.options.Options.{Options}
use Rattle.dwz_run_course.specs.declared.output.Output.{Output}
use Rattle.dwz_run_course.specs.Ends.{done_text}
use Rattle.dwz_run_course.specs.Outcome.{refuses, writes}
use Rattle.dwz_run_course.specs.Outcome as Run
use Rattle.dwz_batch.specs.declared.job.Outcome.{Outcome}
use Rattle.dwz_batch.specs.declared.job.Outcome.TheVariants.{Nothing, Bytes, Refused}
use Rattle.dwz_def_run.specs.Out.{put_of}
use Rattle.dwz_def_run.specs.Batches.{Alone, FileGot, is_refused, options_alone, part_of, puts_of}
use Rattle.dwz_def_run.proofs.OneFile.{output_alone}
use Rattle.dwz_law_batch.specs.Jobs.{IsOfJob, is_refused_job, job_part, job_puts}

-- what comes of the file alone, of which the same is made
pub record IsAsAlone (o : Options) (common : List ℕ) (file : FileGot) (outcome : Outcome) : Type 0 where
  pub alone : Run.Outcome
  pub comes : Alone o common file alone
  pub puts : puts_of alone ≡ job_puts file.name outcome
  pub part : part_of o file.name alone ≡ job_part file outcome
  pub refused : is_refused alone ≡ is_refused_job outcome

module _ (o : Options) (common : List ℕ) (file : FileGot) where
  one_put : (a b : List ℕ) → put_of file.name a ∷ [] ≡ put_of file.name b ∷ [] → a ≡ b
  one_put a b same = ap first same where
    first : List Put → List ℕ
    first [] = []
    first (p ∷ ps) = p.bytes

  unmoved : (out : Output) → Alone o common file (writes out) → out.puts ≡ []
      → done_text (options_alone o file.name) out ≡ file_text (file.name, length file.content, None)
  unmoved out comes none = elim (output_alone o common file out comes) [
    | inl is ↦ is.1
    | inr is ↦ absurd (let no : put_of file.name is.0 ∷ [] ≡ [] = sym is.1.0 ∙ none in cc)
  ]

  written : (out : Output) (bytes : List ℕ) → Alone o common file (writes out) → out.puts ≡ put_of file.name bytes ∷ []
      → done_text (options_alone o file.name) out ≡ file_text (file.name, length file.content, Some (length bytes))
  written out bytes comes put = elim (output_alone o common file out comes) [
    | inl is ↦ absurd (let no : [] ≡ put_of file.name bytes ∷ [] = sym is.0 ∙ put in cc)
    | inr is ↦ is.1.1 ∙ ap (λ (w : List ℕ). file_text (file.name, length file.content, Some (length w))) (one_put is.0 bytes (sym is.1.0 ∙ put))
  ]

  pub as_alone : (outcome : Outcome) → IsOfJob o common file outcome → IsAsAlone o common file outcome
  as_alone Nothing is = record {
    alone = writes is.0;
    comes = is.1;
    puts = is.2;
    part = ap (λ (w : List ℕ). record { text = w; is_summary = true }) (unmoved is.0 is.1 is.2);
    refused = refl;
  }
  as_alone (Bytes bytes) is = record {
    alone = writes is.0;
    comes = is.1;
    puts = is.2;
    part = ap (λ (w : List ℕ). record { text = w; is_summary = true }) (written is.0 bytes is.1 is.2);
    refused = refl;
  }
  as_alone (Refused q) is = record { alone = refuses q; comes = is; puts = refl; part = refl; refused = refl }
