-- What is made of what comes of one file alone.
use Rattle.std.proofs.Common.{◌≡◌, ℕ, zero, suc, ◌+◌, List, [], ◌∷◌, ◌++◌, length, map, get_or, take, drop, Result, Vec, Global, refl, sym, ap, subst, ◌∙◌, inl, inr, ◌<◌, arith}
use Rattle.std.proofs.lemmas.List.{length-append}
use Rattle.dwz_model.specs.declared.fault.GraphErr.{GraphErr}
use Rattle.dwz_outside.specs.declared.puts.Put.{Put}
use Rattle.dwz_words.specs.declared.options.Options.{Options}
use Rattle.dwz_run_course.specs.declared.output.Output.{Output}
use Rattle.dwz_run_course.specs.Answers.{IsAnswer}
use Rattle.dwz_run_course.specs.Outcome.{writes}
use Rattle.dwz_batch.specs.declared.job.Outcome.TheVariants.{Bytes}
use Rattle.dwz_def_images.specs.Homes.{numbers_from}
use Rattle.dwz_def_run.specs.Out.{put_of}
use Rattle.dwz_def_run.specs.Reuses.{ReusesOf}
use Rattle.dwz_def_run.specs.Batches.{Alone, FileGot, options_alone}
use Rattle.dwz_def_run.proofs.OneFile.{output_alone}
use Rattle.dwz_law_batch.specs.Jobs.{IsOfJob}

-- what comes of the one content over the common one comes of the file alone
pub alone_got : (o : Options) (common : List ℕ) (file : FileGot) (alone : Options) (first : List ℕ) (files : List (List ℕ)) (result : Result Output GraphErr)
    → alone ≡ options_alone o file.name → first ≡ common → files ≡ file.content ∷ [] → IsAnswer (ReusesOf alone first files) result → IsAnswer (Alone o common file) result
unfolding numbers_from
alone_got o common file alone first files result asked same one is =
    subst (λ (w : Options). IsAnswer (ReusesOf w common (file.content ∷ [])) result) asked
    (subst (λ (w : List ℕ). IsAnswer (ReusesOf alone w (file.content ∷ [])) result) same
    (subst (λ (fs : List (List ℕ)). IsAnswer (ReusesOf alone first fs) result) one is))

-- the one content of a range of them
pub one_between : (contents : List (Vec ℕ Global)) (i : ℕ) → i < length contents
    → map (λ c. c.items) (take 1 (drop i contents)) ≡ get_or (map (λ c. c.items) contents) i [] ∷ []
one_between [] i lt = absurd (omega (arith, lt))
one_between (c ∷ contents) zero lt = refl
one_between (c ∷ contents) (suc i) lt = one_between contents i (omega (arith, lt))

-- ---- puts

last_of_one : (before : List Put) (p q : Put) → before ++ p ∷ [] ≡ q ∷ [] → p ≡ q
last_of_one [] p q same = cc
last_of_one (b ∷ before) p q same = absurd (omega (arith, ap (λ (ps : List Put). length ps) same, length-append before (p ∷ [])))

-- the last of its puts is the one
pub put_alone : (o : Options) (common : List ℕ) (file : FileGot) (out : Output) (before : List Put) (p : Put) → out.puts ≡ before ++ p ∷ []
    → Alone o common file (writes out) → IsOfJob o common file (Bytes p.bytes)
put_alone o common file out before p last alone = elim (output_alone o common file out alone) [
  | inl is ↦ absurd (omega (arith, ap (λ (ps : List Put). length ps) (sym last ∙ is.0), length-append before (p ∷ [])))
  | inr is ↦ (
    out,
    alone,
    is.1.0 ∙ ap (λ (w : List ℕ). put_of file.name w ∷ []) (sym (ap (λ (w : Put). w.bytes) (last_of_one before p (put_of file.name is.0) (sym last ∙ is.1.0)))),
  )
]
