-- It can't be that nothing comes of options and contents, also of many files over a finished common file.
use Rattle.std.proofs.Common.{◌≡◌, ℕ, List, [], ◌∷◌, Option, Some, None, Result, Ok, Err, refl, subst, inl, inr}
use Rattle.dwz_def_reading.specs.Refusal.{Refusal}
use Rattle.dwz_def_reading.specs.Finished.{BesideDocs, ReadBeside, beside_meaning}
use Rattle.dwz_def_reading.specs.Lists.{In}
use Rattle.dwz_def_reading.proofs.FinishedLemmas.{beside_agrees}
use Rattle.dwz_words.specs.declared.options.Options.{Options}
use Rattle.dwz_run_course.specs.Outcome.{Outcome, refuses, writes}
use Rattle.dwz_def_taken.specs.Takes.{IsFixedOf}
use Rattle.dwz_def_run.specs.Reuses.{common_got}
use Rattle.dwz_def_run.proofs.OneComes.{never_nothing_comes}
use Rattle.dwz_def_run.proofs.SomeTaken.{never_none_taken}
use Rattle.dwz_def_run.specs.Batches.{Batch, Batches, FileGot, all_got}
use Rattle.dwz_def_run.specs.BatchesLaws.{HasTaken, NeverNothingYieldsLaw}
use Rattle.dwz_def_run.specs.Yields.{Batched, YieldsBy, batching, output_of_batch}
use Rattle.dwz_def_run.proofs.OneBatch.{some_batch}

-- ---- what is taken of files, each beside the common file

module _ (common : List ℕ) where
  one_said : (file : FileGot) (a b : BesideDocs) → ReadBeside common (file.content ∷ []) a → ReadBeside common (file.content ∷ []) b → a ≡ b
  one_said file a b x y =
      let p = ((beside_agrees common (file.content ∷ [])).ok a).1 x in
      let q = ((beside_agrees common (file.content ∷ [])).ok b).1 y in
      cc

  never_untaken : (file : FileGot) → (HasTaken common file → ⊥) → ⊥
  never_untaken file none = by (beside_meaning common (file.content ∷ [])) refl where
    by : (m : Result BesideDocs Refusal) → beside_meaning common (file.content ∷ []) ≡ m → ⊥
    by (Err q) e = none (λ said read. absurd (let p = ((beside_agrees common (file.content ∷ [])).ok said).1 read in cc))
    by (Ok said) e =
        let read = ((beside_agrees common (file.content ∷ [])).ok said).0 e in
        never_none_taken said (λ fixed is. none (λ other also. (fixed, subst (λ (s : BesideDocs). IsFixedOf s fixed) (one_said file said other read also) is)))

  -- of the first, or of one of the others
  of_each : (f : FileGot) (files : List FileGot) → HasTaken common f → ((file : FileGot) → In file files → HasTaken common file)
      → (file : FileGot) → In file (f ∷ files) → HasTaken common file
  of_each f files first rest file (inl is) = subst (HasTaken common) is first
  of_each f files first rest file (inr is) = rest file is

  all_taken : (files : List FileGot) → (((file : FileGot) → In file files → HasTaken common file) → ⊥) → ⊥
  all_taken [] none = none (λ file is. absurd is)
  all_taken (f ∷ files) none = never_untaken f (λ first. all_taken files (λ rest. none (of_each f files first rest)))

-- ---- all

never_no_batch : (o : Options) (contents : List (List ℕ)) → ((outcome : Outcome) → Batched o contents outcome → ⊥) → ⊥
never_no_batch o contents nothing =
    all_taken (common_got contents) (all_got o contents) (λ taken. (let some = some_batch o contents taken in none some.0 some.1)) where
      none : (all : Result Batch Refusal) → Batches o contents all → ⊥
      none (Ok all) is = nothing (writes (output_of_batch all)) (all, is, refl)
      none (Err q) is = nothing (refuses q) is

pub never_nothing_yields : NeverNothingYieldsLaw
never_nothing_yields o contents nothing = by o.batch nothing where
  by : (batch : Option (List ℕ)) → ((outcome : Outcome) → YieldsBy batch o contents outcome → ⊥) → ⊥
  by None none = never_nothing_comes o contents none
  by (Some common) none = never_no_batch (batching o) contents none
