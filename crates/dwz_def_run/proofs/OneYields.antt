-- Of options and contents at most one thing comes, also of many files over a finished common file.
use Rattle.std.proofs.Common.{◌≡◌, ℕ, List, Option, Some, None, Result, Ok, Err, refl, sym, ap, ◌∙◌}
use Rattle.dwz_def_reading.specs.Refusal.{Refusal}
use Rattle.dwz_words.specs.declared.options.Options.{Options}
use Rattle.dwz_run_course.specs.declared.output.Output.{Output}
use Rattle.dwz_run_course.specs.Outcome.{Outcome, refuses, writes}
use Rattle.dwz_def_run.proofs.OneComes.{one_comes}
use Rattle.dwz_def_run.specs.Batches.{Batch, Batches}
use Rattle.dwz_def_run.specs.BatchesLaws.{OneYieldsLaw}
use Rattle.dwz_def_run.specs.Yields.{Batched, YieldsBy, batching, output_of_batch}
use Rattle.dwz_def_run.proofs.OneBatch.{one_batch}

-- the outcome by what comes of all
abbrev outcome_of : Result Batch Refusal → Outcome
outcome_of (Ok all) = writes (output_of_batch all)
outcome_of (Err q) = refuses q

pub by_all : (o : Options) (contents : List (List ℕ)) (outcome : Outcome) → Batched o contents outcome
    → (all : Result Batch Refusal) × Batches o contents all × (outcome ≡ outcome_of all)
by_all o contents (writes out) is = (Ok is.0, is.1, ap (λ (x : Output). writes x) is.2)
by_all o contents (refuses q) is = (Err q, is, refl)

one_batched : (o : Options) (contents : List (List ℕ)) (a b : Outcome) → Batched o contents a → Batched o contents b → a ≡ b
one_batched o contents a b x y =
    let p = by_all o contents a x in
    let q = by_all o contents b y in
    p.2 ∙ ap outcome_of (one_batch o contents p.0 q.0 p.1 q.1) ∙ sym q.2

pub one_yields : OneYieldsLaw
one_yields o contents a b x y = by o.batch x y where
  by : (batch : Option (List ℕ)) → YieldsBy batch o contents a → YieldsBy batch o contents b → a ≡ b
  by None x y = one_comes o contents a b x y
  by (Some common) x y = one_batched (batching o) contents a b x y
