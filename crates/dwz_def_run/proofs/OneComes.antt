-- Of options and contents at most one thing comes, and it can't be that nothing does.
use Rattle.std.proofs.Common.{◌≡◌, ℕ, List, Option, Some, None, Result, Ok, Err, refl, subst}
use Rattle.dwz_def_reading.specs.Refusal.{Refusal}
use Rattle.dwz_def_reading.specs.Finished.{BesideDocs, ReadBeside, beside_meaning}
use Rattle.dwz_def_reading.proofs.FinishedLemmas.{beside_agrees}
use Rattle.dwz_words.specs.declared.options.Options.{Options}
use Rattle.dwz_run_course.specs.Outcome.{Outcome}
use Rattle.dwz_def_taken.specs.declared.fixed.Fixed.{Fixed}
use Rattle.dwz_def_taken.specs.Takes.{IsFixedOf}
use Rattle.dwz_def_run.proofs.OneOutcome.{one_outcome}
use Rattle.dwz_def_run.proofs.SomeOutcome.{always_some}
use Rattle.dwz_def_run.specs.Comes.{ComesBy, reusing}
use Rattle.dwz_def_run.specs.ReusesLaws.{NeverNoReuseLaw, NeverNothingComesLaw, OneComesLaw}
use Rattle.dwz_def_run.specs.Reuses.{Reuses, common_got, files_got}
use Rattle.dwz_def_run.proofs.OneReuse.{one_reuse, some_reuse}
use Rattle.dwz_def_run.proofs.SomeTaken.{never_none_taken}

-- ---- files over a finished common file

module _ (o : Options) (contents : List (List ℕ)) where
  one_said : (a b : BesideDocs) → ReadBeside (common_got contents) (files_got o contents) a → ReadBeside (common_got contents) (files_got o contents) b → a ≡ b
  one_said a b x y =
      let p = ((beside_agrees (common_got contents) (files_got o contents)).ok a).1 x in
      let q = ((beside_agrees (common_got contents) (files_got o contents)).ok b).1 y in
      cc

  -- where it is said what is taken, something comes
  with_taken : (said : BesideDocs) → ReadBeside (common_got contents) (files_got o contents) said → (fixed : Fixed) → IsFixedOf said fixed
      → (outcome : Outcome) × Reuses o contents outcome
  with_taken said read fixed is =
      some_reuse o contents (λ other also. (fixed, subst (λ (s : BesideDocs). IsFixedOf s fixed) (one_said said other read also) is))

pub never_no_reuse : NeverNoReuseLaw
never_no_reuse o contents nothing = by (beside_meaning (common_got contents) (files_got o contents)) refl where
  by : (m : Result BesideDocs Refusal) → beside_meaning (common_got contents) (files_got o contents) ≡ m → ⊥
  by (Err q) e =
      let some = some_reuse o contents (λ said read. absurd (
      let p = ((beside_agrees (common_got contents) (files_got o contents)).ok said).1 read in cc)) in
      nothing some.0 some.1
  by (Ok said) e =
      let read = ((beside_agrees (common_got contents) (files_got o contents)).ok said).0 e in
      never_none_taken said (λ fixed is. (let some = with_taken o contents said read fixed is in nothing some.0 some.1))

-- ---- either way

pub one_comes : OneComesLaw
one_comes o contents a b x y = by o.reuse x y where
  by : (reuse : Option (List ℕ)) → ComesBy reuse o contents a → ComesBy reuse o contents b → a ≡ b
  by None x y = one_outcome o contents a b x y
  by (Some common) x y = one_reuse (reusing o) contents a b x y

pub never_nothing_comes : NeverNothingComesLaw
never_nothing_comes o contents nothing = by o.reuse nothing where
  by : (reuse : Option (List ℕ)) → ((outcome : Outcome) → ComesBy reuse o contents outcome → ⊥) → ⊥
  by None none = always_some o contents none
  by (Some common) none = never_no_reuse (reusing o) contents none
