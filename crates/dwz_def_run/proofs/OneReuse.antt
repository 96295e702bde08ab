-- At most one thing comes of options and contents, and something does where it is said what is taken.
use Rattle.std.proofs.Common.{◌≡◌, ℕ, Bool, List, [], ◌∷◌, Result, Ok, Err, refl, sym, ap, subst, ◌∙◌, inl, inr}
use Rattle.dwz_def_reading.specs.Refusal.{Refusal}
use Rattle.dwz_def_reading.specs.Documents.{Doc}
use Rattle.dwz_def_reading.specs.Files.{Limits, ReadAll, limits_after, no_files_before}
use Rattle.dwz_def_readback.specs.PrunableTest.{is_prunable}
use Rattle.dwz_def_readback.proofs.PrunableDecided.{prunable_decided}
use Rattle.dwz_def_output.specs.Written.{ArePrunable}
use Rattle.dwz_def_reading.specs.Finished.{BesideDocs, FirstBeside, ReadBeside, beside_meaning}
use Rattle.dwz_def_reading.proofs.FinishedLemmas.{beside_agrees}
use Rattle.dwz_words.specs.declared.options.Options.{Options}
use Rattle.dwz_run_course.specs.Outcome.{Outcome, refuses, writes}
use Rattle.dwz_def_taken.specs.declared.fixed.Fixed.{Fixed}
use Rattle.dwz_def_taken.specs.Takes.{IsFixedOf}
use Rattle.dwz_def_over.specs.Over.{AreOverFiles, OverFiles, standing_file, run_over}
use Rattle.dwz_def_over.specs.Written.{OverFault}
use Rattle.dwz_def_over.proofs.EitherFault.{either_over}
use Rattle.dwz_def_over.proofs.OneFault.{one_fault}
use Rattle.dwz_def_over.proofs.OneRead.{one_read, read_or_first}
use Rattle.dwz_def_run.specs.Out.{sup_name}
use Rattle.dwz_def_run.specs.Reuses.{HasContents, Reuses, ReusesOf, common_got, files_got, output_over}

-- which files are prunable
flags_of : (l : Limits) (contents : List (List ℕ)) (docs : List (Doc ℕ)) → ReadAll l contents docs → (flags : List Bool) × ArePrunable contents docs flags
flags_of l [] [] all = ([], tt)
flags_of l [] (doc ∷ docs) all = absurd all
flags_of l (bytes ∷ contents) [] all = absurd all
flags_of l (bytes ∷ contents) (doc ∷ docs) all =
    let more = flags_of (limits_after l bytes all.0) contents docs all.2 in (is_prunable bytes doc.units ∷ more.0, (prunable_decided bytes doc.units, more.1))

module _ (o : Options) (common : List ℕ) (contents : List (List ℕ)) where
  -- what reads is one
  one_files : (x y : OverFiles) → HasContents common contents x → HasContents common contents y → AreOverFiles x → AreOverFiles y → x ≡ y
  one_files x y a b p q = one_read x y (a.0 ∙ sym b.0) (a.1 ∙ sym b.1) p q

  -- and isn't refused
  not_both : (x : OverFiles) → HasContents common contents x → AreOverFiles x → (q : Refusal) → FirstBeside common contents q → ⊥
  not_both x a p q first =
      read_or_first x p q (subst (λ (bytes : List ℕ). FirstBeside bytes x.contents q) (sym a.0) (subst (λ (files : List (List ℕ)). FirstBeside common files q) (sym a.1) first))

  one_first : (p q : Refusal) → FirstBeside common contents p → FirstBeside common contents q → p ≡ q
  one_first p q x y =
      let a = ((beside_agrees common contents).err p).1 x in
      let b = ((beside_agrees common contents).err q).1 y in
      cc

  fault_of : (x y : OverFiles) → x ≡ y → (q : Refusal) → OverFault (sup_name o) x q → OverFault (sup_name o) y q
  fault_of x y same q is = subst (λ (z : OverFiles). OverFault (sup_name o) z q) same is

  pub one_of : (a b : Outcome) → ReusesOf o common contents a → ReusesOf o common contents b → a ≡ b
  one_of (writes a) (writes b) x y = (let same = one_files x.0 y.0 x.1 y.1 x.2.read y.2.read in ap writes (x.3 ∙ ap (output_over o) same ∙ sym y.3))
  one_of (writes a) (refuses q) x (inl y) = absurd (not_both x.0 x.1 x.2.read q y)
  one_of (writes a) (refuses q) x (inr y) = absurd (x.2.free q (fault_of y.0 x.0 (one_files y.0 x.0 y.1 x.1 y.2 x.2.read) q y.3))
  one_of (refuses p) (writes b) (inl x) y = absurd (not_both y.0 y.1 y.2.read p x)
  one_of (refuses p) (writes b) (inr x) y = absurd (y.2.free p (fault_of x.0 y.0 (one_files x.0 y.0 x.1 y.1 x.2 y.2.read) p x.3))
  one_of (refuses p) (refuses q) (inl x) (inl y) = ap refuses (one_first p q x y)
  one_of (refuses p) (refuses q) (inl x) (inr y) = absurd (not_both y.0 y.1 y.2 p x)
  one_of (refuses p) (refuses q) (inr x) (inl y) = absurd (not_both x.0 x.1 x.2 q y)
  one_of (refuses p) (refuses q) (inr x) (inr y) =
      ap refuses (one_fault (sup_name o) (standing_file y.0) (run_over y.0) p q (fault_of x.0 y.0 (one_files x.0 y.0 x.1 y.1 x.2 y.2) p x.3) y.3)

  pub some_of : ((said : BesideDocs) → ReadBeside common contents said → (fixed : Fixed) × IsFixedOf said fixed) → (outcome : Outcome) × ReusesOf o common contents outcome
  some_of taken = by (beside_meaning common contents) refl where
    by : (m : Result BesideDocs Refusal) → beside_meaning common contents ≡ m → (outcome : Outcome) × ReusesOf o common contents outcome
    by (Err q) e = (refuses q, inl (((beside_agrees common contents).err q).0 e))
    by (Ok said) e =
        let read = ((beside_agrees common contents).ok said).0 e in
        let fixed = taken said read in
        let flags = flags_of (limits_after no_files_before common read.0) contents said.docs read.2 in
        let x : OverFiles = record { common = common; contents = contents; raw = read.0; said = said; prunes = flags.0; fixed = fixed.0 } in
        let are : AreOverFiles x = record { common = read.1; files = read.2; prunable = flags.1; taken = fixed.1 } in
        elim (either_over (sup_name o) (standing_file x) (run_over x)) [
          | inl q ↦ (refuses q.0, inr (x, (refl, refl), are, q.1))
          | inr free ↦ (writes (output_over o x), (x, (refl, refl), record { read = are; free = free }, refl))
        ]

pub one_reuse : (o : Options) (contents : List (List ℕ)) (a b : Outcome) → Reuses o contents a → Reuses o contents b → a ≡ b
one_reuse o contents a b x y = one_of o (common_got contents) (files_got o contents) a b x y

pub some_reuse : (o : Options) (contents : List (List ℕ)) → ((said : BesideDocs) → ReadBeside (common_got contents) (files_got o contents) said → (fixed : Fixed) × IsFixedOf said fixed)
    → (outcome : Outcome) × Reuses o contents outcome
some_reuse o contents taken = some_of o (common_got contents) (files_got o contents) taken
