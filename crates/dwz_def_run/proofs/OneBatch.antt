-- At most one thing comes of options and contents, and something does where it is said what is taken.
use Rattle.std.proofs.Common.{◌≡◌, ◌⊎◌, ℕ, List, [], ◌∷◌, length, Result, Ok, Err, refl, sym, ap, ◌∙◌, inl, inr}
use Rattle.dwz_def_reading.specs.Fault.{Fault}
use Rattle.dwz_def_reading.specs.Reason.TheVariants.{FileSize}
use Rattle.dwz_def_reading.specs.Refusal.{Refusal}
use Rattle.dwz_def_reading.specs.Documents.{Doc}
use Rattle.dwz_def_reading.specs.ElfFaults.{file_fault}
use Rattle.dwz_def_reading.specs.Files.{IsFaultBy, ReadsBy, file_meaning_by, no_files_before}
use Rattle.dwz_def_reading.specs.Finished.{refusal_of, rule_of_common}
use Rattle.dwz_def_reading.specs.Lists.{In}
use Rattle.dwz_def_reading.specs.Places.{Place}
use Rattle.dwz_def_reading.specs.Units.{RawUnit}
use Rattle.dwz_def_reading.proofs.AgreeLemmas.{Agrees}
use Rattle.dwz_def_reading.proofs.FileLemmas.{file_agrees_by}
use Rattle.dwz_words.specs.declared.options.Options.{Options}
use Rattle.dwz_run_course.specs.Outcome.{Outcome}
use Rattle.dwz_def_images.specs.Homes.{numbers_from}
use Rattle.dwz_def_run.specs.Reuses.{common_got}
use Rattle.dwz_def_run.proofs.OneReuse.{one_reuse, some_reuse}
use Rattle.dwz_def_run.specs.Batches.{Alone, AreOutcomes, Batch, Batches, BatchesOf, IsCommonRead, IsCommonRefused, FileGot, all_got, batch_of, options_alone}
use Rattle.dwz_def_run.specs.BatchesLaws.{HasTaken}
use Rattle.dwz_def_run.proofs.Past.{either_past, not_past, one_past}

module _ (o : Options) (common : List ℕ) where
  -- ---- the common file

  abbrev meaning : Result (List RawUnit × Doc Place) Fault
  meaning = file_meaning_by (rule_of_common (length o.files)) no_files_before common

  agrees : Agrees meaning (λ x. ReadsBy (rule_of_common (length o.files)) no_files_before common x.0 x.1)
      (IsFaultBy (rule_of_common (length o.files)) no_files_before common)
  agrees = file_agrees_by (rule_of_common (length o.files)) no_files_before common

  pub not_both : (q : Refusal) → IsCommonRead o common → IsCommonRefused o common q → ⊥
  not_both q reads refused =
      let a : meaning ≡ Ok (reads.0, reads.1) = (agrees.ok (reads.0, reads.1)).1 reads.2 in
      let b : meaning ≡ Err refused.0 = (agrees.err refused.0).1 refused.1 in
      cc

  one_refusal : (p q : Refusal) → IsCommonRefused o common p → IsCommonRefused o common q → p ≡ q
  one_refusal p q x y =
      let a : meaning ≡ Err x.0 = (agrees.err x.0).1 x.1 in
      let b : meaning ≡ Err y.0 = (agrees.err y.0).1 y.1 in
      let same : x.0 ≡ y.0 = cc in
      x.2 ∙ ap (refusal_of (length o.files)) same ∙ sym y.2

  either : IsCommonRead o common ⊎ ((q : Refusal) × IsCommonRefused o common q)
  either = by meaning refl where
    by : (m : Result (List RawUnit × Doc Place) Fault) → meaning ≡ m → IsCommonRead o common ⊎ ((q : Refusal) × IsCommonRefused o common q)
    by (Ok x) e = inl (x.0, x.1, (agrees.ok x).0 e)
    by (Err f) e = inr (refusal_of (length o.files) f, (f, (agrees.err f).0 e, refl))

  -- ---- the files

  one_each : (files : List FileGot) (a b : List Outcome) → AreOutcomes o common files a → AreOutcomes o common files b → a ≡ b
  one_each [] [] [] x y = refl
  one_each [] (a ∷ xs) b x y = absurd x
  one_each [] [] (b ∷ ys) x y = absurd y
  one_each (f ∷ files) [] b x y = absurd x
  one_each (f ∷ files) (a ∷ xs) [] x y = absurd y
  one_each (f ∷ files) (a ∷ xs) (b ∷ ys) x y =
      let first : a ≡ b = one_reuse (options_alone o f.name) (common ∷ f.content ∷ []) a b x.0 y.0 in
      let later : xs ≡ ys = one_each files xs ys x.1 y.1 in
      ap (λ (w : Outcome). w ∷ xs) first ∙ ap (λ (w : List Outcome). b ∷ w) later

  some_one : (file : FileGot) → HasTaken common file → (outcome : Outcome) × Alone o common file outcome
  unfolding numbers_from
  some_one file has = some_reuse (options_alone o file.name) (common ∷ file.content ∷ []) has

  some_each : (files : List FileGot) → ((file : FileGot) → In file files → HasTaken common file)
      → (outcomes : List Outcome) × AreOutcomes o common files outcomes
  some_each [] taken = ([], tt)
  some_each (f ∷ files) taken =
      let first = some_one f (taken f (inl refl)) in
      let later = some_each files (λ file is. taken file (inr is)) in
      (first.0 ∷ later.0, (first.1, later.1))

  -- ---- all

  pub one_of : (files : List FileGot) (a b : Result Batch Refusal) → BatchesOf o common files a → BatchesOf o common files b → a ≡ b
  one_of files (Ok a) (Ok b) x y =
      let same = one_each files x.2.0 y.2.0 x.2.1 y.2.1 in
      ap (λ (w : Batch). Ok w) (x.2.2 ∙ ap (batch_of o files) same ∙ sym y.2.2)
  one_of files (Ok a) (Err q) x (inl y) = absurd (not_both q x.0 y)
  one_of files (Ok a) (Err q) x (inr y) = absurd (not_past common files y.1.0 x.1 y.1.1)
  one_of files (Err p) (Ok b) (inl x) y = absurd (not_both p y.0 x)
  one_of files (Err p) (Ok b) (inr x) y = absurd (not_past common files x.1.0 y.1 x.1.1)
  one_of files (Err p) (Err q) (inl x) (inl y) = ap (λ (w : Refusal). Err w) (one_refusal p q x y)
  one_of files (Err p) (Err q) (inl x) (inr y) = absurd (not_both p y.0 x)
  one_of files (Err p) (Err q) (inr x) (inl y) = absurd (not_both q x.0 y)
  one_of files (Err p) (Err q) (inr x) (inr y) =
      let same = one_past common files x.1.0 y.1.0 x.1.1 y.1.1 in
      ap (λ (w : Refusal). Err w) (x.1.2 ∙ ap (λ (n : ℕ). refusal_of n (file_fault FileSize 0)) same ∙ sym y.1.2)

  pub some_of : (files : List FileGot) → ((file : FileGot) → In file files → HasTaken common file)
      → (all : Result Batch Refusal) × BatchesOf o common files all
  some_of files taken = elim either [
    | inr refused ↦ (Err refused.0, inl refused.1)
    | inl reads ↦ elim (either_past common files reads.2.size.files) [
      | inl few ↦ (let each = some_each files taken in (Ok (batch_of o files each.0), (reads, few, (each.0, each.1, refl))))
      | inr past ↦ (Err (refusal_of past.0 (file_fault FileSize 0)), inr (reads, (past.0, past.1, refl)))
    ]
  ]

pub one_batch : (o : Options) (contents : List (List ℕ)) (a b : Result Batch Refusal) → Batches o contents a → Batches o contents b → a ≡ b
one_batch o contents a b x y = one_of o (common_got contents) (all_got o contents) a b x y

pub some_batch : (o : Options) (contents : List (List ℕ)) → ((file : FileGot) → In file (all_got o contents) → HasTaken (common_got contents) file)
    → (all : Result Batch Refusal) × Batches o contents all
some_batch o contents taken = some_of o (common_got contents) (all_got o contents) taken
