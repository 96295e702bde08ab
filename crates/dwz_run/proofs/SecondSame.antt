-- A second call that compares two files of which it comes that they mean the same says so.
use Rattle.std.proofs.Common.{◌≡◌, ◌⊎◌, ℕ, zero, suc, ◌+◌, ◌≤◌, ◌^◌, Bool, false, List, [], ◌∷◌, Option, Some, get_or, length, refl, sym, subst, arith, inl, inr}
use Rattle.dwz_model.specs.Lists.{Nth}
use Rattle.dwz_model.proofs.Members.{nth_from}
use Rattle.dwz_def_reading.specs.Documents.{Doc}
use Rattle.dwz_def_reading.specs.Files.{Limits, ReadAll, limits_after}
use Rattle.dwz_def_check.specs.declared.same.Same.TheVariants.{Yes}
use Rattle.dwz_def_run.specs.Comes.{ComesBy}
use Rattle.dwz_def_run.specs.Compares.{Compares, answer_on}
use Rattle.dwz_def_run.specs.Out.{OutBy}
use Rattle.dwz_def_run.specs.Yields.{Yields, YieldsBy}
use Rattle.dwz_def_run.proofs.ReusesGotten.{short}
use Rattle.dwz_gen.specs.Demo.{demo_files}
use Rattle.dwz_outside.specs.Store.{Store}
use Rattle.dwz_outside.specs.Told.{ConsoleSeen, FilesSeen}
use Rattle.dwz_run_course.specs.declared.status.Status.{Status}
use Rattle.dwz_run_course.specs.declared.status.Status.TheVariants.{Done, NoMemory}
use Rattle.dwz_run_course.specs.Ends.{Complete}
use Rattle.dwz_run_course.specs.Outcome.{writes}
use Rattle.dwz_words.proofs.Fits.{no_batch_with_check, no_reuse_with_check, with_check}
use Rattle.dwz_run.specs.Laws.{AsksToCompare, NoneFailed, to_compare}
use Rattle.dwz_run.proofs.Answered.{asked_for}

-- ---- the files of the first one

-- each content is read as a document, and has its number
pub doc_of : (l : Limits) (contents : List (List ℕ)) (docs : List (Doc ℕ)) → ReadAll l contents docs → (s n k : ℕ) (bytes : List ℕ) → Nth s contents n bytes → n ≡ s + k
    → (doc : Doc ℕ) × Nth s docs n doc × (get_or contents k [] ≡ bytes)
doc_of l [] docs read s n k bytes nth at = absurd nth
doc_of l (c ∷ contents) [] read s n k bytes nth at = absurd read
doc_of l (c ∷ contents) (d ∷ docs) read s n zero bytes (inl x) at = (d, inl (x.0, refl), x.1)
doc_of l (c ∷ contents) (d ∷ docs) read s n (suc k) bytes (inl x) at = absurd (omega (arith, x.0, at))
doc_of l (c ∷ contents) (d ∷ docs) read s n zero bytes (inr r) at = absurd (let up = nth_from (suc s) contents n bytes r in omega (arith, up, at))
doc_of l (c ∷ contents) (d ∷ docs) read s n (suc k) bytes (inr r) at =
    let o = doc_of (limits_after l c read.0) contents docs read.2 (suc s) n k bytes r (omega (arith, at)) in (o.0, inr o.1, o.2)

-- and is no longer than a file may be
pub small_of : (l : Limits) (contents : List (List ℕ)) (docs : List (Doc ℕ)) → ReadAll l contents docs → (k : ℕ) → length (get_or contents k []) ≤ 2 ^ 28
small_of l [] docs read k = omega arith
small_of l (c ∷ contents) [] read k = absurd read
small_of l (c ∷ contents) (d ∷ docs) read zero = short read.1.size.file
small_of l (c ∷ contents) (d ∷ docs) read (suc k) = small_of (limits_after l c read.0) contents docs read.2 k

-- ---- what the second one says

module _ (again : List (List ℕ)) (held : Store) (c : AsksToCompare again held) (said : Compares c.options c.contents (writes (answer_on Yes))) where
  comes : Yields c.options c.contents (writes (answer_on Yes))
  comes =
      subst (λ (w : Option (List ℕ)). YieldsBy w c.options c.contents (writes (answer_on Yes))) (sym (no_batch_with_check c.options c.lawful.fit c.compares))
      (subst (λ (w : Option (List ℕ)). ComesBy w c.options c.contents (writes (answer_on Yes))) (sym (no_reuse_with_check c.options c.lawful.fit c.compares))
      (subst (λ (b : Bool). OutBy b c.options.check c.options.expand c.options c.contents (writes (answer_on Yes))) (sym (with_check c.options c.lawful.fit c.compares).2)
      (subst (λ (b : Bool). OutBy false b c.options.expand c.options c.contents (writes (answer_on Yes))) (sym c.compares) said)))

  pub says_same : (before behind : FilesSeen) (printed printed_new : ConsoleSeen) (status : Status) → Complete demo_files Yields again before behind printed printed_new status
      → NoneFailed before behind printed printed_new → before.held ≡ Some held → (status ≡ Done) ⊎ (status ≡ NoMemory)
  says_same before behind printed printed_new status complete none there =
      complete (answer_on Yes) (asked_for again before held there (to_compare c) (writes (answer_on Yes)) comes) none.reads none.writes none.texts
