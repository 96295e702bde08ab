-- Where nothing outside fails, and nothing refuses all of many files over a finished common file, the answer is by whether one of them is refused.
use Rattle.std.proofs.Common.{◌≡◌, ◌⊎◌, ◌||◌, ◌≤◌, ℕ, Bool, true, false, List, [], ◌∷◌, Option, Some, refl, sym, ap, subst, ◌∙◌, inl, inr}
use Rattle.std.specs.List.{list_any}
use Rattle.dwz_model.specs.declared.fault.Refusal.{Refusal}
use Rattle.dwz_def_reading.specs.Files.{longest_files}
use Rattle.dwz_def_reading.specs.Lists.{In}
use Rattle.dwz_outside.specs.Store.{Store}
use Rattle.dwz_outside.specs.Told.{ConsoleSeen, FilesSeen}
use Rattle.dwz_words.specs.declared.options.Options.{Options}
use Rattle.dwz_run_course.specs.declared.output.Output.{Output}
use Rattle.dwz_run_course.specs.declared.status.Status.{Status}
use Rattle.dwz_run_course.specs.declared.status.Status.TheVariants.{Done, NoMemory, Partly}
use Rattle.dwz_run_course.specs.Ends.{Complete, finished}
use Rattle.dwz_run_course.specs.Outcome.{Outcome, refuses, writes}
use Rattle.dwz_gen.specs.Demo.{demo_files}
use Rattle.dwz_def_run.specs.Reuses.{common_got}
use Rattle.dwz_def_run.proofs.OneReuse.{one_reuse}
use Rattle.dwz_def_run.specs.Batches.{Alone, AreOutcomes, Batch, FileGot, IsCommonRead, bytes_together, is_refused, options_alone}
use Rattle.dwz_def_run.specs.Yields.{Batched, Yields, YieldsBy, batching}
use Rattle.dwz_def_run.proofs.NeverNothing.{never_nothing_yields}
use Rattle.dwz_def_run.proofs.OneBatch.{not_both}
use Rattle.dwz_def_run.proofs.Past.{not_past}
use Rattle.dwz_run.specs.Batched.{AsksToBatch, ComesAlone, files_of}
use Rattle.dwz_run.specs.BatchLaws.{BatchLaw}
use Rattle.dwz_run.specs.Laws.{NoneFailed, to_batch}
use Rattle.dwz_run.proofs.Answered.{asked_for}

-- ---- whether some outcome is a refusal

module _ (o : Options) (common : List ℕ) where
  none_is : (files : List FileGot) (outcomes : List Outcome) → AreOutcomes o common files outcomes
      → ((file : FileGot) → In file files → (q : Refusal) → ¬ Alone o common file (refuses q)) → list_any is_refused outcomes ≡ false
  none_is [] [] are none = refl
  none_is [] (y ∷ ys) are none = absurd are
  none_is (f ∷ files) [] are none = absurd are
  none_is (f ∷ files) (refuses q ∷ ys) are none = absurd (none f (inl refl) q are.0)
  none_is (f ∷ files) (writes out ∷ ys) are none = none_is files ys are.1 (λ file there. none file (inr there))

  -- of one file one thing comes
  some_is : (files : List FileGot) (outcomes : List Outcome) → AreOutcomes o common files outcomes
      → (file : FileGot) → In file files → (q : Refusal) → Alone o common file (refuses q) → list_any is_refused outcomes ≡ true
  some_is [] outcomes are file there q comes = absurd there
  some_is (f ∷ files) [] are file there q comes = absurd are
  some_is (f ∷ files) (refuses r ∷ ys) are file there q comes = refl
  some_is (f ∷ files) (writes out ∷ ys) are file (inl same) q comes =
      let mine = subst (λ (g : FileGot). Alone o common g (refuses q)) (sym same) comes in
      let one : writes out ≡ refuses q = one_reuse (options_alone o f.name) (common ∷ f.content ∷ []) (writes out) (refuses q) are.0 mine in
      ap (λ (y : Outcome). is_refused y || list_any is_refused ys) one
  some_is (f ∷ files) (writes out ∷ ys) are file (inr later) q comes = some_is files ys are.1 file later q comes

-- ---- the answer

-- so it ends, unless memory ran out
abbrev EndsAs : Status → Status → Type 0
EndsAs which status = (status ≡ which) ⊎ (status ≡ NoMemory)

done_known : (status : Status) → ((EndsAs Done status → ⊥) → ⊥) → EndsAs Done status
done_known Done not_not = inl refl
done_known NoMemory not_not = inr refl
done_known status not_not = absurd (not_not (λ e. elim e [ inl x ↦ cc | inr x ↦ cc ]))

partly_known : (status : Status) → ((EndsAs Partly status → ⊥) → ⊥) → EndsAs Partly status
partly_known Partly not_not = inl refl
partly_known NoMemory not_not = inr refl
partly_known status not_not = absurd (not_not (λ e. elim e [ inl x ↦ cc | inr x ↦ cc ]))

module _ (words : List (List ℕ)) (old new : FilesSeen) (shown shown_new : ConsoleSeen) (status : Status)
    (complete : Complete demo_files Yields words old new shown shown_new status) (none : NoneFailed old new shown shown_new)
    (store : Store) (told : old.held ≡ Some store) (a : AsksToBatch words store) (reads : IsCommonRead (batching a.options) (common_got a.contents))
    (few : bytes_together (common_got a.contents) (files_of a) ≤ longest_files) where
  abbrev o : Options
  o = a.options

  abbrev Comes : Outcome → Type 0
  Comes outcome = Batched (batching o) a.contents outcome

  -- nothing refuses all
  not_refused : (q : Refusal) → Comes (refuses q) → ⊥
  not_refused q (inl refused) = not_both (batching o) (common_got a.contents) q reads refused
  not_refused q (inr past) = not_past (common_got a.contents) (files_of a) past.1.0 few past.1.1

  ends : (out : Output) → Comes (writes out) → (partly : Bool) → out.partly ≡ partly → (status ≡ finished false partly) ⊎ (status ≡ NoMemory)
  ends out comes partly is =
      let given = subst (λ (w : Option (List ℕ)). YieldsBy w o a.contents (writes out)) (sym a.batches) comes in
      let same : out.differs ≡ false = ap (λ (x : Output). x.differs) comes.2 in
      subst (λ (b : Bool). (status ≡ finished false b) ⊎ (status ≡ NoMemory)) is
      (subst (λ (b : Bool). (status ≡ finished b out.partly) ⊎ (status ≡ NoMemory)) same
      (complete out (asked_for words old store told (to_batch a) (writes out) given) none.reads none.writes none.texts))

  -- by what holds of all that may come
  by_all : (Known : Type 0) → ((out : Output) → Comes (writes out) → Known) → (Known → ⊥) → ⊥
  by_all Known known not_so = never_nothing_yields o a.contents (λ outcome given. one outcome (subst (λ (w : Option (List ℕ)). YieldsBy w o a.contents outcome) a.batches given)) where
    one : (outcome : Outcome) → Comes outcome → ⊥
    one (writes out) comes = not_so (known out comes)
    one (refuses q) comes = not_refused q comes

  partly_is : (out : Output) (comes : Comes (writes out)) → out.partly ≡ list_any is_refused comes.1.2.0
  partly_is out comes = ap (λ (x : Output). x.partly) comes.2 ∙ ap (λ (b : Batch). b.partly) comes.1.2.2

  whole : ((file : FileGot) → In file (files_of a) → (q : Refusal) → ¬ ComesAlone a file (refuses q)) → EndsAs Done status
  whole free = done_known status (by_all (EndsAs Done status) (λ out comes.
      ends out comes false (partly_is out comes ∙ none_is (batching o) (common_got a.contents) (files_of a) comes.1.2.0 comes.1.2.1 free)))

  part : (file : FileGot) → In file (files_of a) → (q : Refusal) → ComesAlone a file (refuses q) → EndsAs Partly status
  part file there q refused = partly_known status (by_all (EndsAs Partly status) (λ out comes.
      ends out comes true (partly_is out comes ∙ some_is (batching o) (common_got a.contents) (files_of a) comes.1.2.0 comes.1.2.1 file there q refused)))

  pub is_partly : (((file : FileGot) → In file (files_of a) → (q : Refusal) → ¬ ComesAlone a file (refuses q)) → EndsAs Done status)
      × ((file : FileGot) → In file (files_of a) → (q : Refusal) → ComesAlone a file (refuses q) → EndsAs Partly status)
  is_partly = (whole, part)

pub batch_answered : BatchLaw
batch_answered words old new shown shown_new status complete none store told a reads few =
    is_partly words old new shown shown_new status complete none store told a reads few
