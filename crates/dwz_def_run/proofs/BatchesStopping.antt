-- What is put and said of each FILE is what is put and said of it alone; no put is of the common file; and what each prefix of the puts leaves.
use Rattle.std.proofs.Common.{◌≡◌, ◌⊎◌, ℕ, zero, suc, true, false, List, [], ◌∷◌, take, Option, Some, Ok, refl, sym, ap, subst, ◌∙◌, inl, inr}
use Rattle.std.specs.Prelude.{not}
use Rattle.std.specs.List.{flat_map}
use Rattle.std.specs.Option.{option_map_or}
use Rattle.dwz_def_reading.specs.Refusal.{Refusal}
use Rattle.dwz_def_reading.specs.Lists.{In}
use Rattle.dwz_outside.specs.declared.puts.Put.{Put}
use Rattle.dwz_outside.specs.Store.{Store, done, put_in}
use Rattle.dwz_words.specs.Conditions.{are_distinct, is_among}
use Rattle.dwz_words.specs.declared.options.Options.{Options}
use Rattle.dwz_run_course.specs.Outcome.{Outcome, refuses, writes}
use Rattle.dwz_run_course.specs.Puts.{AreApart, AreOthers, Prefixes}
use Rattle.dwz_run_course.proofs.StopLemmas.{prefixes}
use Rattle.dwz_def_run.proofs.Stopping.{put_other, put_own}
use Rattle.dwz_def_run.specs.Reuses.{common_got}
use Rattle.dwz_def_run.proofs.OneReuse.{one_reuse}
use Rattle.dwz_def_run.specs.Batches.{Alone, AreOutcomes, Batch, Batches, FileGot, all_got, batch_of, options_alone, part_of, puts_of}
use Rattle.dwz_def_run.specs.BatchesLaws.{puts_at}
use Rattle.dwz_def_run.specs.BatchesStops.{AreOldOrAlone, FitBatch, IsPutAlone, KeepRefused}
use Rattle.dwz_def_run.proofs.AllPuts.{IsAt, apart, at, names_got, names_of, not_false, others}
use Rattle.dwz_def_run.proofs.OwnPuts.{own}

keeps : (common : List ℕ) (puts : List Put) (store : Store) → AreOthers common puts → (k : ℕ) → done (take k puts) store common ≡ store common
keeps common puts store others zero = refl
keeps common [] store others (suc k) = refl
keeps common (p ∷ puts) store others (suc k) = keeps common puts (put_in p.name p.bytes store) others.1 k ∙ put_other common p.name p.bytes store others.0

module _ (o : Options) (contents : List (List ℕ)) (fit : FitBatch o) (outcomes : List Outcome)
    (are : AreOutcomes o (common_got contents) (all_got o contents) outcomes) where
  abbrev puts : List Put
  puts = flat_map puts_of outcomes

  names : names_of (all_got o contents) ≡ o.files
  names = names_got 1 o.files contents

  distinct : are_distinct (names_of (all_got o contents)) ≡ true
  distinct = ap are_distinct names ∙ fit.distinct

  pub apart_all : AreApart puts
  apart_all = apart o (common_got contents) (all_got o contents) outcomes distinct are

  pub others_common : (common : List ℕ) → o.common ≡ Some common → AreOthers common puts
  others_common common named =
      let free : is_among o.files common ≡ false =
      not_false (is_among o.files common) (sym (ap (λ (w : Option (List ℕ)). option_map_or (λ c. not (is_among o.files c)) w true) named) ∙ fit.apart) in
      others o (common_got contents) common (all_got o contents) outcomes (ap (λ (w : List (List ℕ)). is_among w common) names ∙ free) are

  -- ---- one file

  module _ (file : FileGot) (is : In file (all_got o contents)) where
    there : IsAt o (common_got contents) (all_got o contents) outcomes file
    there = at o (common_got contents) (all_got o contents) outcomes distinct are file is

    its : (outcome : Outcome) → Alone o (common_got contents) file outcome → there.outcome ≡ outcome
    its outcome comes = one_reuse (options_alone o file.name) (common_got contents ∷ file.content ∷ []) there.outcome outcome there.comes comes

    pub put_alone : (outcome : Outcome) → Alone o (common_got contents) file outcome
        → (puts_at file.name puts ≡ puts_of outcome) × In (part_of o file.name outcome) (batch_of o (all_got o contents) outcomes).parts
    put_alone outcome comes =
        let same = its outcome comes in
        (there.puts ∙ ap puts_of same, subst (λ (w : Outcome). In (part_of o file.name w) (batch_of o (all_got o contents) outcomes).parts) same there.said)

    pub left_alone : (outcome : Outcome) → Alone o (common_got contents) file outcome → (store : Store)
        → done puts store file.name ≡ done (puts_of outcome) store file.name
    left_alone outcome comes store = there.left store ∙ ap (λ (w : Outcome). done (puts_of w) store file.name) (its outcome comes)

    module _ (store : Store) (k : ℕ) where
      abbrev now : Store
      now = done (take k puts) store

      old_or_alone : (outcome : Outcome) → Alone o (common_got contents) file outcome → now file.name ≡ done (puts_of outcome) store file.name
          → (now file.name ≡ store file.name) ⊎ IsPutAlone o (common_got contents) now file
      old_or_alone (refuses q) comes e = inl e
      old_or_alone (writes out) comes e = elim (own o (common_got contents) file (writes out) comes) [
        | inl none ↦ inl (e ∙ ap (λ (w : List Put). done w store file.name) none)
        | inr put ↦ inr (record {
          out = out;
          alone = comes;
          bytes = put.0;
          puts = put.1;
          held = e ∙ ap (λ (w : List Put). done w store file.name) put.1 ∙ put_own file.name put.0 store;
        })
      ]

      pub stops_at : (now file.name ≡ store file.name) ⊎ IsPutAlone o (common_got contents) now file
      stops_at = elim (prefixes puts store apart_all k file.name) [
        | inl same ↦ inl same
        | inr e ↦ old_or_alone there.outcome there.comes (e ∙ there.left store)
      ]

      pub keeps_at : (q : Refusal) → Alone o (common_got contents) file (refuses q) → now file.name ≡ store file.name
      keeps_at q comes = elim (prefixes puts store apart_all k file.name) [
        | inl same ↦ same
        | inr e ↦ e ∙ there.left store ∙ ap (λ (w : Outcome). done (puts_of w) store file.name) (its (refuses q) comes)
      ]

-- ---- the laws

puts_are : (o : Options) (contents : List (List ℕ)) (all : Batch) → (is : Batches o contents (Ok all)) → all.puts ≡ flat_map puts_of is.2.0
puts_are o contents all is = ap (λ (w : Batch). w.puts) is.2.2

pub alone_law : (o : Options) (contents : List (List ℕ)) (all : Batch) → FitBatch o → Batches o contents (Ok all)
    → AreApart all.puts
    × ((file : FileGot) → In file (all_got o contents) → (outcome : Outcome) → Alone o (common_got contents) file outcome
    → (puts_at file.name all.puts ≡ puts_of outcome) × In (part_of o file.name outcome) all.parts)
alone_law o contents all fit is =
    subst (λ (b : Batch). AreApart b.puts
    × ((file : FileGot) → In file (all_got o contents) → (outcome : Outcome) → Alone o (common_got contents) file outcome
    → (puts_at file.name b.puts ≡ puts_of outcome) × In (part_of o file.name outcome) b.parts)) (sym is.2.2)
    (apart_all o contents fit is.2.0 is.2.1, λ file there outcome comes. put_alone o contents fit is.2.0 is.2.1 file there outcome comes)

pub held_law : (o : Options) (contents : List (List ℕ)) (all : Batch) → FitBatch o → Batches o contents (Ok all)
    → (file : FileGot) → In file (all_got o contents) → (outcome : Outcome) → Alone o (common_got contents) file outcome
    → (store : Store) → done all.puts store file.name ≡ done (puts_of outcome) store file.name
held_law o contents all fit is file there outcome comes store =
    subst (λ (ps : List Put). done ps store file.name ≡ done (puts_of outcome) store file.name) (sym (puts_are o contents all is))
    (left_alone o contents fit is.2.0 is.2.1 file there outcome comes store)

pub not_put_law : (o : Options) (contents : List (List ℕ)) (all : Batch) → FitBatch o → Batches o contents (Ok all)
    → (common : List ℕ) → o.common ≡ Some common
    → AreOthers common all.puts × ((store : Store) (k : ℕ) → done (take k all.puts) store common ≡ store common)
not_put_law o contents all fit is common named =
    let are : AreOthers common all.puts =
    subst (AreOthers common) (sym (puts_are o contents all is)) (others_common o contents fit is.2.0 is.2.1 common named) in
    (are, λ store k. keeps common all.puts store are k)

pub stops_law : (o : Options) (contents : List (List ℕ)) (all : Batch) → FitBatch o → Batches o contents (Ok all)
    → (store : Store) → Prefixes all.puts store (AreOldOrAlone o contents store)
stops_law o contents all fit is store =
    subst (λ (ps : List Put). Prefixes ps store (AreOldOrAlone o contents store)) (sym (puts_are o contents all is))
    (λ k file there. stops_at o contents fit is.2.0 is.2.1 file there store k)

pub keeps_law : (o : Options) (contents : List (List ℕ)) (all : Batch) → FitBatch o → Batches o contents (Ok all)
    → (store : Store) → Prefixes all.puts store (KeepRefused o contents store)
keeps_law o contents all fit is store =
    subst (λ (ps : List Put). Prefixes ps store (KeepRefused o contents store)) (sym (puts_are o contents all is))
    (λ k file there q comes. keeps_at o contents fit is.2.0 is.2.1 file there store k q comes)
