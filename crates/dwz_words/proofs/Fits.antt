-- What options come to that fit together, by the task that they ask for.
use Rattle.std.proofs.Common.{◌≡◌, ◌⊎◌, ◌≤◌, ◌+◌, refl, ap, subst, inl, inr, ℕ, Bool, true, false, Option, Some, None, arith, length}
use Rattle.std.specs.Prelude.{if◌then◌else◌, is_none, is_some, nat_le, nat_lt, not, ◌==◌, ◌&&◌, ◌||◌}
use Rattle.std.proofs.lemmas.Bool.{eqb-true, leb-true}
use Rattle.clap.proofs.WalkLemmas.{both}
use Rattle.dwz_words.specs.Conditions.{FitTogether, Word, are_distinct, may_have_out, task_count}
use Rattle.dwz_words.specs.declared.options.Options.{Options}

-- what a flag adds to the count of those that hold
abbrev weight : Bool → ℕ
weight b = if b then 1 else 0

adds_none : (b : Bool) → weight b ≡ 0 → b ≡ false
adds_none true none = absurd (omega arith)
adds_none false none = refl

not_given : {X : Type 0} (o : Option X) → weight (is_some o) ≡ 0 → o ≡ None
not_given None none = refl
not_given (Some x) none = absurd (omega arith)

given : {X : Type 0} (o : Option X) (x : X) → o ≡ Some x → weight (is_some o) ≡ 1
given o x e = ap (λ o. weight (is_some o)) e

one_of_two : (a b : Bool) → (a || b) ≡ true → (a ≡ true) ⊎ (b ≡ true)
one_of_two true b e = inl refl
one_of_two false b e = inr e

-- what is given
some_given : {X : Type 0} (o : Option X) → is_some o ≡ true → weight (is_some o) ≡ 1
some_given (Some x) e = refl
some_given None e = cc

module _ (o : Options) (fit : FitTogether o) where
  count_is : task_count o ≡ weight (is_some o.common) + weight (is_some o.reuse) + weight (is_some o.batch) + weight o.explain + weight o.check + weight o.expand + weight (is_some o.demo)
  count_is = omega arith

  at_most_one : task_count o ≤ 1
  at_most_one = leb-true (task_count o) 1 fit.one_task

  -- with COMMON nothing is explained, demonstrated, compared or expanded
  pub with_common : (common : Word) → o.common ≡ Some common
      → (o.explain ≡ false) × (o.demo ≡ None) × (o.check ≡ false) × (o.expand ≡ false)
  with_common common e =
      let one = given o.common common e in (
        adds_none o.explain (omega (arith, count_is, at_most_one)),
        not_given o.demo (omega (arith, count_is, at_most_one)),
        adds_none o.check (omega (arith, count_is, at_most_one)),
        adds_none o.expand (omega (arith, count_is, at_most_one)),
      )

  -- with `--explain` there is no COMMON and no demonstration, and nothing is compared or expanded
  pub with_explain : o.explain ≡ true → (o.common ≡ None) × (o.demo ≡ None) × (o.check ≡ false) × (o.expand ≡ false)
  with_explain e =
      let one : weight o.explain ≡ 1 = ap weight e in (
        not_given o.common (omega (arith, count_is, at_most_one)),
        not_given o.demo (omega (arith, count_is, at_most_one)),
        adds_none o.check (omega (arith, count_is, at_most_one)),
        adds_none o.expand (omega (arith, count_is, at_most_one)),
      )

  -- with `--check` no common file is made, and there is no demonstration, and nothing is explained or expanded
  pub with_check : o.check ≡ true → (o.common ≡ None) × (o.demo ≡ None) × (o.explain ≡ false) × (o.expand ≡ false)
  with_check e =
      let one : weight o.check ≡ 1 = ap weight e in (
        not_given o.common (omega (arith, count_is, at_most_one)),
        not_given o.demo (omega (arith, count_is, at_most_one)),
        adds_none o.explain (omega (arith, count_is, at_most_one)),
        adds_none o.expand (omega (arith, count_is, at_most_one)),
      )

  -- with `--demo` there is no FILE and no COMMON, and nothing is explained, compared or expanded
  pub with_demo : (n : ℕ) → o.demo ≡ Some n
      → (length o.files ≡ 0) × (o.common ≡ None) × (o.explain ≡ false) × (o.check ≡ false) × (o.expand ≡ false)
  with_demo n e =
      let one = given o.demo n e in
      let none = subst (λ (d : Option ℕ). (if is_some d then length o.files == 0
      else (if o.explain then length o.files == 4
      else (if o.check then length o.files == 2
      else (if o.expand then length o.files == 1 else (nat_lt 0 (length o.files) && nat_le (length o.files) 256))))) ≡ true) e fit.file_count in (
        eqb-true (length o.files) 0 none,
        not_given o.common (omega (arith, count_is, at_most_one)),
        adds_none o.explain (omega (arith, count_is, at_most_one)),
        adds_none o.check (omega (arith, count_is, at_most_one)),
        adds_none o.expand (omega (arith, count_is, at_most_one)),
      )

  -- with OUT there is one FILE and no task, but that it may be expanded, or written over a common file
  pub with_out : (out : Word) → o.out ≡ Some out
      → (length o.files ≡ 1) × (o.common ≡ None) × (o.explain ≡ false) × (o.demo ≡ None) × (o.check ≡ false)
  with_out out e =
      let alone = subst (λ (w : Option Word). (is_none w || (length o.files == 1 && may_have_out o)) ≡ true) e fit.out_only_for_one in
      let parts = both (length o.files == 1) (may_have_out o) alone in
      let rest : weight (is_some o.common) + weight o.explain + weight o.check + weight (is_some o.demo) ≡ 0 =
      elim (one_of_two (task_count o == 0) (is_some o.reuse || o.expand) parts.1) [
        | inl none ↦ omega (arith, count_is, eqb-true (task_count o) 0 none)
        | inr either ↦ elim (one_of_two (is_some o.reuse) o.expand either) [
          | inl reuses ↦ omega (arith, count_is, at_most_one, some_given o.reuse reuses)
          | inr expands ↦ omega (arith, count_is, at_most_one, ap weight expands)
        ]
      ] in (
        eqb-true (length o.files) 1 parts.0,
        not_given o.common (omega (arith, rest)),
        adds_none o.explain (omega (arith, rest)),
        not_given o.demo (omega (arith, rest)),
        adds_none o.check (omega (arith, rest)),
      )

  -- with `--reuse` no common file is made, and nothing is explained, demonstrated, compared or expanded
  pub with_reuse : (common : Word) → o.reuse ≡ Some common
      → (o.common ≡ None) × (o.explain ≡ false) × (o.demo ≡ None) × (o.check ≡ false) × (o.expand ≡ false)
  with_reuse common e =
      let one = given o.reuse common e in (
        not_given o.common (omega (arith, count_is, at_most_one)),
        adds_none o.explain (omega (arith, count_is, at_most_one)),
        not_given o.demo (omega (arith, count_is, at_most_one)),
        adds_none o.check (omega (arith, count_is, at_most_one)),
        adds_none o.expand (omega (arith, count_is, at_most_one)),
      )

  -- where two files are compared, or there is a demonstration, nothing is written over a common file
  pub no_reuse_with_check : o.check ≡ true → o.reuse ≡ None
  no_reuse_with_check e =
      let one : weight o.check ≡ 1 = ap weight e in
      not_given o.reuse (omega (arith, count_is, at_most_one))

  pub no_reuse_with_demo : (n : ℕ) → o.demo ≡ Some n → o.reuse ≡ None
  no_reuse_with_demo n e =
      let one = given o.demo n e in
      not_given o.reuse (omega (arith, count_is, at_most_one))

  -- with `--batch` no other task is asked for
  pub with_batch : (common : Word) → o.batch ≡ Some common
      → (o.common ≡ None) × (o.reuse ≡ None) × (o.explain ≡ false) × (o.demo ≡ None) × (o.check ≡ false) × (o.expand ≡ false)
  with_batch common e =
      let one = given o.batch common e in (
        not_given o.common (omega (arith, count_is, at_most_one)),
        not_given o.reuse (omega (arith, count_is, at_most_one)),
        adds_none o.explain (omega (arith, count_is, at_most_one)),
        not_given o.demo (omega (arith, count_is, at_most_one)),
        adds_none o.check (omega (arith, count_is, at_most_one)),
        adds_none o.expand (omega (arith, count_is, at_most_one)),
      )

  -- nor is it with any other
  pub no_batch_with_common : (common : Word) → o.common ≡ Some common → o.batch ≡ None
  no_batch_with_common common e =
      let one = given o.common common e in
      not_given o.batch (omega (arith, count_is, at_most_one))

  pub no_batch_with_reuse : (common : Word) → o.reuse ≡ Some common → o.batch ≡ None
  no_batch_with_reuse common e =
      let one = given o.reuse common e in
      not_given o.batch (omega (arith, count_is, at_most_one))

  pub no_batch_with_demo : (n : ℕ) → o.demo ≡ Some n → o.batch ≡ None
  no_batch_with_demo n e =
      let one = given o.demo n e in
      not_given o.batch (omega (arith, count_is, at_most_one))

  pub no_batch_with_explain : o.explain ≡ true → o.batch ≡ None
  no_batch_with_explain e =
      let one : weight o.explain ≡ 1 = ap weight e in
      not_given o.batch (omega (arith, count_is, at_most_one))

  pub no_batch_with_check : o.check ≡ true → o.batch ≡ None
  no_batch_with_check e =
      let one : weight o.check ≡ 1 = ap weight e in
      not_given o.batch (omega (arith, count_is, at_most_one))

  pub no_batch_with_expand : o.expand ≡ true → o.batch ≡ None
  no_batch_with_expand e =
      let one : weight o.expand ≡ 1 = ap weight e in
      not_given o.batch (omega (arith, count_is, at_most_one))

  -- with `--expand` there are one FILE and OUT; no common file is made, and nothing is explained, demonstrated or compared
  pub with_expand : o.expand ≡ true
      → (length o.files ≡ 1) × (o.common ≡ None) × (o.explain ≡ false) × (o.demo ≡ None) × (o.check ≡ false)
      × ((out : Word) × (o.out ≡ Some out))
  with_expand e = go o.out refl (subst (λ (b : Bool). (not b || is_some o.out) ≡ true) e fit.out_with_expand) where
    go : (out : Option Word) → o.out ≡ out → is_some o.out ≡ true
        → (length o.files ≡ 1) × (o.common ≡ None) × (o.explain ≡ false) × (o.demo ≡ None) × (o.check ≡ false)
        × ((out : Word) × (o.out ≡ Some out))
    go None is given = cc
    go (Some out) is given =
        let rest = with_out out is in
        (rest.0, rest.1, rest.2, rest.3, rest.4, (out, is))

  -- where nothing is explained, FILEs differ
  pub files_differ : o.explain ≡ false → are_distinct o.files ≡ true
  files_differ e = subst (λ (b : Bool). (b || are_distinct o.files) ≡ true) e fit.distinct_files

  -- where nothing is compared or expanded, no common file is read
  pub no_sup : o.check ≡ false → o.expand ≡ false → o.sup ≡ None
  no_sup e f =
      let only = subst (λ (b : Bool). (is_none o.sup || (b || o.expand)) ≡ true) e fit.sup_only_with_check_or_expand in
      go o.sup (subst (λ (b : Bool). (is_none o.sup || b) ≡ true) f only) where
        go : (sup : Option Word) → (is_none sup || false) ≡ true → sup ≡ None
        go None lawful = refl
        go (Some common) lawful = cc
