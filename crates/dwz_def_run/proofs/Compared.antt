-- Of two files that are compared at most one thing comes, and it can't be that nothing does; and whether they differ.
use Rattle.std.proofs.Common.{◌≡◌, ◌⊎◌, ◌↔◌, ℕ, suc, Bool, true, false, List, [], ◌∷◌, length, get_or, Option, Some, None, Result, Ok, Err, refl, sym, ap, subst, ◌∙◌, inl, inr, arith}
use Rattle.std.proofs.lemmas.Bool.{eqb-false, eqb-true}
use Rattle.std.specs.Prelude.{◌==◌}
use Rattle.dwz_def_reading.specs.Refusal.{Refusal}
use Rattle.dwz_def_reading.specs.Documents.{Doc}
use Rattle.dwz_def_reading.specs.Files.{Limits, limits_after, no_files_before}
use Rattle.dwz_def_reading.specs.Finished.{FinishedDocs, FirstFinished, ReadAllBy, ReadFinished, common_read, finished_meaning, rule_of_back}
use Rattle.dwz_def_reading.specs.Places.{Place}
use Rattle.dwz_def_reading.specs.Rules.{ReadingRule}
use Rattle.dwz_def_reading.proofs.FinishedLemmas.{finished_agrees}
use Rattle.dwz_def_cross.specs.CrossSame.{CrossSame, EachTwo, UnitsAlike}
use Rattle.dwz_def_cross.specs.Tops.{whole_units}
use Rattle.dwz_def_check.specs.Answer.{FirstApart, IsSameAnswer, IsSameOf, OfTwo, SameBy, beside_common}
use Rattle.dwz_def_check.specs.declared.same.Same.{Same}
use Rattle.dwz_def_check.specs.declared.same.Same.TheVariants.{Unit as OneUnit, Units, Yes}
use Rattle.dwz_def_check.proofs.AnswerLemmas.{one_same}
use Rattle.dwz_words.specs.declared.options.Options.{Options}
use Rattle.dwz_run_course.specs.declared.output.Output.{Output}
use Rattle.dwz_run_course.specs.Outcome.{Outcome, refuses, writes}
use Rattle.dwz_def_run.specs.Compares.{Compares, answer_on, common_in, tells_apart, two_in}

-- ---- two lists

-- it can't be that neither each two are related, nor some two are the first that aren't
never_neither : {X Y : Type 0} (R : X → Y → Type 0) (xs : List X) (ys : List Y) → length xs ≡ length ys → (EachTwo R xs ys ⊎ ((n : ℕ) × FirstApart R xs ys n) → ⊥) → ⊥
never_neither R [] [] same neither = neither (inl tt)
never_neither R [] (y ∷ ys) same neither = absurd (omega (arith, same))
never_neither R (x ∷ xs) [] same neither = absurd (omega (arith, same))
never_neither R (x ∷ xs) (y ∷ ys) same neither = never_neither R xs ys (omega (arith, same)) later where
  later : EachTwo R xs ys ⊎ ((n : ℕ) × FirstApart R xs ys n) → ⊥
  later (inl all) = neither (inr (0, λ r. neither (inl (r, all))))
  later (inr first) = neither (inr (0, λ r. neither (inr (suc first.0, (r, first.1)))))

-- so it can't be that nothing is to be said of them
pub never_silent : {X Y : Type 0} (R : X → Y → Type 0) (xs : List X) (ys : List Y) → ((same : Same) → SameBy R xs ys same → ⊥) → ⊥
never_silent R xs ys silent = by (length xs == length ys) refl where
  either : length xs ≡ length ys → EachTwo R xs ys ⊎ ((n : ℕ) × FirstApart R xs ys n) → ⊥
  either many (inl all) = silent Yes all
  either many (inr first) = silent (OneUnit first.0) (many, first.1)

  by : (b : Bool) → (length xs == length ys) ≡ b → ⊥
  by true e = let many : length xs ≡ length ys = eqb-true (length xs) (length ys) e in never_neither R xs ys many (either many)
  by false e = silent (Units (length xs) (length ys)) (refl, refl, eqb-false (length xs) (length ys) e)

-- ---- two files

module _ (o : Options) (contents : List (List ℕ)) where
  abbrev common : Option (List ℕ)
  common = common_in o.sup contents

  abbrev files : List (List ℕ)
  files = two_in o.sup contents

  -- they read as one, or have one first fault
  one_reading : (a b : FinishedDocs) → ReadFinished common files a → ReadFinished common files b → a ≡ b
  one_reading a b x y =
      let p = ((finished_agrees common files).ok a).1 x in
      let q = ((finished_agrees common files).ok b).1 y in
      cc

  one_fault : (p q : Refusal) → FirstFinished common files p → FirstFinished common files q → p ≡ q
  one_fault p q x y =
      let a = ((finished_agrees common files).err p).1 x in
      let b = ((finished_agrees common files).err q).1 y in
      cc

  not_both : (said : FinishedDocs) (q : Refusal) → ReadFinished common files said → FirstFinished common files q → ⊥
  not_both said q x y =
      let a = ((finished_agrees common files).ok said).1 x in
      let b = ((finished_agrees common files).err q).1 y in
      cc

-- one answer is right
one_of_two : (said : FinishedDocs) (docs : List (Doc Place)) (a b : Same)
    → OfTwo (λ old new. IsSameAnswer (beside_common said old) (beside_common said new) a) docs → OfTwo (λ old new. IsSameAnswer (beside_common said old) (beside_common said new) b) docs
    → a ≡ b
one_of_two said [] a b x y = absurd x
one_of_two said (old ∷ []) a b x y = absurd x
one_of_two said (old ∷ new ∷ []) a b x y =
    let v = beside_common said old in
    let w = beside_common said new in
    one_same (UnitsAlike v w) (whole_units v.own) (whole_units w.own) a b x y
one_of_two said (old ∷ new ∷ more ∷ docs) a b x y = absurd x

pub one_compared : (o : Options) (contents : List (List ℕ)) (a b : Outcome) → Compares o contents a → Compares o contents b → a ≡ b
one_compared o contents (writes a) (writes b) x y =
    let said : y.0 ≡ x.0 = one_reading o contents y.0 x.0 y.1 x.1 in
    let same = one_of_two x.0 x.0.docs x.2 y.2 x.3 (subst (λ (s : FinishedDocs). IsSameOf s y.2) said y.3) in
    ap writes (x.4 ∙ ap answer_on same ∙ sym y.4)
one_compared o contents (writes a) (refuses q) x y = absurd (not_both o contents x.0 q x.1 y)
one_compared o contents (refuses p) (writes b) x y = absurd (not_both o contents y.0 p y.1 x)
one_compared o contents (refuses p) (refuses q) x y = ap refuses (one_fault o contents p q x y)

-- two files give two documents
two_by : (rule : ℕ → ReadingRule Place) (l : Limits) (a b : List ℕ) (docs : List (Doc Place)) → ReadAllBy rule l 0 (a ∷ b ∷ []) docs
    → (old : Doc Place) × (new : Doc Place) × (docs ≡ old ∷ new ∷ [])
two_by rule l a b [] read = absurd read
two_by rule l a b (old ∷ []) read = absurd read.2
two_by rule l a b (old ∷ new ∷ []) read = (old, new, refl)
two_by rule l a b (old ∷ new ∷ more ∷ docs) read = absurd read.2.2

two_docs : (common : Option (List ℕ)) (a b : List ℕ) (said : FinishedDocs) → ReadFinished common (a ∷ b ∷ []) said
    → (old : Doc Place) × (new : Doc Place) × (said.docs ≡ old ∷ new ∷ [])
two_docs None a b said read = two_by (rule_of_back None) no_files_before a b said.docs read.1
two_docs (Some bytes) a b said read =
    two_by (rule_of_back (Some (common_read (a ∷ b ∷ []) bytes read.0))) (limits_after no_files_before bytes read.0) a b said.docs read.4

two_read : (sup : Option (List ℕ)) (contents : List (List ℕ)) (said : FinishedDocs) → ReadFinished (common_in sup contents) (two_in sup contents) said
    → (old : Doc Place) × (new : Doc Place) × (said.docs ≡ old ∷ new ∷ [])
two_read None contents said read = two_docs None (get_or contents 0 []) (get_or contents 1 []) said read
two_read (Some name) contents said read = two_docs (Some (get_or contents 0 [])) (get_or contents 1 []) (get_or contents 2 []) said read

pub never_nothing : (o : Options) (contents : List (List ℕ)) → ((outcome : Outcome) → Compares o contents outcome → ⊥) → ⊥
never_nothing o contents nothing = by (finished_meaning (common_in o.sup contents) (two_in o.sup contents)) refl where
  by : (m : Result FinishedDocs Refusal) → finished_meaning (common_in o.sup contents) (two_in o.sup contents) ≡ m → ⊥
  by (Err q) e = nothing (refuses q) (((finished_agrees (common_in o.sup contents) (two_in o.sup contents)).err q).0 e)
  by (Ok said) e =
      let read = ((finished_agrees (common_in o.sup contents) (two_in o.sup contents)).ok said).0 e in
      let two = two_read o.sup contents said read in
      let v = beside_common said two.0 in
      let w = beside_common said two.1 in
      never_silent (UnitsAlike v w) (whole_units v.own) (whole_units w.own) (λ same is. nothing (writes (answer_on same)) (
        said,
        read,
        same,
        subst (λ (docs : List (Doc Place)). OfTwo (λ old new. IsSameAnswer (beside_common said old) (beside_common said new) same) docs) (sym two.2) is,
        refl,
      ))

-- ---- whether they differ

pub same_told : (same : Same) → tells_apart same ≡ false → same ≡ Yes
same_told Yes e = refl
same_told (Units m n) e = absurd cc
same_told (OneUnit n) e = absurd cc

pub differs_apart : (o : Options) (contents : List (List ℕ)) (out : Output) → Compares o contents (writes out) → (said : FinishedDocs) (old new : Doc Place)
    → ReadFinished (common_in o.sup contents) (two_in o.sup contents) said → said.docs ≡ old ∷ new ∷ [] → (out.differs ≡ false) ↔ CrossSame (beside_common said old) (beside_common said new)
differs_apart o contents out is said old new read docs =
    let told : out.differs ≡ tells_apart is.2 = ap (λ (x : Output). x.differs) is.4 in
    let answer : IsSameAnswer (beside_common said old) (beside_common said new) is.2 =
    subst (λ (ds : List (Doc Place)). OfTwo (λ a b. IsSameAnswer (beside_common said a) (beside_common said b) is.2) ds) docs
    (subst (λ (s : FinishedDocs). IsSameOf s is.2) (one_reading o contents is.0 said is.1 read) is.3) in (
      λ none. subst (IsSameAnswer (beside_common said old) (beside_common said new)) (same_told is.2 (sym told ∙ none)) answer,
      λ same.
          let v = beside_common said old in
          let w = beside_common said new in
          told ∙ ap tells_apart (one_same (UnitsAlike v w) (whole_units v.own) (whole_units w.own) is.2 Yes answer same),
    )
