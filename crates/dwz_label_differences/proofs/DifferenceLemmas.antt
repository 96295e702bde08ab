-- The entries of two tops with one number, and the first that differ.
use Rattle.std.proofs.Common.{◌≡◌, ℕ, zero, suc, ◌^◌, ◌<◌, ◌≤◌, List, [], ◌∷◌, ◌++◌, length, Some, slice_get, sym, ap, subst, ◌∙◌, inl, inr, arith, min}
use Rattle.std.specs.Prelude.{◌⊎◌}
use Rattle.std.proofs.lemmas.Bool.{cases_lt}
use Rattle.dwz_model.specs.Lists.{Each}
use Rattle.dwz_model.proofs.ListFacts.{got_in, got_there}
use Rattle.dwz_model.proofs.Members.{each_in}
use Rattle.dwz_def_explain.specs.What.{Subtree}
use Rattle.dwz_label.specs.Labels.{attr_label, each_counted, number}
use Rattle.dwz_label_differences.specs.declared.differences.Difference.{Difference}
use Rattle.dwz_label_differences.specs.declared.entries.EntryLabel.{EntryLabel}
use Rattle.dwz_label_differences.specs.Labels.{Agree, AreEntryLabels, DifferBy, FirstAt, FlatEntry, IsEntryLabel, SameEntry, whole}
use Rattle.dwz_label_differences.proofs.AttributeLemmas.{TellsSame}
use Rattle.dwz_label_differences.proofs.Flats.{labels_long}
use Rattle.dwz_label_differences.proofs.Numbers.{IsAfterNumber}
use Rattle.dwz_label_differences.proofs.SamePieces.{numbers_of}

-- ---- tags

pub behind_tag : (e : FlatEntry) (row : EntryLabel) (left : List ℕ) → IsEntryLabel e row → IsAfterNumber row.label.now left → (rest : List ℕ) × (left ≡ each_counted attr_label e.node.attrs ++ rest)
behind_tag e row left is after = (is.rest, after e.node.tag (each_counted attr_label e.node.attrs ++ is.rest) is.label)

before_left : (e : FlatEntry) (row : EntryLabel) (left : List ℕ) → IsEntryLabel e row → IsAfterNumber row.label.now left → row.label.now ≡ number e.node.tag ++ left
unfolding behind_tag
before_left e row left is after = is.label ∙ ap (λ (w : List ℕ). number e.node.tag ++ w) (sym (behind_tag e row left is after).1)

pub tags_told : (d e : FlatEntry) (r s : EntryLabel) (a_left b_left : List ℕ) (T : Type 0) → IsEntryLabel d r → IsEntryLabel e s → IsAfterNumber r.label.now a_left → IsAfterNumber s.label.now b_left
    → TellsSame r.label.now a_left s.label.now b_left T → (T → d.node.tag ≡ e.node.tag) × (d.node.tag ≡ e.node.tag → T)
tags_told d e r s a_left b_left T i j u v tells =
    let t = tells (number d.node.tag) (number e.node.tag) (before_left d r a_left i u) (before_left e s b_left j v) in
    ((λ is. numbers_of d.node.tag e.node.tag (t.0 is)), (λ same. t.1 (ap number same)))

-- ---- up to a number

abbrev pub SameUpTo : ℕ → List FlatEntry → List FlatEntry → Type 0
SameUpTo zero ds es = Unit {0}
SameUpTo (suc k) (d ∷ ds) (e ∷ es) = SameEntry d e × SameUpTo k ds es
SameUpTo (suc k) _ _ = ⊥

there : (x u : FlatEntry) → Some u ≡ Some x → x ≡ u
there x u e = cc

pub up_more : (k : ℕ) (ds es : List FlatEntry) (d e : FlatEntry) → SameUpTo k ds es → slice_get ds k ≡ Some d → slice_get es k ≡ Some e → SameEntry d e → SameUpTo (suc k) ds es
up_more zero (u ∷ ds) (v ∷ es) d e s g h same = (subst (λ (a : FlatEntry). SameEntry a v) (there d u g) (subst (λ (b : FlatEntry). SameEntry d b) (there e v h) same), tt)
up_more (suc k) (u ∷ ds) (v ∷ es) d e s g h same = (s.0, up_more k ds es d e s.1 g h same)
up_more zero [] es d e s g h same = absurd cc
up_more zero (u ∷ ds) [] d e s g h same = absurd cc
up_more (suc k) [] es d e s g h same = absurd cc
up_more (suc k) (u ∷ ds) [] d e s g h same = absurd cc

pub up_first : (by : Difference) (k : ℕ) (ds es : List FlatEntry) (d e : FlatEntry) → SameUpTo k ds es → slice_get ds k ≡ Some d → slice_get es k ≡ Some e → DifferBy by d e → FirstAt by k ds es
up_first by zero (u ∷ ds) (v ∷ es) d e s g h differ = subst (λ (a : FlatEntry). DifferBy by a v) (there d u g) (subst (λ (b : FlatEntry). DifferBy by d b) (there e v h) differ)
up_first by (suc k) (u ∷ ds) (v ∷ es) d e s g h differ = (s.0, up_first by k ds es d e s.1 g h differ)
up_first by zero [] es d e s g h differ = absurd cc
up_first by zero (u ∷ ds) [] d e s g h differ = absurd cc
up_first by (suc k) [] es d e s g h differ = absurd cc
up_first by (suc k) (u ∷ ds) [] d e s g h differ = absurd cc

pub up_all : (k : ℕ) (ds es : List FlatEntry) → SameUpTo k ds es → (length ds ≤ k) ⊎ (length es ≤ k) → Agree ds es
up_all k [] es s h = tt
up_all k (d ∷ ds) [] s h = tt
up_all zero (d ∷ ds) (e ∷ es) s (inl l) = absurd (omega (arith, l))
up_all zero (d ∷ ds) (e ∷ es) s (inr l) = absurd (omega (arith, l))
up_all (suc k) (d ∷ ds) (e ∷ es) s (inl l) = (s.0, up_all k ds es s.1 (inl (omega (arith, l))))
up_all (suc k) (d ∷ ds) (e ∷ es) s (inr l) = (s.0, up_all k ds es s.1 (inr (omega (arith, l))))

-- ---- of two tops

abbrev pub HasFew : FlatEntry → Type 0
HasFew d = length d.node.attrs < 2 ^ 32

pub record PairAt (x y : Subtree) (a b : List EntryLabel) (k : ℕ) : Type 0 where
  pub d : FlatEntry
  pub e : FlatEntry
  pub d_there : slice_get (whole x) k ≡ Some d
  pub e_there : slice_get (whole y) k ≡ Some e
  pub few : HasFew d

pub pair_at : (x y : Subtree) (a b : List EntryLabel) (k : ℕ) → k < length a → k < length b → AreEntryLabels (whole x) a → AreEntryLabels (whole y) b → Each HasFew (whole x) → PairAt x y a b k
pair_at x y a b k l m h g few =
    let p = labels_long (whole x) a h in
    let q = labels_long (whole y) b g in
    let d = got_there (whole x) k (omega (arith, l, p)) in
    let e = got_there (whole y) k (omega (arith, m, q)) in
    record { d = d.0; e = e.0; d_there = d.1; e_there = e.1; few = each_in HasFew d.0 (whole x) few (got_in (whole x) k d.0 d.1) }

pub all_passed : (x y : Subtree) (a b : List EntryLabel) (k : ℕ) → min (length a) (length b) ≤ k → AreEntryLabels (whole x) a → AreEntryLabels (whole y) b → SameUpTo k (whole x) (whole y) → Agree (whole x) (whole y)
all_passed x y a b k l h g s =
    let p = labels_long (whole x) a h in
    let q = labels_long (whole y) b g in
    up_all k (whole x) (whole y) s (elim (cases_lt (length b) (length a)) [
      | inl less ↦ inr (omega (arith, l, less, q))
      | inr more ↦ inl (omega (arith, l, more, p))
    ])
