-- Declarations of one shape, and the least of their codes.
use Rattle.std.proofs.Common.{◌≡◌, ◌≢◌, ◌&&◌, ℕ, zero, suc, ◌+◌, ◌<◌, ◌≤◌, get_or, length, take, Bool, true, false, not, eqb, int_eq, Decides, List, [], ◌∷◌, ◌++◌, Option, Some, None, inl, ⊎_elim, refl, ap, ◌∙◌, sym, arith}
use Rattle.std.specs.Bool.{beq}
use Rattle.std.proofs.lemmas.Bool.Decides.{Decides-and, Decides-eqb, Decides-int_eq}
use Rattle.dwz_model.specs.Lists.{In}
use Rattle.dwz_model.specs.declared.place.Pair.{Pair}
use Rattle.dwz_model.proofs.ListFacts.{in_cases, in_left, in_right}
use Rattle.dwz_def_reading.specs.Abbrevs.{Declaration, EntryShape, with_code}
use Rattle.dwz_abbrev.specs.Shapes.{IsLeastCode}
use Rattle.dwz_abbrev.specs.Views.{decl_view, views}
use Rattle.dwz_abbrev.specs.declared.decl.Decl.{Decl}

-- ---- pairs and flags that are equal

pair_same : (p q : Pair) → p.name ≡ q.name → p.form ≡ q.form → p.constant ≡ q.constant → p ≡ q
pair_same p q name form constant = (λ i. record { name = name i; form = form i; constant = constant i })

pub pair_decides : (p q : Pair) → Decides (eqb p.name q.name && (eqb p.form q.form && int_eq p.constant q.constant)) (p ≡ q)
pair_decides p q =
    let parts =
    Decides-and (eqb p.name q.name) (eqb p.form q.form && int_eq p.constant q.constant) (Decides-eqb p.name q.name)
    (Decides-and (eqb p.form q.form) (int_eq p.constant q.constant) (Decides-eqb p.form q.form) (Decides-int_eq p.constant q.constant)) in
    (λ e. pair_same p q (parts.0 e).0 (parts.0 e).1.0 (parts.0 e).1.1, λ e. parts.1 (ap (λ (r : Pair). r.name) e, (ap (λ (r : Pair). r.form) e, ap (λ (r : Pair). r.constant) e)))

pub bools_same : (a b : Bool) → not (beq a b) ≡ false → a ≡ b
bools_same true true e = refl
bools_same false false e = refl
bools_same true false e = absurd cc
bools_same false true e = absurd cc

pub bools_apart : (a b : Bool) → not (beq a b) ≡ true → a ≢ b
bools_apart true true e h = absurd cc
bools_apart false false e h = absurd cc
bools_apart true false e h = absurd cc
bools_apart false true e h = absurd cc

pub shape_same : (d : Decl) (tag : ℕ) (children : Bool) (pairs : List Pair) → d.tag ≡ tag → d.children ≡ children → d.pairs ≡ pairs
    → decl_view d ≡ with_code (record { tag = tag; children = children; pairs = pairs }) d.code
shape_same d tag children pairs a b e = (λ i. record { code = d.code; tag = a i; children = b i; pairs = e i })

-- ---- the least code

module _ (s : EntryShape) (table : List Declaration) where
  shape_again : (d : Declaration) (code : ℕ) → d ≡ with_code s code → d ≡ with_code s d.code
  shape_again d code e = e ∙ ap (λ (x : Declaration). with_code s x.code) (sym e)

  -- a declaration of another shape
  pub other_next : (d : Declaration) (least : Option ℕ) → d ≢ with_code s d.code → IsLeastCode table s least → IsLeastCode (table ++ d ∷ []) s least
  other_next d None other is = λ code i. ⊎_elim (is code) (λ j. ⊎_elim (λ (e : d ≡ with_code s code). other (shape_again d code e)) (λ k. absurd k) j)
      (in_cases (with_code s code) table (d ∷ []) i)
  other_next d (Some least) other is = (
    in_left (with_code s least) table (d ∷ []) is.0,
    λ code i. ⊎_elim (is.1 code) (λ j. ⊎_elim (λ (e : d ≡ with_code s code). absurd (other (shape_again d code e))) (λ k. absurd k) j)
        (in_cases (with_code s code) table (d ∷ []) i),
  )

  -- one of that shape
  pub first_next : (d : Declaration) → d ≡ with_code s d.code → IsLeastCode table s None → IsLeastCode (table ++ d ∷ []) s (Some d.code)
  first_next d same none = (
    in_right (with_code s d.code) table (d ∷ []) (inl same),
    λ code i. ⊎_elim (λ j. absurd (none code j)) (λ j. ⊎_elim (λ (e : d ≡ with_code s code). let h = ap (λ (x : Declaration). x.code) e in omega arith) (λ k. absurd k) j)
        (in_cases (with_code s code) table (d ∷ []) i),
  )

  pub low_next : (d : Declaration) (least : ℕ) → least ≤ d.code → IsLeastCode table s (Some least) → IsLeastCode (table ++ d ∷ []) s (Some least)
  low_next d least low is = (
    in_left (with_code s least) table (d ∷ []) is.0,
    λ code i. ⊎_elim (is.1 code) (λ j. ⊎_elim (λ (e : d ≡ with_code s code). let h = ap (λ (x : Declaration). x.code) e in omega arith) (λ k. absurd k) j)
        (in_cases (with_code s code) table (d ∷ []) i),
  )

  pub lower_next : (d : Declaration) (least : ℕ) → d.code ≤ least → d ≡ with_code s d.code → IsLeastCode table s (Some least) → IsLeastCode (table ++ d ∷ []) s (Some d.code)
  lower_next d least low same is = (
    in_right (with_code s d.code) table (d ∷ []) (inl same),
    λ code i. ⊎_elim (λ j. let h = is.1 code j in omega arith) (λ j. ⊎_elim (λ (e : d ≡ with_code s code). let h = ap (λ (x : Declaration). x.code) e in omega arith) (λ k. absurd k) j)
        (in_cases (with_code s code) table (d ∷ []) i),
  )

-- ---- the first so many declarations

views_more : (rows : List Decl) (i : ℕ) (d : Decl) → i < length rows → d ≡ get_or rows i d → views (take (suc i) rows) ≡ views (take i rows) ++ decl_view d ∷ []
views_more [] i d lt is = absurd (omega arith)
views_more (r ∷ rows) zero d lt is = ap (λ (x : Decl). decl_view x ∷ []) (sym is)
views_more (r ∷ rows) (suc i) d lt is = ap (λ (w : List Declaration). decl_view r ∷ w) (views_more rows i d (omega arith) is)

pub views_next : (rows : List Decl) (i : ℕ) (d : Decl) → i < length rows → d ≡ get_or rows i d → views (take (i + 1) rows) ≡ views (take i rows) ++ decl_view d ∷ []
views_next rows i d lt is = let e : i + 1 ≡ suc i = omega arith in ap (λ (k : ℕ). views (take k rows)) e ∙ views_more rows i d lt is
