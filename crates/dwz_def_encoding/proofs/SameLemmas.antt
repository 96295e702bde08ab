-- Tests that decide equality.
use Rattle.std.proofs.Common.{◌≡◌, ℕ, ℤ, pos, negsuc, Bool, true, false, List, [], ◌∷◌, refl, ap, ◌∙◌, eqb, eqb-true}
use Rattle.dwz_def_reading.specs.Pair.{Pair}
use Rattle.dwz_def_reading.specs.Abbrevs.{children_byte}
use Rattle.dwz_def_tops.specs.Deciding.{same_by, same_int}
use Rattle.dwz_def_tops.specs.Spots.{same_spot}
use Rattle.dwz_def_tops.proofs.SpotLemmas.{all_true, both, eqb_same, same_spot-same, same_spot-true}
use Rattle.dwz_def_encoding.specs.Writing.{DeclarationShape, same_pair, same_shape}
use Rattle.dwz_def_encoding.proofs.Places.{IsSame}

same_int-true : (x y : ℤ) → same_int x y ≡ true → x ≡ y
unfolding same_int
same_int-true (pos m) (pos n) e = ap pos (eqb-true m n e)
same_int-true (negsuc m) (negsuc n) e = ap negsuc (eqb-true m n e)
same_int-true (pos m) (negsuc n) e = absurd cc
same_int-true (negsuc m) (pos n) e = absurd cc

same_int-same : (x : ℤ) → same_int x x ≡ true
unfolding same_int
same_int-same (pos m) = eqb_same m
same_int-same (negsuc m) = eqb_same m

-- ---- shapes

same_pair-true : (p q : Pair) → same_pair p q ≡ true → p ≡ q
same_pair-true p q e =
    let x = both (eqb p.name q.name) _ e in
    let y = both (eqb p.form q.form) _ x.1 in
    let a : p.name ≡ q.name = eqb-true _ _ x.0 in
    let b : p.form ≡ q.form = eqb-true _ _ y.0 in
    let c : p.constant ≡ q.constant = same_int-true _ _ y.1 in
    ap (λ (n : ℕ). record { name = n; form = p.form; constant = p.constant }) a
    ∙ ap (λ (n : ℕ). record { name = q.name; form = n; constant = p.constant }) b
    ∙ ap (λ (n : ℤ). record { name = q.name; form = q.form; constant = n }) c

same_pair-same : (p : Pair) → same_pair p p ≡ true
same_pair-same p = all_true _ _ (eqb_same p.name) (all_true _ _ (eqb_same p.form) (same_int-same p.constant))

same_pairs-true : (ps qs : List Pair) → same_by same_pair ps qs ≡ true → ps ≡ qs
unfolding same_by
same_pairs-true [] [] e = refl
same_pairs-true [] (q ∷ qs) e = absurd cc
same_pairs-true (p ∷ ps) [] e = absurd cc
same_pairs-true (p ∷ ps) (q ∷ qs) e =
    let x = both (same_pair p q) _ e in
    let first : p ≡ q = same_pair-true p q x.0 in
    let others = same_pairs-true ps qs x.1 in
    ap (λ (r : Pair). r ∷ ps) first ∙ ap (λ (rs : List Pair). q ∷ rs) others

same_pairs-same : (ps : List Pair) → same_by same_pair ps ps ≡ true
unfolding same_by
same_pairs-same [] = refl
same_pairs-same (p ∷ ps) = all_true _ _ (same_pair-same p) (same_pairs-same ps)

byte_is : (a b : Bool) → eqb (children_byte a) (children_byte b) ≡ true → a ≡ b
byte_is true true e = refl
byte_is false false e = refl
byte_is true false e = absurd cc
byte_is false true e = absurd cc

pub same_shape-true : (a b : DeclarationShape) → same_shape a b ≡ true → a ≡ b
unfolding same_shape
same_shape-true a b e =
    let x = both (eqb a.tag b.tag) _ e in
    let y = both (eqb (children_byte a.children) (children_byte b.children)) _ x.1 in
    let tag : a.tag ≡ b.tag = eqb-true _ _ x.0 in
    let children : a.children ≡ b.children = byte_is _ _ y.0 in
    let pairs = same_pairs-true a.pairs b.pairs y.1 in
    ap (λ (n : ℕ). record { tag = n; children = a.children; pairs = a.pairs }) tag
    ∙ ap (λ (n : Bool). record { tag = b.tag; children = n; pairs = a.pairs }) children
    ∙ ap (λ (n : List Pair). record { tag = b.tag; children = b.children; pairs = n }) pairs

pub same_shape-same : (a : DeclarationShape) → same_shape a a ≡ true
unfolding same_shape
same_shape-same a = all_true _ _ (eqb_same a.tag) (all_true _ _ (eqb_same (children_byte a.children)) (same_pairs-same a.pairs))

-- ---- names

pub spots_same : IsSame same_spot
spots_same = record { true_is = same_spot-true; refl_is = same_spot-same }
