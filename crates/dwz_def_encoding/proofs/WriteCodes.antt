-- Codes by first use are found again in the table that is written.
use Rattle.std.proofs.Common.{◌≡◌, ℕ, suc, ◌+◌, ◌<◌, ◌≤◌, ◌⊎◌, Bool, true, false, List, [], ◌∷◌, ◌++◌, length, Option, Some, None, refl, sym, ap, ◌∙◌, append_assoc, arith, cond, eqb, ne_eqb}
use Rattle.std.proofs.Math.Logic.{inl, inr}
use Rattle.std.proofs.lemmas.List.{append-nil, length-append}
use Rattle.dwz_def_reading.specs.Abbrevs.{Declaration, find_decl}
use Rattle.dwz_def_reading.specs.Documents.{DwUnit, Entries}
use Rattle.dwz_def_reading.specs.Trees.{End, Entry, size}
use Rattle.dwz_def_reading.specs.Lists.{Each}
use Rattle.dwz_def_encoding.specs.Writing.{DeclarationShape, add_if, code_in, coded, declaration_of, declaration_shape, same_shape, shapes_in, table_of, with_shape}
use Rattle.dwz_def_tops.proofs.SpotLemmas.{eqb_same}
use Rattle.dwz_def_encoding.proofs.SameLemmas.{same_shape-same, same_shape-true}
use Rattle.dwz_def_tops.proofs.Members.{each_append}

-- ---- a code that is found

abbrev step : Bool → ℕ → Option ℕ → Option ℕ
step t n other = elim t as (λ _. Option ℕ) [ true ↦ Some n | false ↦ other ]

pub picked : (t : Bool) (n c : ℕ) (other : Option ℕ) → step t n other ≡ Some c → ((t ≡ true) × (n ≡ c)) ⊎ ((t ≡ false) × (other ≡ Some c))
picked true n c other e = inl (refl, cc)
picked false n c other e = inr (refl, e)

pub code_bounds : (n : ℕ) (table : List DeclarationShape) (s : DeclarationShape) (c : ℕ) → code_in n table s ≡ Some c → (n ≤ c) × (c < n + length table)
unfolding code_in
code_bounds n [] s c e = absurd cc
code_bounds n (t ∷ table) s c e =
    elim (picked (same_shape t s) n c (code_in (suc n) table s) e) [
      | inl p ↦ (omega (arith, p.1), omega (arith, p.1))
      | inr p ↦ let b = code_bounds (suc n) table s c p.1 in (omega (arith, b.0), omega (arith, b.1))
    ]

abbrev pick : Bool → Declaration → Option Declaration → Option Declaration
pick t d other = cond t (Some d) other

pub code_found : (n : ℕ) (table : List DeclarationShape) (s : DeclarationShape) (c : ℕ) → code_in n table s ≡ Some c → find_decl (coded n table) c ≡ Some (declaration_of c s)
unfolding code_in coded
code_found n [] s c e = absurd cc
code_found n (t ∷ table) s c e =
    elim (picked (same_shape t s) n c (code_in (suc n) table s) e) [
      | inl p ↦
          let test : eqb n c ≡ true = ap (λ (m : ℕ). eqb m c) p.1 ∙ eqb_same c in
          let same : declaration_of n t ≡ declaration_of c s = ap (λ (m : ℕ). declaration_of m t) p.1 ∙ ap (declaration_of c) (same_shape-true t s p.0) in
          ap (λ (b : Bool). pick b (declaration_of n t) (find_decl (coded (suc n) table) c)) test ∙ ap (λ (d : Declaration). Some d) same
      | inr p ↦
          let b = code_bounds (suc n) table s c p.1 in
          let test : eqb n c ≡ false = ne_eqb n c (λ h. omega (arith, h, b.0)) in
          ap (λ (b : Bool). pick b (declaration_of n t) (find_decl (coded (suc n) table) c)) test ∙ code_found (suc n) table s c p.1
    ]

pub code_grows : (n : ℕ) (table more : List DeclarationShape) (s : DeclarationShape) (c : ℕ) → code_in n table s ≡ Some c → code_in n (table ++ more) s ≡ Some c
unfolding code_in
code_grows n [] more s c e = absurd cc
code_grows n (t ∷ table) more s c e =
    elim (picked (same_shape t s) n c (code_in (suc n) table s) e) [
      | inl p ↦ rw (p.0, code_in) (ap Some p.1)
      | inr p ↦ rw (p.0, code_in) (code_grows (suc n) table more s c p.1)
    ]

pub code_last : (n : ℕ) (table : List DeclarationShape) (s : DeclarationShape) → code_in n table s ≡ None → code_in n (table ++ s ∷ []) s ≡ Some (n + length table)
unfolding code_in
code_last n [] s e = rw (same_shape-same s, code_in) (ap Some (omega arith))
code_last n (t ∷ table) s e =
    elim (same_shape t s) as (λ b. step b n (code_in (suc n) table s) ≡ None → step b n (code_in (suc n) (table ++ s ∷ []) s) ≡ Some (n + suc (length table))) [
      | true ↦ λ h. absurd cc
      | false ↦ λ h. code_last (suc n) table s h ∙ ap Some (omega arith)
    ] e

-- ---- a table with more shapes

pub record Grown {X : Type 0} (table grown : List X) : Type 0 where
  pub more : List X
  pub is : grown ≡ table ++ more

pub Grown-same : {X : Type 0} (table : List X) → Grown table table
Grown-same table = record { more = []; is = sym (append-nil table) }

pub Grown-then : {X : Type 0} (a b c : List X) → Grown a b → Grown b c → Grown a c
Grown-then {X} a b c p q = record { more = p.more ++ q.more; is = q.is ∙ ap (λ (t : List X). t ++ q.more) p.is ∙ append_assoc a p.more q.more }

-- the table has a code for the shape
pub record Has (table : List DeclarationShape) (s : DeclarationShape) : Type 0 where
  pub code : ℕ
  pub is : code_in 1 table s ≡ Some code

with_has : (table : List DeclarationShape) (s : DeclarationShape) (o : Option ℕ) → code_in 1 table s ≡ o → Has (add_if o table s) s × Grown table (add_if o table s)
with_has table s (Some n) e = (record { code = n; is = e }, Grown-same table)
with_has table s None e = (record { code = 1 + length table; is = code_last 1 table s e }, record { more = s ∷ []; is = refl })

pub with_shape-has : (table : List DeclarationShape) (s : DeclarationShape) → Has (with_shape table s) s × Grown table (with_shape table s)
unfolding with_shape
with_shape-has table s = with_has table s (code_in 1 table s) refl

pub Has-grown : (a b : List DeclarationShape) (s : DeclarationShape) → Grown a b → Has a s → Has b s
Has-grown a b s g h = record { code = h.code; is = ap (λ (t : List DeclarationShape). code_in 1 t s) g.is ∙ code_grows 1 a g.more s h.code h.is }

-- every entry has its declaration
abbrev pub Covers : {K : Type 0} → List DeclarationShape → Entries K → Type 0
Covers table End = Unit {0}
Covers table (Entry e children next) = Has table (declaration_shape e children) × Covers table children × Covers table next

pub Covers-grown : {K : Type 0} (a b : List DeclarationShape) (f : Entries K) → Grown a b → Covers a f → Covers b f
Covers-grown a b End g h = tt
Covers-grown a b (Entry e children next) g h = (Has-grown a b _ g h.0, Covers-grown a b children g h.1, Covers-grown a b next g h.2)

pub shapes_cover : {K : Type 0} (f : Entries K) (table : List DeclarationShape) → Covers (shapes_in table f) f × Grown table (shapes_in table f)
unfolding shapes_in
shapes_cover End table = (tt, Grown-same table)
shapes_cover (Entry e children next) table =
    let s = declaration_shape e children in
    let first = with_shape-has table s in
    let inner = shapes_cover children (with_shape table s) in
    let last = shapes_cover next (shapes_in (with_shape table s) children) in
    let through = Grown-then _ _ _ inner.1 last.1 in
    ((Has-grown _ _ s through first.0, Covers-grown _ _ children last.1 inner.0, last.0), Grown-then _ _ _ first.1 through)

-- ---- what holds of each shape of a table

module _ (P : DeclarationShape → Type 0) where
  each_by : (table : List DeclarationShape) (s : DeclarationShape) (o : Option ℕ) → Each P table → P s → Each P (add_if o table s)
  each_by table s (Some n) all one = all
  each_by table s None all one = each_append P table (s ∷ []) all (one, tt)

  each_with : (table : List DeclarationShape) (s : DeclarationShape) → Each P table → P s → Each P (with_shape table s)
  unfolding with_shape
  each_with table s all one = each_by table s (code_in 1 table s) all one

  abbrev pub EachShape : {K : Type 0} → Entries K → Type 0
  EachShape End = Unit {0}
  EachShape (Entry e children next) = P (declaration_shape e children) × EachShape children × EachShape next

  each_shape : {K : Type 0} (f : Entries K) (table : List DeclarationShape) → EachShape f → Each P table → Each P (shapes_in table f)
  unfolding shapes_in
  each_shape End table is all = all
  each_shape (Entry e children next) table is all = each_shape next _ is.2 (each_shape children _ is.1 (each_with table (declaration_shape e children) all is.0))

  pub each_of_table : {K : Type 0} (u : DwUnit K) → P (declaration_shape u.root u.below) → EachShape u.below → Each P (table_of u)
  each_of_table u root below = each_shape u.below _ below (each_with [] (declaration_shape u.root u.below) tt root)

-- ---- a table has no more shapes than there are entries

add_len : (table : List DeclarationShape) (s : DeclarationShape) (o : Option ℕ) → length (add_if o table s) ≤ length table + 1
add_len table s (Some n) = omega arith
add_len table s None = omega (arith, length-append table (s ∷ []))

with_len : (table : List DeclarationShape) (s : DeclarationShape) → length (with_shape table s) ≤ length table + 1
unfolding with_shape
with_len table s = add_len table s (code_in 1 table s)

shapes_len : {K : Type 0} (f : Entries K) (table : List DeclarationShape) → length (shapes_in table f) ≤ length table + size f
unfolding shapes_in
shapes_len End table = omega arith
shapes_len (Entry e children next) table =
    let a = with_len table (declaration_shape e children) in
    let b = shapes_len children (with_shape table (declaration_shape e children)) in
    let c = shapes_len next (shapes_in (with_shape table (declaration_shape e children)) children) in
    omega (arith, a, b, c)

-- what the table of a unit is
pub record IsTable {K : Type 0} (u : DwUnit K) : Type 0 where
  pub root : Has (table_of u) (declaration_shape u.root u.below)
  pub below : Covers (table_of u) u.below
  pub len : length (table_of u) ≤ size u.below + 1

pub is_table : {K : Type 0} (u : DwUnit K) → IsTable u
is_table u =
    let s = declaration_shape u.root u.below in
    let first = with_shape-has [] s in
    let inner = shapes_cover u.below (with_shape [] s) in
    let a = with_len [] s in
    let b = shapes_len u.below (with_shape [] s) in
    record { root = Has-grown _ _ s inner.1 first.0; below = inner.0; len = omega (arith, a, b) }
