-- Shapes, and the declarations that count their codes up from 1.
use Rattle.std.proofs.Common.{◌≡◌, ℕ, suc, ◌+◌, ◌<◌, ◌≤◌, List, [], ◌∷◌, ◌++◌, length, Option, Some, None, refl, sym, ap, subst, ◌∙◌, arith}
use Rattle.std.specs.Prelude.{All, AllPairs}
use Rattle.std.proofs.lemmas.List.{length-map, map-append}
use Rattle.std.proofs.lemmas.List.Elements.{All-cons, All-nil, All-weaker}
use Rattle.std.proofs.lemmas.List.Kept.{AllPairs-cons}
use Rattle.dwz_def_reading.specs.Abbrevs.{Declaration, EntryShape, IsCounted, by_code, table_bytes, with_code}
use Rattle.dwz_def_reading.proofs.OrderLemmas.{by_code-kept}
use Rattle.dwz_def_encoding.specs.Writing.{DeclarationShape, add_if, code_in, coded, declaration_of, with_shape}
use Rattle.dwz_layout.specs.Shapes.{IsCoded, shape_in, shapes_in, table_for}

abbrev pub entry_shape : DeclarationShape → EntryShape
entry_shape s = record { tag = s.tag; children = s.children; pairs = s.pairs }

-- ---- declarations of shapes

pub shapes_in-coded : (n : ℕ) (shapes : List DeclarationShape) → shapes_in (coded n shapes) ≡ shapes
unfolding coded
shapes_in-coded n [] = refl
shapes_in-coded n (s ∷ shapes) = ap (λ (t : List DeclarationShape). s ∷ t) (shapes_in-coded (suc n) shapes)

length-coded : (n : ℕ) (shapes : List DeclarationShape) → length (coded n shapes) ≡ length shapes
unfolding coded
length-coded n [] = refl
length-coded n (s ∷ shapes) = ap suc (length-coded (suc n) shapes)

coded-append : (n : ℕ) (shapes : List DeclarationShape) (s : DeclarationShape) → coded n (shapes ++ s ∷ []) ≡ coded n shapes ++ declaration_of (length shapes + n) s ∷ []
unfolding coded
coded-append n [] s = ap (λ (m : ℕ). declaration_of m s ∷ []) (omega arith)
coded-append n (t ∷ shapes) s =
    let same : length shapes + suc n ≡ suc (length shapes) + n = omega arith in
    ap (λ (table : List Declaration). declaration_of n t ∷ table) (coded-append (suc n) shapes s ∙ ap (λ (m : ℕ). coded (suc n) shapes ++ declaration_of m s ∷ []) same)

pub coded_none : IsCoded []
unfolding coded
coded_none = refl

abbrev Below : Declaration → Declaration → Type 0
Below d e = d.code < e.code

coded_from : (n : ℕ) (shapes : List DeclarationShape) → All (λ d. n ≤ d.code) (coded n shapes)
unfolding coded
coded_from n [] = All-nil (λ d. n ≤ d.code)
coded_from n (s ∷ shapes) =
    All-cons (λ d. n ≤ d.code) (declaration_of n s) (coded (suc n) shapes) (omega arith)
    (All-weaker (λ d. suc n ≤ d.code) (λ d. n ≤ d.code) (λ d le. omega (arith, le)) (coded (suc n) shapes) (coded_from (suc n) shapes))

coded_ascends : (n : ℕ) (shapes : List DeclarationShape) → AllPairs Below (coded n shapes)
unfolding coded
coded_ascends n [] = λ i j d less lt. absurd (omega (arith, lt))
coded_ascends n (s ∷ shapes) =
    AllPairs-cons Below (declaration_of n s) (coded (suc n) shapes)
    (All-weaker (λ d. suc n ≤ d.code) (Below (declaration_of n s)) (λ d le. omega (arith, le)) (coded (suc n) shapes) (coded_from (suc n) shapes))
    (coded_ascends (suc n) shapes)

-- so what is written of them is what is written of the shapes
pub table_is : (table : List Declaration) → IsCoded table → table_bytes (by_code table) ≡ table_for (shapes_in table)
table_is table is = ap (λ (t : List Declaration). table_bytes (by_code t)) is ∙ ap table_bytes (by_code-kept (coded 1 (shapes_in table)) (coded_ascends 1 (shapes_in table)))

coded_below : (n : ℕ) (shapes : List DeclarationShape) → All (λ d. d.code < n + length shapes) (coded n shapes)
unfolding coded
coded_below n [] = All-nil (λ d. d.code < n + 0)
coded_below n (s ∷ shapes) =
    All-cons (λ d. d.code < n + suc (length shapes)) (declaration_of n s) (coded (suc n) shapes) (omega arith)
    (All-weaker (λ d. d.code < suc n + length shapes) (λ d. d.code < n + suc (length shapes)) (λ d lt. omega (arith, lt)) (coded (suc n) shapes) (coded_below (suc n) shapes))

pub counted : (table : List Declaration) → IsCoded table → IsCounted table
counted table is =
    subst (λ (t : List Declaration). All (λ d. d.code ≤ length table) t) (sym is)
    (All-weaker (λ d. d.code < 1 + length (shapes_in table)) (λ d. d.code ≤ length table) (λ d lt. omega (arith, lt, length-map table shape_in)) (coded 1 (shapes_in table))
    (coded_below 1 (shapes_in table)))

-- ---- a shape that is kept

-- a table that has the shape
pub with_known : (shapes : List DeclarationShape) (s : DeclarationShape) (code : ℕ) → code_in 1 shapes s ≡ Some code → with_shape shapes s ≡ shapes
unfolding with_shape
with_known shapes s code is = ap (λ (o : Option ℕ). add_if o shapes s) is

-- and one that doesn't
pub with_new : (shapes : List DeclarationShape) (s : DeclarationShape) → code_in 1 shapes s ≡ None → with_shape shapes s ≡ shapes ++ s ∷ []
unfolding with_shape
with_new shapes s none = ap (λ (o : Option ℕ). add_if o shapes s) none

-- the table with a shape more
module _ (table new : List Declaration) (s : DeclarationShape) (code : ℕ) (next : code ≡ length table + 1) (grown : new ≡ table ++ with_code (entry_shape s) code ∷ []) where
  pub shapes_grown : shapes_in new ≡ shapes_in table ++ s ∷ []
  shapes_grown = ap shapes_in grown ∙ map-append shape_in table (with_code (entry_shape s) code ∷ [])

  pub coded_grown : IsCoded table → IsCoded new
  coded_grown is =
      let place : length (shapes_in table) + 1 ≡ code = omega (arith, next, length-map table shape_in) in
      grown
      ∙ ap (λ (t : List Declaration). t ++ with_code (entry_shape s) code ∷ []) is
      ∙ sym (ap (coded 1) shapes_grown ∙ coded-append 1 (shapes_in table) s ∙ ap (λ (n : ℕ). coded 1 (shapes_in table) ++ declaration_of n s ∷ []) place)
