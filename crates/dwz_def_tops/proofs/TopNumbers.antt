-- Tops are numbered in order, so a number has one top.
use Rattle.std.proofs.Common.{◌≡◌, ℕ, ℤ, suc, ◌+◌, ◌<◌, ◌≤◌, Bool, true, false, List, [], ◌∷◌, ◌++◌, length, Option, Some, ◌==◌, refl, sym, ap, subst, ◌∙◌, inl, inr, ⊎_elim, arith, slice_get}
use Rattle.std.proofs.lemmas.Bool.{eq-eqb, eqb-true, ne_eqb}
use Rattle.dwz_def_reading.specs.Documents.{Compile, DwUnit, Entries, Kind, OfType, Partial, language}
use Rattle.dwz_def_reading.specs.Lists.{In}
use Rattle.dwz_def_reading.specs.Trees.{End, Entry}
use Rattle.dwz_def_tops.specs.Alike.{unit_in}
use Rattle.dwz_def_tops.specs.Deciding.{top_in}
use Rattle.dwz_def_tops.specs.Spots.{ASpace, ATop, EntryName, FileUnit, Nothing, Row, SpaceName, Top, name_of, row_below, row_in, row_tops, top_count, tops_from, tops_of}
use Rattle.dwz_def_tops.specs.Spaces.{tops_under}
use Rattle.dwz_def_tops.proofs.RowLemmas.{RowIs, row_count, row_is}

-- their numbers are n, n + 1, and so on
abbrev pub Numbered : ℕ → List Top → Type 0
Numbered n [] = Unit {0}
Numbered n (t ∷ tops) = (t.number ≡ n) × Numbered (suc n) tops

numbered_append : (n m : ℕ) (xs ys : List Top) → Numbered n xs → m ≡ n + length xs → Numbered m ys → Numbered n (xs ++ ys)
numbered_append n m [] ys h e k = let same : m ≡ n = omega arith in subst (λ (i : ℕ). Numbered i ys) same k
numbered_append n m (x ∷ xs) ys h e k = (h.0, numbered_append (suc n) m xs ys h.1 (omega arith) k)

module _ (file unit : ℕ) (tongue : Option ℤ) where
  row_numbered : (spaces : List SpaceName) (n : ℕ) (row : Row) (f : Entries EntryName) → RowIs file unit tongue spaces n row f → Numbered n (row_tops row)
  unfolding row_tops
  row_numbered spaces n Nothing f h = tt
  row_numbered spaces n (ATop t row) (Entry e f g) h = (ap (λ (w : Top). w.number) (sym h.1), row_numbered spaces (suc n) row g h.2)
  row_numbered spaces n (ASpace d inner row) (Entry e f g) h =
      numbered_append n (n + tops_under f) (row_tops inner) (row_tops row) (row_numbered (spaces ++ name_of h.0 e ∷ []) n inner f h.3)
      (ap (λ (w : ℕ). n + w) (sym (row_count file unit tongue (spaces ++ name_of h.0 e ∷ []) n inner f h.3))) (row_numbered spaces (n + tops_under f) row g h.4)
  row_numbered spaces n (ATop t row) End h = absurd h
  row_numbered spaces n (ASpace d inner row) End h = absurd h

below_numbered : (file unit n : ℕ) (u : DwUnit EntryName) (k : Kind EntryName) → Numbered n (row_tops (row_below file unit n u k))
unfolding row_tops
below_numbered file unit n u Compile = row_numbered file unit (language u) [] n (row_in file unit (language u) [] n u.below) u.below (row_is file unit (language u) [] n u.below)
below_numbered file unit n u (OfType signature main) = tt
below_numbered file unit n u Partial = tt

pub below_length : (file unit n : ℕ) (u : DwUnit EntryName) (k : Kind EntryName) → length (row_tops (row_below file unit n u k)) ≡ top_count k u.below
unfolding row_tops
below_length file unit n u Compile = row_count file unit (language u) [] n (row_in file unit (language u) [] n u.below) u.below (row_is file unit (language u) [] n u.below)
below_length file unit n u (OfType signature main) = refl
below_length file unit n u Partial = refl

pub from_numbered : (unit n : ℕ) (units : List (FileUnit EntryName)) → Numbered n (tops_from unit n units)
unfolding tops_from
from_numbered unit n [] = tt
from_numbered unit n (f ∷ units) =
    let m = n + top_count f.unit.kind f.unit.below in
    let xs = row_tops (row_below f.file unit n f.unit f.unit.kind) in
    numbered_append n m xs (tops_from (suc unit) m units) (below_numbered f.file unit n f.unit f.unit.kind)
    (ap (λ (i : ℕ). n + i) (sym (below_length f.file unit n f.unit f.unit.kind))) (from_numbered (suc unit) m units)

-- the tops of all units are numbered 0, 1, 2, ..
pub tops_numbers : (units : List (FileUnit EntryName)) → Numbered 0 (tops_of units)
tops_numbers units = from_numbered 0 0 units

-- ---- what follows of numbers

pub number_from : (n : ℕ) (tops : List Top) (t : Top) → Numbered n tops → In t tops → n ≤ t.number
number_from n [] t h i = absurd i
number_from n (x ∷ tops) t h i = ⊎_elim
    (λ e. let same : x.number ≡ t.number = ap (λ (y : Top). y.number) e in let first = h.0 in omega arith)
    (λ j. let later : suc n ≤ t.number = number_from (suc n) tops t h.1 j in omega arith) i

pub number_below : (n : ℕ) (tops : List Top) (t : Top) → Numbered n tops → In t tops → t.number < n + length tops
number_below n [] t h i = absurd i
number_below n (x ∷ tops) t h i = ⊎_elim
    (λ e. let same : x.number ≡ t.number = ap (λ (y : Top). y.number) e in let first = h.0 in omega arith)
    (λ j. let later : t.number < suc n + length tops = number_below (suc n) tops t h.1 j in omega arith) i

pub one_top : (n : ℕ) (tops : List Top) (a b : Top) → Numbered n tops → In a tops → In b tops → a.number ≡ b.number → a ≡ b
one_top n [] a b h i j e = absurd i
one_top n (x ∷ tops) a b h (inl p) (inl q) e = sym p ∙ q
one_top n (x ∷ tops) a b h (inl p) (inr q) e =
    let first = h.0 in
    let same : x.number ≡ a.number = ap (λ (y : Top). y.number) p in
    let later : suc n ≤ b.number = number_from (suc n) tops b h.1 q in
    absurd (omega arith)
one_top n (x ∷ tops) a b h (inr p) (inl q) e =
    let first = h.0 in
    let same : x.number ≡ b.number = ap (λ (y : Top). y.number) q in
    let later : suc n ≤ a.number = number_from (suc n) tops a h.1 p in
    absurd (omega arith)
one_top n (x ∷ tops) a b h (inr p) (inr q) e = one_top (suc n) tops a b h.1 p q e

-- each number from the first on has a top
pub top_at : (n : ℕ) (tops : List Top) (i : ℕ) → Numbered n tops → n ≤ i → i < n + length tops → (t : Top) × In t tops × (t.number ≡ i)
top_at n [] i h low high = absurd (omega arith)
top_at n (x ∷ tops) i h low high = ⊎_elim
    (λ (e : i ≡ n). let first = h.0 in (x, inl refl, omega arith))
    (λ (more : suc n ≤ i). let r = top_at (suc n) tops i h.1 more (omega arith) in (r.0, inr r.1, r.2))
    (grind arith)

-- ---- what is found by a number

pub finds : (n : ℕ) (tops : List Top) (t : Top) → Numbered n tops → In t tops → top_in tops t.number ≡ Some t
unfolding top_in
finds n [] t h i = absurd i
finds n (x ∷ tops) t h (inl e) = rw (eq-eqb x.number t.number (ap (λ (y : Top). y.number) e), top_in) (ap (λ (y : Top). Some y) e)
finds n (x ∷ tops) t h (inr j) =
    let first = h.0 in
    let later : suc n ≤ t.number = number_from (suc n) tops t h.1 j in
    rw (ne_eqb x.number t.number (λ e. omega arith), top_in) (finds (suc n) tops t h.1 j)

-- a choice by a test, of which one side can't be
pub chosen : {X Y : Type 0} (b : Bool) (x : X) (r : Option X) (y : X) → (b ≡ true → Some x ≡ Some y → Y) → (b ≡ false → r ≡ Some y → Y) → elim b as (λ _. Option X) [ true ↦ Some x | false ↦ r ]
    ≡ Some y → Y
chosen true x r y f g e = f refl e
chosen false x r y f g e = g refl e

pub found : (tops : List Top) (n : ℕ) (t : Top) → top_in tops n ≡ Some t → In t tops × (t.number ≡ n)
unfolding top_in
found [] n t e = absurd cc
found (x ∷ tops) n t e = chosen (x.number == n) x (top_in tops n) t
    (λ b s. let same : x ≡ t = cc in (inl same, ap (λ (y : Top). y.number) (sym same) ∙ eqb-true x.number n b))
    (λ b s. let r = found tops n t s in (inr r.0, r.1)) e

pub unit_found : (tops : List Top) (n u : ℕ) → unit_in tops n ≡ Some u → (t : Top) × In t tops × (t.number ≡ n) × (t.unit ≡ u)
unfolding unit_in
unit_found [] n u e = absurd cc
unit_found (x ∷ tops) n u e = chosen (x.number == n) x.unit (unit_in tops n) u
    (λ b s. (x, inl refl, eqb-true x.number n b, cc))
    (λ b s. let r = unit_found tops n u s in (r.0, inr r.1, r.2, r.3)) e

pub at_number : (n : ℕ) (tops : List Top) → Numbered n tops → (t : Top) → In t tops → (k : ℕ) × (slice_get tops k ≡ Some t) × (t.number ≡ n + k)
at_number n [] h t there = absurd there
at_number n (x ∷ tops) h t (inl e) = (0, ap (λ (w : Top). Some w) e, (let first = h.0 in let same : x.number ≡ t.number = ap (λ (w : Top). w.number) e in omega arith))
at_number n (x ∷ tops) h t (inr later) = (let r = at_number (suc n) tops h.1 t later in (suc r.0, r.1, (let at = r.2 in omega arith)))

-- a top stands at the place of its number
pub top_there : (units : List (FileUnit EntryName)) (t : Top) → In t (tops_of units) → slice_get (tops_of units) t.number ≡ Some t
top_there units t there =
    let r = at_number 0 (tops_of units) (tops_numbers units) t there in
    let at : r.0 ≡ t.number = (let e = r.2 in omega arith) in
    subst (λ (k : ℕ). slice_get (tops_of units) k ≡ Some t) at r.1
