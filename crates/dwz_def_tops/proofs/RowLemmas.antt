-- The rows of compile units, against their entries.
use Rattle.std.proofs.Common.{◌≡◌, ℕ, ℤ, suc, ◌+◌, ◌==◌, Bool, true, false, List, [], ◌∷◌, ◌++◌, length, Option, Some, None, refl, sym, ap, subst, ◌∙◌, inl, inr, arith, eqb-true, eq-eqb}
use Rattle.std.proofs.lemmas.Bool.{ne_eqb}
use Rattle.std.proofs.lemmas.List.{length-append}
use Rattle.dwz_def_reading.specs.Documents.{Compile, Entries, Kind, Node, OfType, Partial, language}
use Rattle.dwz_def_reading.specs.Lists.{In, Nth}
use Rattle.dwz_def_reading.specs.Trees.{End, Entry}
use Rattle.dwz_def_reading.proofs.ListFacts.{in_cases, in_left, in_right}
use Rattle.dwz_def_tops.specs.Spaces.{space_text, tops_under}
use Rattle.dwz_def_reading.proofs.Members.{nth_from}
use Rattle.dwz_def_tops.specs.Spots.{ASpace, ATop, EntryName, FileUnit, Nothing, Row, SpaceName, Top, name_of, row_below, row_from, row_in, row_tops, rows_of_root, top_count, tops_from}

-- ---- a row stands for entries

module _ (file unit : ℕ) (tongue : Option ℤ) where
  abbrev pub top_at : List SpaceName → ℕ → Node EntryName → Entries EntryName → Top
  top_at spaces n e f = record { file = file; unit = unit; language = tongue; spaces = spaces; number = n; node = e; below = f }

  -- the row of these entries: each is a top with its number, or a space with its row
  abbrev pub RowIs : List SpaceName → ℕ → Row → Entries EntryName → Type 0
  RowIs spaces n Nothing End = Unit {0}
  RowIs spaces n (ATop t row) (Entry e f g) = (space_text e ≡ None) × (top_at spaces n e f ≡ t) × RowIs spaces (suc n) row g
  RowIs spaces n (ASpace d inner row) (Entry e f g) =
      (text : List ℕ) × (space_text e ≡ Some text) × (e ≡ d) × RowIs (spaces ++ name_of text e ∷ []) n inner f × RowIs spaces (n + tops_under f) row g
  RowIs spaces n _ _ = ⊥

  pub row_is : (spaces : List SpaceName) (n : ℕ) (f : Entries EntryName) → RowIs spaces n (row_in file unit tongue spaces n f) f
  unfolding row_in
  row_is spaces n End = tt
  row_is spaces n (Entry e f g) =
      go (row_is spaces (suc n) g) (λ text. row_is (spaces ++ name_of text e ∷ []) n f) (row_is spaces (n + tops_under f) g) (space_text e) refl
    where
      go : RowIs spaces (suc n) (row_in file unit tongue spaces (suc n) g) g
          → ((text : List ℕ) → RowIs (spaces ++ name_of text e ∷ []) n (row_in file unit tongue (spaces ++ name_of text e ∷ []) n f) f)
          → RowIs spaces (n + tops_under f) (row_in file unit tongue spaces (n + tops_under f) g) g → (o : Option (List ℕ)) → space_text e ≡ o
          → RowIs spaces n (elim o as (λ _. Row) [
            | None ↦ ATop (record { file = file; unit = unit; language = tongue; spaces = spaces; number = n; node = e; below = f }) (row_in file unit tongue spaces (suc n) g)
            | Some text ↦ ASpace e (row_in file unit tongue (spaces ++ name_of text e ∷ []) n f) (row_in file unit tongue spaces (n + tops_under f) g)
          ]) (Entry e f g)
      go x y z None h = (h, refl, x)
      go x y z (Some text) h = (text, h, refl, y text, z)

  pub count_top : (e : Node EntryName) (f g : Entries EntryName) → space_text e ≡ None → tops_under (Entry e f g) ≡ suc (tops_under g)
  unfolding tops_under
  count_top e f g h = rw (h, tops_under) refl

  pub count_space : (e : Node EntryName) (f g : Entries EntryName) (text : List ℕ) → space_text e ≡ Some text → tops_under (Entry e f g) ≡ tops_under f + tops_under g
  unfolding tops_under
  count_space e f g text h = rw (h, tops_under) refl

  count_none : tops_under {P = EntryName} End ≡ 0
  unfolding tops_under
  count_none = refl

  pub row_count : (spaces : List SpaceName) (n : ℕ) (row : Row) (f : Entries EntryName) → RowIs spaces n row f → length (row_tops row) ≡ tops_under f
  unfolding row_tops
  row_count spaces n Nothing End h = sym count_none
  row_count spaces n (ATop t row) (Entry e f g) h = ap suc (row_count spaces (suc n) row g h.2) ∙ sym (count_top e f g h.0)
  row_count spaces n (ASpace d inner row) (Entry e f g) h =
      length-append (row_tops inner) (row_tops row)
      ∙ ap (λ (w : ℕ). w + length (row_tops row)) (row_count (spaces ++ name_of h.0 e ∷ []) n inner f h.3)
      ∙ ap (λ (w : ℕ). tops_under f + w) (row_count spaces (n + tops_under f) row g h.4) ∙ sym (count_space e f g h.0 h.1)
  row_count spaces n Nothing (Entry e f g) h = absurd h
  row_count spaces n (ATop t row) End h = absurd h
  row_count spaces n (ASpace d inner row) End h = absurd h

  pub row_unit : (spaces : List SpaceName) (n : ℕ) (row : Row) (f : Entries EntryName) → RowIs spaces n row f → (t : Top) → In t (row_tops row) → (t.file ≡ file) × (t.unit ≡ unit)
  unfolding row_tops
  row_unit spaces n Nothing f h t is = absurd is
  row_unit spaces n (ATop u row) (Entry e f g) h t (inl x) = (
    ap (λ (w : Top). w.file) (sym x) ∙ ap (λ (w : Top). w.file) (sym h.1),
    ap (λ (w : Top). w.unit) (sym x)
        ∙ ap (λ (w : Top). w.unit) (sym h.1),
  )
  row_unit spaces n (ATop u row) (Entry e f g) h t (inr r) = row_unit spaces (suc n) row g h.2 t r
  row_unit spaces n (ASpace d inner row) (Entry e f g) h t is = elim (in_cases t (row_tops inner) (row_tops row) is) [
    | inl a ↦ row_unit (spaces ++ name_of h.0 e ∷ []) n inner f h.3 t a
    | inr b ↦ row_unit spaces (n + tops_under f) row g h.4 t b
  ]
  row_unit spaces n (ATop u row) End h t is = absurd h
  row_unit spaces n (ASpace d inner row) End h t is = absurd h

-- ---- the row of a unit

-- the row is that of a compile unit with that number
pub record RowFor (u : FileUnit EntryName) (i : ℕ) (row : Row) : Type 0 where
  pub first : ℕ
  pub is : RowIs u.file i (language u.unit) [] first row u.unit.below

abbrev pub behind : ℕ → FileUnit EntryName → ℕ
behind n f = n + top_count f.unit.kind f.unit.below

pub below_row : (u : FileUnit EntryName) (i n : ℕ) (k : Kind EntryName) → k ≡ Compile → RowIs u.file i (language u.unit) [] n (row_below u.file i n u.unit k) u.unit.below
below_row u i n Compile e = row_is u.file i (language u.unit) [] n u.unit.below
below_row u i n (OfType signature main) e = absurd cc
below_row u i n Partial e = absurd cc

pub row_here : (i n : ℕ) (f : FileUnit EntryName) (units : List (FileUnit EntryName)) (k : ℕ) → i ≡ k → row_from i n (f ∷ units) k ≡ row_below f.file i n f.unit f.unit.kind
unfolding row_from
row_here i n f units k e = rw (eq-eqb i k e, row_from) refl

pub row_later : (i n : ℕ) (f : FileUnit EntryName) (units : List (FileUnit EntryName)) (k : ℕ) → (i ≡ k → ⊥) → row_from i n (f ∷ units) k ≡ row_from (suc i) (behind n f) units k
unfolding row_from
row_later i n f units k ne = rw (ne_eqb i k ne, row_from) refl

unit_row_from : (s n : ℕ) (units : List (FileUnit EntryName)) (i : ℕ) (u : FileUnit EntryName) → Nth s units i u → u.unit.kind ≡ Compile → RowFor u i (row_from s n units i)
unit_row_from s n [] i u h k = absurd h
unit_row_from s n (f ∷ units) i u (inl x) k =
    let here : RowIs f.file s (language f.unit) [] n (row_from s n (f ∷ units) i) f.unit.below =
    subst (λ (w : Row). RowIs f.file s (language f.unit) [] n w f.unit.below) (sym (row_here s n f units i x.0)) (below_row f s n f.unit.kind (ap (λ (w : FileUnit EntryName). w.unit.kind) x.1 ∙ k)) in
    record {
      first = n;
      is = subst (λ (w : FileUnit EntryName). RowIs w.file i (language w.unit) [] n (row_from s n (f ∷ units) i) w.unit.below) x.1
          (subst (λ (w : ℕ). RowIs f.file w (language f.unit) [] n (row_from s n (f ∷ units) i) f.unit.below) x.0 here);
    }
unit_row_from s n (f ∷ units) i u (inr r) k =
    let later : s ≡ i → ⊥ = λ e. omega (arith, e, nth_from (suc s) units i u r) in
    subst (RowFor u i) (sym (row_later s n f units i later)) (unit_row_from (suc s) (behind n f) units i u r k)

pub unit_row : (units : List (FileUnit EntryName)) (i : ℕ) (u : FileUnit EntryName) → Nth 0 units i u → u.unit.kind ≡ Compile → RowFor u i (rows_of_root units i)
unit_row units i u h k = unit_row_from 0 0 units i u h k

-- ---- the tops of a unit are those of its row

pub below_unit : (f : FileUnit EntryName) (i n : ℕ) (k : Kind EntryName) (t : Top) → In t (row_tops (row_below f.file i n f.unit k)) → (t.file ≡ f.file) × (t.unit ≡ i) × (k ≡ Compile)
unfolding row_tops
below_unit f i n Compile t h = let o = row_unit f.file i (language f.unit) [] n (row_in f.file i (language f.unit) [] n f.unit.below) f.unit.below (row_is f.file i (language f.unit) [] n f.unit.below)
    t h in (o.0, o.1, refl)
below_unit f i n (OfType signature main) t h = absurd h
below_unit f i n Partial t h = absurd h

pub from_row : (s n : ℕ) (units : List (FileUnit EntryName)) (i : ℕ) (t : Top) → In t (row_tops (row_from s n units i)) → In t (tops_from s n units) × (t.unit ≡ i)
unfolding row_from tops_from row_tops
from_row s n [] i t h = absurd h
from_row s n (f ∷ units) i t h = go (from_row (suc s) (behind n f) units i t) (s == i) refl h where
  go : (In t (row_tops (row_from (suc s) (behind n f) units i)) → In t (tops_from (suc s) (behind n f) units) × (t.unit ≡ i)) → (b : Bool) → (s == i) ≡ b
      → In t (row_tops (elim b as (λ _. Row) [ true ↦ row_below f.file s n f.unit f.unit.kind | false ↦ row_from (suc s) (behind n f) units i ]))
      → In t (row_tops (row_below f.file s n f.unit f.unit.kind) ++ tops_from (suc s) (behind n f) units) × (t.unit ≡ i)
  go more true q is = (in_left t (row_tops (row_below f.file s n f.unit f.unit.kind)) (tops_from (suc s) (behind n f) units) is, (below_unit f s n f.unit.kind t is).1 ∙ eqb-true s i q)
  go more false q is = let o = more is in (in_right t (row_tops (row_below f.file s n f.unit f.unit.kind)) (tops_from (suc s) (behind n f) units) o.0, o.1)

-- a top is in the row of its unit, a compile unit
pub record TopOf (s n : ℕ) (units : List (FileUnit EntryName)) (t : Top) : Type 0 where
  pub unit : FileUnit EntryName
  pub nth : Nth s units t.unit unit
  pub file_is : t.file ≡ unit.file
  pub compile : unit.unit.kind ≡ Compile
  pub in_row : In t (row_tops (row_from s n units t.unit))

pub top_of : (s n : ℕ) (units : List (FileUnit EntryName)) (t : Top) → In t (tops_from s n units) → TopOf s n units t
unfolding tops_from
top_of s n [] t h = absurd h
top_of s n (f ∷ units) t h = elim (in_cases t (row_tops (row_below f.file s n f.unit f.unit.kind)) (tops_from (suc s) (behind n f) units) h) [
  | inl a ↦
      let o = below_unit f s n f.unit.kind t a in
      record { unit = f; nth = inl (sym o.1, refl); file_is = o.0; compile = o.2; in_row = subst (λ (w : Row). In t (row_tops w)) (sym (row_here s n f units t.unit (sym o.1))) a }
  | inr b ↦
      let o = top_of (suc s) (behind n f) units t b in
      let later : s ≡ t.unit → ⊥ = λ e. omega (arith, e, nth_from (suc s) units t.unit o.unit o.nth) in
      record { unit = o.unit; nth = inr o.nth; file_is = o.file_is; compile = o.compile; in_row = subst (λ (w : Row). In t (row_tops w)) (sym (row_later s n f units t.unit later)) o.in_row }
]
