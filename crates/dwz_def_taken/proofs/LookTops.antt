-- The tops that looks across files and a finished common file go over are those of the files and of the common file, but for their units
-- and languages.
use Rattle.std.proofs.Common.{◌≡◌, ℕ, ℤ, suc, ◌+◌, ◌<◌, ◌≤◌, ◌⊎◌, List, [], ◌∷◌, ◌++◌, length, map, Option, Some, None, refl, sym, ap, subst, ◌∙◌, inl, inr, arith}
use Rattle.std.proofs.Common.{append_assoc}
use Rattle.dwz_def_reading.specs.Documents.{Compile, Entries, Kind, Node, OfType, Partial, language}
use Rattle.dwz_def_reading.specs.Lists.{In}
use Rattle.dwz_def_reading.specs.Trees.{End, Entry}
use Rattle.dwz_def_reading.proofs.ListFacts.{in_cases, in_left, in_right}
use Rattle.dwz_def_tops.specs.Spaces.{space_text, tops_under}
use Rattle.dwz_def_tops.proofs.Members.{nth_below}
use Rattle.dwz_def_tops.proofs.SpaceLemmas.{some_none}
use Rattle.dwz_def_tops.specs.Spots.{ASpace, ATop, FileUnit, Nothing, Row, SpaceName, EntryName, Top, name_of, row_below, row_in, row_tops, top_count, tops_from, tops_of}
use Rattle.dwz_def_tops.proofs.RowLemmas.{RowIs, below_unit, count_space, count_top, row_is, row_unit, top_at, top_of}
use Rattle.dwz_def_tops.proofs.TopNumbers.{from_numbered, number_below, number_from}
use Rattle.dwz_def_tops.proofs.TopOrder.{later_unit}
use Rattle.dwz_def_tops.proofs.FiledTops.{counted, tops_length, tops_append}
use Rattle.dwz_def_taken.specs.Beside.{Reused, all_below, as_one, look_units, muted, own_tops, then_entries, together}

-- ---- tops that differ in their file, their unit and their language alone

pub record Like (t u : Top) : Type 0 where
  pub number : u.number ≡ t.number
  pub spaces : u.spaces ≡ t.spaces
  pub node : u.node ≡ t.node
  pub below : u.below ≡ t.below

pub record LikeIn (t : Top) (tops : List Top) : Type 0 where
  pub top : Top
  pub there : In top tops
  pub like : Like t top

like_at : (file unit : ℕ) (tongue : Option ℤ) (file' unit' : ℕ) (tongue' : Option ℤ) (spaces : List SpaceName) (n : ℕ) (e : Node EntryName) (f : Entries EntryName) (t u : Top)
    → top_at file unit tongue spaces n e f ≡ t → top_at file' unit' tongue' spaces n e f ≡ u → Like t u
like_at file unit tongue file' unit' tongue' spaces n e f t u p q = record {
  number = ap (λ (w : Top). w.number) (sym q) ∙ ap (λ (w : Top). w.number) p;
  spaces = ap (λ (w : Top). w.spaces) (sym q) ∙ ap (λ (w : Top). w.spaces) p;
  node = ap (λ (w : Top). w.node) (sym q) ∙ ap (λ (w : Top). w.node) p;
  below = ap (λ (w : Top). w.below) (sym q) ∙ ap (λ (w : Top). w.below) p;
}

-- and stand in one unit of one file
pub record OwnLike (t : Top) (tops : List Top) : Type 0 where
  pub like : LikeIn t tops
  pub file_is : like.top.file ≡ t.file
  pub unit_is : like.top.unit ≡ t.unit

like_left : (t : Top) (xs ys : List Top) → LikeIn t xs → LikeIn t (xs ++ ys)
like_left t xs ys o = record { top = o.top; there = in_left o.top xs ys o.there; like = o.like }

like_right : (t : Top) (xs ys : List Top) → LikeIn t ys → LikeIn t (xs ++ ys)
like_right t xs ys o = record { top = o.top; there = in_right o.top xs ys o.there; like = o.like }

own_left : (t : Top) (xs ys : List Top) → OwnLike t xs → OwnLike t (xs ++ ys)
unfolding like_left
own_left t xs ys o = record { like = like_left t xs ys o.like; file_is = o.file_is; unit_is = o.unit_is }

own_right : (t : Top) (xs ys : List Top) → OwnLike t ys → OwnLike t (xs ++ ys)
unfolding like_right
own_right t xs ys o = record { like = like_right t xs ys o.like; file_is = o.file_is; unit_is = o.unit_is }

-- rows of the same entries have like tops
module _ (file unit : ℕ) (tongue : Option ℤ) (file' unit' : ℕ) (tongue' : Option ℤ) where
  like_rows : (spaces : List SpaceName) (n : ℕ) (row row' : Row) (f : Entries EntryName) → RowIs file unit tongue spaces n row f → RowIs file' unit' tongue' spaces n row' f → (t : Top)
      → In t (row_tops row) → LikeIn t (row_tops row')
  unfolding row_tops
  like_rows spaces n Nothing row' f h k t is = absurd is
  like_rows spaces n (ATop u row) (ATop u' row') (Entry e f g) h k t (inl x) =
      record { top = u'; there = inl refl; like = like_at file unit tongue file' unit' tongue' spaces n e f t u' (h.1 ∙ x) k.1 }
  like_rows spaces n (ATop u row) (ATop u' row') (Entry e f g) h k t (inr r) =
      let o = like_rows spaces (suc n) row row' g h.2 k.2 t r in record { top = o.top; there = inr o.there; like = o.like }
  like_rows spaces n (ASpace d inner row) (ASpace d' inner' row') (Entry e f g) h k t is = elim (in_cases t (row_tops inner) (row_tops row) is) [
    | inl a ↦ like_left t (row_tops inner') (row_tops row')
        (like_rows (spaces ++ name_of h.0 e ∷ []) n inner inner' f h.3
        (subst (λ (w : List ℕ). RowIs file' unit' tongue' (spaces ++ name_of w e ∷ []) n inner' f) (let p = k.1 in let q = h.1 in let z : k.0 ≡ h.0 = cc in z) k.3) t a)
    | inr b ↦ like_right t (row_tops inner') (row_tops row') (like_rows spaces (n + tops_under f) row row' g h.4 k.4 t b)
  ]
  like_rows spaces n (ATop u row) (ASpace d' inner' row') (Entry e f g) h k t is = some_none (space_text e) k.0 k.1 h.0
  like_rows spaces n (ASpace d inner row) (ATop u' row') (Entry e f g) h k t is = some_none (space_text e) h.0 h.1 k.0
  like_rows spaces n (ATop u row) Nothing (Entry e f g) h k t is = absurd k
  like_rows spaces n (ASpace d inner row) Nothing (Entry e f g) h k t is = absurd k
  like_rows spaces n (ATop u row) row' End h k t is = absurd h
  like_rows spaces n (ASpace d inner row) row' End h k t is = absurd h

  pub like_in : (n : ℕ) (f : Entries EntryName) (t : Top) → In t (row_tops (row_in file unit tongue [] n f)) → LikeIn t (row_tops (row_in file' unit' tongue' [] n f))
  like_in n f t is = like_rows [] n (row_in file unit tongue [] n f) (row_in file' unit' tongue' [] n f) f (row_is file unit tongue [] n f) (row_is file' unit' tongue' [] n f) t is

-- ---- tops of units behind others

-- ---- without languages

muted_below : (f : FileUnit EntryName) (s n : ℕ) (k : Kind EntryName) (t : Top) → In t (row_tops (row_below f.file s n f.unit k)) → LikeIn t (row_tops (row_below f.file s n (muted f).unit k))
unfolding row_tops
muted_below f s n Compile t is = like_in f.file s (language f.unit) f.file s (language (muted f).unit) n f.unit.below t is
muted_below f s n (OfType signature main) t is = absurd is
muted_below f s n Partial t is = absurd is

from_muted : (f : FileUnit EntryName) (s n : ℕ) (k : Kind EntryName) (t : Top) → In t (row_tops (row_below f.file s n (muted f).unit k)) → LikeIn t (row_tops (row_below f.file s n f.unit k))
unfolding row_tops
from_muted f s n Compile t is = like_in f.file s (language (muted f).unit) f.file s (language f.unit) n f.unit.below t is
from_muted f s n (OfType signature main) t is = absurd is
from_muted f s n Partial t is = absurd is

own_muted : (f : FileUnit EntryName) (s n : ℕ) (k : Kind EntryName) (t : Top) → In t (row_tops (row_below f.file s n f.unit k)) → OwnLike t (row_tops (row_below f.file s n (muted f).unit k))
own_muted f s n k t is =
    let o = muted_below f s n k t is in
    let old = below_unit f s n k t is in
    let new = below_unit (muted f) s n k o.top o.there in
    record { like = o; file_is = new.0 ∙ sym old.0; unit_is = new.1 ∙ sym old.1 }

own_from_muted : (f : FileUnit EntryName) (s n : ℕ) (k : Kind EntryName) (t : Top) → In t (row_tops (row_below f.file s n (muted f).unit k)) → OwnLike t (row_tops (row_below f.file s n f.unit k))
own_from_muted f s n k t is =
    let o = from_muted f s n k t is in
    let old = below_unit (muted f) s n k t is in
    let new = below_unit f s n k o.top o.there in
    record { like = o; file_is = new.0 ∙ sym old.0; unit_is = new.1 ∙ sym old.1 }

muted_tops : (s n : ℕ) (units : List (FileUnit EntryName)) (t : Top) → In t (tops_from s n units) → OwnLike t (tops_from s n (map muted units))
unfolding tops_from
muted_tops s n [] t is = absurd is
muted_tops s n (f ∷ units) t is =
    let m = n + top_count f.unit.kind f.unit.below in
    let old = row_tops (row_below f.file s n f.unit f.unit.kind) in
    let new = row_tops (row_below f.file s n (muted f).unit f.unit.kind) in
    elim (in_cases t old (tops_from (suc s) m units) is) [
      | inl a ↦ own_left t new (tops_from (suc s) m (map muted units)) (own_muted f s n f.unit.kind t a)
      | inr b ↦ own_right t new (tops_from (suc s) m (map muted units)) (muted_tops (suc s) m units t b)
    ]

tops_muted : (s n : ℕ) (units : List (FileUnit EntryName)) (t : Top) → In t (tops_from s n (map muted units)) → OwnLike t (tops_from s n units)
unfolding tops_from
tops_muted s n [] t is = absurd is
tops_muted s n (f ∷ units) t is =
    let m = n + top_count f.unit.kind f.unit.below in
    let old = row_tops (row_below f.file s n f.unit f.unit.kind) in
    let new = row_tops (row_below f.file s n (muted f).unit f.unit.kind) in
    elim (in_cases t new (tops_from (suc s) m (map muted units)) is) [
      | inl a ↦ own_left t old (tops_from (suc s) m units) (own_from_muted f s n f.unit.kind t a)
      | inr b ↦ own_right t old (tops_from (suc s) m units) (tops_muted (suc s) m units t b)
    ]

counted_muted : (units : List (FileUnit EntryName)) → counted (map muted units) ≡ counted units
unfolding counted
counted_muted [] = refl
counted_muted (f ∷ units) = ap (λ (w : ℕ). top_count f.unit.kind f.unit.below + w) (counted_muted units)

length_muted : (units : List (FileUnit EntryName)) → length (map muted units) ≡ length units
length_muted [] = refl
length_muted (f ∷ units) = ap suc (length_muted units)

-- ---- units as one

no_tops : tops_under {P = EntryName} End ≡ 0
unfolding tops_under
no_tops = refl

module _ (file unit : ℕ) (tongue : Option ℤ) where
  abbrev row_by : List SpaceName → ℕ → Node EntryName → Entries EntryName → Option (List ℕ) → Entries EntryName → Row
  row_by spaces n e f o more = elim o as (λ _. Row) [
    | None ↦ ATop (record { file = file; unit = unit; language = tongue; spaces = spaces; number = n; node = e; below = f }) (row_in file unit tongue spaces (suc n) more)
    | Some text ↦ ASpace e (row_in file unit tongue (spaces ++ name_of text e ∷ []) n f) (row_in file unit tongue spaces (n + tops_under f) more)
  ]

  rows_then : (spaces : List SpaceName) (n : ℕ) (f g : Entries EntryName) → row_tops (row_in file unit tongue spaces n (then_entries f g))
      ≡ row_tops (row_in file unit tongue spaces n f) ++ row_tops (row_in file unit tongue spaces (n + tops_under f) g)
  unfolding then_entries row_in row_tops
  rows_then spaces n End g = let p : n ≡ n + tops_under {P = EntryName} End = omega (arith, no_tops) in ap (λ (i : ℕ). row_tops (row_in file unit tongue spaces i g)) p
  rows_then spaces n (Entry e f k) g = go (space_text e) refl (rows_then spaces (suc n) k g) (rows_then spaces (n + tops_under f) k g) where
    go : (o : Option (List ℕ)) → space_text e ≡ o
        → row_tops (row_in file unit tongue spaces (suc n) (then_entries k g)) ≡ row_tops (row_in file unit tongue spaces (suc n) k) ++ row_tops (row_in file unit tongue spaces (suc n + tops_under k) g)
        → row_tops (row_in file unit tongue spaces (n + tops_under f) (then_entries k g))
        ≡ row_tops (row_in file unit tongue spaces (n + tops_under f) k) ++ row_tops (row_in file unit tongue spaces (n + tops_under f + tops_under k) g)
        → row_tops (row_by spaces n e f o (then_entries k g)) ≡ row_tops (row_by spaces n e f o k) ++ row_tops (row_in file unit tongue spaces (n + tops_under (Entry e f k)) g)
    go None h a b =
        let p : suc n + tops_under k ≡ n + tops_under (Entry e f k) = omega (arith, count_top file unit tongue e f k h) in
        ap (λ (w : List Top). record { file = file; unit = unit; language = tongue; spaces = spaces; number = n; node = e; below = f } ∷ w)
        (a ∙ ap (λ (i : ℕ). row_tops (row_in file unit tongue spaces (suc n) k) ++ row_tops (row_in file unit tongue spaces i g)) p)
    go (Some text) h a b =
        let p : n + tops_under f + tops_under k ≡ n + tops_under (Entry e f k) = omega (arith, count_space file unit tongue e f k text h) in
        let inner = row_tops (row_in file unit tongue (spaces ++ name_of text e ∷ []) n f) in
        ap (λ (w : List Top). inner ++ w) (b ∙ ap (λ (i : ℕ). row_tops (row_in file unit tongue spaces (n + tops_under f) k) ++ row_tops (row_in file unit tongue spaces i g)) p)
        ∙ sym (append_assoc inner (row_tops (row_in file unit tongue spaces (n + tops_under f) k)) (row_tops (row_in file unit tongue spaces (n + tops_under (Entry e f k)) g)))

abbrev pub AreWhole : List (FileUnit EntryName) → Type 0
AreWhole commons = (f : FileUnit EntryName) → In f commons → f.unit.kind ≡ Compile

whole_below : (f : FileUnit EntryName) (s n : ℕ) (k : Kind EntryName) → k ≡ Compile → row_below f.file s n f.unit k ≡ row_in f.file s (language f.unit) [] n f.unit.below
whole_below f s n Compile e = refl
whole_below f s n (OfType signature main) e = absurd cc
whole_below f s n Partial e = absurd cc

whole_count : (k : Kind EntryName) (below : Entries EntryName) → k ≡ Compile → top_count k below ≡ tops_under below
whole_count Compile below e = refl
whole_count (OfType signature main) below e = absurd cc
whole_count Partial below e = absurd cc

module _ (file unit : ℕ) (tongue : Option ℤ) where
  to_one : (s n : ℕ) (commons : List (FileUnit EntryName)) → AreWhole commons → (t : Top) → In t (tops_from s n commons) → LikeIn t (row_tops (row_in file unit tongue [] n (all_below commons)))
  unfolding tops_from all_below
  to_one s n [] whole t is = absurd is
  to_one s n (f ∷ commons) whole t is =
      let kind = whole f (inl refl) in
      let m = n + top_count f.unit.kind f.unit.below in
      let count : m ≡ n + tops_under f.unit.below = ap (λ (w : ℕ). n + w) (whole_count f.unit.kind f.unit.below kind) in
      let first = row_tops (row_in file unit tongue [] n f.unit.below) in
      let rest = row_tops (row_in file unit tongue [] (n + tops_under f.unit.below) (all_below commons)) in
      subst (LikeIn t) (sym (rows_then file unit tongue [] n f.unit.below (all_below commons)))
      (elim (in_cases t (row_tops (row_below f.file s n f.unit f.unit.kind)) (tops_from (suc s) m commons) is) [
        | inl a ↦ like_left t first rest (like_in f.file s (language f.unit) file unit tongue n f.unit.below t
            (subst (λ (w : Row). In t (row_tops w)) (whole_below f s n f.unit.kind kind) a))
        | inr b ↦ like_right t first rest (subst (λ (i : ℕ). LikeIn t (row_tops (row_in file unit tongue [] i (all_below commons)))) count
            (to_one (suc s) m commons (λ g there. whole g (inr there)) t b))
      ])

  from_one : (s n : ℕ) (commons : List (FileUnit EntryName)) → AreWhole commons → (t : Top) → In t (row_tops (row_in file unit tongue [] n (all_below commons))) → LikeIn t (tops_from s n commons)
  unfolding tops_from all_below row_in row_tops
  from_one s n [] whole t is = absurd is
  from_one s n (f ∷ commons) whole t is =
      let kind = whole f (inl refl) in
      let m = n + top_count f.unit.kind f.unit.below in
      let count : n + tops_under f.unit.below ≡ m = ap (λ (w : ℕ). n + w) (sym (whole_count f.unit.kind f.unit.below kind)) in
      let first = row_tops (row_in file unit tongue [] n f.unit.below) in
      let rest = row_tops (row_in file unit tongue [] (n + tops_under f.unit.below) (all_below commons)) in
      let here = row_tops (row_below f.file s n f.unit f.unit.kind) in
      elim (in_cases t first rest (subst (In t) (rows_then file unit tongue [] n f.unit.below (all_below commons)) is)) [
        | inl a ↦ like_left t here (tops_from (suc s) m commons)
            (subst (λ (w : Row). LikeIn t (row_tops w)) (sym (whole_below f s n f.unit.kind kind)) (like_in file unit tongue f.file s (language f.unit) n f.unit.below t a))
        | inr b ↦ like_right t here (tops_from (suc s) m commons)
            (from_one (suc s) m commons (λ g there. whole g (inr there)) t (subst (λ (i : ℕ). In t (row_tops (row_in file unit tongue [] i (all_below commons)))) count b))
      ]

-- ---- all of them

module _ (r : Reused) (whole : AreWhole r.commons) where
  -- the tops of the common file
  pub part_tops : List Top
  part_tops = tops_from (length r.units) (own_tops r) r.commons

  own_counted : own_tops r ≡ counted r.units
  own_counted = tops_length 0 0 r.units

  pub together_tops : tops_of (together r) ≡ tops_of r.units ++ part_tops
  unfolding part_tops
  together_tops = tops_append 0 0 r.units r.commons ∙ ap (λ (i : ℕ). tops_of r.units ++ tops_from i (0 + counted r.units) r.commons) (let p : 0 + length r.units ≡ length r.units = omega arith in p)
      ∙ ap (λ (i : ℕ). tops_of r.units ++ tops_from (length r.units) i r.commons) (let p : 0 + counted r.units ≡ own_tops r = omega (arith, own_counted) in p)

  abbrev one : FileUnit EntryName
  one = muted (as_one r.file (length r.units) r.commons)

  abbrev one_tops : List Top
  one_tops = row_tops (row_in r.file (length r.units) (language one.unit) [] (own_tops r) (all_below r.commons))

  nil_right : (xs : List Top) → xs ++ [] ≡ xs
  nil_right [] = refl
  nil_right (x ∷ xs) = ap (λ (w : List Top). x ∷ w) (nil_right xs)

  tops_one : (s n : ℕ) → tops_from s n (one ∷ []) ≡ row_tops (row_in r.file s (language one.unit) [] n (all_below r.commons))
  unfolding tops_from
  tops_one s n = nil_right (row_tops (row_in r.file s (language one.unit) [] n (all_below r.commons)))

  look_tops : tops_of (look_units r) ≡ tops_of (map muted r.units) ++ one_tops
  look_tops = tops_append 0 0 (map muted r.units) (one ∷ [])
      ∙ ap (λ (w : List Top). tops_of (map muted r.units) ++ w) (tops_one (0 + length (map muted r.units)) (0 + counted (map muted r.units))
      ∙ ap (λ (i : ℕ). row_tops (row_in r.file i (language one.unit) [] (0 + counted (map muted r.units)) (all_below r.commons)))
      (let p : 0 + length (map muted r.units) ≡ length r.units = omega (arith, length_muted r.units) in p)
      ∙ ap (λ (i : ℕ). row_tops (row_in r.file (length r.units) (language one.unit) [] i (all_below r.commons)))
      (let p : 0 + counted (map muted r.units) ≡ own_tops r = omega (arith, counted_muted r.units, own_counted) in p))

  -- a top of the files, or of the common file, is like one of those that looks go over
  pub own_look : (t : Top) → In t (tops_of r.units) → OwnLike t (tops_of (look_units r))
  own_look t is = subst (OwnLike t) (sym look_tops) (own_left t (tops_of (map muted r.units)) one_tops (muted_tops 0 0 r.units t is))

  pub part_look : (t : Top) → In t part_tops → LikeIn t (tops_of (look_units r))
  unfolding part_tops
  part_look t is =
      subst (LikeIn t) (sym look_tops) (like_right t (tops_of (map muted r.units)) one_tops
      (to_one r.file (length r.units) (language one.unit) (length r.units) (own_tops r) r.commons whole t is))

  pub look_from : (t : Top) → In t (tops_of (look_units r)) → OwnLike t (tops_of r.units) ⊎ (LikeIn t part_tops × (t.unit ≡ length r.units))
  unfolding part_tops
  look_from t is = elim (in_cases t (tops_of (map muted r.units)) one_tops (subst (In t) look_tops is)) [
    | inl a ↦ inl (tops_muted 0 0 r.units t a)
    | inr b ↦ inr (
      from_one r.file (length r.units) (language one.unit) (length r.units) (own_tops r) r.commons whole t b,
      (row_unit r.file (length r.units) (language one.unit) [] (own_tops r) (row_in r.file (length r.units) (language one.unit) [] (own_tops r) (all_below r.commons)) (all_below r.commons)
          (row_is r.file (length r.units) (language one.unit) [] (own_tops r) (all_below r.commons)) t b).1,
    )
  ]

  -- ---- by their numbers and units

  pub own_number : (t : Top) → In t (tops_of r.units) → t.number < own_tops r
  own_number t is = let h = number_below 0 (tops_of r.units) t (from_numbered 0 0 r.units) is in omega arith

  pub part_number : (t : Top) → In t part_tops → own_tops r ≤ t.number
  unfolding part_tops
  part_number t is = number_from (own_tops r) (tops_from (length r.units) (own_tops r) r.commons) t (from_numbered (length r.units) (own_tops r) r.commons) is

  pub own_unit : (t : Top) → In t (tops_of r.units) → t.unit < length r.units
  own_unit t is = let o = top_of 0 0 r.units t is in let h = nth_below 0 r.units t.unit o.unit o.nth in omega arith

  pub part_unit_from : (t : Top) → In t part_tops → length r.units ≤ t.unit
  unfolding part_tops
  part_unit_from t is = later_unit (length r.units) (own_tops r) r.commons t is

  pub together_cases : (t : Top) → In t (tops_of (together r)) → In t (tops_of r.units) ⊎ In t part_tops
  together_cases t is = in_cases t (tops_of r.units) part_tops (subst (In t) together_tops is)

  pub own_together : (t : Top) → In t (tops_of r.units) → In t (tops_of (together r))
  own_together t is = subst (In t) (sym together_tops) (in_left t (tops_of r.units) part_tops is)

  pub part_together : (t : Top) → In t part_tops → In t (tops_of (together r))
  part_together t is = subst (In t) (sym together_tops) (in_right t (tops_of r.units) part_tops is)

-- ---- a like top, with the fields that it has

abbrev pub as_like : Top → ℕ → ℕ → Option ℤ → Top
as_like t file unit tongue = record { file = file; unit = unit; language = tongue; spaces = t.spaces; number = t.number; node = t.node; below = t.below }

pub like_there : (t : Top) (tops : List Top) (o : LikeIn t tops) → In (as_like t o.top.file o.top.unit o.top.language) tops
like_there t tops o =
    let u = o.top in
    let same : u ≡ as_like t u.file u.unit u.language =
    ap (λ (w : ℕ). record { file = u.file; unit = u.unit; language = u.language; spaces = u.spaces; number = w; node = u.node; below = u.below }) o.like.number
    ∙ ap (λ (w : List SpaceName). record { file = u.file; unit = u.unit; language = u.language; spaces = w; number = t.number; node = u.node; below = u.below }) o.like.spaces
    ∙ ap (λ (w : Node EntryName). record { file = u.file; unit = u.unit; language = u.language; spaces = t.spaces; number = t.number; node = w; below = u.below }) o.like.node
    ∙ ap (λ (w : Entries EntryName). record { file = u.file; unit = u.unit; language = u.language; spaces = t.spaces; number = t.number; node = t.node; below = w }) o.like.below
    in
    subst (λ (w : Top). In w tops) same o.there
