-- Rows of units that are equal, and the first units whose rows aren't.
use Rattle.std.proofs.Common.{◌≡◌, ℕ, zero, suc, ◌+◌, ◌-◌, ◌<◌, ◌≤◌, Bool, cond, false, true, List, [], ◌∷◌, length, get_or, refl, sym, ap, subst, ◌∙◌, inl, inr, arith}
use Rattle.std.specs.Prelude.{◌↔◌, nat_lt}
use Rattle.std.specs.List.{filter, range_with_len}
use Rattle.std.specs.List.Sorted.{IsStrictlyIncreasing}
use Rattle.std.proofs.lemmas.Bool.{lt-ltb, ltb-true}
use Rattle.std.proofs.lemmas.List.Kept.{AllPairs-from_increasing}
use Rattle.dwz_model.specs.Lists.{Each, EachPair, In}
use Rattle.dwz_model.proofs.Members.{each_of, in_filter_from}
use Rattle.dwz_def_cross.specs.CrossSame.{EachTwo}
use Rattle.dwz_def_check.specs.Answer.{FirstApart}
use Rattle.dwz_def_check.specs.CrossRows.{SameMembers}
use Rattle.dwz_def_check.proofs.Sorted.{sorted_one}
use Rattle.dwz_check_rows.specs.Keys.{IsInOrder}
use Rattle.dwz_check_rows.specs.Rows.{IsKindRow, IsRowOf, IsWholeUnit, KindsSame, RowsEqual, UnitsSame, is_whole, whole_between}
use Rattle.dwz_check_rows.specs.UnitRows.{numbers_between, unit_at}
use Rattle.dwz_check_rows.specs.declared.columns.Columns.{Columns}
use Rattle.dwz_check_rows.specs.declared.columns.RowKind.{RowKind}
use Rattle.dwz_check_rows.specs.declared.columns.RowKind.TheVariants.{Compile as CompileUnit, Partial, OfType as TypeUnit}
use Rattle.dwz_check_rows.specs.declared.row.Row.{Row}
use Rattle.dwz_check_rows.specs.declared.row.Row.TheVariants.{Compile, OfType}

-- ---- numbers in order

each_above : (x : ℕ) (xs : List ℕ) → ((k : ℕ) → k < length xs → x < get_or xs k 0) → Each (λ y. nat_lt x y ≡ true) xs
each_above x [] h = tt
each_above x (y ∷ xs) h = (lt-ltb x y (h 0 (omega arith)), each_above x xs (λ k l. h (suc k) (omega arith)))

pairs : (xs : List ℕ) → ((i j : ℕ) → i < j → j < length xs → get_or xs i 0 < get_or xs j 0) → EachPair (λ x y. nat_lt x y ≡ true) xs
pairs [] h = tt
pairs (x ∷ xs) h = (each_above x xs (λ k l. h 0 (suc k) (omega arith) (omega arith)), pairs xs (λ i j l m. h (suc i) (suc j) (omega arith) (omega arith)))

rising : (xs : List ℕ) → IsStrictlyIncreasing xs → EachPair (λ x y. nat_lt x y ≡ true) xs
rising xs h = pairs xs (λ i j l m. AllPairs-from_increasing xs h i j 0 l m)

never : (x : ℕ) → nat_lt x x ≡ false
never x = grind arith

after : (x y z : ℕ) → nat_lt x y ≡ true → nat_lt y z ≡ true → nat_lt x z ≡ true
after x y z h j = let l = ltb-true x y h in let m = ltb-true y z j in lt-ltb x z (omega arith)

-- two lists in order are equal exactly if they are of the same numbers
pub order_tells : (xs ys as' bs : List ℕ) → IsInOrder xs as' → IsInOrder ys bs → (as' ≡ bs) ↔ SameMembers xs ys
order_tells xs ys as' bs a b = (
  λ e x. (
    λ h. (b.same x).1 (subst (λ (ns : List ℕ). In x ns) e ((a.same x).0 h)),
    λ h. (a.same x).1 (subst (λ (ns : List ℕ). In x ns) (sym e) ((b.same x).0 h)),
  ),
  λ same. sorted_one nat_lt never after as' bs (rising as' a.rises) (rising bs b.rises)
      (λ x. (λ h. (b.same x).0 ((same x).0 ((a.same x).1 h)), λ h. (a.same x).0 ((same x).1 ((b.same x).1 h)))),
)

-- ---- rows of two units

module _ (classes : List ℕ) (c : Columns) (x y : ℕ) where
  abbrev Tells : RowKind → Row → RowKind → Row → Type 0
  Tells k a l b = IsKindRow classes c x (unit_at c x) k a → IsKindRow classes c y (unit_at c y) l b → RowsEqual a b ↔ KindsSame classes c x y k l

  tells : (k : RowKind) (a : Row) (l : RowKind) (b : Row) → Tells k a l b
  tells (CompileUnit root end) (Compile class spaces tops) (CompileUnit root' end') (Compile class' spaces' tops') h j =
      let s = order_tells _ _ spaces.items spaces'.items h.1 j.1 in
      let t = order_tells _ _ tops.items tops'.items h.2 j.2 in
      (λ e. (sym h.0 ∙ e.0 ∙ j.0, s.0 e.1, t.0 e.2), λ e. (h.0 ∙ e.0 ∙ sym j.0, s.1 e.1, t.1 e.2))
  tells (CompileUnit root end) (Compile class spaces tops) (CompileUnit root' end') (OfType s p t) h j = absurd j
  tells (CompileUnit root end) (Compile class spaces tops) (TypeUnit s) (Compile class' spaces' tops') h j = absurd j
  tells (CompileUnit root end) (Compile class spaces tops) (TypeUnit s) (OfType s' p t) h j = (λ e. e, λ e. e)
  tells (CompileUnit root end) (Compile class spaces tops) Partial b h j = absurd j
  tells (CompileUnit root end) (OfType s p t) l b h j = absurd h
  tells (TypeUnit s) (Compile class spaces tops) l b h j = absurd h
  tells (TypeUnit s) (OfType n p t) (CompileUnit root' end') (Compile class' spaces' tops') h j = (λ e. e, λ e. e)
  tells (TypeUnit s) (OfType n p t) (CompileUnit root' end') (OfType n' p' t') h j = absurd j
  tells (TypeUnit s) (OfType n p t) (TypeUnit s') (Compile class' spaces' tops') h j = absurd j
  tells (TypeUnit s) (OfType n p t) (TypeUnit s') (OfType n' p' t') h j =
      (λ e. (sym h.0 ∙ e.0 ∙ j.0, sym h.1 ∙ e.1 ∙ j.1, sym h.2 ∙ e.2 ∙ j.2), λ e. (h.0 ∙ e.0 ∙ sym j.0, h.1 ∙ e.1 ∙ sym j.1, h.2 ∙ e.2 ∙ sym j.2))
  tells (TypeUnit s) (OfType n p t) Partial b h j = absurd j
  tells Partial a l b h j = absurd h

  pub rows_tell : (a b : Row) → IsRowOf classes c x a → IsRowOf classes c y b → RowsEqual a b ↔ UnitsSame classes c x y
  rows_tell a b h j = tells (unit_at c x).kind a (unit_at c y).kind b h j

-- ---- one after the other

pub each_two_at : (R : ℕ → ℕ → Type 0) (xs ys : List ℕ) → length xs ≡ length ys → ((k : ℕ) → k < length xs → R (get_or xs k 0) (get_or ys k 0)) → EachTwo R xs ys
each_two_at R [] [] e h = tt
each_two_at R [] (y ∷ ys) e h = absurd (omega arith)
each_two_at R (x ∷ xs) [] e h = absurd (omega arith)
each_two_at R (x ∷ xs) (y ∷ ys) e h = (h 0 (omega arith), each_two_at R xs ys (omega arith) (λ k l. h (suc k) (omega arith)))

pub first_apart_at : (R : ℕ → ℕ → Type 0) (xs ys : List ℕ) (n : ℕ) → length xs ≡ length ys → n < length xs → ((k : ℕ) → k < n → R (get_or xs k 0) (get_or ys k 0))
    → (R (get_or xs n 0) (get_or ys n 0) → ⊥) → FirstApart R xs ys n
first_apart_at R [] ys n e l h apart = absurd (omega arith)
first_apart_at R (x ∷ xs) [] n e l h apart = absurd (omega arith)
first_apart_at R (x ∷ xs) (y ∷ ys) zero e l h apart = apart
first_apart_at R (x ∷ xs) (y ∷ ys) (suc n) e l h apart = (h 0 (omega arith), first_apart_at R xs ys n (omega arith) (omega arith) (λ k m. h (suc k) (omega arith)) apart)

-- ---- units that aren't partial

pub in_range : (n s k : ℕ) → In n (range_with_len s k) → (s ≤ n) × (n < s + k)
in_range n s zero is = absurd is
in_range n s (suc k) (inl e) = (omega (arith, e), omega (arith, e))
in_range n s (suc k) (inr r) = let more = in_range n (s + 1) k r in (omega (arith, more.0), omega (arith, more.1))

pub in_between : (n a b : ℕ) → In n (numbers_between a b) → n < b
in_between n a b is = let r = in_range n a (b - a) is in omega (arith, r.0, r.1)

pub whole_each : (c : Columns) (a b : ℕ) → b ≤ length c.units → Each (IsWholeUnit c) (whole_between c a b)
whole_each c a b l =
    each_of (IsWholeUnit c) (whole_between c a b)
    (λ x is. let from = in_filter_from (λ n. is_whole (unit_at c n).kind) x (numbers_between a b) is in (let low = in_between x a b from.0 in omega (arith, low, l), from.1))

filter_few : (p : ℕ → Bool) (xs : List ℕ) → length (filter p xs) ≤ length xs
filter_few p [] = omega arith
filter_few p (x ∷ xs) = few (p x) (filter_few p xs) where
  few : (b : Bool) → length (filter p xs) ≤ length xs → length (cond b (x ∷ filter p xs) (filter p xs)) ≤ suc (length xs)
  few true l = omega (arith, l)
  few false l = omega (arith, l)

range_long : (s k : ℕ) → length (range_with_len s k) ≡ k
range_long s zero = refl
range_long s (suc k) = ap suc (range_long (s + 1) k)

pub whole_few : (c : Columns) (a b : ℕ) → length (whole_between c a b) ≤ b
whole_few c a b =
    let few = filter_few (λ n. is_whole (unit_at c n).kind) (numbers_between a b) in
    let long = range_long a (b - a) in
    omega (arith, few, long)
