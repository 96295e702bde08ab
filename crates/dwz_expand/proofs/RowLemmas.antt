-- Operands of lists by their indexes, and the numbers that they are given one after the other.
use Rattle.std.proofs.Common.{◌≡◌, ◌≢◌, ℕ, zero, suc, ◌+◌, ◌<◌, ◌≤◌, List, [], ◌∷◌, ◌++◌, length, map, get_or, set, Option, Some, None, slice_get, refl, sym, ap, subst, ◌∙◌, inl, inr, arith}
use Rattle.std.specs.List.Sorted.{IsNonDecreasingBy, IsPartitionPoint}
use Rattle.std.proofs.lemmas.Bool.{cases_lt}
use Rattle.std.proofs.lemmas.List.{length-set}
use Rattle.std.proofs.lemmas.Option.{same_Some, slice_get-get_or, slice_get_within}
use Rattle.dwz_model.specs.Lists.{In}
use Rattle.dwz_model.proofs.ListFacts.{in_cases, in_left, in_right}
use Rattle.dwz_def_reading.specs.declared.exprs.Operand.{Operand}
use Rattle.dwz_def_reading.specs.Shared.{ListOperand as Row, StandApart}
use Rattle.dwz_def_reading.specs.Units.{RawUnit}
use Rattle.dwz_graph.specs.ListOperand.{ListOperand}
use Rattle.dwz_graph.specs.ListRows.{operand_view}
use Rattle.dwz_expand.specs.Rows.{AreNumbered, HasPlace, Rise}

-- ---- they rise

module _ (raw : List RawUnit) where
  abbrev Apart : List ListOperand → Type 0
  Apart operands = StandApart (map (operand_view raw) operands)

  abbrev Wide : List ListOperand → Type 0
  Wide operands = (o : Row) → In o (map (operand_view raw) operands) → 0 < o.operand.width

  fewer : (o : ListOperand) (operands : List ListOperand) → Apart (o ∷ operands) → Apart operands
  fewer o [] h = tt
  fewer o (p ∷ operands) h = h.1

  behind : (o : ListOperand) (operands : List ListOperand) → Apart (o ∷ operands) → (i : ℕ) (a : ListOperand) → slice_get operands i ≡ Some a → o.at + o.width ≤ a.at
  behind o [] h i a got = absurd (let z : None ≡ Some a = got in cc)
  behind o (p ∷ operands) h zero a got = subst (λ (x : ListOperand). o.at + o.width ≤ x.at) (same_Some p a got) h.0
  behind o (p ∷ operands) h (suc i) a got = (let le = behind p operands h.1 i a got in let next = h.0 in omega (arith, le, next))

  pub rises : (operands : List ListOperand) → Apart operands → Wide operands → Rise operands
  rises [] apart wide i j a b less got other = absurd (let z : None ≡ Some a = got in cc)
  rises (o ∷ operands) apart wide zero zero a b less got other = absurd (omega (arith, less))
  rises (o ∷ operands) apart wide zero (suc j) a b less got other =
      let le = behind o operands apart j b other in
      let some = wide (operand_view raw o) (inl refl) in
      subst (λ (x : ListOperand). x.at < b.at) (same_Some o a got) (omega (arith, le, some))
  rises (o ∷ operands) apart wide (suc i) zero a b less got other = absurd (omega (arith, less))
  rises (o ∷ operands) apart wide (suc i) (suc j) a b less got other =
      rises operands (fewer o operands apart) (λ r there. wide r (inr there)) i j a b (omega (arith, less)) got other

got_there : (xs : List ListOperand) (i : ℕ) (d : ListOperand) → i < length xs → slice_get xs i ≡ Some (get_or xs i d)
got_there xs i d less = slice_get-get_or xs i d less

pub sorted : (operands : List ListOperand) → Rise operands → IsNonDecreasingBy (λ o. o.at) operands
sorted operands rise i j d le less = elim (cases_lt i j) [
  | inl before ↦
      (let low = rise i j (get_or operands i d) (get_or operands j d) before (got_there operands i d (omega (arith, less, before))) (got_there operands j d less) in omega (arith, low))
  | inr from ↦ (let same : i ≡ j = omega (arith, le, from) in subst (λ (k : ℕ). (get_or operands k d).at ≤ (get_or operands j d).at) (sym same) (omega arith))
]

-- two that begin at one place are one
pub one_row : (operands : List ListOperand) → Rise operands → (i j : ℕ) (a b : ListOperand) → slice_get operands i ≡ Some a → slice_get operands j ≡ Some b → a.at ≡ b.at → i ≡ j
one_row operands rise i j a b got other same = elim (cases_lt i j) [
  | inl before ↦ absurd (let less = rise i j a b before got other in omega (arith, less, same))
  | inr from ↦ elim (cases_lt j i) [
    | inl behind ↦ absurd (let less = rise j i b a behind other got in omega (arith, less, same))
    | inr to ↦ omega (arith, from, to)
  ]
]

-- the one that begins at a place is the first that doesn't begin before it
pub found_there : (operands : List ListOperand) (at p : ℕ) → p ≤ length operands → IsPartitionPoint (λ o. o.at < at) (λ o. at ≤ o.at) operands p → Rise operands → (i : ℕ) (row : ListOperand)
    → slice_get operands i ≡ Some row → row.at ≡ at → i ≡ p
found_there operands at p within point rise i row got is =
    let inside = slice_get_within operands i row got in
    let mine : get_or operands i row ≡ row = same_Some (get_or operands i row) row (sym (got_there operands i row inside) ∙ got) in
    elim (cases_lt i p) [
      | inl before ↦
          absurd (let low : (get_or operands i row).at < at = point.0 i row (omega arith) before in
          let place : (get_or operands i row).at ≡ at = ap (λ (o : ListOperand). o.at) mine ∙ is in omega (arith, low, place))
      | inr from ↦ elim (cases_lt p i) [
        | inl behind ↦
            absurd (let first : p < length operands = omega (arith, behind, inside) in
            let high : at ≤ (get_or operands p row).at = point.1 p row (omega arith) first in
            let less = rise p i (get_or operands p row) row behind (got_there operands p row first) got in omega (arith, high, less, is))
        | inr to ↦ omega (arith, from, to)
      ]
    ]

module _ (operands : List ListOperand) (at p : ℕ) (within : p ≤ length operands)
    (begin : IsNonDecreasingBy (λ o. o.at) operands → IsPartitionPoint (λ o. o.at < at) (λ o. at ≤ o.at) operands p) (rise : Rise operands) (i : ℕ) (row : ListOperand)
    (got : slice_get operands i ≡ Some row) (is : row.at ≡ at) where
  pub is_there : p ≡ i
  is_there = sym (found_there operands at p within (begin (sorted operands rise)) rise i row got is)

  -- it isn't behind all, and one that begins elsewhere isn't it
  pub not_past : p ≡ length operands → ⊥
  not_past past = let inside = slice_get_within operands i row got in omega (arith, inside, is_there, past)

  pub not_other : (d : ListOperand) → ((get_or operands p d).at ≡ at → ⊥) → ⊥
  not_other d other =
      let inside = slice_get_within operands i row got in
      let first : p < length operands = omega (arith, inside, is_there) in
      let same : get_or operands p d ≡ row = same_Some (get_or operands p d) row (sym (got_there operands p d first) ∙ ap (slice_get operands) is_there ∙ got) in
      other (ap (λ (o : ListOperand). o.at) same ∙ is)

-- ---- they are numbered

got_set : {X : Type 0} (xs : List X) (i : ℕ) (v : X) → i < length xs → slice_get (set xs i v) i ≡ Some v
got_set [] i v less = absurd (omega (arith, less))
got_set (x ∷ xs) zero v less = refl
got_set (x ∷ xs) (suc i) v less = got_set xs i v (omega (arith, less))

got_other : {X : Type 0} (xs : List X) (i j : ℕ) (v : X) → j ≢ i → slice_get (set xs i v) j ≡ slice_get xs j
got_other [] i j v other = refl
got_other (x ∷ xs) zero zero v other = absurd (other refl)
got_other (x ∷ xs) zero (suc j) v other = refl
got_other (x ∷ xs) (suc i) zero v other = refl
got_other (x ∷ xs) (suc i) (suc j) v other = got_other xs i j v (λ e. other (ap suc e))

module _ (operands : List ListOperand) (told : List Operand) (t : Operand) (numbers : List (Option ℕ)) (are : AreNumbered operands told numbers) where
  abbrev more : List Operand
  more = told ++ t ∷ []

  last : In t more
  last = in_right t told (t ∷ []) (inl refl)

  -- none of them begins there
  pub none_noted : (Rise operands → (i : ℕ) (row : ListOperand) → slice_get operands i ≡ Some row → row.at ≡ t.at → ⊥) → AreNumbered operands more numbers
  none_noted nowhere = record {
    many = are.many;
    from = λ i n is. (let o = are.from i n is in (o.0, in_left o.0 told (t ∷ []) o.1, o.2));
    all = λ rise x i there has. elim (in_cases x told (t ∷ []) there) [
      | inl before ↦ are.all rise x i before has
      | inr here ↦ elim here [ inl same ↦ absurd (nowhere rise i has.0 has.1 (has.2 ∙ ap (λ (y : Operand). y.at) (sym same))) | inr never ↦ absurd never ]
    ];
  }

  -- one does
  module _ (i : ℕ) (within : i < length operands) (place : (row : ListOperand) → slice_get operands i ≡ Some row → row.at ≡ t.at)
      (found : Rise operands → (j : ℕ) (row : ListOperand) → slice_get operands j ≡ Some row → row.at ≡ t.at → i ≡ j) where
    abbrev new : List (Option ℕ)
    new = set numbers i (Some t.number)

    inside : i < length numbers
    inside = omega (arith, within, are.many)

    has_place : HasPlace operands i t.at
    has_place = by operands within place where
      by : (xs : List ListOperand) → i < length xs → ((row : ListOperand) → slice_get xs i ≡ Some row → row.at ≡ t.at) → HasPlace xs i t.at
      by [] less at = absurd (omega (arith, less))
      by (x ∷ xs) less at = (let got = got_there (x ∷ xs) i x less in (get_or (x ∷ xs) i x, got, at (get_or (x ∷ xs) i x) got))

    from_new : (j n : ℕ) → slice_get new j ≡ Some (Some n) → (x : Operand) × In x more × (HasPlace operands j x.at × (x.number ≡ n))
    from_new j n is = elim (cases_lt j i) [
      | inl before ↦ old (λ e. omega (arith, before, e))
      | inr from ↦ elim (cases_lt i j) [
        | inl behind ↦ old (λ e. omega (arith, behind, e))
        | inr to ↦
            (let same : i ≡ j = omega (arith, from, to) in
            let number : Some (Some t.number) ≡ Some (Some n) = sym (got_set numbers i (Some t.number) inside) ∙ ap (slice_get new) same ∙ is in
            (t, last, (subst (λ (k : ℕ). HasPlace operands k t.at) same has_place, same_Some t.number n (same_Some (Some t.number) (Some n) number))))
      ]
    ] where
      old : j ≢ i → (x : Operand) × In x more × (HasPlace operands j x.at × (x.number ≡ n))
      old other = (let o = are.from j n (sym (got_other numbers i j (Some t.number) other) ∙ is) in (o.0, in_left o.0 told (t ∷ []) o.1, o.2))

    all_new : Rise operands → (x : Operand) (j : ℕ) → In x more → HasPlace operands j x.at → (n : ℕ) × (slice_get new j ≡ Some (Some n))
    all_new rise x j there has = elim (cases_lt j i) [
      | inl before ↦ old (λ e. omega (arith, before, e))
      | inr from ↦ elim (cases_lt i j) [
        | inl behind ↦ old (λ e. omega (arith, behind, e))
        | inr to ↦ (let same : i ≡ j = omega (arith, from, to) in (t.number, ap (slice_get new) (sym same) ∙ got_set numbers i (Some t.number) inside))
      ]
    ] where
      old : j ≢ i → (n : ℕ) × (slice_get new j ≡ Some (Some n))
      old other = elim (in_cases x told (t ∷ []) there) [
        | inl before ↦ (let o = are.all rise x j before has in (o.0, got_other numbers i j (Some t.number) other ∙ o.1))
        | inr here ↦ elim here [
          | inl same ↦ absurd (other (sym (found rise j has.0 has.1 (has.2 ∙ ap (λ (y : Operand). y.at) (sym same)))))
          | inr never ↦ absurd never
        ]
      ]

    pub one_noted : AreNumbered operands more new
    one_noted = record { many = length-set numbers i (Some t.number) ∙ are.many; from = from_new; all = all_new }

-- nothing is told yet
none_in : (n i m : ℕ) (xs : List (Option ℕ)) → ((k : ℕ) (x : Option ℕ) → slice_get xs k ≡ Some x → x ≡ None) → slice_get xs i ≡ Some (Some m) → ⊥
none_in n i m xs none is = (let z : Some m ≡ None = none i (Some m) is in let w : Some m ≡ None = z in cc)

pub none_yet : (operands : List ListOperand) (numbers : List (Option ℕ)) → length numbers ≡ length operands → ((k : ℕ) (x : Option ℕ) → slice_get numbers k ≡ Some x → x ≡ None)
    → AreNumbered operands [] numbers
none_yet operands numbers many none = record {
  many = many;
  from = λ i n is. absurd (none_in n i n numbers none is);
  all = λ rise t i there has. absurd there;
}
