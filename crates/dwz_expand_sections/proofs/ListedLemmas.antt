-- Operands that have new numbers, one more at a time; and their first place, which depends on no more than which they are.
use Rattle.std.proofs.Common.{◌≡◌, ◌↔◌, ℕ, zero, suc, ◌+◌, ◌<◌, ◌≤◌, List, [], ◌∷◌, ◌++◌, get_or, length, map, take, Option, Some, None, sym}
use Rattle.std.proofs.Common.{ap, subst, add-one, arith}
use Rattle.std.proofs.lemmas.List.{take_all}
use Rattle.dwz_def_reading.specs.declared.exprs.Operand.{Operand}
use Rattle.dwz_def_reading.specs.Lists.{In}
use Rattle.dwz_def_reading.specs.Patching.{renumbered}
use Rattle.dwz_def_expand.specs.OneFile.{OneFile}
use Rattle.dwz_def_expand.specs.Output.{in_lists}
use Rattle.dwz_graph_resolve.specs.declared.operands.ListOperand.{ListOperand}
use Rattle.dwz_expand_sections.specs.Lists.{HasNumbers, numbered, numbers_of, rows_with, with_new}
use Rattle.dwz_expand_sections.specs.Narrow.{FirstPlace, operand_after}

-- ---- one more

abbrev Numbers : Type 0
Numbers = List (Option ℕ)

up_to : List ListOperand → Numbers → ℕ → List Operand
up_to operands numbers i = numbered (take i operands) (take i numbers)

one_more : (operands : List ListOperand) (numbers : Numbers) (i n : ℕ) (d : ListOperand) → i < length operands → length numbers ≡ length operands → get_or numbers i None ≡ Some n
    → up_to operands numbers (suc i) ≡ up_to operands numbers i ++ with_new (get_or operands i d) n ∷ []
unfolding up_to rows_with numbers_of renumbered
one_more [] numbers i n d lt many is = absurd (omega (arith, lt))
one_more (o ∷ operands) [] i n d lt many is = absurd (omega (arith, many))
one_more (o ∷ operands) (m ∷ numbers) zero n d lt many is = ap (λ (x : Option ℕ). numbered (o ∷ []) (x ∷ [])) is
one_more (o ∷ operands) (Some k ∷ numbers) (suc i) n d lt many is =
    ap (λ (w : List Operand). with_new o k ∷ w) (one_more operands numbers i n d (omega (arith, lt)) (omega (arith, many)) is)
one_more (o ∷ operands) (None ∷ numbers) (suc i) n d lt many is = one_more operands numbers i n d (omega (arith, lt)) (omega (arith, many)) is

none_more : (operands : List ListOperand) (numbers : Numbers) (i : ℕ) → i < length operands → length numbers ≡ length operands → get_or numbers i None ≡ None
    → up_to operands numbers (suc i) ≡ up_to operands numbers i
unfolding up_to rows_with numbers_of renumbered
none_more [] numbers i lt many is = absurd (omega (arith, lt))
none_more (o ∷ operands) [] i lt many is = absurd (omega (arith, many))
none_more (o ∷ operands) (m ∷ numbers) zero lt many is = ap (λ (x : Option ℕ). numbered (o ∷ []) (x ∷ [])) is
none_more (o ∷ operands) (Some k ∷ numbers) (suc i) lt many is =
    ap (λ (w : List Operand). with_new o k ∷ w) (none_more operands numbers i (omega (arith, lt)) (omega (arith, many)) is)
none_more (o ∷ operands) (None ∷ numbers) (suc i) lt many is = none_more operands numbers i (omega (arith, lt)) (omega (arith, many)) is

-- the first place of those up to a number
abbrev pub FirstTo : List ListOperand → Numbers → ℕ → Option ℕ → Type 0
FirstTo operands numbers i first = FirstPlace (numbered (take i operands) (take i numbers)) first

module _ (operands : List ListOperand) (numbers : Numbers) (i : ℕ) (lt : i < length operands) (many : length numbers ≡ length operands) (first : Option ℕ) where
  pub first_more : (n : ℕ) (d : ListOperand) → get_or numbers i None ≡ Some n
      → FirstPlace (numbered (take i operands) (take i numbers) ++ with_new (get_or operands i d) n ∷ []) first → FirstTo operands numbers (i + 1) first
  unfolding up_to
  first_more n d is h =
      let next : FirstTo operands numbers (suc i) first = subst (λ (w : List Operand). FirstPlace w first) (sym (one_more operands numbers i n d lt many is)) h in
      subst (λ (k : ℕ). FirstTo operands numbers k first) (sym (add-one i)) next

  pub first_same : get_or numbers i None ≡ None → FirstTo operands numbers i first → FirstTo operands numbers (i + 1) first
  unfolding up_to
  first_same is h =
      let next : FirstTo operands numbers (suc i) first = subst (λ (w : List Operand). FirstPlace w first) (sym (none_more operands numbers i lt many is)) h in
      subst (λ (k : ℕ). FirstTo operands numbers k first) (sym (add-one i)) next

pub first_all : (operands : List ListOperand) (numbers : Numbers) (i : ℕ) (first : Option ℕ) → length operands ≤ i → length numbers ≡ length operands → FirstTo operands numbers i first
    → FirstPlace (numbered operands numbers) first
first_all operands numbers i first le many h =
    let ops : take i operands ≡ operands = take_all i operands le in
    let new : take i numbers ≡ numbers = take_all i numbers (omega (arith, le, many)) in
    subst (λ (w : List Operand). FirstPlace w first) (λ j. numbered (ops j) (new j)) h

-- ---- of a file

members_first : (xs ys : List Operand) → ((o : Operand) → In o xs ↔ In o ys) → (first : Option ℕ) → FirstPlace xs first → FirstPlace ys first
members_first xs ys same None h = λ o there narrow. h o ((same o).1 there) narrow
members_first xs ys same (Some at) h = record {
  one = h.one;
  there = (same h.one).0 h.there;
  narrow = h.narrow;
  least = λ o there narrow. h.least o ((same o).1 there) narrow;
  stands = h.stands;
}

pub first_in_file : (f : OneFile) (section : List ℕ) (operands : List ListOperand) (numbers : Numbers) (first : Option ℕ) → HasNumbers f section operands numbers
    → FirstPlace (numbered operands numbers) first → FirstPlace (map (operand_after f) (in_lists f)) first
first_in_file f section operands numbers first has h = members_first (numbered operands numbers) (map (operand_after f) (in_lists f)) has.same first h
