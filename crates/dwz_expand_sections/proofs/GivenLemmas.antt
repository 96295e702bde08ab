-- Operands that have the numbers of values are those of the values with their numbers.
use Rattle.std.proofs.Common.{◌≡◌, ℕ, zero, suc, ◌+◌, List, [], ◌∷◌, map, Option, Some, None, slice_get, refl, sym, subst, ◌∙◌, inl, inr, arith}
use Rattle.std.proofs.lemmas.Option.{same_Some}
use Rattle.dwz_model.proofs.ListFacts.{in_map}
use Rattle.dwz_model.proofs.Members.{in_map_from, in_nth, nth_get}
use Rattle.dwz_def_reading.specs.declared.exprs.Operand.{Operand}
use Rattle.dwz_def_reading.specs.Lists.{In}
use Rattle.dwz_def_reading.specs.Files.{sources_of}
use Rattle.dwz_def_reading.specs.Patching.{renumbered}
use Rattle.dwz_def_expand.specs.OneFile.{OneFile, ReadsOne}
use Rattle.dwz_def_expand.specs.Output.{Spoken, in_lists, number_of_operand}
use Rattle.dwz_graph_resolve.specs.declared.operands.ListOperand.{ListOperand}
use Rattle.dwz_expand_sections.specs.ListLaws.{AreListed}
use Rattle.dwz_expand_sections.specs.Lists.{HasNumbers, numbered, numbers_of, rows_with, with_new}
use Rattle.dwz_expand_sections.specs.Narrow.{operand_after}
use Rattle.dwz_expand_sections.specs.NumberLaws.{GivesNumbers, IsOperandOf}
use Rattle.dwz_expand_sections.proofs.NamingLemmas.{can_have_numbers}

-- ---- by their indexes

record Numbered (operands : List ListOperand) (numbers : List (Option ℕ)) (p : Operand) : Type 0 where
  i : ℕ
  row : ListOperand
  n : ℕ
  got : slice_get operands i ≡ Some row
  number : slice_get numbers i ≡ Some (Some n)
  is : with_new row n ≡ p

behind : (o : ListOperand) (m : Option ℕ) (operands : List ListOperand) (numbers : List (Option ℕ)) (p : Operand) → Numbered operands numbers p → Numbered (o ∷ operands) (m ∷ numbers) p
behind o m operands numbers p r = record { i = suc r.i; row = r.row; n = r.n; got = r.got; number = r.number; is = r.is }

numbered_from : (operands : List ListOperand) (numbers : List (Option ℕ)) (p : Operand) → In p (numbered operands numbers) → Numbered operands numbers p
unfolding rows_with numbers_of renumbered
numbered_from [] numbers p there = absurd there
numbered_from (o ∷ operands) [] p there = absurd there
numbered_from (o ∷ operands) (Some n ∷ numbers) p (inl is) = record { i = 0; row = o; n = n; got = refl; number = refl; is = is }
numbered_from (o ∷ operands) (Some n ∷ numbers) p (inr later) = behind o (Some n) operands numbers p (numbered_from operands numbers p later)
numbered_from (o ∷ operands) (None ∷ numbers) p there = behind o None operands numbers p (numbered_from operands numbers p there)

numbered_in : (operands : List ListOperand) (numbers : List (Option ℕ)) (i n : ℕ) (row : ListOperand) → slice_get operands i ≡ Some row → slice_get numbers i ≡ Some (Some n)
    → In (with_new row n) (numbered operands numbers)
unfolding rows_with numbers_of renumbered
numbered_in [] numbers i n row got number = absurd (let z : None ≡ Some row = got in cc)
numbered_in (o ∷ operands) [] i n row got number = absurd (let z : None ≡ Some (Some n) = number in cc)
numbered_in (o ∷ operands) (Some k ∷ numbers) zero n row got number =
    let same : o ≡ row = same_Some o row got in
    let own : k ≡ n = same_Some k n (same_Some (Some k) (Some n) number) in
    inl (λ j. with_new (same j) (own j))
numbered_in (o ∷ operands) (None ∷ numbers) zero n row got number = absurd (let z : None ≡ Some n = same_Some None (Some n) number in cc)
numbered_in (o ∷ operands) (Some k ∷ numbers) (suc i) n row got number = inr (numbered_in operands numbers i n row got number)
numbered_in (o ∷ operands) (None ∷ numbers) (suc i) n row got number = numbered_in operands numbers i n row got number

-- ---- of a file

module _ (f : OneFile) (read : ReadsOne f) (operands : List ListOperand) (numbers : List (Option ℕ)) (are : AreListed f operands) (gives : GivesNumbers f operands numbers) where
  written : (row : ListOperand) (o : Spoken) (n : ℕ) → n ≡ number_of_operand f o → IsOperandOf f row o → with_new row n ≡ operand_after f o
  written row o n number same = λ j. record { at = same.at j; width = same.width j; uleb = same.uleb j; base = same.base j; number = number j }

  to_values : (p : Operand) → In p (numbered operands numbers) → In p (map (operand_after f) (in_lists f))
  to_values p there =
      let h = numbered_from operands numbers p there in
      let o = gives.others h.i h.n h.row h.got h.number in
      let own = gives.own o.0 h.i h.row o.1 h.got o.2 in
      let same : h.n ≡ number_of_operand f o.0 =
      same_Some h.n (number_of_operand f o.0) (same_Some (Some h.n) (Some (number_of_operand f o.0)) (sym h.number ∙ own)) in
      let is : operand_after f o.0 ≡ p = sym (written h.row o.0 h.n same o.2) ∙ h.is in
      subst (λ (q : Operand). In q (map (operand_after f) (in_lists f))) is (in_map (operand_after f) o.0 (in_lists f) o.1)

  to_rows : (p : Operand) → In p (map (operand_after f) (in_lists f)) → In p (numbered operands numbers)
  to_rows p there =
      let h = in_map_from (operand_after f) p (in_lists f) there in
      let r = (can_have_numbers f read operands are).each h.source h.there in
      let at = in_nth 0 operands r.row r.there in
      let got : slice_get operands at.number ≡ Some r.row = nth_get 0 operands at.number at.number r.row at.nth (let e : at.number ≡ 0 + at.number = omega arith in e) in
      let own = gives.own h.source at.number r.row h.there got r.same in
      subst (λ (q : Operand). In q (numbered operands numbers)) (written r.row h.source (number_of_operand f h.source) refl r.same ∙ h.is)
      (numbered_in operands numbers at.number (number_of_operand f h.source) r.row got own)

  pub has_numbers : HasNumbers f (sources_of f.file.bytes).lists operands numbers
  has_numbers = record { section_is = refl; apart = (can_have_numbers f read operands are).apart; same = λ p. (to_values p, to_rows p) }
