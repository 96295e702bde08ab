-- Numbers of operands of lists that were told are what `dwz_expand_sections` asks for.
use Rattle.std.proofs.Common.{◌≡◌, ℕ, ◌+◌, List, Option, Some, slice_get, sym, ap, subst, ◌∙◌, arith}
use Rattle.std.proofs.lemmas.Option.{same_Some}
use Rattle.dwz_model.specs.Lists.{In}
use Rattle.dwz_model.proofs.Members.{in_nth, nth_get}
use Rattle.dwz_def_reading.specs.declared.exprs.Operand.{Operand}
use Rattle.dwz_def_expand.specs.OneFile.{OneFile, ReadsOne}
use Rattle.dwz_def_expand.specs.Output.{Spoken, in_lists, number_of_operand}
use Rattle.dwz_graph.specs.ListOperand.{ListOperand}
use Rattle.dwz_expand_sections.specs.ListLaws.{AreListed, CanHaveNumbers, ListsLaw}
use Rattle.dwz_expand_sections.specs.Narrow.{operand_after}
use Rattle.dwz_expand_sections.specs.NumberLaws.{GivesNumbers, IsOperandOf}
use Rattle.dwz_expand.specs.Rows.{AreNumbered, HasPlace, Rise}
use Rattle.dwz_expand.specs.Listed.{AreTold}
use Rattle.dwz_expand.proofs.PlaceNumbers.{number_is, number_there}
use Rattle.dwz_expand.proofs.RowLemmas.{one_row, rises}

module _ (law : ListsLaw) (f : OneFile) (reads : ReadsOne f) (operands : List ListOperand) (are : AreListed f operands) (told : List Operand) (said : AreTold f told) (numbers : List (Option ℕ))
    (numbered : AreNumbered operands told numbers) where
  can : CanHaveNumbers f operands
  can = law f reads operands are

  rise : Rise operands
  rise = rises f.file.raw operands can.apart are.some

  -- a value with that operand told what stands in a row
  record Teller (i n : ℕ) : Type 0 where
    o : Spoken
    there : In o (in_lists f)
    number : number_of_operand f o ≡ n
    place : HasPlace operands i o.operand.at

  teller : (i n : ℕ) → slice_get numbers i ≡ Some (Some n) → Teller i n
  teller i n is =
      let t = numbered.from i n is in
      let o = said.from t.0 t.1 in
      record {
        o = o.0;
        there = o.1;
        number = ap (λ (x : Operand). x.number) o.2 ∙ t.2.1;
        place = subst (λ (at : ℕ). HasPlace operands i at) (sym (ap (λ (x : Operand). x.at) o.2)) t.2.0;
      }

  own : (o : Spoken) (i : ℕ) (row : ListOperand) → In o (in_lists f) → slice_get operands i ≡ Some row → IsOperandOf f row o → slice_get numbers i ≡ Some (Some (number_of_operand f o))
  own o i row there got same =
      let has = numbered.all rise (operand_after f o) i (said.all o there) (row, got, same.at) in
      let t = teller i has.0 has.1 in
      let rows : t.place.0 ≡ row = same_Some t.place.0 row (sym t.place.1 ∙ got) in
      let at : t.o.operand.at ≡ o.operand.at = sym t.place.2 ∙ ap (λ (r : ListOperand). r.at) rows ∙ same.at in
      let number : has.0 ≡ number_of_operand f o = sym t.number ∙ number_is f reads t.o t.there ∙ ap (number_there f reads) at ∙ sym (number_is f reads o there) in
      has.1 ∙ ap (λ (n : ℕ). Some (Some n)) number

  others : (i n : ℕ) (row : ListOperand) → slice_get operands i ≡ Some row → slice_get numbers i ≡ Some (Some n) → (o : Spoken) × In o (in_lists f) × IsOperandOf f row o
  others i n row got is =
      let t = teller i n is in
      let r = can.each t.o t.there in
      let at = in_nth 0 operands r.row r.there in
      let found : slice_get operands at.number ≡ Some r.row = nth_get 0 operands at.number at.number r.row at.nth (let e : at.number ≡ 0 + at.number = omega arith in e) in
      let rows : t.place.0 ≡ row = same_Some t.place.0 row (sym t.place.1 ∙ got) in
      let place : r.row.at ≡ row.at = r.same.at ∙ sym t.place.2 ∙ ap (λ (x : ListOperand). x.at) rows in
      let index : at.number ≡ i = one_row operands rise at.number i r.row row found got place in
      let same : r.row ≡ row = same_Some r.row row (sym found ∙ ap (slice_get operands) index ∙ got) in
      (t.o, t.there, subst (λ (x : ListOperand). IsOperandOf f x t.o) same r.same)

  pub gives_numbers : GivesNumbers f operands numbers
  gives_numbers = record { own = own; others = others }
