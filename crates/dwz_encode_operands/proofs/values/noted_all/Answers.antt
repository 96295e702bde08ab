use Rattle.std.proofs.Common.{◌+◌, ◌-◌, ◌∷◌, ℕ, false, List, ap, drop, get_or, sym, ◌∙◌}
use Rattle.dwz_def_reading.specs.declared.exprs.Operand.{Operand}
use Rattle.dwz_def_reading.specs.Shared.{ListOperand, of_unit}
use Rattle.dwz_model.specs.declared.place.Base.TheVariants.{Unit as FromUnit}
use Rattle.dwz_encode_operands.specs.First.{is_over, first_of_two, place_if}
use Rattle.dwz_encode_operands.specs.Narrow.{number_by}
use Rattle.dwz_encode_operands.proofs.FirstLemmas.{beside, left_at, left_end, noted_end, noted_more, units_all}
use Rattle.dwz_def_output.specs.Refusals.{all_of_unit}
use Rattle.dwz_def_encoding.specs.Meant.{led_to}
use Rattle.dwz_def_encoding.specs.Writing.{base_place}
use Rattle.dwz_encode_operands.proofs.values.noted_all.Goals as goal

no_operand : Operand
no_operand = record { at = 0; width = 0; uleb = false; base = FromUnit; number = 0 }

pub loop-k-preserved : goal.loop-k-preserved
unfolding no_operand
loop-k-preserved c = λ after at more is are. (
    let os = c.args.operands.now in
    let k = c.loop-k.k in
    let lt = c.loop-k-test.true in
    let o : Operand = get_or os k no_operand in
    let target = c.at_or.ensures ∙ ap (λ (w : List ℕ). get_or w k 0) are ∙ beside (λ (p : Operand). after (led_to at p)) os more k no_operand lt in
    let number = c.number_of-number.ensures ∙ (λ i. target i - base_place (is i) o.base) in
    let split = units_all at (drop k os) ∙ left_at (of_unit at) os k no_operand lt ∙ ap (λ (w : List ListOperand). of_unit at o ∷ w) (sym (units_all at (drop (k + 1) os))) in
    noted_more (number_by after) (of_unit at o) (all_of_unit at os) (all_of_unit at (drop k os)) (all_of_unit at (drop (k + 1) os)) c.args.first c.loop-k.so_far c.note-so_far.result split
    (c.note-so_far.ensures ∙ ap (λ (n : ℕ). first_of_two c.loop-k.so_far (place_if (is_over o.uleb o.width n) o.at)) number) (c.loop-k.invariant after at more is are))

pub returns : goal.returns
returns c = λ after at more is are. (
    let os = c.args.operands.now in
    let k = c.loop-k.k in
    noted_end (number_by after) (all_of_unit at os) (all_of_unit at (drop k os)) c.args.first c.loop-k.so_far (units_all at (drop k os) ∙ left_end (of_unit at) os k c.loop-k-test.false)
    (c.loop-k.invariant after at more is are))
