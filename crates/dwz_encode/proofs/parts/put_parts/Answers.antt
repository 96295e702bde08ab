use Rattle.std.proofs.Common.{◌++◌, ◌-◌, ◌∙◌, ap, drop, false, get_or, slice_index, take}
use Rattle.std.proofs.lemmas.Option.{slice_get-get_or}
use Rattle.dwz_def_reading.specs.declared.exprs.Operand.{Operand}
use Rattle.dwz_model.specs.declared.place.Base.TheVariants.{Unit}
use Rattle.dwz_def_encoding.specs.Writing.{base_place}
use Rattle.dwz_encode.specs.Views.{numbers_view}
use Rattle.dwz_encode.proofs.ByteLemmas.{parts_done, parts_left, parts_step}
use Rattle.dwz_encode.proofs.parts.put_parts.Goals as goal

abbrev no_operand : Operand
no_operand = record { at = 0; width = 0; uleb = false; base = Unit; number = 0 }

pub loop-operand-preserved : goal.loop-operand-preserved
loop-operand-preserved c =
    let o = get_or c.args.operands.now c.loop-operand.operand-index no_operand in
    let there = slice_get-get_or c.args.operands.now c.loop-operand.operand-index no_operand c.loop-operand-test.true in
    let number = c.operand_number-number.ensures ∙ ap (λ (x : _). slice_index c.args.numbers.places.now x - base_place c.args.numbers.unit o.base) c.reference.ensures in
    let front = c.front.ensures ∙ ap (λ (x : _). take x c.loop-operand.left.now) c.saturating_sub.ensures in
    let back = c.back-left.ensures ∙ ap (λ (x : _). drop x c.loop-operand.left.now) c.saturating_sub-in-loop-operand.ensures in
    parts_step c.args.known.now c.args.file (numbers_view c.args.numbers) c.args.operands.now c.loop-operand.operand-index c.loop-operand.next c.in_ok-next.next c.loop-operand.at c.in_ok-behind.behind
    o
    c.loop-operand.left.now c.back-left.result.now c.loop-operand.out.items c.extend_from_slice.new.self.items c.put_number.new.out.items c.front.result.now
    (c.args.out.now.items ++ parts_left c.args.known.now c.args.file (numbers_view c.args.numbers) c.args.first c.args.start c.args.bytes.now c.args.operands.now) c.operand_number-number.result
    there c.in_ok-extend_from_slice.ensures.items front c.in_ok-put_number.ensures number c.in_ok-next.ensures c.in_ok-behind.ensures back c.loop-operand.invariant

pub returns : goal.returns
returns c =
    parts_done c.args.known.now c.args.file (numbers_view c.args.numbers) c.args.operands.now c.loop-operand.operand-index c.loop-operand.next c.loop-operand.at c.loop-operand.left.now
    c.loop-operand.out.items c.extend_from_slice-2.new.self.items
    (c.args.out.now.items ++ parts_left c.args.known.now c.args.file (numbers_view c.args.numbers) c.args.first c.args.start c.args.bytes.now c.args.operands.now)
    c.loop-operand-test.false c.in_ok-extend_from_slice-2.ensures.items c.loop-operand.invariant
