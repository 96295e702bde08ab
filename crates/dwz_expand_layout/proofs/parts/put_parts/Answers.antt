use Rattle.std.proofs.Common.{◌++◌, ◌∙◌, ap, drop, false, get_or, take}
use Rattle.std.proofs.lemmas.Option.{slice_get-get_or}
use Rattle.dwz_model.specs.declared.place.Base.TheVariants.{Unit}
use Rattle.dwz_expand_layout.specs.declared.entries.NewOperand.{NewOperand}
use Rattle.dwz_expand_layout.specs.Entries.{parts_page}
use Rattle.dwz_expand_layout.specs.Written.{numbers_view}
use Rattle.dwz_expand_layout.proofs.PartLemmas.{parts_done, parts_step}
use Rattle.dwz_expand_layout.proofs.parts.put_parts.Goals as goal

abbrev no_operand : NewOperand
no_operand = record { operand = record { at = 0; width = 0; uleb = false; base = Unit; number = 0 }; copy = 0 }

pub loop-operand-preserved : goal.loop-operand-preserved
loop-operand-preserved c =
    let n = numbers_view c.args.numbers in
    let os = c.args.operands.now in
    let o = get_or os c.loop-operand.operand-index no_operand in
    let there = slice_get-get_or os c.loop-operand.operand-index no_operand c.loop-operand-test.true in
    let front = c.front.ensures ∙ ap (λ (x : _). take x c.loop-operand.left.now) c.saturating_sub.ensures in
    let back = c.back-left.ensures ∙ ap (λ (x : _). drop x c.loop-operand.left.now) c.saturating_sub-in-loop-operand.ensures in
    parts_step n os c.loop-operand.operand-index c.loop-operand.at c.in_ok-behind.behind o c.loop-operand.left.now c.back-left.result.now c.front.result.now there front c.in_ok-behind.ensures back
    c.loop-operand.out.items c.extend_from_slice.new.self.items c.put_number.new.out.items (c.args.out.now.items ++ parts_page n c.args.start c.args.bytes.now os) c.operand_number-number.result
    c.in_ok-extend_from_slice.ensures.items c.in_ok-put_number.ensures c.operand_number-number.ensures c.loop-operand.invariant

pub returns : goal.returns
returns c =
    parts_done (numbers_view c.args.numbers) c.args.operands.now c.loop-operand.operand-index c.loop-operand.at c.loop-operand.left.now c.loop-operand.out.items c.extend_from_slice-2.new.self.items
    (c.args.out.now.items ++ parts_page (numbers_view c.args.numbers) c.args.start c.args.bytes.now c.args.operands.now) c.loop-operand-test.false c.in_ok-extend_from_slice-2.ensures.items
    c.loop-operand.invariant
