use Rattle.std.proofs.Common.{◌+◌, ◌∙◌, ap, drop, false, get_or, length, refl, take}
use Rattle.std.proofs.lemmas.Option.{slice_get-get_or}
use Rattle.dwz_model.specs.declared.place.Base.TheVariants.{Unit}
use Rattle.dwz_expand_layout.specs.declared.entries.NewOperand.{NewOperand}
use Rattle.dwz_expand_layout.specs.Entries.{parts_page}
use Rattle.dwz_layout.specs.Attributes.{no_numbers}
use Rattle.dwz_expand_layout.proofs.PartLemmas.{len_done, len_step, ok_same}
use Rattle.dwz_expand_layout.proofs.parts.parts_len.Goals as goal

abbrev no_operand : NewOperand
no_operand = record { operand = record { at = 0; width = 0; uleb = false; base = Unit; number = 0 }; copy = 0 }

pub loop-operand-preserved : goal.loop-operand-preserved
loop-operand-preserved c =
    let os = c.args.operands.now in
    let o = get_or os c.loop-operand.operand-index no_operand in
    let there = slice_get-get_or os c.loop-operand.operand-index no_operand c.loop-operand-test.true in
    let front = c.front.ensures ∙ ap (λ (x : _). take x c.loop-operand.left.now) c.saturating_sub.ensures in
    let back = c.back-left.ensures ∙ ap (λ (x : _). drop x c.loop-operand.left.now) c.saturating_sub-in-loop-operand.ensures in
    len_step os c.loop-operand.operand-index c.loop-operand.at c.in_ok-behind.behind o c.loop-operand.left.now c.back-left.result.now c.front.result.now there front c.in_ok-behind.ensures back
    c.loop-operand.len c.in_ok-len.len c.in_ok-len-2.len (length (parts_page no_numbers c.args.start c.args.bytes.now os)) c.in_ok-len.ensures c.in_ok-len-2.ensures c.loop-operand.invariant

pub returns : goal.returns
returns c =
    let all = length (parts_page no_numbers c.args.start c.args.bytes.now c.args.operands.now) in
    let sum = c.loop-operand.len + length c.loop-operand.left.now in
    ok_same c.more-2.result sum all
    (len_done c.args.operands.now c.loop-operand.operand-index c.loop-operand.at c.loop-operand.left.now c.loop-operand.len sum all c.loop-operand-test.false refl
    c.loop-operand.invariant) c.more-2.ensures
