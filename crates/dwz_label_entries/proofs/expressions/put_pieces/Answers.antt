use Rattle.std.proofs.Common.{false, drop, ap, ◌∙◌, ℕ, take, get_or}
use Rattle.dwz_def_reading.specs.declared.exprs.Operand.{Operand}
use Rattle.dwz_model.specs.declared.place.Base.TheVariants.{Unit as FromUnit}
use Rattle.dwz_def_reading.proofs.ListFacts.{drop_pairs}
use Rattle.dwz_label_entries.proofs.ExprLemmas.{last_piece, next_operand}
use Rattle.dwz_label_entries.proofs.expressions.put_pieces.Goals as goal

pub loop-operand-preserved : goal.loop-operand-preserved
loop-operand-preserved c =
    let d : Operand = record { at = 0; width = 0; uleb = false; base = FromUnit; number = 0 } in
    let os = c.args.operands.now in
    let k = c.loop-operand.operand-index in
    let o = get_or os k d in
    next_operand os k o c.loop-operand.place c.loop-operand.rest.now c.front.result.now c.behind-rest.result.now c.loop-operand.out.items c.put_same.new.out.items c.put_operand.new.out.items _
    (drop_pairs os k d c.loop-operand-test.true)
    (c.front.ensures ∙ ap (λ (n : ℕ). take n c.loop-operand.rest.now) c.saturating_sub.ensures)
    (c.behind-rest.ensures ∙ ap (λ (n : ℕ). drop n c.loop-operand.rest.now) c.saturating_sub-in-loop-operand.ensures)
    c.in_ok-put_same.ensures c.in_ok-put_operand.ensures c.loop-operand.invariant

pub returns : goal.returns
returns c = last_piece c.args.operands.now c.loop-operand.operand-index c.loop-operand.place c.loop-operand.rest.now c.loop-operand.out.items c.put_same-2.new.out.items _ c.loop-operand-test.false
    c.in_ok-put_same-2.ensures c.loop-operand.invariant
