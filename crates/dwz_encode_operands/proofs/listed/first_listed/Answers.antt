use Rattle.std.proofs.Common.{◌+◌, ℕ, false, List, [], None, ap, drop, get_or, map, sym, ◌∙◌}
use Rattle.std.proofs.lemmas.List.{append-nil}
use Rattle.dwz_def_reading.specs.Shared.{ListOperand}
use Rattle.dwz_model.specs.declared.place.Base.TheVariants.{Unit as FromUnit}
use Rattle.dwz_encode_operands.specs.First.{is_over, first_of_two, place_if}
use Rattle.dwz_encode_operands.proofs.FirstLemmas.{beside, first_so, left_at, left_end, noted_end, noted_more}
use Rattle.dwz_graph.specs.ListOperand.{ListOperand as OperandOfCode}
use Rattle.dwz_graph.specs.ListRows.{operand_view}
use Rattle.dwz_encode_operands.proofs.listed.first_listed.Goals as goal

no_row : OperandOfCode
no_row = record { at = 0; width = 0; uleb = false; unit = 0; base = FromUnit; entry = 0; place = record { file = 0; offset = 0 } }

pub loop-k-preserved : goal.loop-k-preserved
unfolding no_row
loop-k-preserved c = λ raw number are. (
    let rows = c.args.operands.now in
    let k = c.loop-k.k in
    let view = operand_view raw in
    let o : ListOperand = view (get_or rows k no_row) in
    let same = ap (λ (w : List ℕ). get_or w k 0) (are ∙ sym (append-nil (map (λ p. number (operand_view raw p)) rows))) ∙ beside (λ p. number (operand_view raw p)) rows [] k no_row
    c.loop-k-test.true in
    noted_more number o (map view rows) (map view (drop k rows)) (map view (drop (k + 1) rows)) None c.loop-k.first c.note-first.result (left_at view rows k no_row c.loop-k-test.true)
    (c.note-first.ensures ∙ ap (λ (n : ℕ). first_of_two c.loop-k.first (place_if (is_over o.operand.uleb o.operand.width n) o.operand.at)) same) (c.loop-k.invariant raw number are))

pub returns : goal.returns
returns c = λ raw number are. (
    let rows = c.args.operands.now in
    let view = operand_view raw in
    first_so number (map view rows) c.loop-k.first (noted_end number (map view rows) (map view (drop c.loop-k.k rows)) None c.loop-k.first (left_end view rows c.loop-k.k c.loop-k-test.false)
    (c.loop-k.invariant raw number are)))
