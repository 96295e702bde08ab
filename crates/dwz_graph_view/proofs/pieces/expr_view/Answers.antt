use Rattle.std.proofs.Common.{◌≡◌, ◌-◌, List, Ok, length, ap, sym, subst, ◌∙◌}
use Rattle.dwz_expr.specs.FirstFault.{ReadsInto}
use Rattle.dwz_expr.specs.Gathering.{added}
use Rattle.dwz_def_reading.specs.Exprs.{Expression, first_unnamed}
use Rattle.dwz_def_reading.specs.Input.{Input}
use Rattle.dwz_def_reading.specs.declared.exprs.Operand.{Operand}
use Rattle.dwz_graph.specs.Operands.{is_named}
use Rattle.dwz_graph_view.proofs.PieceSteps.{of_expr}
use Rattle.dwz_graph_view.proofs.ValueSteps.{expr_shown, expr_told, input_of}
use Rattle.dwz_graph_view.proofs.pieces.expr_view.Goals as goal

pub returns : goal.returns
returns c = λ s a v knows end bytes means. (
    let os = c.read_into.new.operands.items in
    let i : Input = record { at = c.saturating_sub-at.result; rest = c.args.bytes.now } in
    let e : Expression = record { at = c.saturating_sub-at.result; bytes = c.args.bytes.now; operands = os; address = c.in-Ok.address } in
    let reads = subst (λ (w : List Operand). ReadsInto 1 i w (Ok c.in-Ok.address)) (ap (λ (w : List Operand). added w os) c.new-operands.ensures.items) c.in-Ok.ensures.found in
    let is : input_of a ≡ i = (λ j. record { at = ((λ k. end k - length (bytes k)) ∙ sym c.saturating_sub-at.ensures) j; rest = bytes j }) in
    let t = expr_told s a v i e is means (sym reads.0) reads.1 in
    let are = c.in_ok-pieces-in-Ok.ensures s knows (ap (first_unnamed (is_named s)) c.deref.ensures.value ∙ t.0) in
    let o = c.in_ok-pieces-in-Ok.field-0 in
    expr_shown c.args.setting.now.file s e v o c.in-Some.pieces t.1
    (of_expr c.args.setting.now.file s e c.saturating_sub-at.result c.args.bytes.now c.deref.result.now o (λ j. c.saturating_sub-at.result) (λ j. c.args.bytes.now) c.deref.ensures.value are)
    c.in-Some.is)
