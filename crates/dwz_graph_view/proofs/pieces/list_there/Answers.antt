use Rattle.std.proofs.Common.{◌≡◌, List, Ok, Err, ap, sym, subst, ◌∙◌}
use Rattle.dwz_def_reading.specs.Exprs.{Expression, first_unnamed}
use Rattle.dwz_def_reading.specs.LocLists.{LocList}
use Rattle.dwz_def_reading.specs.Meanings.{any_with_address}
use Rattle.dwz_def_reading.specs.Shared.{operands_of}
use Rattle.dwz_graph.specs.Operands.{is_named}
use Rattle.dwz_graph_view.specs.PieceRows.{AreExprs}
use Rattle.dwz_graph_view.proofs.ValueSteps.{list_shown}
use Rattle.dwz_graph_view.proofs.pieces.list_there.Goals as goal

pub returns-in-Some : goal.returns-in-Some
returns-in-Some c = λ s l knows read named. (
    let both : Ok c.in-Ok.list ≡ Ok l = sym c.in-Ok.ensures ∙ read in
    let one : c.in-Ok.list ≡ l = cc in
    let file = c.args.setting.now.file in
    let o = c.in_ok-exprs-in-Ok.field-0 in
    let is = c.exprs-in-Ok.ensures ∙ ap (λ (w : LocList). w.exprs) one in
    let are = c.in_ok-exprs-in-Ok.ensures s knows (ap (λ (w : List Expression). first_unnamed (is_named s) (operands_of w)) is ∙ named) in
    list_shown file s l o c.in-Some.exprs c.any_address-address.result (subst (λ (w : List Expression). AreExprs file s w o) is are) c.in-Some.is
    (c.any_address-address.ensures ∙ ap (λ (w : List Expression). any_with_address w) (c.exprs.ensures ∙ ap (λ (w : LocList). w.exprs) one)))

pub returns-in_default : goal.returns-in_default
returns-in_default c = λ s l knows read named. (
    let both : Ok c.in-Ok.list ≡ Ok l = sym c.in-Ok.ensures ∙ read in
    let one : c.in-Ok.list ≡ l = cc in
    let is = c.exprs-in-Ok.ensures ∙ ap (λ (w : LocList). w.exprs) one in
    let are = c.in_ok-exprs-in-Ok.ensures s knows (ap (λ (w : List Expression). first_unnamed (is_named s) (operands_of w)) is ∙ named) in
    absurd (c.in_default.not-Some are.shown are.is))

pub returns-in-Err-Refused : goal.returns-in-Err-Refused
returns-in-Err-Refused c = λ s l knows read named. (
    let fails = rw c.in-Err-Refused.field-0-is at c.in-Err-Refused.ensures in
    let no : Err c.in-Err-Refused.field-0-0 ≡ Ok l = sym fails ∙ read in
    absurd cc)
