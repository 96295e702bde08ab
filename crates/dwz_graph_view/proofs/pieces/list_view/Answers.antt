use Rattle.std.proofs.Common.{◌≡◌, ℕ, List, Ok, ap, sym, subst, ◌∙◌}
use Rattle.std.specs.Prelude.{IfOk}
use Rattle.dwz_expr.specs.Gathering.{added}
use Rattle.dwz_lists.specs.FirstFault.{WalksInto}
use Rattle.dwz_def_reading.specs.Documents.{Value}
use Rattle.dwz_def_reading.specs.Exprs.{first_unnamed}
use Rattle.dwz_def_reading.specs.LocLists.{LocList}
use Rattle.dwz_def_reading.specs.Meanings.{Sources}
use Rattle.dwz_def_reading.specs.Shared.{operands_of}
use Rattle.dwz_def_reading.specs.declared.exprs.Operand.{Operand}
use Rattle.dwz_graph.specs.Operands.{is_named}
use Rattle.dwz_graph_view.specs.ValueViews.{Shows}
use Rattle.dwz_label_entries.proofs.ListLemmas.{list_named, list_there}
use Rattle.dwz_graph_view.proofs.pieces.list_view.Goals as goal

pub returns : goal.returns
returns c = λ s a v knows means. (
    let os = c.walk_into.new.operands.items in
    let lists = c.args.setting.now.sections.now.lists.now in
    let walks = subst (λ (w : List Operand). WalksInto lists c.args.place w (Ok c.in-Ok._end)) (ap (λ (w : List Operand). added w os) c.new-operands.ensures.items) c.in-Ok.ensures.found in
    let n = list_named s a v c.args.place means in
    let t = list_there s v lists c.args.place os n.0 (ap (λ (w : Sources). w.lists) knows.scope.sources) n.1 walks.1 in
    let both : Ok walks.0.list ≡ Ok n.0 = sym walks.0.read ∙ t.0 in
    let same : walks.0.list ≡ n.0 = cc in
    let named = ap (first_unnamed (is_named s)) (ap (λ (w : LocList). operands_of w.exprs) (sym same) ∙ walks.0.has) ∙ t.1 in
    subst (λ (w : Value ℕ). IfOk c.list_there.result (λ o. Shows c.args.setting.now.file w o)) n.2 (c.list_there.ensures s n.0 knows t.0 named))
