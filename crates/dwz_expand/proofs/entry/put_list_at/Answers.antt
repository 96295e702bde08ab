use Rattle.std.proofs.Common.{◌≡◌, ◌∙◌, ◌++◌, List, Ok, OnOk, ap, refl, sym, subst}
use Rattle.dwz_expr.specs.Gathering.{added}
use Rattle.dwz_lists.specs.FirstFault.{WalksInto}
use Rattle.dwz_def_reading.specs.declared.exprs.Operand.{Operand}
use Rattle.dwz_def_reading.specs.Exprs.{first_unnamed}
use Rattle.dwz_def_reading.specs.LocLists.{LocList}
use Rattle.dwz_def_reading.specs.Shared.{operands_of}
use Rattle.dwz_graph.specs.Operands.{is_named}
use Rattle.dwz_label_entries.proofs.ListLemmas.{list_there}
use Rattle.dwz_expand.specs.Gathered.{AllKept, own_scope, told_at}
use Rattle.dwz_expand.proofs.entry.put_list_at.Goals as goal

pub returns-in-Ok : goal.returns-in-Ok
returns-in-Ok c = λ f u t a v l means read kept. (
    let s = own_scope c.args.x.now.file.now u in
    let lists = c.args.x.now.file.now.own.sections.now.lists.now in
    let os = c.walk_into.new.operands.items in
    let walks = subst (λ (w : List Operand). WalksInto lists c.args.place w (Ok c.in-Ok._end)) (ap (λ (w : List Operand). added w os) c.clear.ensures.items) c.in-Ok.ensures.found in
    let z = list_there s v lists c.args.place os l refl read walks.1 in
    let both : Ok walks.0.list ≡ Ok l = sym walks.0.read ∙ z.0 in
    let same : walks.0.list ≡ l = cc in
    let own : os ≡ operands_of l.exprs = sym walks.0.has ∙ ap (λ (w : LocList). operands_of w.exprs) same in
    let is = c.deref.ensures.value ∙ own in
    subst (λ (w : List Operand). OnOk c.put_operands.result (c.put_operands.new.told.items ≡ c.args.told.now.items ++ told_at f c.args.x.now.unit s w)) is
    (c.put_operands.ensures f u t (ap (λ (w : List Operand). first_unnamed (is_named s) w) c.deref.ensures.value ∙ z.1)
    (subst (λ (w : List Operand). AllKept c.args.x.now.file.now t.known.w c.args.x.now.unit u w) (sym is) kept)))
