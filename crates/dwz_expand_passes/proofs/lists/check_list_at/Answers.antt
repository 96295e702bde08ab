use Rattle.std.proofs.Common.{◌≡◌, ◌∙◌, ℕ, List, Ok, ap, map, sym, subst}
use Rattle.dwz_expr.specs.Gathering.{added}
use Rattle.dwz_lists.specs.FirstFault.{WalksInto}
use Rattle.dwz_def_reading.specs.declared.exprs.Operand.{Operand}
use Rattle.dwz_def_reading.specs.Exprs.{first_unnamed}
use Rattle.dwz_graph.specs.Operands.{is_named}
use Rattle.dwz_def_reading.specs.LocLists.{LocList}
use Rattle.dwz_def_reading.specs.Meanings.{Sources, targets}
use Rattle.dwz_def_reading.specs.Shared.{operands_of}
use Rattle.dwz_label_entries.proofs.ListLemmas.{list_there}
use Rattle.dwz_expand_passes.specs.Copied.{FirstLost, operand_places}
use Rattle.dwz_expand_passes.specs.Known.{scope}
use Rattle.dwz_expand_passes.specs.Refusing.{FirstIs}
use Rattle.dwz_expand_passes.proofs.NamedLemmas.{list_at_place}
use Rattle.dwz_expand_passes.proofs.lists.check_list_at.Goals as goal

pub returns-in-Ok : goal.returns-in-Ok
returns-in-Ok c = λ q a v l at fits means read. (
    let s = scope q in
    let lists = c.args.x.now.file.sections.now.lists.now in
    let os = c.walk_into.new.operands.items in
    let of_lists = ap (λ (w : Sources). w.lists) fits.sources in
    let walks = subst (λ (w : List Operand). WalksInto lists c.args.place w (Ok c.in-Ok._end)) (ap (λ (w : List Operand). added w os) c.clear.ensures.items) c.in-Ok.ensures.found in
    let t = list_there s v lists c.args.place os l of_lists read walks.1 in
    let both : Ok walks.0.list ≡ Ok l = sym walks.0.read ∙ t.0 in
    let same : walks.0.list ≡ l = cc in
    let own : os ≡ operands_of l.exprs = sym walks.0.has ∙ ap (λ (w : LocList). operands_of w.exprs) same in
    let n = list_at_place s a v c.args.place means in
    let lists_same : Ok n.list ≡ Ok l = sym n.read ∙ read in
    let list_same : n.list ≡ l = cc in
    let refs : v.refs ≡ targets s (operands_of l.exprs) = n.is.refs ∙ ap (λ (w : LocList). targets s (operands_of w.exprs)) list_same in
    let at_read : FirstIs (FirstLost q (operand_places 7 os at) (map q.place (targets s os))) c.check_operands.result =
    subst (λ (w : List Operand). FirstIs (FirstLost q (operand_places 7 w at) (map q.place (targets s w))) c.check_operands.result) c.deref.ensures.value
    (c.check_operands.ensures q at fits (ap (λ (w : List Operand). first_unnamed (is_named s) w) c.deref.ensures.value ∙ t.1)) in
    subst (λ (w : List ℕ). FirstIs (FirstLost q (operand_places 7 (operands_of l.exprs) at) (map q.place w)) c.check_operands.result) (sym refs)
    (subst (λ (w : List Operand). FirstIs (FirstLost q (operand_places 7 w at) (map q.place (targets s w))) c.check_operands.result) own at_read))
