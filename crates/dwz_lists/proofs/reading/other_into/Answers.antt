use Rattle.std.proofs.Common.{ℕ, ◌+◌, length, subst, sym, ap, arith}
use Rattle.std.proofs.lemmas.List.{length-drop}
use Rattle.std.proofs.lemmas.Result.{err_from_is_err_and}
use Rattle.dwz_bytes.specs.Input.{Input, input}
use Rattle.dwz_expr.specs.Gathering.{added}
use Rattle.dwz_expr.proofs.LoopLemmas.{none_added}
use Rattle.dwz_lists.specs.Entries.{IsEntry}
use Rattle.dwz_lists.specs.Gathering.{content_of}
use Rattle.dwz_lists.proofs.EntryLemmas.{entry_ends, entry_read, expr_bad, front_bad, kind_bad}
use Rattle.dwz_lists.proofs.GatherLemmas.{IsKind, kind_read}
use Rattle.dwz_lists.proofs.WalkLemmas.{kind_leaves}
use Rattle.dwz_lists.proofs.reading.other_into.Goals as goal

pub push_operands-requires : goal.push_operands-requires
push_operands-requires c =
    let kind = kind_read c.bad_at.result c.new-cursor.result c.in_ok-kind.kind c.byte.new.cursor c.in_ok-kind.ensures in
    let left = kind_leaves c.args.at c.in_ok-kind.kind c.byte.new.cursor (content_of c.in_ok-content.content) c.front.new.cursor c.in_ok-content.ensures in
    left.short (omega (arith, c.requires, kind.at, ap length kind.rest, ap (λ (i : Input). i.at + length i.rest) c.new-cursor.ensures, length-drop c.args.at c.args.section.now))

pub returns-in_err-kind-clause-found : goal.returns-in_err-kind-clause-found
returns-in_err-kind-clause-found c =
    let p = err_from_is_err_and c.from_residual.result c.from_residual.ensures.1 in
    let pre = c.args.operands.now.items in
    rw (p.1, p.2) (kind_bad c.args.section.now c.args.at _ c.in_err-kind.field-0.0 c.new-cursor.result c.bad_at.result (none_added pre) c.new-cursor.ensures c.bad_at.ensures c.in_err-kind.ensures)

pub returns-then-kind-eq-DW_LLE_END_OF_LIST-clause-found : goal.returns-then-kind-eq-DW_LLE_END_OF_LIST-clause-found
returns-then-kind-eq-DW_LLE_END_OF_LIST-clause-found c =
    let kind = kind_read c.bad_at.result c.new-cursor.result c.in_ok-kind.kind c.byte.new.cursor c.in_ok-kind.ensures in
    let here : IsKind (input c.args.section.now c.args.at) c.in_ok-kind.kind c.byte.new.cursor = subst (λ (w : Input). IsKind w c.in_ok-kind.kind c.byte.new.cursor) c.new-cursor.ensures kind in
    entry_ends c.args.section.now c.args.at c.byte.new.cursor c.in_ok-kind.kind here _ (none_added c.args.operands.now.items) c.if-kind-eq-DW_LLE_END_OF_LIST.true

pub returns-in_err-content-clause-found : goal.returns-in_err-content-clause-found
returns-in_err-content-clause-found c =
    let p = err_from_is_err_and c.from_residual-in_err-content.result c.from_residual-in_err-content.ensures.1 in
    let kind = kind_read c.bad_at.result c.new-cursor.result c.in_ok-kind.kind c.byte.new.cursor c.in_ok-kind.ensures in
    let here : IsKind (input c.args.section.now c.args.at) c.in_ok-kind.kind c.byte.new.cursor = subst (λ (w : Input). IsKind w c.in_ok-kind.kind c.byte.new.cursor) c.new-cursor.ensures kind in
    rw (p.1, p.2) (front_bad c.args.section.now c.args.at c.byte.new.cursor c.in_ok-kind.kind here c.if-kind-eq-DW_LLE_END_OF_LIST.false _ c.in_err-content.field-0.0 (none_added c.args.operands.now.items)
    c.in_err-content.ensures)

pub returns-in_err-push_operands-clause-found : goal.returns-in_err-push_operands-clause-found
returns-in_err-push_operands-clause-found c =
    let p = err_from_is_err_and c.from_residual-in_err-push_operands.result c.from_residual-in_err-push_operands.ensures.1 in
    let kind = kind_read c.bad_at.result c.new-cursor.result c.in_ok-kind.kind c.byte.new.cursor c.in_ok-kind.ensures in
    let here : IsKind (input c.args.section.now c.args.at) c.in_ok-kind.kind c.byte.new.cursor = subst (λ (w : Input). IsKind w c.in_ok-kind.kind c.byte.new.cursor) c.new-cursor.ensures kind in
    rw (p.1, p.2) (expr_bad c.args.section.now c.args.at c.byte.new.cursor c.in_ok-kind.kind here c.if-kind-eq-DW_LLE_END_OF_LIST.false c.front.new.cursor (content_of c.in_ok-content.content) _
    c.in_err-push_operands.field-0.0 c.in_ok-content.ensures c.in_err-push_operands.ensures.adds)

pub returns-clause-found : goal.returns-clause-found
returns-clause-found c =
    let kind = kind_read c.bad_at.result c.new-cursor.result c.in_ok-kind.kind c.byte.new.cursor c.in_ok-kind.ensures in
    let here : IsKind (input c.args.section.now c.args.at) c.in_ok-kind.kind c.byte.new.cursor = subst (λ (w : Input). IsKind w c.in_ok-kind.kind c.byte.new.cursor) c.new-cursor.ensures kind in
    subst (λ (n : ℕ). IsEntry c.args.section.now c.args.at (added c.args.operands.now.items c.push_operands.new.operands.items) n) (sym c.at.ensures)
    (entry_read c.args.section.now c.args.at c.byte.new.cursor c.in_ok-kind.kind here c.if-kind-eq-DW_LLE_END_OF_LIST.false c.front.new.cursor (content_of c.in_ok-content.content) _ c.in_ok-content.ensures
    c.in_ok-push_operands.ensures.adds)
