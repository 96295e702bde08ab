use Rattle.std.proofs.Common.{length, sym, ap, ◌∙◌, arith}
use Rattle.std.proofs.lemmas.Result.{err_from_is_err_and}
use Rattle.dwz_def_reading.specs.LocLists.{bad_list}
use Rattle.dwz_expr.proofs.LoopLemmas.{fails_same}
use Rattle.dwz_lists.specs.Gathering.{content_of, in_lists}
use Rattle.dwz_lists.proofs.GatherLemmas.{kind_read}
use Rattle.dwz_lists.proofs.WalkLemmas.{expr_stops, front_stops, goes_on, kind_leaves, list_ends, list_fails, list_given, no_kind}
use Rattle.dwz_lists.proofs.reading.walk.Goals as goal

pub push_expr-requires : goal.push_expr-requires
push_expr-requires c =
    let kind = kind_read c.bad_at.result c.loop-exprs.cursor c.in_ok-kind.kind c.byte.new.cursor c.in_ok-kind.ensures in
    let left = kind_leaves c.at-place.result c.in_ok-kind.kind c.byte.new.cursor (content_of c.in_ok-content.content) c.front.new.cursor c.in_ok-content.ensures in
    left.short (omega (arith, kind.at, ap length kind.rest, c.loop-exprs.invariant.within))

pub loop-exprs-preserved : goal.loop-exprs-preserved
loop-exprs-preserved c =
    let kind = kind_read c.bad_at.result c.loop-exprs.cursor c.in_ok-kind.kind c.byte.new.cursor c.in_ok-kind.ensures in
    let x = content_of c.in_ok-content.content in
    let left = kind_leaves c.at-place.result c.in_ok-kind.kind c.byte.new.cursor x c.front.new.cursor c.in_ok-content.ensures in
    let step = goes_on in_lists (bad_list c.args.at) c.loop-exprs.cursor c.byte.new.cursor c.in_ok-kind.kind kind c.loop-exprs.exprs.items c.at-place.result c.at-place.ensures c.if-kind-eq-DW_LLE_END_OF_LIST.false x
    c.front.new.cursor c.in_ok-content.ensures c.push_expr.new.exprs.items c.in_ok-push_expr.ensures in
    record { within = omega (arith, left.end, kind.at, ap length kind.rest, c.loop-exprs.invariant.within); same = sym step ∙ c.loop-exprs.invariant.same }

pub loop-exprs-smaller : goal.loop-exprs-smaller
loop-exprs-smaller c =
    let kind = kind_read c.bad_at.result c.loop-exprs.cursor c.in_ok-kind.kind c.byte.new.cursor c.in_ok-kind.ensures in
    let left = kind_leaves c.at-place.result c.in_ok-kind.kind c.byte.new.cursor (content_of c.in_ok-content.content) c.front.new.cursor c.in_ok-content.ensures in
    omega (arith, left.fewer, ap length kind.rest)

pub returns-in_err-kind : goal.returns-in_err-kind
returns-in_err-kind c =
    let p = err_from_is_err_and c.from_residual.result c.from_residual.ensures.1 in
    rw (p.1, p.2) (fails_same c.in_err-kind.field-0.0 _ _
    (λ f is. list_fails in_lists c.args.section.now c.args.at f (sym c.loop-exprs.invariant.same ∙ no_kind in_lists (bad_list c.args.at) c.loop-exprs.exprs.items c.loop-exprs.cursor c.at-place.result
    c.at-place.ensures c.bad_at.result c.bad_at.ensures f is))
    c.in_err-kind.ensures)

pub returns-in_err-content : goal.returns-in_err-content
returns-in_err-content c =
    let p = err_from_is_err_and c.from_residual-in_err-content.result c.from_residual-in_err-content.ensures.1 in
    let kind = kind_read c.bad_at.result c.loop-exprs.cursor c.in_ok-kind.kind c.byte.new.cursor c.in_ok-kind.ensures in
    rw (p.1, p.2) (fails_same c.in_err-content.field-0.0 _ _
    (λ f is. list_fails in_lists c.args.section.now c.args.at f (sym c.loop-exprs.invariant.same ∙ front_stops in_lists (bad_list c.args.at) c.loop-exprs.cursor c.byte.new.cursor c.in_ok-kind.kind
    kind c.loop-exprs.exprs.items c.at-place.result c.at-place.ensures c.if-kind-eq-DW_LLE_END_OF_LIST.false f is))
    c.in_err-content.ensures)

pub returns-in_err-push_expr : goal.returns-in_err-push_expr
returns-in_err-push_expr c =
    let p = err_from_is_err_and c.from_residual-in_err-push_expr.result c.from_residual-in_err-push_expr.ensures.1 in
    let kind = kind_read c.bad_at.result c.loop-exprs.cursor c.in_ok-kind.kind c.byte.new.cursor c.in_ok-kind.ensures in
    rw (p.1, p.2) (fails_same c.in_err-push_expr.field-0.0 _ _
    (λ f is. list_fails in_lists c.args.section.now c.args.at f (sym c.loop-exprs.invariant.same ∙ expr_stops in_lists (bad_list c.args.at) c.loop-exprs.cursor c.byte.new.cursor c.in_ok-kind.kind kind
    c.loop-exprs.exprs.items c.at-place.result c.at-place.ensures c.if-kind-eq-DW_LLE_END_OF_LIST.false (content_of c.in_ok-content.content) c.front.new.cursor c.in_ok-content.ensures f is))
    c.in_err-push_expr.ensures)

pub returns-then-kind-eq-DW_LLE_END_OF_LIST : goal.returns-then-kind-eq-DW_LLE_END_OF_LIST
returns-then-kind-eq-DW_LLE_END_OF_LIST c =
    let kind = kind_read c.bad_at.result c.loop-exprs.cursor c.in_ok-kind.kind c.byte.new.cursor c.in_ok-kind.ensures in
    let ends = list_ends in_lists (bad_list c.args.at) c.loop-exprs.cursor c.byte.new.cursor c.in_ok-kind.kind kind c.loop-exprs.exprs.items c.if-kind-eq-DW_LLE_END_OF_LIST.true in
    list_given in_lists c.args.section.now c.args.at c.loop-exprs.exprs.items c.byte.new.cursor c.at-end.result c.at-end.ensures (sym c.loop-exprs.invariant.same ∙ ends)
