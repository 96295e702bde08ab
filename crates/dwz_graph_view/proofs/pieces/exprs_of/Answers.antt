use Rattle.std.proofs.Common.{◌≡◌, Some, map, ap, sym, ◌∙◌}
use Rattle.std.specs.List.{flat_map}
use Rattle.dwz_def_reading.specs.Exprs.{first_unnamed}
use Rattle.dwz_def_reading.proofs.ListFacts.{drop_here, item_got}
use Rattle.dwz_graph.specs.Operands.{is_named}
use Rattle.dwz_graph_view.specs.ValueViews.{named_in, part_of}
use Rattle.dwz_graph_view.proofs.PieceSteps.{first_expr, last_exprs, last_places, next_expr, next_places, of_expr}
use Rattle.dwz_graph_view.proofs.pieces.exprs_of.Goals as goal

pub returns-in_default : goal.returns-in_default
returns-in_default c = λ s knows named. (
    let exprs = c.args.exprs.now in
    let k = c.loop-expr.expr-index in
    let e = c.expr-item.result in
    let here = drop_here exprs k e (item_got exprs k e c.loop-expr-test.true c.expr-item.is) in
    let first = first_expr (is_named s) exprs k e here (c.loop-expr.invariant s knows named).1 in
    let are = c.in_ok-pieces.ensures s knows (ap (first_unnamed (is_named s)) c.operands.ensures ∙ first.0) in
    absurd (c.in_default.not-Some are.pieces are.is))

pub loop-expr-preserved : goal.loop-expr-preserved
loop-expr-preserved c = λ s knows named. (
    let exprs = c.args.exprs.now in
    let file = c.args.setting.now.file in
    let k = c.loop-expr.expr-index in
    let e = c.expr-item.result in
    let inv = c.loop-expr.invariant s knows named in
    let here = drop_here exprs k e (item_got exprs k e c.loop-expr-test.true c.expr-item.is) in
    let first = first_expr (is_named s) exprs k e here inv.1 in
    let o = c.in_ok-pieces.field-0 in
    let are = of_expr file s e c.at.result c.bytes.result.now c.operands.result.now o c.at.ensures c.bytes.ensures c.operands.ensures
    (c.in_ok-pieces.ensures s knows (ap (first_unnamed (is_named s)) c.operands.ensures ∙ first.0)) in
    let pieces = c.in-Some.pieces in
    let both : Some pieces ≡ Some are.pieces = sym c.in-Some.is ∙ are.is in
    let one : pieces ≡ are.pieces = cc in
    let out = c.loop-expr.shown.items in
    let new = c.push.new.self.items in (
      next_expr exprs k e here out new pieces c.in_ok-push.ensures.items _ (ap (map part_of) one ∙ are.parts) inv.0,
      first.1,
      next_places exprs k e here out new pieces c.in_ok-push.ensures.items file s _ (ap (flat_map named_in) one ∙ are.named) inv.2,
    ))

pub returns : goal.returns
returns c = λ s knows named. (
    let exprs = c.args.exprs.now in
    let k = c.loop-expr.expr-index in
    let inv = c.loop-expr.invariant s knows named in
    let out = c.loop-expr.shown.items in
    record {
      shown = out;
      is = ap Some c.new.ensures;
      parts = last_exprs exprs k out _ c.loop-expr-test.false inv.0;
      named = last_places c.args.setting.now.file s exprs k out _ c.loop-expr-test.false inv.2;
    })
