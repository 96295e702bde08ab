use Rattle.std.proofs.Common.{◌≡◌, ◌∙◌, ◌∷◌, ◌++◌, List, length, sym, ap, subst, arith}
use Rattle.dwz_layout_items.specs.declared.order.Outer.{Outer}
use Rattle.dwz_layout_items.specs.Order.{order_lines}
use Rattle.dwz_layout_items.specs.Parts.{part_lines}
use Rattle.dwz_layout_items.proofs.StepLemmas.{LeftOf, none_left, passed, taken}
use Rattle.dwz_layout_items.proofs.kept.+put_part.Goals as goal

pub outers-preserved-in_ok-put_part-2 : goal.outers-preserved-in_ok-put_part-2
outers-preserved-in_ok-put_part-2 t c =
    let shape : c.outers.left.now ≡ c.in-Some.outer.now ∷ c.in-Some.behind.now = c.in-Some.ensures.cases.0 in
    record {
      short = omega (arith, ap length shape, c.split_at.ensures.back_len);
      left = λ v row s.
          taken v c.args.depth c.args.pinned c.in-Some.outer.now c.in-Some.behind.now c.split_at.result.0.now c.split_at.result.1.now c.at_most.result c.outers.order.items c.push.new.self.items
          c.put_part.new.order.items c.put_part-then-is_wanted.new.order.items _
          c.at_most.ensures.is c.split_at.ensures.front c.split_at.ensures.back (sym c.is_wanted.ensures ∙ c.if-is_wanted.true) c.in_ok-push.ensures.items c.in_ok-put_part.ensures
          c.in_ok-put_part-2.ensures
          (subst (λ (w : List Outer). LeftOf v c.args.depth c.args.pinned w (order_lines v.names c.outers.order.items)
          (order_lines v.names c.args.order.now.items ++ part_lines v c.args.depth c.args.pinned row)) shape (c.outers.invariant.left v row s));
    }

pub outers-preserved : goal.outers-preserved
outers-preserved t c =
    let shape : c.outers.left.now ≡ c.in-Some.outer.now ∷ c.in-Some.behind.now = c.in-Some.ensures.cases.0 in
    record {
      short = omega (arith, ap length shape, c.split_at.ensures.back_len);
      left = λ v row s.
          passed v c.args.depth c.args.pinned c.in-Some.outer.now c.in-Some.behind.now c.split_at.result.1.now c.at_most.result (order_lines v.names c.outers.order.items) _
          c.at_most.ensures.is c.split_at.ensures.back (sym c.is_wanted.ensures ∙ c.if-is_wanted.false)
          (subst (λ (w : List Outer). LeftOf v c.args.depth c.args.pinned w (order_lines v.names c.outers.order.items)
          (order_lines v.names c.args.order.now.items ++ part_lines v c.args.depth c.args.pinned row)) shape (c.outers.invariant.left v row s));
    }

pub returns : goal.returns
returns t c = λ v row s. none_left v c.args.depth c.args.pinned c.outers.left.now (order_lines v.names c.outers.order.items) _ c.in_default.ensures.cases (c.outers.invariant.left v row s)
