use Rattle.std.proofs.Common.{◌++◌, List, ap, ◌∙◌}
use Rattle.dwz_layout_items.specs.declared.order.Item.{Item}
use Rattle.dwz_layout_items.specs.Chains.{down, names_at, partial_lines}
use Rattle.dwz_layout_items.specs.Order.{order_lines}
use Rattle.dwz_layout_order.proofs.parts.part_items.Goals as goal

pub returns-clause-items : goal.returns-clause-items
unfolding order_lines
returns-clause-items c = λ names ups up. ap (order_lines names) c.new.ensures ∙ c.in_ok-put_partial.ensures names ups up
    ∙ ap (λ (w : List Item). order_lines names w ++ partial_lines names (λ t. down (ups t)) (names_at c.args.of_tops.now) c.args.tops.now) c.new-items.ensures.items
