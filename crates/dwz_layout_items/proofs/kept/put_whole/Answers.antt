use Rattle.std.proofs.Common.{◌∙◌, ap}
use Rattle.dwz_layout_items.specs.Order.{order_lines}
use Rattle.dwz_layout_items.proofs.LineLemmas.{order_one}
use Rattle.dwz_layout_items.proofs.kept.put_whole.Goals as goal

pub returns : goal.returns
returns c = λ names. ap (order_lines names) c.in_ok-push.ensures.items ∙ order_one names c.args.order.now.items _
