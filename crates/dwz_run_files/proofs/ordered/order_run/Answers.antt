use Rattle.std.proofs.Common.{List, ap, ◌∙◌}
use Rattle.dwz_layout.specs.declared.order.UnitItems.{UnitItems}
use Rattle.dwz_law_layout.specs.Beside.{Alone}
use Rattle.dwz_run_files.specs.Prepared.{firsts_from}
use Rattle.dwz_run_files.proofs.ordered.order_run.Goals as goal

pub returns : goal.returns
returns c = record {
  order = c.in_ok-orders.ensures;
  ranks = λ f same. c.in_ok-ranks.ensures.ranks Alone f (c.as_slice.ensures.value ∙ same);
  firsts = c.in_ok-firsts.ensures ∙ ap (λ (w : List (List UnitItems)). firsts_from 0 w) c.as_slice-2.ensures.value;
}
