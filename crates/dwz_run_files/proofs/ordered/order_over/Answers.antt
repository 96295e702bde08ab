use Rattle.std.proofs.Common.{ℕ, List, Bool, length, ap, ◌∙◌, arith}
use Rattle.dwz_layout.specs.declared.order.UnitItems.{UnitItems}
use Rattle.dwz_law_layout.specs.Beside.{Over}
use Rattle.dwz_run_files.specs.Prepared.{firsts_from}
use Rattle.dwz_run_files.proofs.OverSettled.{imports_over, parts_over}
use Rattle.dwz_run_files.proofs.ordered.order_over.Goals as goal

pub orders_over-requires-clause-settled : goal.orders_over-requires-clause-settled
orders_over-requires-clause-settled c = c.requires.run.1.fits c.as_settled-settled.result c.as_settled-settled.ensures

pub orders_over-requires-clause-files : goal.orders_over-requires-clause-files
orders_over-requires-clause-files c =
    parts_over c.requires.run.0 c.args.graph.now.given c.args.run.now c.requires.run.1 c.as_settled-settled.result c.as_settled-settled.ensures

pub orders_over-requires-clause-imports : goal.orders_over-requires-clause-imports
orders_over-requires-clause-imports c =
    imports_over c.requires.run.0 c.args.graph.now.given c.args.run.now c.requires.run.1 c.as_settled-settled.result c.as_settled-settled.ensures

pub ranks_of-requires : goal.ranks_of-requires
ranks_of-requires c =
    let same = ap (λ (w : List Bool). length w) c.as_slice.ensures.value in
    let many = c.requires.run.1.many in
    let few = c.requires.few in
    omega (arith, same, many, few)

pub returns : goal.returns
returns c s is same = record {
  lent = c.as_settled-settled.result;
  lends = c.as_settled-settled.ensures;
  are = c.in_ok-orders.ensures c.args.run.now.indexes.now is.indexed;
  ranks = λ f flags. c.in_ok-ranks.ensures.ranks (Over s) f (c.as_slice.ensures.value ∙ flags);
  firsts =
      c.in_ok-firsts.ensures
      ∙ ap (λ (w : List (List UnitItems)). firsts_from c.args.commons w) c.as_slice-2.ensures.value
      ∙ ap (λ (n : ℕ). firsts_from n c.in_ok-orders.orders.items) same;
}
