use Rattle.std.proofs.Common.{◌+◌, subst, ◌∙◌, arith}
use Rattle.dwz_graph.specs.declared.index.Starts.{Starts}
use Rattle.dwz_layout_order.specs.Kept.{AreKept, imports_at}
use Rattle.dwz_unit.specs.Rows.{units_of as raw_units}
use Rattle.dwz_layout_order.proofs.PartSteps.{hold_spaced, numbers_low, parts_put}
use Rattle.dwz_layout_order.proofs.orders.file_items.Goals as goal

pub parts_items-requires-clause-there : goal.parts_items-requires-clause-there
parts_items-requires-clause-there c = numbers_low c.args.settled.now c.args.number c.args.numbers.now c.requires.numbers

pub parts_items-requires-clause-inside : goal.parts_items-requires-clause-inside
parts_items-requires-clause-inside c = hold_spaced (c.args.number + 1) c.args.settled.now c.args.number c.args.numbers.now c.requires.settled (omega arith) c.requires.numbers

pub returns : goal.returns
returns c =
    let s = c.args.settled.now in
    let raw = raw_units c.args.file.now.units in
    let k = c.in_ok-put_units.ensures in
    record {
      parts = c.in_ok-order.order.items;
      olds = k.more;
      order_is = c.new.ensures ∙ k.order;
      parts_put = parts_put s c.args.number c.args.numbers.now c.in_ok-order.order.items c.requires.numbers c.in_ok-order.ensures;
      olds_kept = subst (λ (w : Starts). AreKept raw s.marks (imports_at s.plan.now) (record { file = c.args.number; start = c.args.start; unit = w.unit; first = 0 })
          (record { top = w.top; space = w.space }) raw k.more) c.starts-starts.ensures k.kept;
    }
