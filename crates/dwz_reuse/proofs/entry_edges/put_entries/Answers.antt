use Rattle.std.proofs.Common.{ℕ, List, Option, arith, sym, subst}
use Rattle.dwz_graph.specs.Rows.{node_refs}
use Rattle.dwz_unit.specs.Rows.{units_of}
use Rattle.dwz_move.specs.Bound.{AreInto}
use Rattle.dwz_move.proofs.RowMarks.{rows_said}
use Rattle.dwz_reuse.specs.Puts.{goes_into}
use Rattle.dwz_reuse.proofs.PutSteps.{rows_all, rows_more, rows_none}
use Rattle.dwz_reuse.proofs.entry_edges.put_entries.Goals as goal

pub loop-i-init : goal.loop-i-init
loop-i-init c = λ s numbers rows after ds name m into. rows_all c.args.unit (units_of c.args.units.now) s name c.args.into.now c.args.starts.now c.args.end c.args.first numbers rows after ds
    c.args.edges.now.items m into

pub loop-i-preserved : goal.loop-i-preserved
loop-i-preserved c = λ s numbers rows after ds name m into. rows_more c.args.unit (units_of c.args.units.now) s name c.args.into.now c.args.starts.now c.args.end c.loop-i.i c.args.edges.now.items
    c.loop-i.edges.items c.put_entry.new.edges.items (rows_said goes_into name ds) c.loop-i-test.true
    (λ ns r d h k. c.in_ok-put_entry.ensures s ns r d name h (subst (λ (w : List (Option ℕ)). AreInto name w (node_refs d)) (sym c.from_entry.ensures) k))
    (c.loop-i.invariant s numbers rows after ds name m into)

pub returns : goal.returns
returns c = λ s numbers rows after ds name m into. rows_none c.args.unit (units_of c.args.units.now) s name c.args.into.now c.args.starts.now c.args.end c.loop-i.i
    c.args.edges.now.items c.loop-i.edges.items (rows_said goes_into name ds) (omega (arith, c.loop-i-test.false)) (c.loop-i.invariant s numbers rows after ds name m into)
