use Rattle.std.proofs.Common.{ℕ, Option, List, map, arith, sym, subst}
use Rattle.std.specs.List.{list_any}
use Rattle.dwz_def_tops.specs.Alike.{entry_binds}
use Rattle.dwz_graph.specs.Rows.{node_refs}
use Rattle.dwz_def_reading.specs.Documents.{node_map}
use Rattle.dwz_unit.specs.Rows.{units_of}
use Rattle.dwz_move.specs.Bound.{AreInto}
use Rattle.dwz_move.proofs.TopSteps.{bind_all_rows, bind_next_row, bind_no_row}
use Rattle.dwz_reuse.proofs.entry_binds.entries_bind.Goals as goal

pub loop-i-init : goal.loop-i-init
loop-i-init c = λ s numbers rows after ds tops unit name has m into. bind_all_rows (units_of c.args.units.now) s tops unit name c.args.into.now c.args.starts.now c.args.end c.args.first numbers rows
    after ds m into

pub loop-i-preserved : goal.loop-i-preserved
loop-i-preserved c = λ s numbers rows after ds tops unit name has m into. (
    let raw = units_of c.args.units.now in
    let all = list_any (entry_binds tops unit) (map (node_map name) ds) in
    let n = bind_next_row raw s tops unit name c.args.into.now c.args.starts.now c.args.end c.loop-i.i all c.loop-i-test.true (c.loop-i.invariant s numbers rows after ds tops unit name has m into) in
    let says = c.in_ok-entry_binds.ensures s n.numbers n.r n.d tops unit name has n.meant (subst (λ (w : List (Option ℕ)). AreInto name w (node_refs n.d)) (sym c.from_entry-rest.ensures) n.tops_are) in
    n.more c.in_ok-entry_binds.field-0 says c.if-branch.false)

pub returns-then-branch : goal.returns-then-branch
returns-then-branch c = λ s numbers rows after ds tops unit name has m into. (
    let raw = units_of c.args.units.now in
    let all = list_any (entry_binds tops unit) (map (node_map name) ds) in
    let n = bind_next_row raw s tops unit name c.args.into.now c.args.starts.now c.args.end c.loop-i.i all c.loop-i-test.true (c.loop-i.invariant s numbers rows after ds tops unit name has m into) in
    let says = c.in_ok-entry_binds.ensures s n.numbers n.r n.d tops unit name has n.meant (subst (λ (w : List (Option ℕ)). AreInto name w (node_refs n.d)) (sym c.from_entry-rest.ensures) n.tops_are) in
    n.here c.in_ok-entry_binds.field-0 says c.if-branch.true)

pub returns : goal.returns
returns c = λ s numbers rows after ds tops unit name has m into. bind_no_row (units_of c.args.units.now) s tops unit name c.args.into.now c.args.starts.now c.args.end c.loop-i.i
    (list_any (entry_binds tops unit) (map (node_map name) ds)) (omega (arith, c.loop-i-test.false)) (c.loop-i.invariant s numbers rows after ds tops unit name has m into)
