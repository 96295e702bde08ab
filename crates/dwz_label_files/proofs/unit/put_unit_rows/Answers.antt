use Rattle.std.proofs.Common.{arith, subst, ℕ}
use Rattle.dwz_unit.specs.Rows.{units_of}
use Rattle.dwz_label_files.specs.Unit.{AddsRows}
use Rattle.dwz_label_files.proofs.RowLemmas.{no_rows, rows_more}
use Rattle.dwz_label_files.proofs.unit.put_unit_rows.Goals as goal

pub loop-n-init : goal.loop-n-init
loop-n-init c = no_rows (units_of c.args.units.now) c.args.rows.now.items

pub loop-n-preserved : goal.loop-n-preserved
loop-n-preserved c = rows_more (units_of c.args.units.now) c.loop-n.n c.args.rows.now.items c.loop-n.rows.items c.push.new.self.items c.unit_row.result c.loop-n.invariant c.unit_row.ensures
    c.in_ok-push.ensures.items

pub returns : goal.returns
returns c = subst (λ (n : ℕ). AddsRows (units_of c.args.units.now) n c.args.rows.now.items c.loop-n.rows.items) (let end = c.len-n-end.ensures in omega arith) c.loop-n.invariant
