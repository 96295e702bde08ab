use Rattle.std.proofs.Common.{arith}
use Rattle.dwz_unit.specs.Rows.{units_of}
use Rattle.dwz_layout_numbers.proofs.OwnerSteps.{units_all, units_more}
use Rattle.dwz_layout_numbers.proofs.owners.put_own_units.Goals as goal

pub loop-entry-preserved : goal.loop-entry-preserved
loop-entry-preserved c = units_more (units_of c.args.units.now) c.args.owners.now.items c.loop-entry.owners.items c.push.new.self.items c.loop-entry.entry c.entry.result
    (omega (arith, c.loop-entry-test.true, c.entries-entry-end.ensures)) c.entry.ensures.entry c.loop-entry.invariant c.in_ok-push.ensures.items

pub returns : goal.returns
returns c = units_all (units_of c.args.units.now) c.args.owners.now.items c.loop-entry.owners.items c.loop-entry.entry
    (omega (arith, c.loop-entry-test.false, c.entries-entry-end.ensures)) c.loop-entry.invariant
