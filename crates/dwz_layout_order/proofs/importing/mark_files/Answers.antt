use Rattle.std.proofs.Common.{arith}
use Rattle.dwz_layout_order.proofs.ImportingLemmas.{files_all, files_more, no_files}
use Rattle.dwz_layout_order.proofs.importing.mark_files.Goals as goal

pub loop-unit-init : goal.loop-unit-init
loop-unit-init c = no_files c.args.files_of_units.now c.args.units.now c.args.flags.now.items

pub loop-unit-preserved : goal.loop-unit-preserved
loop-unit-preserved c =
    files_more c.args.files_of_units.now c.args.units.now c.loop-unit.unit-index c.file_of.result c.args.flags.now.items c.loop-unit.flags.items
    c.mark.new.marks.items c.loop-unit-test.true c.file_of.ensures c.loop-unit.invariant c.mark.ensures

pub returns : goal.returns
returns c = files_all c.args.files_of_units.now c.args.units.now c.loop-unit.unit-index c.args.flags.now.items c.loop-unit.flags.items (omega (arith, c.loop-unit-test.false)) c.loop-unit.invariant
