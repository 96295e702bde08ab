use Rattle.std.proofs.Common.{arith}
use Rattle.dwz_encode_operands.proofs.EntryLemmas.{rows_all, rows_end, rows_more}
use Rattle.dwz_unit.specs.Rows.{rows_of, units_of}
use Rattle.dwz_encode_operands.proofs.spoken.note_entries.Goals as goal

pub loop-i-init : goal.loop-i-init
loop-i-init c = λ s rows after_them ds after more plain found count means is are.
    rows_all s after more c.args.first.now (rows_of (units_of c.args.units.now)) rows after_them c.args.from c.args.end ds c.args.targets.now found count means are

pub loop-i-preserved : goal.loop-i-preserved
loop-i-preserved c = λ s rows after_them ds after more plain found count means is are.
    rows_more s after more c.args.first.now (rows_of (units_of c.args.units.now)) rows c.loop-i.i c.args.end c.loop-i.first c.note_entry.new.first c.loop-i.left.now c.in_ok-left.left.now
    c.loop-i-test.true
    (c.loop-i.invariant s rows after_them ds after more plain found count means is are) (λ row d others got m t. c.in_ok-left.ensures s row d after others plain got m is t)

pub returns : goal.returns
returns c = λ s rows after_them ds after more plain found count means is are.
    rows_end s after more c.args.first.now (rows_of (units_of c.args.units.now)) rows c.loop-i.i c.args.end c.loop-i.first c.loop-i.left.now (omega (arith, c.loop-i-test.false))
    (c.loop-i.invariant s rows after_them ds after more plain found count means is are)
