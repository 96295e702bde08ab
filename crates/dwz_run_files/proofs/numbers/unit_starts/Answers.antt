use Rattle.std.proofs.Common.{[], sym, ap}
use Rattle.dwz_def_reading.specs.Units.{RawUnit}
use Rattle.dwz_unit.specs.declared.rows.RawUnit.{RawUnit as UnitOfCode}
use Rattle.dwz_unit.specs.Rows.{units_of}
use Rattle.dwz_unit.proofs.UnitThere.{unit_there}
use Rattle.dwz_encode_texts.proofs.TextSteps.{map_push}
use Rattle.dwz_run_files.proofs.numbers.unit_starts.Goals as goal

pub loop-n-preserved : goal.loop-n-preserved
loop-n-preserved c =
    let raw = units_of c.args.units.now in
    let t = unit_there raw c.loop-n.n c.unit.result c.unit.ensures in
    map_push (λ (u : RawUnit). u.at) raw c.loop-n.n t.u [] c.loop-n.starts.items c.push.new.self.items c.unit.result.at t.is_unit
    c.loop-n.invariant
    (ap (λ (o : UnitOfCode). o.at) (sym t.shown)) c.in_ok-push.ensures.items
