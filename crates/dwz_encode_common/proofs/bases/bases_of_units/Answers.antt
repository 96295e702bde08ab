use Rattle.std.proofs.Common.{[], arith}
use Rattle.dwz_unit.specs.Rows.{units_of}
use Rattle.dwz_unit.proofs.UnitThere.{unit_ends, unit_there}
use Rattle.dwz_encode_texts.proofs.TextSteps.{map_push}
use Rattle.dwz_encode_common.specs.Stored.{slots_base}
use Rattle.dwz_encode_common.proofs.bases.bases_of_units.Goals as goal

pub here_of-requires : goal.here_of-requires
here_of-requires c =
    let raw = units_of c.args.units.now in
    let t = unit_there raw c.loop-n.n c.unit-unit.result c.unit-unit.ensures in
    let within = unit_ends raw c.loop-n.n c.unit-unit.result t in
    omega arith

pub loop-n-preserved : goal.loop-n-preserved
loop-n-preserved c =
    let raw = units_of c.args.units.now in
    let h = c.here_of.ensures c.unit-unit.ensures in
    map_push slots_base raw c.loop-n.n h.u [] c.loop-n.bases.items c.push.new.self.items c.here_of.result.offsets h.is_unit
    c.loop-n.invariant h.here.base
    c.in_ok-push.ensures.items
