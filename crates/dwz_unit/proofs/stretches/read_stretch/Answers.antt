use Rattle.std.proofs.Common.{◌∙◌, arith}
use Rattle.dwz_unit.specs.Kept.{known_in}
use Rattle.dwz_unit.specs.Modes.{mode_view}
use Rattle.dwz_unit.proofs.ReadLemmas.{nearer}
use Rattle.dwz_unit.proofs.StretchLemmas.{fewer_units, none_read, one_read}
use Rattle.dwz_unit.proofs.stretches.read_stretch.Goals as goal

pub loop-at-init : goal.loop-at-init
loop-at-init c = rw (c.new-units.ensures.items, c.new-entries.ensures.items) (none_read c.args.info.now c.args.mode c.args.tables.now c.args.first c.requires.first)

pub unit_by-requires-clause-number : goal.unit_by-requires-clause-number
unit_by-requires-clause-number c =
    let fewer = fewer_units c.args.info.now c.args.mode c.args.tables.now c.args.first c.loop-at.at c.loop-at.units.items c.loop-at.entries.items c.loop-at.invariant in
    omega (arith, fewer, c.len.ensures, c.loop-at.units.ok.0)

pub loop-at-smaller : goal.loop-at-smaller
loop-at-smaller c =
    let end = c.requires.end in
    let test = c.loop-at-test.true in
    nearer c.args.info.now c.loop-at.at (mode_view c.args.mode) c.len.result c.args.tables.now c.in-Some.unit (known_in c.args.tables.now c.loop-at.entries.items)
    (known_in c.args.tables.now c.unit_by.new.entries.items) (omega (arith, end, test)) c.in-Some.ensures.unit

pub loop-at-preserved : goal.loop-at-preserved
loop-at-preserved c =
    one_read c.args.info.now c.args.mode c.args.tables.now c.args.first c.loop-at.at c.loop-at.units.items c.loop-at.entries.items c.loop-at.invariant c.len.result c.in-Some.unit
    c.push.new.self.items c.unit_by.new.entries.items (c.len.ensures ∙ c.loop-at.units.ok.0) c.in-Some.ensures.unit c.in-Some.ensures.room c.in_ok-push.ensures.items
