use Rattle.std.proofs.Common.{[], sym, ap, arith}
use Rattle.dwz_def_reading.specs.Units.{RawUnit}
use Rattle.dwz_unit.proofs.RowsFound.{row_is}
use Rattle.dwz_unit.proofs.UnitThere.{root_found, unit_ends, unit_there}
use Rattle.dwz_unit.specs.declared.rows.RawEntry.{RawEntry as EntryOfCode}
use Rattle.dwz_unit.specs.Rows.{units_of}
use Rattle.dwz_unit.proofs.FlatLemmas.{all_added, one_added}
use Rattle.dwz_layout.proofs.standing.standing_roots.Goals as goal

pub entry-root-requires : goal.entry-root-requires
entry-root-requires c =
    let raw = units_of c.args.common.now in
    let t = unit_there raw c.loop-n.n c.unit-unit.result c.unit-unit.ensures in
    let within = unit_ends raw c.loop-n.n c.unit-unit.result t in
    omega arith

pub loop-n-preserved : goal.loop-n-preserved
loop-n-preserved c =
    let raw = units_of c.args.common.now in
    let t = unit_there raw c.loop-n.n c.unit-unit.result c.unit-unit.ensures in
    let at = ap (λ (e : EntryOfCode). e.at) (row_is raw c.unit-unit.result.first c.entry-root.result _ c.entry-root.ensures.entry (root_found raw c.loop-n.n c.unit-unit.result t)) in
    one_added (λ (u : RawUnit). u.root.at) raw c.loop-n.n t.u c.entry-root.result.at [] c.loop-n.roots.items c.push.new.self.items t.is_unit (sym at) c.in_ok-push.ensures.items c.loop-n.invariant

pub returns : goal.returns
returns c =
    let raw = units_of c.args.common.now in
    all_added (λ (u : RawUnit). u.root.at) raw c.loop-n.n [] c.loop-n.roots.items (omega (arith, c.loop-n-test.false)) c.loop-n.invariant
