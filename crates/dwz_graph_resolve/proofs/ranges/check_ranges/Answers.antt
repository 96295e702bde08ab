use Rattle.std.proofs.Common.{sym, subst, arith}
use Rattle.dwz_def_reading.specs.Input.{input}
use Rattle.dwz_def_reading.specs.Files.{is_place_of}
use Rattle.dwz_def_reading.specs.Ranges.{bad_ranges, sets_at}
use Rattle.dwz_aranges.specs.Views.{set_view}
use Rattle.dwz_aranges.proofs.TestLemmas.{known, no_set, unknown}
use Rattle.dwz_model.specs.declared.fault.ReadErr.{ReadErr}
use Rattle.dwz_def_reading.specs.Faults.{Fails}
use Rattle.dwz_unit.specs.Rows.{units_of}
use Rattle.dwz_graph_resolve.proofs.SetSteps.{leads_self, set_fails, set_read, sets_end}
use Rattle.dwz_graph_resolve.proofs.ranges.check_ranges.Goals as goal

pub loop-at-init : goal.loop-at-init
loop-at-init c = leads_self (sets_at (is_place_of (units_of c.args.units.now)) (input c.args.section.now 0))

pub returns-in_default : goal.returns-in_default
returns-in_default c =
    let is_unit = is_place_of (units_of c.args.units.now) in
    let whole = sets_at is_unit (input c.args.section.now 0) in
    subst (λ (e : ReadErr). Fails e whole) (sym c.bad_set.ensures)
    (set_fails is_unit c.args.section.now c.loop-at.at (bad_ranges c.loop-at.at) whole c.loop-at-test.true (no_set is_unit (input c.args.section.now c.loop-at.at) c.in_default.ensures)
    c.loop-at.invariant)

pub returns-then-not-is_unit : goal.returns-then-not-is_unit
returns-then-not-is_unit c =
    let is_unit = is_place_of (units_of c.args.units.now) in
    let whole = sets_at is_unit (input c.args.section.now 0) in
    let is = c.in-Some.ensures in
    subst (λ (e : ReadErr). Fails e whole) (sym c.bad_set-then-not-is_unit.ensures)
    (set_fails is_unit c.args.section.now c.loop-at.at (bad_ranges c.loop-at.at) whole c.loop-at-test.true
    (unknown is_unit (input c.args.section.now c.loop-at.at) (input c.args.section.now c.in-Some.behind) (set_view c.in-Some.set) is.read (sym c.if-not-is_unit.ensures)) c.loop-at.invariant)

pub loop-at-preserved : goal.loop-at-preserved
loop-at-preserved c =
    let is_unit = is_place_of (units_of c.args.units.now) in
    let whole = sets_at is_unit (input c.args.section.now 0) in
    let is = c.in-Some.ensures in
    set_read is_unit c.args.section.now c.loop-at.at c.in-Some.behind (set_view c.in-Some.set) whole c.loop-at-test.true
    (known is_unit (input c.args.section.now c.loop-at.at) (input c.args.section.now c.in-Some.behind) (set_view c.in-Some.set) is.read (sym c.if-not-is_unit.ensures)) c.loop-at.invariant

pub loop-at-smaller : goal.loop-at-smaller
loop-at-smaller c =
    let is = c.in-Some.ensures in
    let some = is.some in
    let within = is.within in
    omega arith

pub returns : goal.returns
returns c = c.loop-at.invariant.good (sets_end (is_place_of (units_of c.args.units.now)) c.args.section.now c.loop-at.at c.loop-at-test.false)
