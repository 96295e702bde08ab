use Rattle.std.proofs.Common.{refl}
use Rattle.dwz_unit.specs.Rows.{units_of}
use Rattle.dwz_imports.proofs.RootPlaces.{part_is, part_none, roots_rise}
use Rattle.dwz_imports.proofs.roots.part_at.Goals as goal

pub returns-in-None : goal.returns-in-None
returns-in-None c = part_none (units_of c.args.units.now) c.args.place (c.in-None.ensures.none refl)

pub returns-then-unit-eq-DW_UT_PARTIAL : goal.returns-then-unit-eq-DW_UT_PARTIAL
returns-then-unit-eq-DW_UT_PARTIAL c =
    part_is (units_of c.args.units.now) c.args.place c.in-Some.n c.unit.result _ (roots_rise c.args.units.now) c.unit.ensures c.in-Some.ensures.found.1 c.in-Some.ensures.found.0 (λ e. refl)
    (λ no. absurd (no c.if-unit-eq-DW_UT_PARTIAL.true))

pub returns-else-unit-eq-DW_UT_PARTIAL : goal.returns-else-unit-eq-DW_UT_PARTIAL
returns-else-unit-eq-DW_UT_PARTIAL c =
    part_is (units_of c.args.units.now) c.args.place c.in-Some.n c.unit.result _ (roots_rise c.args.units.now) c.unit.ensures c.in-Some.ensures.found.1 c.in-Some.ensures.found.0
    (λ e. absurd (c.if-unit-eq-DW_UT_PARTIAL.false e)) (λ no. refl)
