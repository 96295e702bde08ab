use Rattle.std.proofs.Common.{◌∙◌, sym}
use Rattle.dwz_unit.specs.Rows.{units_of}
use Rattle.dwz_expand_passes.proofs.RoleSteps.{kind_shown, partial_unit, whole_unit}
use Rattle.dwz_expand_passes.proofs.values.role_of.Goals as goal

pub returns-then-unit-eq-DW_UT_PARTIAL : goal.returns-then-unit-eq-DW_UT_PARTIAL
returns-then-unit-eq-DW_UT_PARTIAL c = λ u there.
    partial_unit u.kind (sym (kind_shown (units_of c.args.units.now) c.args.unit 0 u c.unit.result there c.unit.ensures) ∙ c.if-unit-eq-DW_UT_PARTIAL.true)

pub returns-else-unit-eq-DW_UT_PARTIAL : goal.returns-else-unit-eq-DW_UT_PARTIAL
returns-else-unit-eq-DW_UT_PARTIAL c = λ u there.
    whole_unit u.kind (λ is. c.if-unit-eq-DW_UT_PARTIAL.false (kind_shown (units_of c.args.units.now) c.args.unit 0 u c.unit.result there c.unit.ensures ∙ is))
