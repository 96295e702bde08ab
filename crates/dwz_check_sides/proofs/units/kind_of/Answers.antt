use Rattle.std.proofs.Common.{sym, ap, ◌∙◌}
use Rattle.dwz_unit.specs.declared.rows.RawUnit.{RawUnit as UnitOfCode}
use Rattle.dwz_check_sides.proofs.UnitNodes.{compile_kind, part_kind, type_kind}
use Rattle.dwz_check_sides.proofs.units.kind_of.Goals as goal

pub returns-then-unit-eq-DW_UT_COMPILE : goal.returns-then-unit-eq-DW_UT_COMPILE
returns-then-unit-eq-DW_UT_COMPILE c = λ first u is. compile_kind u.kind c.args.root c.args.spaces_end (ap (λ (w : UnitOfCode). w.kind) is ∙ c.if-unit-eq-DW_UT_COMPILE.true)

pub returns-then-unit-eq-DW_UT_TYPE : goal.returns-then-unit-eq-DW_UT_TYPE
returns-then-unit-eq-DW_UT_TYPE c = λ first u is. type_kind u.kind c.args.root c.args.spaces_end c.args.unit.now.signature (ap (λ (w : UnitOfCode). w.kind) is ∙ c.if-unit-eq-DW_UT_TYPE.true)
    (ap (λ (w : UnitOfCode). w.signature) (sym is))

pub returns : goal.returns
returns c = λ first u is. part_kind u.kind c.args.root c.args.spaces_end (λ e. c.if-unit-eq-DW_UT_COMPILE.false (ap (λ (w : UnitOfCode). w.kind) (sym is) ∙ e))
    (λ e. c.if-unit-eq-DW_UT_TYPE.false (ap (λ (w : UnitOfCode). w.kind) (sym is) ∙ e))
