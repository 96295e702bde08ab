use Rattle.std.proofs.Common.{◌<◌, length, arith}
use Rattle.dwz_check_rows.specs.UnitRows.{IsInside}
use Rattle.dwz_check_rows.specs.declared.columns.RowKind.TheVariants.{Compile}
use Rattle.dwz_check_rows.specs.declared.columns.UnitNodes.{UnitNodes}
use Rattle.dwz_test_check.proofs.RowLemmas.{all_of, one_more}
use Rattle.dwz_test_check.proofs.fitting.are_inside.Goals as goal

-- what is read where there is no item
abbrev first_unit : UnitNodes
first_unit = record { kind = Compile 0 0; top = 0; tops_end = 0 }

pub loop-unit-preserved : goal.loop-unit-preserved
loop-unit-preserved c =
    let there : c.loop-unit.unit-index < length c.args.units.now = omega arith in
    one_more (IsInside c.args.count) c.args.units.now c.loop-unit.unit-index first_unit there (c.is_inside.ensures c.if-not-is_inside.false) c.loop-unit.invariant

pub returns : goal.returns
returns c = λ _. all_of (IsInside c.args.count) c.args.units.now c.loop-unit.unit-index (let end = c.loop-unit-test.false in end) c.loop-unit.invariant
