use Rattle.std.proofs.Common.{◌+◌, ap, refl, arith}
use Rattle.dwz_unit.specs.Rows.{units_of}
use Rattle.dwz_imports.proofs.NamedParts.{common_none, common_some, part_below}
use Rattle.dwz_imports.proofs.entries.part_behind.Goals as goal

pub overflow_add-result : goal.overflow_add-result
overflow_add-result c = let low = part_below (units_of c.args.common.now) _ c.in-Some.n ((c.in-Some.ensures c.in-Some.n).0 refl) in omega (arith, low, c.len.ensures, c.requires)

pub returns-in-None : goal.returns-in-None
returns-in-None c = common_none (units_of c.args.own.now) (units_of c.args.common.now) c.args.place c.in-None.ensures

pub returns-in-Some : goal.returns-in-Some
returns-in-Some c = common_some (units_of c.args.own.now) (units_of c.args.common.now) c.args.place c.in-Some.n _ (ap (λ k. k + c.in-Some.n) c.len.ensures) c.in-Some.ensures
