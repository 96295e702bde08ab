use Rattle.std.proofs.Common.{◌<◌, [], get_or, arith}
use Rattle.dwz_model.specs.Lists.{Each}
use Rattle.dwz_model.proofs.Members.{each_below}
use Rattle.dwz_test_check.proofs.RowLemmas.{each_from_all}
use Rattle.dwz_test_check.proofs.fitting.are_imported.Goals as goal

pub returns : goal.returns
returns c = λ _. each_below (Each (λ y. y < c.args.count)) c.args.imports.now
    (λ k l. each_from_all (λ y. y < c.args.count) (get_or c.args.imports.now k []) (c.loop-unit.invariant k (let end = c.loop-unit-test.false in let len = c.len-unit-end.ensures in omega (arith, l, end, len))))
