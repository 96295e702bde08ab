use Rattle.std.proofs.Common.{ℕ, ap, arith}
use Rattle.dwz_unit.specs.Rows.{units_of}
use Rattle.dwz_unit.proofs.ShownLemmas.{units_few}
use Rattle.dwz_graph.specs.Index.{Index}
use Rattle.dwz_graph.proofs.index.Index.behind.Goals as goal

abbrev unit_start : Index → ℕ
unit_start w = w.starts.unit

pub overflow_add-result : goal.overflow_add-result
overflow_add-result c =
    let few = units_few (units_of c.args.units.now) in
    let room = c.requires.room.units in
    let many = c.len.ensures in
    let same = ap unit_start c.self.view_is in
    omega arith
