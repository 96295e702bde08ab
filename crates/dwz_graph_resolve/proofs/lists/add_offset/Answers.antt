use Rattle.std.proofs.Common.{true, sym, ◌∙◌}
use Rattle.dwz_def_reading.specs.Classes.{names_list}
use Rattle.dwz_unit.specs.Rows.{units_of}
use Rattle.dwz_graph_resolve.specs.Surroundings.{scope_within}
use Rattle.dwz_graph_resolve.proofs.ListGoes.{adds_if}
use Rattle.dwz_graph_resolve.proofs.lists.add_offset.Goals as goal

pub returns-then-names_list-clause-goes : goal.returns-then-names_list-clause-goes
returns-then-names_list-clause-goes c = λ u before here k. (
    let raw = units_of c.args.units.now in
    let s = scope_within c.args.around.now raw u in
    adds_if raw s c.args.here.now.number c.args.at c.args.offset true (names_list c.args.name) before c.args.state.now c.add_list.new.state c.add_list.result
    (sym c.if-names_list.true ∙ c.names_list.ensures) (c.add_list.ensures.goes u before here k))
