use Rattle.std.proofs.Common.{ℕ, ◌-◌, List, Ok, drop, map, ◌++◌, sym, ap, subst, ◌∙◌}
use Rattle.std.proofs.lemmas.Result.{err_from_is_err_and}
use Rattle.dwz_unit.specs.Rows.{units_of}
use Rattle.dwz_graph_resolve.specs.ListRows.{Shows}
use Rattle.dwz_graph_resolve.specs.Named.{found}
use Rattle.dwz_graph_resolve.specs.Surroundings.{AreAmong, around_in, place_among}
use Rattle.dwz_graph_resolve.proofs.LineSteps.{have_lines}
use Rattle.dwz_graph_resolve.proofs.PartSteps.{none_parted}
use Rattle.dwz_graph_resolve.proofs.StateLemmas.{none_behind}
use Rattle.dwz_graph_resolve.proofs.stretches.read_stretch.Goals as goal

pub returns-in_err-add_units-clause-err : goal.returns-in_err-add_units-clause-err
returns-in_err-add_units-clause-err c =
    let p = err_from_is_err_and c.from_residual-in_err-add_units.result c.from_residual-in_err-add_units.ensures.1 in
    let raw = units_of c.args.units.now in
    let a = around_in c.args.around.now raw in
    let n = c.new-state.ensures in
    rw (p.1, p.2) (c.in_err-add_units.ensures.goes (none_behind raw a c.args.first c.new-state.result n.rows n.operands n.slots n.marks (n.tables a.sources)))

pub returns-clause-ok : goal.returns-clause-ok
returns-clause-ok c =
    let raw = units_of c.args.units.now in
    let s = c.args.around.now in
    let a = around_in s raw in
    let n = c.new-state.ensures in
    let none = none_behind raw a c.args.first c.new-state.result n.rows n.operands n.slots n.marks (n.tables a.sources) in
    let added = c.in_ok-add_units.ensures.goes none in
    let parted = c.in_ok-add_units.ensures.parts none
    (none_parted s raw c.args.first c.new-state.result c.in_ok-parts.parts n.refs c.in_ok-parts.ensures.starts c.in_ok-parts.ensures.lines) in
    let same = added.refs ∙ ap (λ (w : List ℕ). w ++ added.more) n.refs in
    record {
      order = c.requires.units.0;
      within = c.requires.units.1;
      lists = added.lists;
      named = added.is ∙ ap (λ (w : List ℕ). Ok (found (map (place_among a.common raw) w) added.lists)) (sym same);
      among = subst (λ (w : List ℕ). AreAmong a.common raw w) (sym same) added.within;
      starts = parted.starts;
      lines = have_lines a (drop c.args.first raw) (c.args.end - c.args.first) c.add_units.new.state.files c.add_units.new.parts.lines.items added.keeps.tables parted.lines;
      shows = subst (λ (f : ℕ). Shows raw f added.lists c.add_units.new.state.lists) (c.in_ok-add_units.ensures.file ∙ n.file) added.keeps.shows;
    }
