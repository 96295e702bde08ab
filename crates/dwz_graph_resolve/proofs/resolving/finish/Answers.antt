use Rattle.std.proofs.Common.{ℕ, ◌<◌, ◌^◌, List, length, map, sym, ap, subst, arith}
use Rattle.std.proofs.lemmas.List.{length-map}
use Rattle.std.proofs.lemmas.Result.{err_from_is_err_and}
use Rattle.dwz_def_reading.specs.Shared.{AreRows, NamedList}
use Rattle.dwz_unit.specs.Rows.{units_of}
use Rattle.dwz_graph_resolve.specs.ListRows.{operand_view}
use Rattle.dwz_graph_resolve.specs.Named.{found}
use Rattle.dwz_graph_resolve.specs.Surroundings.{around_in, place_among}
use Rattle.dwz_graph_resolve.proofs.Answering.{all_said, lists_fail, lists_said, sets_fail}
use Rattle.dwz_graph_resolve.proofs.FewRefs.{refs_few}
use Rattle.dwz_graph_resolve.proofs.StretchLemmas.{whole_lines, whole_named, whole_parted}
use Rattle.dwz_graph_resolve.proofs.UnitStarts.{starts_distinct}
use Rattle.dwz_graph_resolve.proofs.resolving.finish.Goals as goal

pub returns-in_err-check_ranges-clause-answers : goal.returns-in_err-check_ranges-clause-answers
returns-in_err-check_ranges-clause-answers c =
    let p = err_from_is_err_and c.from_residual.result c.from_residual.ensures.1 in
    let raw = units_of c.args.units.now in
    let s = c.args.around.now in
    let a = around_in s raw in
    let x = c.args.whole in
    rw (p.1, p.2) (sets_fail a raw s.sections.aranges.now (map (place_among a.common raw) x.refs.items) c.requires.stretch.lists c.in_err-check_ranges.field-0.0
    (whole_named s raw c.args.file x c.requires) c.in_err-check_ranges.ensures)

pub unshared_operands-requires : goal.unshared_operands-requires
unshared_operands-requires c = c.requires.stretch.shows.within

pub returns-in_err-operands-clause-answers : goal.returns-in_err-operands-clause-answers
returns-in_err-operands-clause-answers c =
    let p = err_from_is_err_and c.from_residual-in_err-operands.result c.from_residual-in_err-operands.ensures.1 in
    let raw = units_of c.args.units.now in
    let s = c.args.around.now in
    let a = around_in s raw in
    let x = c.args.whole in
    let w = c.requires in
    rw (p.1, p.2) (lists_fail a raw s.sections.aranges.now (map (place_among a.common raw) x.refs.items) w.stretch.lists c.in_err-operands.field-0.0
    (whole_named s raw c.args.file x w) c.in_ok-check_ranges.ensures
    (c.in_err-operands.ensures.err raw c.args.file w.stretch.lists w.stretch.shows (starts_distinct c.args.units.now)))

pub returns-clause-within : goal.returns-clause-within
returns-clause-within c = c.requires.stretch.among

pub returns-clause-operands : goal.returns-clause-operands
returns-clause-operands c =
    let raw = units_of c.args.units.now in
    let s = c.args.around.now in
    let a = around_in s raw in
    let x = c.args.whole in
    let w = c.requires in
    let un = c.in_ok-operands.ensures.ok raw c.args.file w.stretch.lists w.stretch.shows (starts_distinct c.args.units.now) in
    subst (λ (ls : List NamedList). AreRows ls (map (operand_view raw) c.in_ok-operands.operands.items))
    (sym (lists_said a raw (map (place_among a.common raw) x.refs.items) w.stretch.lists (whole_named s raw c.args.file x w))) un.1

pub returns-clause-of_file : goal.returns-clause-of_file
returns-clause-of_file c =
    let raw = units_of c.args.units.now in
    let w = c.requires in
    (c.in_ok-operands.ensures.ok raw c.args.file w.stretch.lists w.stretch.shows (starts_distinct c.args.units.now)).2

pub returns-clause-starts : goal.returns-clause-starts
returns-clause-starts c =
    let raw = units_of c.args.units.now in
    let s = c.args.around.now in
    let a = around_in s raw in
    let x = c.args.whole in
    let w = c.requires in
    let few = refs_few c.args.units.now a (found (map (place_among a.common raw) x.refs.items) w.stretch.lists) (whole_named s raw c.args.file x w) in
    let many = length-map x.refs.items (place_among a.common raw) in
    let short = c.info-info.ensures.short in
    let bytes = c.info-info.ensures.bytes in
    let small : length x.refs.items < 2 ^ 32 = omega (arith, few, many, ap (λ (v : List ℕ). length v) bytes, short) in
    whole_parted s raw c.args.file x w small

pub returns-clause-lines : goal.returns-clause-lines
returns-clause-lines c = whole_lines c.args.around.now (units_of c.args.units.now) c.args.file c.args.whole c.requires

pub returns-clause-answers : goal.returns-clause-answers
returns-clause-answers c =
    let raw = units_of c.args.units.now in
    let s = c.args.around.now in
    let a = around_in s raw in
    let x = c.args.whole in
    let w = c.requires in
    let un = c.in_ok-operands.ensures.ok raw c.args.file w.stretch.lists w.stretch.shows (starts_distinct c.args.units.now) in
    all_said a raw s.sections.aranges.now (map (place_among a.common raw) x.refs.items) w.stretch.lists (whole_named s raw c.args.file x w) c.in_ok-check_ranges.ensures un.0
