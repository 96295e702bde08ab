use Rattle.std.proofs.Common.{[], refl, sym, arith}
use Rattle.std.specs.Prelude.{reverse}
use Rattle.std.proofs.lemmas.List.{append-nil}
use Rattle.std.proofs.lemmas.Result.{on_ok_weaker}
use Rattle.dwz_graph.proofs.UnitBuilding.{root_within}
use Rattle.dwz_unit.specs.Rows.{units_of}
use Rattle.dwz_check_index.specs.Index.{listed_units, path_in}
use Rattle.dwz_def_check.specs.CrossNames.{cross_names_from}
use Rattle.dwz_check_sides.proofs.NameTexts.{steps_long}
use Rattle.dwz_check_columns.proofs.TypePaths.{end_within, no_path, type_along, type_there}
use Rattle.dwz_check_columns.proofs.paths.put_path.Goals as goal

pub entry-end-requires : goal.entry-end-requires
entry-end-requires c = root_within (units_of c.args.side.now.file.now.units) c.args.n c.unit-unit.result c.unit-unit.ensures

pub entry_at-requires : goal.entry_at-requires
entry_at-requires c = end_within (units_of c.args.side.now.file.now.units) c.args.n c.unit-unit.result c.entry-end.result c.unit-unit.ensures c.entry-end.ensures.entry

pub put_way-requires : goal.put_way-requires
put_way-requires c =
    let r = c.requires.said in
    let long = steps_long c.args.side.now r.0 r.1 r.2 in
    let within = end_within (units_of c.args.side.now.file.now.units) c.args.n c.unit-unit.result c.entry-end.result c.unit-unit.ensures c.entry-end.ensures.entry in
    let high = c.in-Some.ensures.found.1 in
    omega (arith, long, within, high)

pub returns-then-unit-ne-DW_UT_TYPE : goal.returns-then-unit-ne-DW_UT_TYPE
returns-then-unit-ne-DW_UT_TYPE c = λ said starts u side got. (
  [],
  sym (append-nil c.args.edges.now.items),
  no_path c.args.side.now said starts side c.args.n c.unit-unit.result u c.unit-unit.ensures got c.if-unit-ne-DW_UT_TYPE.true,
)

pub returns-in-None : goal.returns-in-None
returns-in-None c = λ said starts u side got.
    absurd (type_there c.args.side.now said starts side c.args.n c.unit-unit.result u c.unit-unit.ensures got c.if-unit-ne-DW_UT_TYPE.false c.entry-end.result.end c.entry-end.result
    c.entry-end.ensures.entry (c.in-None.ensures.none refl))

pub returns-in-Some : goal.returns-in-Some
returns-in-Some c = λ said starts u side got. (
    let found = c.in-Some.ensures.found in
    let a = type_along c.args.side.now said starts side c.args.n c.unit-unit.result u c.unit-unit.ensures got c.if-unit-ne-DW_UT_TYPE.false c.entry-end.result c.entry-end.ensures.entry
    c.in-Some.entry found.0 found.1 found.2 in
    on_ok_weaker c.put_way.result (λ put. (reverse (path_in a.0.1), put, a.2))
    (c.put_way.ensures (cross_names_from 0 starts.top said) (listed_units said) a.0 side.index_is.names a.1))
