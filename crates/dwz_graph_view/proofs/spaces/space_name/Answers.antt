use Rattle.std.proofs.Common.{◌≡◌, None, Some, arith}
use Rattle.dwz_graph.proofs.UnitBuilding.{root_within}
use Rattle.dwz_unit.specs.Rows.{units_of}
use Rattle.dwz_graph_view.proofs.SettingSteps.{unit_low}
use Rattle.dwz_graph_view.proofs.SpaceSteps.{entry_low, name_is}
use Rattle.dwz_graph_view.proofs.spaces.space_name.Goals as goal

pub returns-then-entry-entries : goal.returns-then-entry-entries
returns-then-entry-entries c = λ l number bytes unit name read is. (
    let low = entry_low l number bytes c.args.file.now read unit c.args.entry name is in
    let all = c.entries.ensures in
    let high = c.if-entry-entries.true in
    absurd (omega arith))

pub unit-requires : goal.unit-requires
unit-requires c = unit_low (units_of c.args.file.now.units) c.args.entry c.entry-unit.result c.entry-unit.ensures.entry

pub here_of-here-requires : goal.here_of-here-requires
here_of-here-requires c = root_within (units_of c.args.file.now.units) c.entry-unit.result.unit c.unit.result c.unit.ensures

pub returns-in-Some : goal.returns-in-Some
returns-in-Some c = λ l number bytes unit name read is. (
    let same : Some c.in-Some.text.now ≡ Some name.text = name_is l number bytes c.args.file.now read unit c.args.entry name is c.entry-unit.result c.unit.result c.here_of-here.result _
    c.entry-unit.ensures.entry (c.here_of-here.ensures c.unit.ensures) c.in-Some.ensures in
    cc)

pub returns-in-None : goal.returns-in-None
returns-in-None c = λ l number bytes unit name read is. (
    let no : None ≡ Some name.text = name_is l number bytes c.args.file.now read unit c.args.entry name is c.entry-unit.result c.unit.result c.here_of-here.result _
    c.entry-unit.ensures.entry (c.here_of-here.ensures c.unit.ensures) c.in-None.ensures in
    absurd cc)
