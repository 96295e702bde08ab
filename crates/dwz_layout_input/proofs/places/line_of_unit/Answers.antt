use Rattle.std.proofs.Common.{None, Option, refl, ap, subst, ◌∙◌}
use Rattle.dwz_def_reading.specs.Entries.{RawAttr}
use Rattle.dwz_def_reading.specs.Units.{RawUnit}
use Rattle.dwz_graph.proofs.UnitBuilding.{root_within}
use Rattle.dwz_def_reading.specs.Meanings.{first_raw}
use Rattle.dwz_graph.proofs.UnitThere.{same_unit}
use Rattle.dwz_unit.proofs.UnitThere.{root_found, unit_there}
use Rattle.dwz_unit.specs.Rows.{units_of}
use Rattle.dwz_layout_input.specs.Steps.{LineOf}
use Rattle.dwz_layout_input.proofs.places.line_of_unit.Goals as goal

pub first_attr-requires : goal.first_attr-requires
first_attr-requires c = root_within (units_of c.args.units.now) c.args.n c.unit-root.result c.unit-root.ensures

pub returns-in-None : goal.returns-in-None
returns-in-None c = λ u found. (
    let raw = units_of c.args.units.now in
    let t = unit_there raw c.args.n c.unit-root.result c.unit-root.ensures in
    let same = same_unit raw c.args.n t.u u t.is_unit found in
    subst (λ (o : Option RawAttr). LineOf o None) (c.in-None.ensures.first _ (root_found raw c.args.n c.unit-root.result t) ∙ ap (λ (k : RawUnit). first_raw 0x10 k.root.attrs) same) refl)

pub returns-in-Some : goal.returns-in-Some
returns-in-Some c = λ u found. (
    let raw = units_of c.args.units.now in
    let t = unit_there raw c.args.n c.unit-root.result c.unit-root.ensures in
    let same = same_unit raw c.args.n t.u u t.is_unit found in
    subst (λ (o : Option RawAttr). LineOf o c.line_in.result) (c.in-Some.ensures.first _ (root_found raw c.args.n c.unit-root.result t) ∙ ap (λ (k : RawUnit). first_raw 0x10 k.root.attrs) same)
    c.line_in.ensures)
