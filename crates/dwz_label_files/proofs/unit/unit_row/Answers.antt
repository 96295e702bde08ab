use Rattle.std.proofs.Common.{◌≡◌, Ok, arith, subst}
use Rattle.dwz_def_reading.specs.Units.{RawUnit}
use Rattle.dwz_def_reading.specs.Meanings.{scope_of}
use Rattle.dwz_def_reading.specs.Meant.{unit_meaning}
use Rattle.dwz_def_reading.proofs.MeaningUnits.{node_agrees, unit_agrees}
use Rattle.dwz_graph.proofs.UnitThere.{same_unit}
use Rattle.dwz_unit.proofs.UnitThere.{root_found, unit_ends, unit_there}
use Rattle.dwz_unit.specs.Rows.{units_of}
use Rattle.dwz_label_files.proofs.unit.unit_row.Goals as goal

pub here_of-here-requires : goal.here_of-here-requires
here_of-here-requires c =
    let raw = units_of c.args.units.now in
    let t = unit_there raw c.args.n c.unit-unit.result c.unit-unit.ensures in
    let within = unit_ends raw c.args.n c.unit-unit.result t in
    omega arith

pub language_of-language-requires : goal.language_of-language-requires
language_of-language-requires c =
    let raw = units_of c.args.units.now in
    let t = unit_there raw c.args.n c.unit-unit.result c.unit-unit.ensures in
    let within = unit_ends raw c.args.n c.unit-unit.result t in
    omega arith

pub returns : goal.returns
returns c =
    let raw = units_of c.args.units.now in
    let t = unit_there raw c.args.n c.unit-unit.result c.unit-unit.ensures in
    let h = c.here_of-here.ensures c.unit-unit.ensures in
    let same = same_unit raw c.args.n h.u t.u h.is_unit t.is_unit in
    record {
      u = h.u;
      is_unit = h.is_unit;
      here = h.here;
      number = h.number;
      within = h.within;
      language = λ around v means. (
          let own = subst (λ (w : RawUnit). unit_meaning around w ≡ Ok v) same means in
          let root = (((unit_agrees around t.u).ok v).0 own).root in
          c.language_of-language.ensures (scope_of around t.u) _ v.root (root_found raw c.args.n c.unit-unit.result t) (((node_agrees (scope_of around t.u) t.u.root).ok v.root).1 root));
    }
