use Rattle.std.proofs.Common.{refl, sym, ap, arith}
use Rattle.dwz_unit.specs.declared.rows.RawUnit.{RawUnit as UnitOfCode}
use Rattle.dwz_unit.specs.Rows.{units_of}
use Rattle.dwz_graph_resolve.proofs.UnitThere.{own_places}
use Rattle.dwz_unit.proofs.UnitThere.{root_ends, root_found, unit_ends, unit_there}
use Rattle.dwz_graph_resolve.proofs.here.here_of.Goals as goal

pub returns : goal.returns
returns c = λ shown. (
    let raw = units_of c.args.units.now in
    let n = c.args.number in
    let x = c.args.unit.now in
    let t = unit_there raw n x shown in
    let end = root_ends raw n x c.entry.result t c.entry.ensures.entry in
    let within = unit_ends raw n x t in
    record {
      u = t.u;
      is_unit = t.is_unit;
      shown = t.shown;
      here = record {
        is_unit = t.is_unit;
        at = ap (λ (w : UnitOfCode). w.at) (sym t.shown);
        own = own_places raw n x c.entry.result.end t end;
        base = c.base_of.ensures _ (root_found raw n x t);
        lists = c.base_of-2.ensures _ (root_found raw n x t);
        line = c.base_of-3.ensures _ (root_found raw n x t);
      };
      number = refl;
      first = refl;
      end = end;
      within = omega arith;
    })
