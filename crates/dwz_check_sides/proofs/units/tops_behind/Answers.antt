use Rattle.std.proofs.Common.{◌+◌, ap, arith}
use Rattle.dwz_check_index.specs.declared.index.CrossStarts.{CrossStarts}
use Rattle.dwz_check_sides.proofs.UnitNodes.{behind, ends, item_found, none_found}
use Rattle.dwz_check_sides.proofs.units.tops_behind.Goals as goal

pub returns-in-Some : goal.returns-in-Some
returns-in-Some c = λ said starts x side got. (
    let s = c.args.side.now in
    let item = item_found c.units.result.now s.index.now.units (c.args.n + 1) c.in-Some.start.now c.units.ensures c.in-Some.ensures.lookup.0 c.in-Some.ensures.lookup.1 in
    (behind s said starts side c.args.n x c.in-Some.start.now got item).0)

pub returns-in-None : goal.returns-in-None
returns-in-None c = λ said starts x side got. (
    let s = c.args.side.now in
    let none = none_found c.units.result.now s.index.now.units (c.args.n + 1) c.units.ensures c.in-None.ensures.lookup.0 in
    let last = (ends s said starts side c.args.n x got none).0 in
    let from = ap (λ (w : CrossStarts). w.top) c.starts.ensures in
    let count = c.top_count.ensures in
    omega (arith, last, from, count))
