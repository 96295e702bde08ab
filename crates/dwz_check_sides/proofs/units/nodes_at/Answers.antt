use Rattle.std.proofs.Common.{arith}
use Rattle.dwz_check_index.specs.declared.index.UnitStart.{UnitStart}
use Rattle.dwz_check_sides.proofs.UnitNodes.{item_below, nodes_are, start_low, units_long}
use Rattle.dwz_check_sides.proofs.units.nodes_at.Goals as goal

abbrev no_start : UnitStart
no_start = record { top = 0; lone = 0 }

pub unit-unit-requires : goal.unit-unit-requires
unit-unit-requires c = let r = c.requires.said in let long = (units_long c.args.side.now r.0 r.1 r.2).0 in let within = c.requires.within in omega (arith, long, within)

pub overflow_add-root : goal.overflow_add-root
overflow_add-root c =
    let s = c.args.side.now in
    let r = c.requires.said in
    let item = item_below c.units.result.now s.index.now.units c.args.n no_start c.units.ensures c.requires.within in
    let low = start_low s r.0 r.1 r.2 c.args.n _ item c.requires.none in
    let room = c.requires.lone in
    omega (arith, low, room)

pub returns : goal.returns
returns c = λ said starts x side got. (
    let s = c.args.side.now in
    let item = item_below c.units.result.now s.index.now.units c.args.n no_start c.units.ensures c.requires.within in
    nodes_are s said starts side c.args.n x _ c.unit-unit.result c.args.before c.lone_behind-spaces_end.result c.tops_behind.result c.kind_of.result got item c.unit-unit.ensures c.kind_of.ensures
    (c.lone_behind-spaces_end.ensures said starts x side got) (c.tops_behind.ensures said starts x side got))
