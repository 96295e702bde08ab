use Rattle.std.proofs.Common.{ℕ, ◌+◌, ap, arith}
use Rattle.dwz_check_sides.proofs.UnitNodes.{behind, ends, item_found, none_found, start_low}
use Rattle.dwz_check_sides.proofs.units.lone_behind.Goals as goal

pub overflow_add-result : goal.overflow_add-result
overflow_add-result c =
    let s = c.args.side.now in
    let r = c.requires.said in
    let item = item_found c.units.result.now s.index.now.units (c.args.n + 1) c.in-Some.start.now c.units.ensures c.in-Some.ensures.lookup.0 c.in-Some.ensures.lookup.1 in
    let low = start_low s r.0 r.1 r.2 (c.args.n + 1) c.in-Some.start.now item c.requires.none in
    let room = c.requires.room in
    omega (arith, low, room)

pub returns-in-Some : goal.returns-in-Some
returns-in-Some c = λ said starts x side got. (
    let s = c.args.side.now in
    let item = item_found c.units.result.now s.index.now.units (c.args.n + 1) c.in-Some.start.now c.units.ensures c.in-Some.ensures.lookup.0 c.in-Some.ensures.lookup.1 in
    ap (λ (k : ℕ). c.args.before + k) (behind s said starts side c.args.n x c.in-Some.start.now got item).1)

pub returns-in-None : goal.returns-in-None
returns-in-None c = λ said starts x side got. (
    let s = c.args.side.now in
    let none = none_found c.units.result.now s.index.now.units (c.args.n + 1) c.units.ensures c.in-None.ensures.lookup.0 in
    let last = (ends s said starts side c.args.n x got none).1 in
    let zero_is = c.requires.none in
    let count = c.lone_count.ensures in
    omega (arith, last, zero_is, count))
