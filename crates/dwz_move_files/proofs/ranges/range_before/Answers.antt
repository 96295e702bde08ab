use Rattle.std.proofs.Common.{◌≡◌, ℕ, ◌-◌, Some, slice_get, subst, arith}
use Rattle.dwz_def_reading.proofs.ListFacts.{got_there}
use Rattle.dwz_move.specs.Bound.{HasTops}
use Rattle.dwz_move_files.proofs.ranges.range_before.Goals as goal

pub returns : goal.returns
returns c = λ all j y h at got. (
    let tops = c.args.tops.now in
    let k = c.unit_start.result in
    let within = c.unit_start.ensures.within in
    let x = got_there tops k (omega arith) in
    let one : j ≡ c.args.i - 1 = omega arith in
    let last : slice_get tops (c.args.i - 1) ≡ Some y = subst (λ (n : ℕ). slice_get tops n ≡ Some y) one got in
    subst (λ (u : ℕ). HasTops all u c.range_from.result) (c.unit_start.ensures.same x.0 y x.1 last) (c.range_from.ensures all x.0 h x.1 (c.unit_start.ensures.first x.0 x.1)))
