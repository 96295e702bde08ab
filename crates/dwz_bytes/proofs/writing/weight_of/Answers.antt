use Rattle.std.proofs.Common.{◌≤◌, ◌<◌, ◌^◌, arith}
use Rattle.std.proofs.Math.Nat.{pow-le-pow_right}
use Rattle.dwz_bytes.proofs.writing.weight_of.Goals as goal

pub pow-requires : goal.pow-requires
pow-requires c =
    let some : 0 < 128 = omega arith in
    let small : 128 ^ c.args.count ≤ 128 ^ 10 = pow-le-pow_right some c.requires in
    omega (arith, small)
