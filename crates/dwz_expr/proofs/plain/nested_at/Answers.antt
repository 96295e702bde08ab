use Rattle.std.proofs.Common.{◌+◌, ◌<◌, length, get_or, arith}
use Rattle.dwz_expr.proofs.NestedLemmas.{found_nested}
use Rattle.dwz_expr.proofs.plain.nested_at.Goals as goal

pub returns : goal.returns
returns c =
    let bytes = c.args.bytes.now in
    let found = c.inside_at.ensures in
    let there : c.args.at + 1 < length bytes = omega (arith, c.requires.there, c.if-from-bytes.false) in
    found_nested bytes c.args.at c.inside_at.result there (omega (arith, c.if-count-ge128.false)) c.requires.shape found.end found.within found.plain
