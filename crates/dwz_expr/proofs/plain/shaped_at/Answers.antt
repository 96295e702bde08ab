use Rattle.std.proofs.Common.{◌+◌, false, refl}
use Rattle.dwz_expr.proofs.FewLemmas.{plain_code}
use Rattle.dwz_expr.proofs.plain.shaped_at.Goals as goal

pub returns-in-Nothing : goal.returns-in-Nothing
returns-in-Nothing c =
    plain_code c.args.bytes.now c.args.at c.args.shape (record { end = c.args.at + 1; address = false }) c.requires.there c.requires.shape c.in-Nothing.is refl refl
