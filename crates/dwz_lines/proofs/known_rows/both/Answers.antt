use Rattle.std.proofs.Common.{refl}
use Rattle.dwz_lines.proofs.LocalLemmas.{spans_step}
use Rattle.dwz_lines.proofs.known_rows.both.Goals as goal

pub returns : goal.returns
returns c = λ item line place one other.
    spans_step item line place _ c.args.one.rows c.args.other.rows c.args.one.bytes c.args.other.bytes _ _ refl c.in_ok-rows.ensures.1 c.in_ok-bytes.ensures.1 one other
