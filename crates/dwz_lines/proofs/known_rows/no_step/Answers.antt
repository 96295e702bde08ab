use Rattle.dwz_lines.proofs.LocalLemmas.{spans_none}
use Rattle.dwz_lines.proofs.known_rows.no_step.Goals as goal

pub returns : goal.returns
returns c = λ item line place. spans_none item line place
