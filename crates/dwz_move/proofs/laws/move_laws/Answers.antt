use Rattle.dwz_move.proofs.MovableLemmas.{flag_movable}
use Rattle.dwz_move.proofs.laws.move_laws.Goals as goal

pub returns : goal.returns
returns c = flag_movable
