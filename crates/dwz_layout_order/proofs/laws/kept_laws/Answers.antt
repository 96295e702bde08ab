use Rattle.dwz_layout_order.proofs.AllShown.{all_kept}
use Rattle.dwz_layout_order.proofs.laws.kept_laws.Goals as goal

pub returns : goal.returns
returns c = all_kept
