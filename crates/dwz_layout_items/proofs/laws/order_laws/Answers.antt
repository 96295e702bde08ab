use Rattle.dwz_layout_items.proofs.KeptLemmas.{kept_lines, partial_is, whole_lines}
use Rattle.dwz_layout_items.proofs.laws.order_laws.Goals as goal

pub returns : goal.returns
returns c = record { kept = kept_lines; whole = whole_lines; parts = partial_is }
