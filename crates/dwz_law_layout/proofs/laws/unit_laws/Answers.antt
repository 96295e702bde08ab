use Rattle.dwz_law_layout.proofs.UnitFits.{unit_fits}
use Rattle.dwz_law_layout.proofs.laws.unit_laws.Goals as goal

pub returns : goal.returns
returns c = λ keys k files ff rn here o names u known common sort root order. unit_fits keys k files ff rn here o names u known common sort root order
