use Rattle.dwz_expand.proofs.OneKept.{of_one}
use Rattle.dwz_expand.proofs.new_file.new_file.Goals as goal

pub returns-clause-of : goal.returns-clause-of
returns-clause-of c = λ r number own common k p has kept.
    of_one c.known_laws.ensures.keys c.placed_laws.ensures.common r number own common _ k p.sources p.units p.all has kept
