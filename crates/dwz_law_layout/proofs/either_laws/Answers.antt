use Rattle.dwz_law_layout.proofs.Either.{laid_of, many_by, placed_by, roots_by, self_by}
use Rattle.dwz_law_layout.proofs.either_laws.Goals as goal

pub returns-clause-many : goal.returns-clause-many
returns-clause-many c = many_by

pub returns-clause-laid : goal.returns-clause-laid
returns-clause-laid c = laid_of

pub returns-clause-placed : goal.returns-clause-placed
returns-clause-placed c = placed_by

pub returns-clause-themselves : goal.returns-clause-themselves
returns-clause-themselves c = self_by

pub returns-clause-roots : goal.returns-clause-roots
returns-clause-roots c = roots_by
