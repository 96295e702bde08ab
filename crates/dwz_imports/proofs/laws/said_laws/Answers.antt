use Rattle.dwz_imports.proofs.FilesSay.{alone, beside}
use Rattle.dwz_imports.proofs.laws.said_laws.Goals as goal

pub returns : goal.returns
returns c = record { alone = alone; beside = beside }
