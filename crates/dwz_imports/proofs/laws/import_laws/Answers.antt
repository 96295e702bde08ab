use Rattle.dwz_imports.proofs.ImportRelations.{imported, imports_none}
use Rattle.dwz_imports.proofs.laws.import_laws.Goals as goal

pub returns : goal.returns
returns c = record { none = imports_none; imported = imported }
