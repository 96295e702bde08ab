use Rattle.dwz_def_encoding.proofs.WriteLaws.{fits, is_roomy, spells}
use Rattle.dwz_def_encoding.proofs.writing.bytes_laws.Goals as goal

pub returns-clause-roomy : goal.returns-clause-roomy
returns-clause-roomy c = is_roomy

pub returns-clause-fits : goal.returns-clause-fits
returns-clause-fits c = fits

pub returns-clause-spelled : goal.returns-clause-spelled
returns-clause-spelled c = spells
