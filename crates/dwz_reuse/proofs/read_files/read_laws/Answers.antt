use Rattle.dwz_reuse.proofs.BesideSaid.{common_said, docs_are}
use Rattle.dwz_reuse.proofs.CommonPlaced.{partial, parts, tags}
use Rattle.dwz_reuse.proofs.FilesPlaced.{all_placed}
use Rattle.dwz_reuse.proofs.read_files.read_laws.Goals as goal

pub returns-clause-placed : goal.returns-clause-placed
returns-clause-placed c = λ contents files number l bytes raw common kept says. record {
  each = all_placed contents files kept;
  parts = parts number l bytes raw common says;
  tags = tags number l bytes raw common says;
}

pub returns-clause-partial : goal.returns-clause-partial
returns-clause-partial c = λ number l bytes raw common says. partial number l bytes raw common says

pub returns-clause-beside : goal.returns-clause-beside
returns-clause-beside c = λ contents files number bytes raw common said kept says e. (
  docs_are c.placed_laws.ensures.common contents files kept number bytes raw common says said e,
  common_said c.placed_laws.ensures.common contents files kept number bytes raw common says said e,
)
