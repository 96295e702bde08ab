use Rattle.dwz_gen.proofs.LengthLemmas.{fifty_len, file_len}
use Rattle.dwz_gen.proofs.laws.length_laws.Goals as goal

pub returns-clause-length : goal.returns-clause-length
returns-clause-length c = file_len

pub returns-clause-fifty : goal.returns-clause-fifty
returns-clause-fifty c = fifty_len
