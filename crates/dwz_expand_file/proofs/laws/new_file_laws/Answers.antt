use Rattle.dwz_expand_file.proofs.ReadLemmas.{new_file_reads}
use Rattle.dwz_expand_file.proofs.laws.new_file_laws.Goals as goal

pub returns : goal.returns
returns c = new_file_reads c.made_laws.ensures.reads
