use Rattle.dwz_def_output.proofs.MadeLemmas.{same_file, same_length}
use Rattle.dwz_def_output.proofs.RebuiltLemmas.{back, carried, new_contents, reads_back, same_loaded, same_there, sections_short, sup_added}
use Rattle.dwz_def_output.proofs.rebuilt.rebuilt_laws.Goals as goal

pub returns-clause-length : goal.returns-clause-length
returns-clause-length c = same_length

pub returns-clause-reads : goal.returns-clause-reads
returns-clause-reads c = reads_back

pub returns-clause-back : goal.returns-clause-back
returns-clause-back c = back

pub returns-clause-fields : goal.returns-clause-fields
returns-clause-fields c = same_file

pub returns-clause-contents : goal.returns-clause-contents
returns-clause-contents c = new_contents

pub returns-clause-there : goal.returns-clause-there
returns-clause-there c = same_there

pub returns-clause-short : goal.returns-clause-short
returns-clause-short c = sections_short

pub returns-clause-carried : goal.returns-clause-carried
returns-clause-carried c = carried

pub returns-clause-added : goal.returns-clause-added
returns-clause-added c = sup_added

pub returns-clause-loaded : goal.returns-clause-loaded
returns-clause-loaded c = same_loaded
