use Rattle.dwz_def_output.proofs.PlainBackLemmas.{plain_back, plain_contents_read}
use Rattle.dwz_def_output.proofs.plain_back.plain_back_laws.Goals as goal

pub returns-clause-back : goal.returns-clause-back
returns-clause-back c = plain_back

pub returns-clause-contents : goal.returns-clause-contents
returns-clause-contents c = plain_contents_read
