use Rattle.dwz_expand_sections.proofs.FewLemmas.{few_starts}
use Rattle.dwz_expand_sections.proofs.StartLemmas.{can_have}
use Rattle.dwz_expand_sections.proofs.laws.start_laws.Goals as goal

pub returns-clause-starts : goal.returns-clause-starts
returns-clause-starts c = can_have

pub returns-clause-few : goal.returns-clause-few
returns-clause-few c = few_starts
