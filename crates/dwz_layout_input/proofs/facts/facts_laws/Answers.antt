use Rattle.dwz_layout_input.proofs.FactsAre.{facts_are}
use Rattle.dwz_layout_input.proofs.FactsOver.{are_over}
use Rattle.dwz_layout_input.proofs.facts.facts_laws.Goals as goal

pub returns-clause-facts : goal.returns-clause-facts
returns-clause-facts c = facts_are

pub returns-clause-over : goal.returns-clause-over
returns-clause-over c = are_over
