use Rattle.dwz_run_files.proofs.FactsNumbered.{flags_are, planned_facts, settled_facts}
use Rattle.dwz_run_files.proofs.laws.facts_laws.Goals as goal

pub returns-clause-flags : goal.returns-clause-flags
returns-clause-flags c = flags_are

pub returns-clause-facts : goal.returns-clause-facts
returns-clause-facts c = planned_facts

pub returns-clause-settled : goal.returns-clause-settled
returns-clause-settled c = settled_facts
