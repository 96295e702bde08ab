use Rattle.dwz_run.proofs.Causes.{is_usage, puts_nothing, usage_alone, was_refused}
use Rattle.dwz_run.proofs.laws.cause_laws.Goals as goal

pub returns-clause-nothing : goal.returns-clause-nothing
returns-clause-nothing c words old new shown shown_new status e nothing = puts_nothing words old new shown shown_new status e nothing

pub returns-clause-refused : goal.returns-clause-refused
returns-clause-refused c words old new shown shown_new e store told = was_refused words old new shown shown_new store told e

pub returns-clause-usage : goal.returns-clause-usage
returns-clause-usage c words old new shown shown_new status e =
    (is_usage words old new shown shown_new status e, usage_alone words old new shown shown_new status e)
