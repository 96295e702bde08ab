use Rattle.dwz_run.proofs.Answered.{answered, compared, completes, is_refused}
use Rattle.dwz_run.proofs.BatchAnswered.{batch_answered}
use Rattle.dwz_run.proofs.laws.answer_laws.Goals as goal

pub returns-clause-answer : goal.returns-clause-answer
returns-clause-answer c = answered

pub returns-clause-complete : goal.returns-clause-complete
returns-clause-complete c words old new shown shown_new status complete none store told a free =
    completes words old store told new shown shown_new status complete none a free

pub returns-clause-batch : goal.returns-clause-batch
returns-clause-batch c = batch_answered

pub returns-clause-compare : goal.returns-clause-compare
returns-clause-compare c words old new shown shown_new status complete none store told a said first second read docs =
    compared words old store told new shown shown_new status complete none a said first second read docs

pub returns-clause-refuses : goal.returns-clause-refuses
returns-clause-refuses c words old new status all none store told a r first = is_refused words old store told new status all none a r first
