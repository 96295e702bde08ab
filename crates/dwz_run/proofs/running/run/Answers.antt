use Rattle.dwz_words.specs.Lawful.{word_bytes}
use Rattle.dwz_run.proofs.RunGiven.{ends_given}
use Rattle.dwz_run.proofs.running.run.Goals as goal

pub returns-clause-ends : goal.returns-clause-ends
returns-clause-ends g c = ends_given (word_bytes c.args.words.now) _ _ _ _ c.run_course.result c.run_course.ensures.ends
