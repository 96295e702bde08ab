use Rattle.dwz_run.proofs.RunGiven.{answer_given}
use Rattle.dwz_run.proofs.work.given_files.Goals as goal

pub returns : goal.returns
returns g c = answer_given c.args.options.now _ c.written_files.result c.written_files.ensures
