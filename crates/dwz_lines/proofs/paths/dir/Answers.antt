use Rattle.dwz_lines.proofs.PathLemmas.{none_dir, some_dir}
use Rattle.dwz_lines.proofs.paths.dir.Goals as goal

pub returns-in-Some : goal.returns-in-Some
returns-in-Some c = some_dir c.args.dirs.now c.args.number c.in-Some.path.now c.in-Some.ensures.lookup.0 c.in-Some.ensures.lookup.1

pub returns-in-None : goal.returns-in-None
returns-in-None c = none_dir c.args.dirs.now c.args.number c.in-None.ensures.lookup.0
