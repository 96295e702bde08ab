use Rattle.dwz_layout_input.proofs.BesideLists.{start_here}
use Rattle.dwz_layout_input.proofs.behind.start_of.Goals as goal

pub returns-in-Some : goal.returns-in-Some
returns-in-Some c = start_here c.args.end c.args.starts.now c.args.number c.in-Some.start.now c.in-Some.ensures.lookup.3.0 c.in-Some.ensures.lookup.1
