use Rattle.std.proofs.Common.{ap, ◌∙◌}
use Rattle.dwz_layout.specs.Walking.{run_slots}
use Rattle.dwz_layout.proofs.WalkLemmas.{below_none, empty_none}
use Rattle.dwz_layout.proofs.walk.run_below.Goals as goal

pub returns-in-None : goal.returns-in-None
returns-in-None c = ap (run_slots c.args.known.now) c.no_run.ensures ∙ empty_none c.args.known.now ∙ below_none c.args.known.now c.args.depth c.args.row c.in-None.ensures.entry
