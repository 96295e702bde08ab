use Rattle.std.proofs.Common.{ap}
use Rattle.dwz_check_index.specs.Index.{CrossIndex}
use Rattle.dwz_check_index.proofs.WayLemmas.{step_there}
use Rattle.dwz_check_index.proofs.index.CrossIndex.stands.Goals as goal

pub returns : goal.returns
returns c = λ names entries name shows found. (
    let x = c.index.result.now in
    let there = step_there c.args.self.now c.self.inside.steps.items c.args.entry x (ap (λ (w : CrossIndex). w.steps) c.self.view_is) c.requires c.index.ensures in
    (shows.each c.args.entry x name there found).stands)
