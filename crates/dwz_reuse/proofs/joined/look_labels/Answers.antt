use Rattle.dwz_reuse.proofs.JoinedFacts.{shows}
use Rattle.dwz_reuse.proofs.joined.look_labels.Goals as goal

pub returns-clause-shows : goal.returns-clause-shows
returns-clause-shows c = λ docs doc name movable placed partial own lists.
    shows docs doc placed partial name movable c.args.labels.now c.args.targets.now own c.args.common.now.labels c.args.common.now.targets lists c.in_ok-labels.labels c.in_ok-targets.targets
    c.in_ok-labels.ensures.len c.in_ok-labels.ensures.own c.in_ok-labels.ensures.common c.in_ok-targets.ensures
