use Rattle.dwz_check_labels.proofs.StepLemmas.{none_added, none_beside}
use Rattle.dwz_check_labels.proofs.both.put_common.Goals as goal

pub returns-in-None-clause-adds : goal.returns-in-None-clause-adds
returns-in-None-clause-adds c = λ n knows. none_added n.name n.said c.args.labels.now c.args.edges.now.items (none_beside c.args.common.now n c.in-None.is knows)
