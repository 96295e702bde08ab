use Rattle.std.proofs.Common.{Some}
use Rattle.dwz_check_labels.specs.declared.both.CrossLabels.{CrossLabels}
use Rattle.dwz_check_labels.specs.FilesSaid.{AreLabelsFor, with_index}
use Rattle.dwz_check_labels.proofs.IndexLemmas.{if_ok, with_said, without_index}
use Rattle.dwz_check_labels.proofs.graph.labels_beside_none.Goals as goal

pub labels_beside-requires : goal.labels_beside-requires
labels_beside-requires c = with_said c.args.old.now c.args.new.now c.args.common.now c.args.indexes.now c.in_ok-index.index (λ around said means. c.in_ok-index.ensures.names around said means)
    c.requires.said

pub returns-clause-labels : goal.returns-clause-labels
returns-clause-labels c =
    if_ok (λ (x : CrossLabels). AreLabelsFor c.args.old.now c.args.new.now (Some c.args.common.now) (with_index c.args.indexes.now c.in_ok-index.index) x.labels x.targets)
    (λ (x : CrossLabels). AreLabelsFor c.args.old.now c.args.new.now (Some c.args.common.now) c.args.indexes.now x.labels x.targets) c.labels_beside.result
    (λ (x : CrossLabels) h. without_index c.args.old.now c.args.new.now c.args.common.now c.args.indexes.now c.in_ok-index.index (λ around said means. c.in_ok-index.ensures.names around said means)
    c.requires.none x.labels x.targets h)
    c.labels_beside.ensures.labels
