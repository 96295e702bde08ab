use Rattle.std.proofs.Common.{Option, Some, IfOk, Bor, ap, subst, sym}
use Rattle.std.specs.Option.{option_map}
use Rattle.dwz_graph.specs.declared.file.File.{File}
use Rattle.dwz_check_index.specs.declared.both.CrossIndexes.{CrossIndexes}
use Rattle.dwz_check_labels.specs.declared.both.CrossLabels.{CrossLabels}
use Rattle.dwz_check_labels.specs.FilesSaid.{AreFilesSaid, AreLabelsFor}
use Rattle.dwz_check_labels.proofs.IndexLemmas.{with_same}
use Rattle.dwz_check_labels.proofs.graph.labels_of_files.Goals as goal

-- the file behind a reference, if there is one
abbrev behind : Option (Bor File) → Option File
behind o = option_map {T = Bor File} {U = File} (λ f. f.now) o

pub labels_beside-requires : goal.labels_beside-requires
labels_beside-requires c =
    subst (λ (y : CrossIndexes). AreFilesSaid c.args.old.now c.args.new.now (Some c.in-Some.file.now) y) (with_same c.args.indexes.now c.in-Some-common.index c.in-Some-common.is)
    (subst (λ (m : Option File). AreFilesSaid c.args.old.now c.args.new.now m c.args.indexes.now) (ap behind c.in-Some.is) c.requires)

pub returns-in_ok-heres-in-None-clause-labels : goal.returns-in_ok-heres-in-None-clause-labels
returns-in_ok-heres-in-None-clause-labels c =
    subst (λ (m : Option File). IfOk c.labels_alone.result (λ (x : CrossLabels). AreLabelsFor c.args.old.now c.args.new.now m c.args.indexes.now x.labels x.targets)) (sym (ap behind c.in-None.is))
    c.labels_alone.ensures.labels

pub returns-in-Some-common-clause-labels : goal.returns-in-Some-common-clause-labels
returns-in-Some-common-clause-labels c =
    subst (λ (m : Option File). IfOk c.labels_beside.result (λ (x : CrossLabels). AreLabelsFor c.args.old.now c.args.new.now m c.args.indexes.now x.labels x.targets)) (sym (ap behind c.in-Some.is))
    (subst (λ (y : CrossIndexes). IfOk c.labels_beside.result (λ (x : CrossLabels). AreLabelsFor c.args.old.now c.args.new.now (Some c.in-Some.file.now) y x.labels x.targets))
    (sym (with_same c.args.indexes.now c.in-Some-common.index c.in-Some-common.is)) c.labels_beside.ensures.labels)

pub returns-in-None-common-clause-labels : goal.returns-in-None-common-clause-labels
returns-in-None-common-clause-labels c =
    subst (λ (m : Option File). IfOk c.labels_beside_none.result (λ (x : CrossLabels). AreLabelsFor c.args.old.now c.args.new.now m c.args.indexes.now x.labels x.targets)) (sym (ap behind
    c.in-Some.is))
    c.labels_beside_none.ensures.labels
