use Rattle.std.proofs.Common.{[], None, refl}
use Rattle.dwz_check_labels.specs.declared.both.CrossLabels.{CrossLabels}
use Rattle.dwz_check_labels.specs.FilesSaid.{AreLabelsFor}
use Rattle.dwz_check_labels.proofs.IndexLemmas.{if_ok}
use Rattle.dwz_check_labels.proofs.ReadyLemmas.{ToldBy, alone_labels, alone_ready, named_of, source_is, told_by}
use Rattle.dwz_check_labels.proofs.graph.labels_alone.Goals as goal

pub labels_of_sources-requires : goal.labels_of_sources-requires
labels_of_sources-requires c =
    let p = source_is c.source_of-before.result c.named_file-first.result None c.args.old.now [] c.args.indexes.now.old None c.source_of-before.ensures.own c.source_of-before.ensures.common refl
    c.source_of-before.ensures.refs
    c.source_of-before.ensures.starts c.source_of-before.ensures.tables c.source_of-before.ensures.lines (named_of c.named_file-first.result c.args.old.now [] c.args.indexes.now.old
    c.args.heres.now.old.items c.as_slice.result.now c.named_file-first.ensures.units c.named_file-first.ensures.sections c.named_file-first.ensures.strs
    c.named_file-first.ensures.index c.named_file-first.ensures.heres c.as_slice.ensures.value c.requires.old_heres) in
    let q = source_is c.source_of-after.result c.named_file-second.result None c.args.new.now [] c.args.indexes.now.new None c.source_of-after.ensures.own c.source_of-after.ensures.common refl
    c.source_of-after.ensures.refs
    c.source_of-after.ensures.starts c.source_of-after.ensures.tables c.source_of-after.ensures.lines (named_of c.named_file-second.result c.args.new.now [] c.args.indexes.now.new
    c.args.heres.now.new.items c.as_slice-2.result.now c.named_file-second.ensures.units c.named_file-second.ensures.sections c.named_file-second.ensures.strs
    c.named_file-second.ensures.index c.named_file-second.ensures.heres c.as_slice-2.ensures.value c.requires.new_heres) in
    let r = alone_ready c.args.old.now c.args.new.now c.args.indexes.now c.source_of-before.result c.source_of-after.result p q c.source_of-before.ensures.common c.source_of-after.ensures.common
    c.requires.said in
    record { old = r.old; new = r.new; common = tt; few = r.few }

pub returns-clause-labels : goal.returns-clause-labels
returns-clause-labels c =
    let p = source_is c.source_of-before.result c.named_file-first.result None c.args.old.now [] c.args.indexes.now.old None c.source_of-before.ensures.own c.source_of-before.ensures.common refl
    c.source_of-before.ensures.refs
    c.source_of-before.ensures.starts c.source_of-before.ensures.tables c.source_of-before.ensures.lines (named_of c.named_file-first.result c.args.old.now [] c.args.indexes.now.old
    c.args.heres.now.old.items c.as_slice.result.now c.named_file-first.ensures.units c.named_file-first.ensures.sections c.named_file-first.ensures.strs
    c.named_file-first.ensures.index c.named_file-first.ensures.heres c.as_slice.ensures.value c.requires.old_heres) in
    let q = source_is c.source_of-after.result c.named_file-second.result None c.args.new.now [] c.args.indexes.now.new None c.source_of-after.ensures.own c.source_of-after.ensures.common refl
    c.source_of-after.ensures.refs
    c.source_of-after.ensures.starts c.source_of-after.ensures.tables c.source_of-after.ensures.lines (named_of c.named_file-second.result c.args.new.now [] c.args.indexes.now.new
    c.args.heres.now.new.items c.as_slice-2.result.now c.named_file-second.ensures.units c.named_file-second.ensures.sections c.named_file-second.ensures.strs
    c.named_file-second.ensures.index c.named_file-second.ensures.heres c.as_slice-2.ensures.value c.requires.new_heres) in
    if_ok (λ (x : CrossLabels). ToldBy c.source_of-before.result c.source_of-after.result None x.labels x.targets)
    (λ (x : CrossLabels). AreLabelsFor c.args.old.now c.args.new.now None c.args.indexes.now x.labels x.targets) c.labels_of_sources.result
    (λ (x : CrossLabels) h. alone_labels c.args.old.now c.args.new.now c.args.indexes.now c.source_of-before.result c.source_of-after.result p q c.source_of-before.ensures.common
    c.source_of-after.ensures.common x.labels x.targets h)
    (told_by c.source_of-before.result c.source_of-after.result None (λ (x : CrossLabels). x.labels) (λ (x : CrossLabels). x.targets) c.labels_of_sources.result c.labels_of_sources.ensures.labels)
