use Rattle.std.proofs.Common.{[], Some, None, refl}
use Rattle.dwz_check_labels.specs.declared.both.CrossLabels.{CrossLabels}
use Rattle.dwz_check_labels.specs.FilesSaid.{AreLabelsFor, given_by, with_index}
use Rattle.dwz_check_labels.proofs.IndexLemmas.{if_ok}
use Rattle.dwz_check_labels.proofs.ReadyLemmas.{ToldBy, beside_labels, beside_ready, named_of, source_is, told_by}
use Rattle.dwz_check_labels.proofs.SaidLemmas.{gives}
use Rattle.dwz_check_labels.proofs.graph.labels_with.Goals as goal

pub labels_of_sources-requires : goal.labels_of_sources-requires
labels_of_sources-requires c =
    let t = named_of c.named_file-third.result c.args.common.now [] c.args.index.now c.args.heres.now.common.items c.as_slice-3.result.now c.named_file-third.ensures.units
    c.named_file-third.ensures.sections c.named_file-third.ensures.strs
    c.named_file-third.ensures.index c.named_file-third.ensures.heres c.as_slice-3.ensures.value c.requires.heres in
    let p = source_is c.source_of-before.result c.named_file-first.result (Some c.named_file-third.result) c.args.old.now c.args.common.now.sections.strs.bytes.now c.args.indexes.now.old (given_by
    (Some c.args.common.now)) c.source_of-before.ensures.own c.source_of-before.ensures.common (gives c.named_file-third.result c.args.common.now [] c.args.index.now t) c.source_of-before.ensures.refs
    c.source_of-before.ensures.starts c.source_of-before.ensures.tables c.source_of-before.ensures.lines (named_of c.named_file-first.result c.args.old.now c.args.common.now.sections.strs.bytes.now
    c.args.indexes.now.old c.args.heres.now.old.items c.as_slice.result.now c.named_file-first.ensures.units c.named_file-first.ensures.sections c.named_file-first.ensures.strs
    c.named_file-first.ensures.index c.named_file-first.ensures.heres c.as_slice.ensures.value c.requires.old_heres) in
    let q = source_is c.source_of-after.result c.named_file-second.result (Some c.named_file-third.result) c.args.new.now c.args.common.now.sections.strs.bytes.now c.args.indexes.now.new (given_by
    (Some c.args.common.now)) c.source_of-after.ensures.own c.source_of-after.ensures.common (gives c.named_file-third.result c.args.common.now [] c.args.index.now t) c.source_of-after.ensures.refs
    c.source_of-after.ensures.starts c.source_of-after.ensures.tables c.source_of-after.ensures.lines (named_of c.named_file-second.result c.args.new.now c.args.common.now.sections.strs.bytes.now
    c.args.indexes.now.new c.args.heres.now.new.items c.as_slice-2.result.now c.named_file-second.ensures.units c.named_file-second.ensures.sections c.named_file-second.ensures.strs
    c.named_file-second.ensures.index c.named_file-second.ensures.heres c.as_slice-2.ensures.value c.requires.new_heres) in
    let w = source_is c.source_of.result c.named_file-third.result None c.args.common.now [] c.args.index.now None c.source_of.ensures.own c.source_of.ensures.common refl c.source_of.ensures.refs
    c.source_of.ensures.starts c.source_of.ensures.tables c.source_of.ensures.lines t in
    let r = beside_ready c.args.old.now c.args.new.now c.args.common.now c.args.indexes.now c.args.index.now c.source_of-before.result c.source_of-after.result c.source_of.result
    c.named_file-third.result p q w t
    c.source_of-before.ensures.common c.source_of-after.ensures.common c.source_of.ensures.common c.requires.said in
    record { old = r.old; new = r.new; common = r.common; few = r.few }

pub returns-clause-labels : goal.returns-clause-labels
returns-clause-labels c =
    let t = named_of c.named_file-third.result c.args.common.now [] c.args.index.now c.args.heres.now.common.items c.as_slice-3.result.now c.named_file-third.ensures.units
    c.named_file-third.ensures.sections c.named_file-third.ensures.strs
    c.named_file-third.ensures.index c.named_file-third.ensures.heres c.as_slice-3.ensures.value c.requires.heres in
    let p = source_is c.source_of-before.result c.named_file-first.result (Some c.named_file-third.result) c.args.old.now c.args.common.now.sections.strs.bytes.now c.args.indexes.now.old (given_by
    (Some c.args.common.now)) c.source_of-before.ensures.own c.source_of-before.ensures.common (gives c.named_file-third.result c.args.common.now [] c.args.index.now t) c.source_of-before.ensures.refs
    c.source_of-before.ensures.starts c.source_of-before.ensures.tables c.source_of-before.ensures.lines (named_of c.named_file-first.result c.args.old.now c.args.common.now.sections.strs.bytes.now
    c.args.indexes.now.old c.args.heres.now.old.items c.as_slice.result.now c.named_file-first.ensures.units c.named_file-first.ensures.sections c.named_file-first.ensures.strs
    c.named_file-first.ensures.index c.named_file-first.ensures.heres c.as_slice.ensures.value c.requires.old_heres) in
    let q = source_is c.source_of-after.result c.named_file-second.result (Some c.named_file-third.result) c.args.new.now c.args.common.now.sections.strs.bytes.now c.args.indexes.now.new (given_by
    (Some c.args.common.now)) c.source_of-after.ensures.own c.source_of-after.ensures.common (gives c.named_file-third.result c.args.common.now [] c.args.index.now t) c.source_of-after.ensures.refs
    c.source_of-after.ensures.starts c.source_of-after.ensures.tables c.source_of-after.ensures.lines (named_of c.named_file-second.result c.args.new.now c.args.common.now.sections.strs.bytes.now
    c.args.indexes.now.new c.args.heres.now.new.items c.as_slice-2.result.now c.named_file-second.ensures.units c.named_file-second.ensures.sections c.named_file-second.ensures.strs
    c.named_file-second.ensures.index c.named_file-second.ensures.heres c.as_slice-2.ensures.value c.requires.new_heres) in
    let w = source_is c.source_of.result c.named_file-third.result None c.args.common.now [] c.args.index.now None c.source_of.ensures.own c.source_of.ensures.common refl c.source_of.ensures.refs
    c.source_of.ensures.starts c.source_of.ensures.tables c.source_of.ensures.lines t in
    if_ok (λ (x : CrossLabels). ToldBy c.source_of-before.result c.source_of-after.result (Some c.source_of.result) x.labels x.targets)
    (λ (x : CrossLabels). AreLabelsFor c.args.old.now c.args.new.now (Some c.args.common.now) (with_index c.args.indexes.now c.args.index.now) x.labels x.targets) c.labels_of_sources.result
    (λ (x : CrossLabels) h. beside_labels c.args.old.now c.args.new.now c.args.common.now c.args.indexes.now c.args.index.now c.source_of-before.result c.source_of-after.result c.source_of.result
    c.named_file-third.result p q w t
    c.source_of-before.ensures.common c.source_of-after.ensures.common c.source_of.ensures.common x.labels x.targets h)
    (told_by c.source_of-before.result c.source_of-after.result (Some c.source_of.result) (λ (x : CrossLabels). x.labels) (λ (x : CrossLabels). x.targets) c.labels_of_sources.result
    c.labels_of_sources.ensures.labels)
