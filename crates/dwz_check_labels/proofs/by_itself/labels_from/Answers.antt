use Rattle.std.proofs.Common.{◌≡◌, List, [], None, refl, arith}
use Rattle.dwz_check_labels.specs.declared.both.CrossLabels.{CrossLabels}
use Rattle.dwz_check_labels.specs.Both.{KnowsNamed, Named, top_labels, top_targets}
use Rattle.dwz_check_labels.specs.FilesSaid.{AreTopLabels}
use Rattle.dwz_check_labels.proofs.TopsAlone.{ToldTops, tops_ready, tops_told, told_tops}
use Rattle.dwz_check_labels.proofs.IndexLemmas.{if_ok}
use Rattle.dwz_check_labels.proofs.ReadyLemmas.{named_of, source_is}
use Rattle.dwz_check_labels.proofs.by_itself.labels_from.Goals as goal

pub labels_of_tops-requires : goal.labels_of_tops-requires
labels_of_tops-requires c =
    let s = source_is c.source_of-source.result c.named_file-own.result None c.args.file.now [] c.args.index.now None c.source_of-source.ensures.own c.source_of-source.ensures.common refl
    c.source_of-source.ensures.refs c.source_of-source.ensures.starts c.source_of-source.ensures.tables c.source_of-source.ensures.lines (named_of c.named_file-own.result c.args.file.now []
    c.args.index.now c.args.heres.now c.args.heres.now c.named_file-own.ensures.units c.named_file-own.ensures.sections c.named_file-own.ensures.strs c.named_file-own.ensures.index
    c.named_file-own.ensures.heres refl c.requires.heres) in
    let r = tops_ready c.source_of-source.result c.args.file.now c.args.index.now s c.source_of-source.ensures.common c.requires.indexed in
    let few = r.tops in
    record { ready = r.is; few = omega arith }

pub returns-clause-labels : goal.returns-clause-labels
returns-clause-labels c =
    let s = source_is c.source_of-source.result c.named_file-own.result None c.args.file.now [] c.args.index.now None c.source_of-source.ensures.own c.source_of-source.ensures.common refl
    c.source_of-source.ensures.refs c.source_of-source.ensures.starts c.source_of-source.ensures.tables c.source_of-source.ensures.lines (named_of c.named_file-own.result c.args.file.now []
    c.args.index.now c.args.heres.now c.args.heres.now c.named_file-own.ensures.units c.named_file-own.ensures.sections c.named_file-own.ensures.strs c.named_file-own.ensures.index
    c.named_file-own.ensures.heres refl c.requires.heres) in
    if_ok (λ (x : CrossLabels). ToldTops c.source_of-source.result x.labels x.targets) (λ (x : CrossLabels). AreTopLabels c.args.file.now c.args.index.now x.labels x.targets) c.labels_of_tops.result
    (λ (x : CrossLabels) h. tops_told c.source_of-source.result c.args.file.now c.args.index.now s c.source_of-source.ensures.common x.labels x.targets h)
    (told_tops c.source_of-source.result (λ (x : CrossLabels). x.labels) (λ (x : CrossLabels). x.targets) c.labels_of_tops.result c.labels_of_tops.ensures.labels)
