use Rattle.std.proofs.Common.{◌+◌, length, Option, Bor, arith}
use Rattle.std.specs.Option.{option_map}
use Rattle.dwz_graph.specs.declared.file.File.{File}
use Rattle.dwz_check_labels.specs.declared.both.CrossLabels.{CrossLabels}
use Rattle.dwz_check_labels.specs.FilesSaid.{AreLabelsFor}
use Rattle.dwz_check_labels.specs.Graph.{AreLabelsOf}
use Rattle.dwz_check_labels.proofs.FinishedLemmas.{all_read, back_many, labels_from}
use Rattle.dwz_check_labels.proofs.IndexLemmas.{if_ok}
use Rattle.dwz_check_labels.proofs.graph.labels_of.Goals as goal

-- the file behind a reference, if there is one
abbrev behind : Option (Bor File) → Option File
behind o = option_map {T = Bor File} {U = File} (λ f. f.now) o

pub bounds-files-0 : goal.bounds-files-0
bounds-files-0 c =
    let many = back_many c.args.graph.now.common c.args.graph.now.back c.back-files.result.now c.back-files.ensures in
    let two = c.requires.two in
    omega (arith, many, two)

pub bounds-files-1 : goal.bounds-files-1
bounds-files-1 c =
    let many = back_many c.args.graph.now.common c.args.graph.now.back c.back-files.result.now c.back-files.ensures in
    let two = c.requires.two in
    omega (arith, many, two)

pub labels_of_files-requires : goal.labels_of_files-requires
labels_of_files-requires c =
    let r = all_read c.placed_laws.ensures.common c.placed_laws.ensures.back (length c.args.graph.now.given + length c.args.graph.now.back) c.args.graph.now (behind c.common.result)
    c.back-files.result.now
    c.args.indexes.now c.index-files-0.result c.index-files-1.result c.requires.two c.common.ensures c.back-files.ensures c.requires.indexes c.index-files-0.is c.index-files-1.is in
    r.s

pub returns-clause-labels : goal.returns-clause-labels
returns-clause-labels c =
    let r = all_read c.placed_laws.ensures.common c.placed_laws.ensures.back (length c.args.graph.now.given + length c.args.graph.now.back) c.args.graph.now (behind c.common.result)
    c.back-files.result.now
    c.args.indexes.now c.index-files-0.result c.index-files-1.result c.requires.two c.common.ensures c.back-files.ensures c.requires.indexes c.index-files-0.is c.index-files-1.is in
    if_ok (λ (x : CrossLabels). AreLabelsFor c.index-files-0.result c.index-files-1.result (behind c.common.result) c.args.indexes.now x.labels x.targets)
    (λ (x : CrossLabels). AreLabelsOf c.args.graph.now x.labels x.targets) c.labels_of_files.result
    (λ (x : CrossLabels) h. labels_from c.args.graph.now c.index-files-0.result c.index-files-1.result (behind c.common.result) c.args.indexes.now x.labels x.targets r h)
    c.labels_of_files.ensures.labels
