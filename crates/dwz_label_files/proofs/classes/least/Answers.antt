use Rattle.std.proofs.lemmas.Result.{IfOk-weaker}
use Rattle.dwz_def_tops.specs.Spots.{units_of}
use Rattle.dwz_graph.specs.Files.{docs_of}
use Rattle.dwz_label.specs.Nodes.{AreLeast}
use Rattle.dwz_label_files.specs.LeastLaws.{GivesLeast}
use Rattle.dwz_label_files.proofs.MarkedLemmas.{apart_shown}
use Rattle.dwz_label_files.proofs.classes.least.Goals as goal

pub returns : goal.returns
returns g c = λ show. (
    let labels = c.in_ok-labels.labels in
    let movable = c.args.movable.now in
    let targets = c.args.tops.now.targets in
    let units = units_of (docs_of c.args.graph.now.given) in
    IfOk-weaker c.least_alike.result (λ least. GivesLeast labels movable targets least) (λ least. AreLeast units least)
    (λ least gives. gives units (apart_shown units labels movable targets (c.in_ok-labels.ensures.apart show.flags) c.requires.targets show)) c.least_alike.ensures)
