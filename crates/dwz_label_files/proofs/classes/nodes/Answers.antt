use Rattle.std.proofs.Common.{sym, ◌∙◌}
use Rattle.std.proofs.lemmas.Result.{IfOk-weaker}
use Rattle.dwz_def_tops.specs.Spots.{units_of}
use Rattle.dwz_graph.specs.Files.{docs_of}
use Rattle.dwz_label.specs.Nodes.{AreTopNodes}
use Rattle.dwz_label_files.specs.LeastLaws.{GivesNodes}
use Rattle.dwz_label_files.proofs.LabelLemmas.{targets_low, tops_show}
use Rattle.dwz_label_files.proofs.MarkedLemmas.{apart_shown}
use Rattle.dwz_label_files.proofs.classes.nodes.Goals as goal

pub nodes_of-requires-clause-targets : goal.nodes_of-requires-clause-targets
nodes_of-requires-clause-targets g c = c.in_ok-tops.ensures.shows.len ∙ sym c.in_ok-labels.ensures.len

pub nodes_of-requires-clause-inside : goal.nodes_of-requires-clause-inside
nodes_of-requires-clause-inside g c = targets_low c.in_ok-tops.tops.targets c.in_ok-tops.ensures.inside

pub returns : goal.returns
returns g c = λ flags. (
    let labels = c.in_ok-labels.labels in
    let movable = c.args.movable.now in
    let tops = c.in_ok-tops.tops in
    let docs = docs_of c.args.graph.now.given in
    IfOk-weaker c.nodes_of.result (λ nodes. GivesNodes labels movable tops.targets nodes) (λ nodes. AreTopNodes (units_of docs) nodes)
    (λ nodes gives. gives (units_of docs) (apart_shown (units_of docs) labels movable tops.targets (c.in_ok-labels.ensures.apart flags) c.in_ok-tops.ensures.shows.len
    (tops_show docs tops movable c.in_ok-tops.ensures flags))) c.nodes_of.ensures.nodes)
