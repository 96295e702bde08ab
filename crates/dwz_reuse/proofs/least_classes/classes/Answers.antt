use Rattle.std.proofs.Common.{ℕ, List}
use Rattle.std.proofs.lemmas.Result.{IfOk-weaker}
use Rattle.dwz_def_taken.specs.Beside.{look_units, reused_of}
use Rattle.dwz_label.specs.Nodes.{AreLeast}
use Rattle.dwz_label_files.specs.LeastLaws.{GivesLeast}
use Rattle.dwz_label_marks.proofs.ShownLemmas.{whole_apart}
use Rattle.dwz_match.proofs.BareLabels.{bare_law}
use Rattle.dwz_reuse.proofs.least_classes.classes.Goals as goal

pub returns : goal.returns
returns g c = λ docs common name placed partial named flags shown. (
    let labels = c.args.all.now.labels in
    let targets = c.args.all.now.targets in
    let movable = c.args.movable.now in
    let units = look_units (reused_of docs common) in
    IfOk-weaker c.least_alike.result (λ least. GivesLeast labels movable targets least) (λ least. AreLeast units least)
    (λ least gives. gives units (whole_apart units labels movable targets (bare_law docs common name labels movable targets placed partial named flags shown))) c.least_alike.ensures)
