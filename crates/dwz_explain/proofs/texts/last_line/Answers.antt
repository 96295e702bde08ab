use Rattle.std.proofs.Common.{◌≡◌, [], ◌∙◌}
use Rattle.std.proofs.lemmas.Result.{IfOk-weaker}
use Rattle.dwz_def_explain.specs.Texts.{entry_along, reference_lines, what_line}
use Rattle.dwz_def_explain.specs.What.{whole_top}
use Rattle.dwz_def_tops.specs.Spots.{tops_of, units_of}
use Rattle.dwz_graph.specs.Files.{docs_of}
use Rattle.dwz_explain.proofs.ChainText.{last_text}
use Rattle.dwz_explain.proofs.texts.last_line.Goals as goal

pub returns : goal.returns
returns c = λ t u i j p q. (
    let docs = docs_of c.args.run.now.graph.now.given in
    let what = c.args.what.now in
    let path = c.path_of-path.result.now in
    let a = c.spot_along-a.ensures.shows (whole_top t) (c.spot_of_top.ensures.shows t i p) in
    let b = c.spot_along-b.ensures.shows (whole_top u) (c.spot_of_top-2.ensures.shows u j q) in
    IfOk-weaker c.what_line.result (λ text. text.items ≡ what_line docs what (entry_along path (whole_top t)) (entry_along path (whole_top u)))
    (λ text. text.items ≡ reference_lines docs (tops_of (units_of docs)) [] what t u) (λ text e. e ∙ last_text docs what path t u c.path_of-path.ensures)
    (c.what_line.ensures (entry_along path (whole_top t)) (entry_along path (whole_top u)) a b))
