use Rattle.std.proofs.Common.{ℕ, List, map}
use Rattle.std.proofs.lemmas.Result.{err_from_is_err_and}
use Rattle.dwz_graph.specs.Files.{limits_view}
use Rattle.dwz_graph.proofs.ContentLemmas.{content}
use Rattle.dwz_graph.proofs.KeptLemmas.{behind_fails, behind_kept}
use Rattle.dwz_graph.proofs.graph.Graph.read_beside.Goals as goal

pub returns-in_err-kept-clause-answers : goal.returns-in_err-kept-clause-answers
returns-in_err-kept-clause-answers g c =
    let p = err_from_is_err_and c.from_residual.result c.from_residual.ensures.1 in
    let files : List (List ℕ) = map content c.args.files.now in
    rw (p.1, p.2) (behind_fails c.in_err-kept.field-0.0 files c.args.common.now.bytes (limits_view c.left-left.result) c.left-left.ensures c.in_err-kept.ensures)

pub beside_graph-requires : goal.beside_graph-requires
beside_graph-requires g c =
    let files : List (List ℕ) = map content c.args.files.now in
    record {
      number = c.requires.number;
      kept = behind_kept files c.args.common.now.bytes (limits_view c.left-left.result) c.in_ok-kept.kept.items c.left-left.ensures c.in_ok-kept.ensures;
    }
