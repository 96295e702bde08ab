use Rattle.std.proofs.Common.{ℕ, List, map, sym, ap, subst}
use Rattle.std.proofs.lemmas.List.{length-map}
use Rattle.std.proofs.lemmas.Result.{err_from_is_err_and}
use Rattle.dwz_def_reading.specs.Files.{file_meaning_by, no_files_before, refused_in}
use Rattle.dwz_graph.specs.ByRule.{common_rule}
use Rattle.dwz_graph.specs.Files.{CommonRead, FilesFail, Leaves, limits_view}
use Rattle.dwz_graph.proofs.BesideLemmas.{beside_common_fails, common_fails}
use Rattle.dwz_graph.proofs.ContentLemmas.{content}
use Rattle.dwz_graph.proofs.KeptLemmas.{behind_fails, behind_kept}
use Rattle.dwz_graph.proofs.graph.Graph.read_sup.Goals as goal

pub returns-in_err-shared-clause-answers : goal.returns-in_err-shared-clause-answers
returns-in_err-shared-clause-answers c =
    let p = err_from_is_err_and c.from_residual.result c.from_residual.ensures.1 in
    let files : List (List ℕ) = map content c.args.files.now in
    let bytes : List ℕ = c.args.common.now in
    let e = c.in_err-shared.field-0.0 in
    rw (p.1, p.2) (beside_common_fails e files bytes (common_fails e files bytes
    (subst (λ (n : ℕ). FilesFail e (refused_in n (file_meaning_by common_rule no_files_before bytes))) (sym (length-map c.args.files.now content)) c.in_err-shared.ensures)))

pub returns-in_err-kept-clause-answers : goal.returns-in_err-kept-clause-answers
returns-in_err-kept-clause-answers c =
    let p = err_from_is_err_and c.from_residual-in_err-kept.result c.from_residual-in_err-kept.ensures.1 in
    let files : List (List ℕ) = map content c.args.files.now in
    let bytes : List ℕ = c.args.common.now in
    let left : Leaves bytes (limits_view c.left-left.result) = subst (λ (s : CommonRead). Leaves s.bytes (limits_view c.left-left.result)) c.in_ok-shared.ensures c.left-left.ensures in
    rw (p.1, p.2) (behind_fails c.in_err-kept.field-0.0 files bytes (limits_view c.left-left.result) left c.in_err-kept.ensures)

pub beside_graph-requires : goal.beside_graph-requires
beside_graph-requires c =
    let files : List (List ℕ) = map content c.args.files.now in
    record {
      number = ap (λ (s : CommonRead). s.number) c.in_ok-shared.ensures;
      kept = behind_kept files c.in_ok-shared.shared.bytes (limits_view c.left-left.result) c.in_ok-kept.kept.items c.left-left.ensures c.in_ok-kept.ensures;
    }
