use Rattle.std.proofs.Common.{◌≡◌, ℕ, List, [], Vec, Global, map, ap, subst, sym, ◌∙◌}
use Rattle.std.proofs.lemmas.Result.{err_from_is_err_and}
use Rattle.dwz_def_reading.specs.Finished.{beside_meaning}
use Rattle.dwz_graph.specs.Files.{FilesFail, said_beside}
use Rattle.dwz_run.proofs.batched.reads_alone.Goals as goal

abbrev contents : List (Vec ℕ Global) → List (List ℕ)
contents cs = map (λ (v : Vec ℕ Global). v.items) cs

pub returns-in_err-read_sup : goal.returns-in_err-read_sup
returns-in_err-read_sup c =
    let p = err_from_is_err_and c.from_residual.result c.from_residual.ensures.1 in
    rw (p.1, p.2)
    (subst (λ (w : List ℕ). FilesFail c.in_err-read_sup.field-0.0 (beside_meaning w [])) c.content_at-common.ensures c.in_err-read_sup.ensures.answers)

pub returns : goal.returns
returns c =
    (said_beside c.in_ok-read_sup.field-0, ap (λ (w : List ℕ). beside_meaning w []) (sym c.content_at-common.ensures) ∙ c.in_ok-read_sup.ensures.answers)
