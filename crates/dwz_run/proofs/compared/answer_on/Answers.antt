use Rattle.std.proofs.Common.{ℕ, List, Vec, Global, Bor, false, map, refl, ◌∙◌}
use Rattle.std.specs.Option.{option_map}
use Rattle.std.proofs.lemmas.Result.{err_from_is_err_and}
use Rattle.dwz_graph.specs.Files.{said_finished}
use Rattle.dwz_run_course.specs.declared.output.TextPart.{TextPart}
use Rattle.dwz_run.proofs.PlacesTold.{one_part}
use Rattle.dwz_run.proofs.TwoCompared.{compared, unread}
use Rattle.dwz_run.proofs.compared.answer_on.Goals as goal

pub returns-in_err-graph : goal.returns-in_err-graph
returns-in_err-graph g c =
    let p = err_from_is_err_and c.from_residual.result c.from_residual.ensures.1 in
    rw (p.1, p.2)
    (unread (option_map (λ (b : Bor (List ℕ)). b.now) c.args.common) (map (λ (v : Vec ℕ Global). v.items) c.args.files.now) c.in_err-graph.field-0.0 c.in_err-graph.ensures.answers)

pub returns : goal.returns
returns g c =
    let part : TextPart = record { text = c.in_ok-text.text; is_summary = false } in
    compared (option_map (λ (b : Bor (List ℕ)). b.now) c.args.common) (map (λ (v : Vec ℕ Global). v.items) c.args.files.now) (said_finished c.in_ok-graph.graph)
    c.in_ok-same.same c.in_ok-text.text c.in_ok-graph.ensures.answers c.in_ok-same.ensures c.in_ok-text.ensures _ _ (c.new-2.ensures ∙ c.new.ensures.items) refl c.tells_apart.ensures refl
    (one_part c.new-3.result c.push.new.self.items c.new-parts.result.items part c.new-3.ensures c.in_ok-push.ensures.items c.new-parts.ensures.items)
