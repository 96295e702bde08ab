use Rattle.std.proofs.Common.{false, refl, ◌∙◌}
use Rattle.std.proofs.lemmas.Result.{err_from_is_err_and}
use Rattle.dwz_graph.specs.Files.{docs_of}
use Rattle.dwz_run_course.specs.declared.output.TextPart.{TextPart}
use Rattle.dwz_run.proofs.PlacesTold.{one_part, told, untold}
use Rattle.dwz_run.proofs.written.told_places.Goals as goal

pub returns-in_err-text : goal.returns-in_err-text
returns-in_err-text g c =
    let p = err_from_is_err_and c.from_residual.result c.from_residual.ensures.1 in
    let graph = c.args.graph.now.given in
    rw (p.1, p.2)
    (untold c.args.options.now graph (docs_of graph) c.requires.reads c.places_asked.result c.places_asked.ensures c.in_err-text.field-0.0 c.in_err-text.ensures)

pub returns : goal.returns
returns g c =
    let graph = c.args.graph.now.given in
    let part : TextPart = record { text = c.in_ok-text.text; is_summary = false } in
    told c.args.options.now graph (docs_of graph) c.requires.reads c.places_asked.result c.places_asked.ensures c.in_ok-text.text c.in_ok-text.ensures _ _
    (c.new-2.ensures ∙ c.new.ensures.items) refl refl refl
    (one_part c.new-3.result c.push.new.self.items c.new-parts.result.items part c.new-3.ensures c.in_ok-push.ensures.items c.new-parts.ensures.items)
