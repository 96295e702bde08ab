use Rattle.std.proofs.Common.{[], ◌∷◌, ◌++◌, ℕ, map, ap, ◌∙◌}
use Rattle.std.proofs.lemmas.List.{map-append}
use Rattle.dwz_unit.specs.Contexts.{decls_of, known_rows}
use Rattle.dwz_unit.specs.Fronts.{front_view}
use Rattle.dwz_unit.specs.Appending.{opened}
use Rattle.dwz_unit.specs.Known.{row_view}
use Rattle.dwz_unit.proofs.KnownLemmas.{known_count}
use Rattle.dwz_unit.proofs.tree.open.Goals as goal

pub returns-clause-row : goal.returns-clause-row
returns-clause-row c =
    let ctx = c.args.context.now in
    let view = row_view (decls_of ctx) in
    let old = c.args.rows.now.items in
    ap (map view) c.in_ok-push.ensures.items ∙ map-append view old _
    ∙ ap (λ (n : ℕ). known_rows ctx old ++ opened ctx.unit n c.args.depth (front_view (decls_of ctx) c.args.front.now) ∷ []) (known_count ctx old c.len-number.result (c.len-number.ensures ∙ c.args.rows.now.ok.0))
