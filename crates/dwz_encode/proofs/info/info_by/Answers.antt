use Rattle.std.proofs.Common.{◌∙◌}
use Rattle.rayon.proofs.ListFacts.{IfOk-then}
use Rattle.dwz_encode.proofs.StretchLemmas.{all_joined}
use Rattle.dwz_encode.proofs.info.info_by.Goals as goal

pub returns : goal.returns
returns g c =
    let known = c.args.known.now in
    let places = c.args.spots.now.places.items in
    let roots = c.args.spots.now.roots.items in
    let all = all_joined known places roots c.in_ok-pages.pages.items c.as_slice.result.now c.in_ok-stretches.stretches.items
    c.args.first c.args.units.now c.as_slice-outs.result.now c.args.laid.now.units.items
    c.in_ok-pages.ensures c.as_slice.ensures.value (c.in_ok-stretches.ensures known places roots) c.as_slice-outs.ensures.value in
    IfOk-then c.join_pages.result _ _ c.join_pages.ensures (λ info is. is ∙ all)
