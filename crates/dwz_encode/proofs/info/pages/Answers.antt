use Rattle.std.proofs.Common.{◌∙◌, map}
use Rattle.rayon.proofs.ListFacts.{IfOk-then}
use Rattle.rayon.proofs.ToStd.{slice-AllZip}
use Rattle.dwz_label.proofs.Wholes.{Gives, collected}
use Rattle.dwz_encode.specs.Stretches.{stretch_page}
use Rattle.dwz_encode.proofs.info.pages.Goals as goal

-- the closure has what it was made with
pub returns : goal.returns
returns g c =
    let stretches = c.args.stretches.now in
    let chain = c.in_ok-pages.ensures in
    let kept = c.map.ensures.f in
    let f = c.map.result.f in
    let page = stretch_page f.1.now f.2.now.places.items f.2.now.roots.items in
    let shown = chain.1.1 ∙ (λ i. (c.map.ensures.base i).base.slice.now)
    ∙ (λ i. (c.with_min_len.ensures.base i).slice.now) ∙ c.par_iter.ensures in
    let each = slice-AllZip chain.1.0 stretches shown (Gives page) chain.0 chain.1.2 in
    IfOk-then c.in_ok-pages.pages _ _ (collected (λ v. v.items) page stretches c.in_ok-pages.pages chain.0 each chain.2)
    (λ v e. e ∙ (λ i. map (stretch_page (kept i).1.now (kept i).2.now.places.items (kept i).2.now.roots.items) stretches))
