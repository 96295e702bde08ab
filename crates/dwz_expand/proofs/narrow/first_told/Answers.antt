use Rattle.std.proofs.Common.{◌≡◌, [], refl, subst}
use Rattle.dwz_expand_layout.specs.Laid.{Made, layout_view}
use Rattle.dwz_expand.specs.Told.{AreFirst}
use Rattle.dwz_expand.proofs.ToldLemmas.{none_first}
use Rattle.dwz_expand.proofs.narrow.first_told.Goals as goal

pub returns-clause-places : goal.returns-clause-places
returns-clause-places c =
    let n = c.in_ok-pass_units.ensures.noted in
    let p = c.in_ok-pass_units.ensures.passed in
    let made = layout_view c.args.layout.now in
    let same : layout_view c.pass_units.new.pass.layout.now ≡ made = p.2 made refl in
    (n.0, n.1, subst (λ (m : Made). AreFirst m n.0 c.pass_units.new.pass.places) same (n.2 [] (none_first made _ (λ o there. absurd there) (λ o there. absurd there))))
