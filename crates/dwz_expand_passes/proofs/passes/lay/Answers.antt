use Rattle.std.proofs.Common.{ap, ◌∙◌}
use Rattle.dwz_expand_layout.specs.Laid.{Laying, nothing_laid}
use Rattle.dwz_expand_passes.proofs.passes.lay.Goals as goal

pub returns-clause-lays : goal.returns-clause-lays
returns-clause-lays c = (
    let p = c.in_ok-pass_units.ensures.passed in
    (p.0, c.finish.ensures ∙ ap (λ (l : Laying). l.made) (p.2 nothing_laid.made c.new-laying.ensures), p.1))
