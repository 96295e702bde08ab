use Rattle.std.proofs.Common.{ap, ◌∙◌}
use Rattle.dwz_expand_layout.specs.Laid.{layout_view}
use Rattle.dwz_expand_layout.specs.Written.{Writing, written}
use Rattle.dwz_expand_passes.proofs.OneOrder.{same_order}
use Rattle.dwz_expand_passes.proofs.passes.write.Goals as goal

pub returns-clause-writes : goal.returns-clause-writes
returns-clause-writes c = (
    let p = c.in_ok-pass_units.ensures.passed in
    (p.0, c.finish.ensures ∙ ap (λ (w : Writing). w.out) (p.2 (layout_view c.args.layout.now) c.in_ok-writing.ensures), p.1))

pub returns-clause-one : goal.returns-clause-one
returns-clause-one c = λ order w stands new says. (
    let p = c.in_ok-pass_units.ensures.passed in
    let one = same_order c.args.file.now w stands p.0 order says p.1 new in
    c.finish.ensures ∙ ap (λ (k : Writing). k.out) (p.2 (layout_view c.args.layout.now) c.in_ok-writing.ensures) ∙ ap (written (layout_view c.args.layout.now)) one)
