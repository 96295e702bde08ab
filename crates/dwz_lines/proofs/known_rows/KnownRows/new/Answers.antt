use Rattle.std.proofs.Common.{◌≡◌, List, sym, ap, subst, ◌∙◌, slice_get}
use Rattle.dwz_lines.specs.declared.known_rows.Steps.{Steps}
use Rattle.dwz_lines.specs.KnownViews.{AreSteps}
use Rattle.dwz_lines.specs.RowViews.{item_of}
use Rattle.dwz_lines.proofs.LocalLemmas.{same_each}
use Rattle.dwz_lines.proofs.known_rows.KnownRows.new.Goals as goal

pub returns-clause-sound : goal.returns-clause-sound
returns-clause-sound c = λ place steps is. (
    let item = item_of c.args.reader in
    let line = c.args.line.now in
    let all = c.in_ok-steps.ensures.items_if_clones_equal (λ y e. e) in
    let same : c.no_steps.result ≡ steps = same_each _ c.no_steps.result place steps (ap (λ (w : List Steps). slice_get w place) (sym all) ∙ is) in
    subst (λ (w : Steps). AreSteps item line place w) same (c.no_steps.ensures item line place))
