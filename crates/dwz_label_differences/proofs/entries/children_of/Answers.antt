use Rattle.std.proofs.Common.{◌≡◌, ◌∷◌, ◌∙◌, subst, sym}
use Rattle.dwz_label_differences.specs.Labels.{AreEntryLabels, flat}
use Rattle.dwz_label_differences.proofs.EntryLemmas.{all_below, none_below}
use Rattle.dwz_label_differences.proofs.entries.children_of.Goals as goal

pub returns-in-None : goal.returns-in-None
returns-in-None c = λ x e h g. absurd (none_below x e c.args.rows.now c.behind.result.now c.args.k h g c.behind.ensures c.in-None.ensures.cases)

pub returns-in-Some : goal.returns-in-Some
returns-in-Some c = λ x e h g. (
    let shape : c.behind.result.now ≡ c.in-Some.entry.now ∷ c.in-Some.others.now = c.in-Some.ensures.cases.0 in
    let b = all_below x e c.args.rows.now c.args.k c.in-Some.entry.now c.in-Some.others.now h g (sym c.behind.ensures ∙ shape) in
    c.count_beside.ensures b.0 (subst (λ rs. AreEntryLabels (flat b.0) rs) (sym c.front.ensures) b.1) ∙ b.2)
