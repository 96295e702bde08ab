use Rattle.std.proofs.Common.{◌≡◌, ◌∷◌, ◌∙◌, sym}
use Rattle.dwz_label_differences.proofs.PieceLemmas.{plain_parts}
use Rattle.dwz_label_differences.proofs.attributes.after_plain.Goals as goal

pub returns-in-11 : goal.returns-in-11
returns-in-11 c = λ plain rest e. (
    let shape : c.args.label.now ≡ c.in-Some.kind.now ∷ c.in-Some.others.now = c.in-Some.ensures.cases.0 in
    let p = plain_parts plain c.in-Some.kind.now c.in-Some.others.now rest (sym shape ∙ e) c.in-11.is in
    c.after_parts.ensures p.0 rest p.1)
