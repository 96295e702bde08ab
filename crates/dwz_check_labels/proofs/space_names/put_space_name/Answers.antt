use Rattle.std.proofs.Common.{◌≡◌, ◌++◌, List, ℕ, ap, ◌∙◌}
use Rattle.dwz_label.specs.Labels.{counted}
use Rattle.dwz_check_labels.proofs.space_names.put_space_name.Goals as goal

pub returns-in_default : goal.returns-in_default
returns-in_default c = λ around said d text says found is. (
    let none = c.in_default.ensures around said d text says found is in
    absurd cc)

pub returns : goal.returns
returns c = λ around said d text says found is. (
    let some = c.in-Some.ensures around said d text says found is in
    let it : c.in-Some.text.now ≡ text = cc in
    c.in_ok-put_counted.ensures ∙ ap (λ (w : List ℕ). c.args.out.now.items ++ counted w) it)
