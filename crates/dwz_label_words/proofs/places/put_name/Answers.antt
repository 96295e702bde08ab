use Rattle.std.proofs.Common.{◌≡◌, ◌++◌, List, ℕ, ap, refl, ◌∙◌}
use Rattle.dwz_label.specs.Labels.{counted}
use Rattle.dwz_graph.specs.Resolved.{scope_in}
use Rattle.dwz_unit.specs.Rows.{units_of}
use Rattle.dwz_label_words.proofs.places.put_name.Goals as goal

pub returns-in_default : goal.returns-in_default
returns-in_default c = λ u row d text at found means is. (
    let s = scope_in c.args.sections.now (units_of c.args.units.now) u in
    let none = c.in_default.ensures s row d text (record { sources = refl; common = refl; base_is = at.base }) found means is in
    absurd cc)

pub returns : goal.returns
returns c = λ u row d text at found means is. (
    let s = scope_in c.args.sections.now (units_of c.args.units.now) u in
    let some = c.in-Some.ensures s row d text (record { sources = refl; common = refl; base_is = at.base }) found means is in
    let it : c.in-Some.text.now ≡ text = cc in
    c.in_ok-put_counted.ensures ∙ ap (λ (w : List ℕ). c.args.out.now.items ++ counted w) it)
