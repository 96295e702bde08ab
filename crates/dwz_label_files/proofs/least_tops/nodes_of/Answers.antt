use Rattle.std.proofs.Common.{ℕ, List, sym, subst, ◌∙◌}
use Rattle.std.proofs.lemmas.Result.{IfOk-weaker}
use Rattle.dwz_label.specs.Shown.{AreMadeOf}
use Rattle.dwz_label.proofs.MadeLemmas.{made_closed}
use Rattle.dwz_label_marks.proofs.ApartLemmas.{made_apart}
use Rattle.dwz_label_files.proofs.least_tops.nodes_of.Goals as goal

pub returns-clause-nodes : goal.returns-clause-nodes
returns-clause-nodes c =
    let firsts = c.in_ok-firsts.firsts.items in
    let movable = c.args.movable.now in
    let targets = c.args.targets.now in
    IfOk-weaker c.nodes.result _ _
    (λ g made units shown.
    made_apart units c.args.labels.now movable targets firsts g shown c.in_ok-firsts.ensures (subst (λ (fs : List ℕ). AreMadeOf fs movable targets g) c.as_slice.ensures.value made))
    c.nodes.ensures

pub returns-clause-closed : goal.returns-clause-closed
returns-clause-closed c =
    let firsts = c.in_ok-firsts.firsts.items in
    let movable = c.args.movable.now in
    let targets = c.args.targets.now in
    IfOk-weaker c.nodes.result _ _
    (λ g made.
    made_closed firsts movable targets g (c.requires.targets ∙ sym c.requires.movable ∙ sym c.in_ok-firsts.ensures.len) c.requires.inside
    (subst (λ (fs : List ℕ). AreMadeOf fs movable targets g) c.as_slice.ensures.value made))
    c.nodes.ensures
