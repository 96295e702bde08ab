use Rattle.std.proofs.Common.{◌+◌, ℕ, None, length, sym, ap, subst, ◌∙◌, arith}
use Rattle.std.proofs.lemmas.Result.{IfOk-weaker}
use Rattle.dwz_check_labels.specs.FilesSaid.{IsNamed, around_given}
use Rattle.dwz_def_reading.proofs.MeaningUnits.{units_agree}
use Rattle.dwz_reuse.proofs.CrossFew.{cross_fit}
use Rattle.dwz_unit.specs.Rows.{units_of}
use Rattle.dwz_reuse.proofs.AllInside.{joined_inside}
use Rattle.dwz_reuse.proofs.look.all_labels.Goals as goal

pub look_labels-requires-clause-few : goal.look_labels-requires-clause-few
look_labels-requires-clause-few c =
    let doc = c.requires.said.0 in
    let r = c.requires.said.1 in
    let f = c.args.common.now in
    let count = c.in_ok-others.ensures.count doc r in
    let fit = cross_fit (around_given f None) (units_of f.units) doc.units (((units_agree (around_given f None) (units_of f.units)).ok doc.units).0 r.said.means) in
    let few = r.said.few in
    let own = c.requires.few in
    omega (arith, count, fit, few, own)

pub returns-clause-count : goal.returns-clause-count
returns-clause-count c = λ doc r. (
    let count = c.in_ok-others.ensures.count doc r in
    IfOk-weaker c.look_labels.result _ _ (λ all e. e ∙ ap (λ (n : ℕ). length c.args.labels.now + n) count) c.look_labels.ensures.count)

pub returns-clause-inside : goal.returns-clause-inside
returns-clause-inside c =
    let own = c.requires.own in
    let first = c.len.ensures in
    IfOk-weaker c.look_labels.result _ _ (λ all e.
    joined_inside c.args.targets.now c.in_ok-others.others.targets all.targets c.len.result (own ∙ sym first) e c.requires.inside c.in_ok-others.ensures.inside)
    c.look_labels.ensures.targets

pub returns-clause-shows : goal.returns-clause-shows
returns-clause-shows c = λ docs doc n movable placed r same named shown.
    c.look_labels.ensures.shows docs doc n.name movable placed r.partial shown
    (c.in_ok-others.ensures.lists doc n r same (subst (λ (w : ℕ). IsNamed w (λ p. p) n) (sym c.len.ensures) named))
