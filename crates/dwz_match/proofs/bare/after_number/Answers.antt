use Rattle.std.proofs.Common.{◌≡◌, ◌/◌, ◌∷◌, ◌∙◌, sym}
use Rattle.dwz_match.proofs.BareFacts.{group_last, group_more}
use Rattle.dwz_match.proofs.bare.after_number.Goals as goal

pub groups-preserved : goal.groups-preserved
groups-preserved c = λ n rest e. (
    let i = c.groups.invariant n rest e in
    let shape : c.groups.left.now ≡ c.in-Some.group.now ∷ c.in-Some.others.now = c.in-Some.ensures.cases.0 in
    (i.0 / 128, group_more i.0 c.in-Some.group.now c.in-Some.others.now rest (sym shape ∙ i.1) c.if-group-lt128.false))

pub returns-then-group-lt128 : goal.returns-then-group-lt128
returns-then-group-lt128 c = λ n rest e. (
    let i = c.groups.invariant n rest e in
    let shape : c.groups.left.now ≡ c.in-Some.group.now ∷ c.in-Some.others.now = c.in-Some.ensures.cases.0 in
    group_last i.0 c.in-Some.group.now c.in-Some.others.now rest (sym shape ∙ i.1) c.if-group-lt128.true)
