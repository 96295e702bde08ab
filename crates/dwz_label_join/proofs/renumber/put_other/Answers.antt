use Rattle.std.proofs.Common.{◌≡◌, ◌+◌, ◌*◌, ◌/◌, ◌<◌, ◌^◌, ◌++◌, ℕ, List, ap, arith, refl, slice_get, ◌∙◌}
use Rattle.dwz_label.specs.Labels.{number}
use Rattle.dwz_model.proofs.ListFacts.{got_below}
use Rattle.dwz_label_join.proofs.GroupLemmas.{no_group, read_begins, read_ends, read_more}
use Rattle.dwz_label_join.proofs.renumber.put_other.Goals as goal

pub groups-init : goal.groups-init
groups-init c = record { from = omega arith; same = refl; left = λ whole rest e fits. read_begins c.args.label.now c.args.start rest whole e }

pub groups-preserved : goal.groups-preserved
groups-preserved c = record {
  from = (let from = c.groups.invariant.from in omega arith);
  same = c.groups.invariant.same;
  left = λ whole rest e fits. read_more c.args.label.now c.groups.at rest whole c.groups.word c.groups.scale c.saturating_mul.result c.saturating_add-word.result c.saturating_mul-scale.result
      (c.groups.invariant.left whole rest e fits) fits c.groups-test.true c.if-group-lt128.false c.saturating_mul.ensures c.saturating_add-word.ensures c.saturating_mul-scale.ensures;
}

pub returns-then-group-lt128-clause-told : goal.returns-then-group-lt128-clause-told
returns-then-group-lt128-clause-told c = λ name n rest e got. (
    let low = got_below c.args.numbers.now name n got in
    let few = c.requires.few in
    let fits : 2 * name + 1 < 2 ^ 64 = omega arith in
    let x = read_ends c.args.label.now c.groups.at rest (2 * name + 1) c.groups.word c.groups.scale c.saturating_mul.result c.saturating_add-word.result
    (c.groups.invariant.left (2 * name + 1) rest e fits) fits c.groups-test.true c.if-group-lt128.true c.saturating_mul.ensures c.saturating_add-word.ensures in
    let sum = x.1 in
    let half : c.saturating_add-word.result / 2 ≡ name = omega arith in
    (x.0, c.in_ok-put_nth.ensures n (ap (slice_get c.args.numbers.now) half ∙ got) ∙ ap (λ (w : List ℕ). w ++ number (2 * n + 1)) c.groups.invariant.same))

pub returns-clause-told : goal.returns-clause-told
returns-clause-told c = λ name n rest e got. (
    let low = got_below c.args.numbers.now name n got in
    let few = c.requires.few in
    let fits : 2 * name + 1 < 2 ^ 64 = omega arith in
    let h = c.groups.invariant.left (2 * name + 1) rest e fits in
    absurd (no_group c.args.label.now c.groups.at rest h.left h.stands c.groups-test.false))
