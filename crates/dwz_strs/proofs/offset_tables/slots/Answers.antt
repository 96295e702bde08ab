use Rattle.std.proofs.Common.{◌≡◌, ◌∙◌, ◌+◌, ◌*◌, ◌++◌, ℕ, List, Some, true, ap, arith, drop, sym}
use Rattle.dwz_def_reading.specs.OffsetTables.{count_at, is_contribution, places_from}
use Rattle.dwz_def_reading.proofs.ListFacts.{whole_rest}
use Rattle.dwz_strs.proofs.SlotSteps.{fits, next_row, no_more, no_slots_yet, not_a_row}
use Rattle.dwz_strs.proofs.offset_tables.slots.Goals as goal

pub loop-at-init : goal.loop-at-init
loop-at-init c = rw c.new-places.ensures.items (no_slots_yet c.args.section.now)

pub returns-then-not-is_contribution : goal.returns-then-not-is_contribution
returns-then-not-is_contribution c =
    let section = c.args.section.now in
    let at = c.loop-at.at in
    not_a_row section at c.loop-at.places.items c.loop-at.invariant c.loop-at-test.true (ap is_contribution (sym (whole_rest section at)) ∙ sym c.if-not-is_contribution.ensures)

pub overflow_add-from : goal.overflow_add-from
overflow_add-from c =
    let section = c.args.section.now in
    let at = c.loop-at.at in
    let rest = whole_rest section at in
    let stands : is_contribution (drop at section) ≡ true = ap is_contribution (sym rest) ∙ sym c.if-not-is_contribution.ensures in
    let fit = fits section at c.loop-at.places.items c.loop-at.invariant stands in
    omega (arith, fit, c.requires)

pub put_places-requires : goal.put_places-requires
put_places-requires c =
    let section = c.args.section.now in
    let at = c.loop-at.at in
    let rest = whole_rest section at in
    let stands : is_contribution (drop at section) ≡ true = ap is_contribution (sym rest) ∙ sym c.if-not-is_contribution.ensures in
    let fit = fits section at c.loop-at.places.items c.loop-at.invariant stands in
    let count : c.count_at-count.result ≡ count_at (drop at section) = c.count_at-count.ensures ∙ ap count_at rest in
    omega (arith, fit, count, c.requires)

pub overflow_mul-at : goal.overflow_mul-at
overflow_mul-at c =
    let section = c.args.section.now in
    let at = c.loop-at.at in
    let rest = whole_rest section at in
    let stands : is_contribution (drop at section) ≡ true = ap is_contribution (sym rest) ∙ sym c.if-not-is_contribution.ensures in
    let fit = fits section at c.loop-at.places.items c.loop-at.invariant stands in
    let count : c.count_at-count.result ≡ count_at (drop at section) = c.count_at-count.ensures ∙ ap count_at rest in
    omega (arith, fit, count, c.requires)

pub overflow_add-at : goal.overflow_add-at
overflow_add-at c =
    let section = c.args.section.now in
    let at = c.loop-at.at in
    let rest = whole_rest section at in
    let stands : is_contribution (drop at section) ≡ true = ap is_contribution (sym rest) ∙ sym c.if-not-is_contribution.ensures in
    let fit = fits section at c.loop-at.places.items c.loop-at.invariant stands in
    let count : c.count_at-count.result ≡ count_at (drop at section) = c.count_at-count.ensures ∙ ap count_at rest in
    omega (arith, fit, count, c.requires)

pub loop-at-preserved : goal.loop-at-preserved
loop-at-preserved c =
    let section = c.args.section.now in
    let at = c.loop-at.at in
    let rest = whole_rest section at in
    let stands : is_contribution (drop at section) ≡ true = ap is_contribution (sym rest) ∙ sym c.if-not-is_contribution.ensures in
    let count : c.count_at-count.result ≡ count_at (drop at section) = c.count_at-count.ensures ∙ ap count_at rest in
    next_row section at c.loop-at.places.items c.loop-at.invariant (at + 8 + 4 * c.count_at-count.result) c.put_places.new.places.items c.loop-at-test.true stands
    (omega (arith, count)) (c.in_ok-put_places.ensures ∙ ap (λ (n : ℕ). c.loop-at.places.items ++ places_from (at + 8) n) count)

pub returns : goal.returns
returns c =
    ap (λ (places : List ℕ). Some places) c.new.ensures
    ∙ no_more c.args.section.now c.loop-at.at c.loop-at.places.items c.loop-at.invariant c.loop-at-test.false
