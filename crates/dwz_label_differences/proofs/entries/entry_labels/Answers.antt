use Rattle.std.proofs.Common.{arith, refl}
use Rattle.dwz_label_differences.specs.declared.entries.EntryLabel.{EntryLabel}
use Rattle.dwz_label_differences.proofs.EntryLemmas.{all_read, many_read, none_read, one_read}
use Rattle.dwz_label_differences.proofs.entries.entry_labels.Goals as goal

pub loop-init : goal.loop-init
loop-init c = none_read c.args.label.now c.new-rows.result.items c.new-rows.ensures.items

pub loop-preserved : goal.loop-preserved
loop-preserved c = λ x e. (
    let many = many_read c.args.label.now c.count_of-count.result c.count_of-count.ensures.is x e in
    let l = c.loop-test.true in
    let row : EntryLabel = record { below = c.count_of-below.result; label = c.after_number-label.result } in
    one_read x c.loop.rows.items c.push.new.self.items c.loop.left.now c.after_number-label.result.now c.after_number.result.now c.after_attributes-left.result.now c.count_of-below.result c.loop.counter row
    (omega (arith, l, many)) c.count_of-below.ensures.is c.after_number-label.ensures c.after_number.ensures c.after_attributes-left.ensures refl refl c.in_ok-push.ensures.items (c.loop.invariant x e))

pub returns : goal.returns
returns c = λ x e. (
    let many = many_read c.args.label.now c.count_of-count.result c.count_of-count.ensures.is x e in
    let l = c.loop-test.false in
    all_read x c.loop.rows.items c.loop.left.now c.loop.counter (omega (arith, l, many)) (c.loop.invariant x e))
