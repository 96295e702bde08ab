use Rattle.std.proofs.Common.{List, ap, ◌∙◌}
use Rattle.dwz_layout.specs.declared.walk.Slot.{Slot}
use Rattle.dwz_layout.specs.Entries.{entries_of, items_slots}
use Rattle.dwz_layout.proofs.LaidLemmas.{walk_smaller}
use Rattle.dwz_encode_common.specs.Gathered.{with_all}
use Rattle.dwz_encode_common.specs.Stored.{items_give, origin_texts}
use Rattle.dwz_encode_common.proofs.TextSteps.{entries_are, entries_end, entries_give, entries_step}
use Rattle.dwz_encode_common.proofs.texts.put_unit.Goals as goal

pub loop-entry-init : goal.loop-entry-init
loop-entry-init c =
    let k = c.args.known.now in
    let o = c.args.items.now in
    let give = origin_texts c.args.graph.now.given k in
    ap (λ (w : List Slot). with_all c.args.pool.now (entries_give give (entries_of w))) c.new-walk.ensures
    ∙ ap (with_all c.args.pool.now) (entries_are give (items_slots k o.sort o.items))

pub loop-entry-preserved : goal.loop-entry-preserved
loop-entry-preserved c =
    let give = origin_texts c.args.graph.now.given c.args.known.now in
    entries_step give c.in-Some.entry c.loop-entry.walk c.next.new.self c.loop-entry.pool c.put_entry.new.pool
    (with_all c.args.pool.now (items_give give c.args.known.now c.args.items.now)) c.in-Some.ensures c.in_ok-put_entry.ensures
    c.loop-entry.invariant

pub loop-entry-smaller : goal.loop-entry-smaller
loop-entry-smaller c = walk_smaller c.in-Some.entry c.loop-entry.walk c.next.new.self c.in-Some.ensures

pub returns : goal.returns
returns c =
    let give = origin_texts c.args.graph.now.given c.args.known.now in
    entries_end give c.loop-entry.walk c.loop-entry.pool
    (with_all c.args.pool.now (items_give give c.args.known.now c.args.items.now)) c.in_default.ensures
    c.loop-entry.invariant
