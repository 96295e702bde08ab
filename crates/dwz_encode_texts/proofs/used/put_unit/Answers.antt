use Rattle.std.proofs.Common.{◌++◌, refl}
use Rattle.dwz_layout.specs.Attributes.{here_view}
use Rattle.dwz_layout.specs.Entries.{items_slots}
use Rattle.dwz_layout.proofs.LaidLemmas.{walk_smaller}
use Rattle.dwz_encode_texts.specs.Used.{items_uses}
use Rattle.dwz_encode_texts.proofs.UseSteps.{entries_end, entries_start}
use Rattle.dwz_encode_texts.proofs.used.put_unit.Goals as goal

pub loop-entry-init : goal.loop-entry-init
loop-entry-init c =
    let k = c.args.known.now in
    let o = c.args.items.now in
    entries_start k c.args.unit o (here_view c.here_of-here.result) c.new-walk.result (items_slots k o.sort o.items) c.args.uses.now.items c.here_of-here.ensures c.new-walk.ensures refl

pub loop-entry-smaller : goal.loop-entry-smaller
loop-entry-smaller c = walk_smaller c.in-Some.entry c.loop-entry.walk c.next.new.self c.in-Some.ensures

pub returns : goal.returns
returns c =
    entries_end c.args.known.now (here_view c.here_of-here.result) c.loop-entry.walk c.loop-entry.uses.items (c.args.uses.now.items ++ items_uses c.args.known.now c.args.unit c.args.items.now)
    c.in_default.ensures c.loop-entry.invariant
