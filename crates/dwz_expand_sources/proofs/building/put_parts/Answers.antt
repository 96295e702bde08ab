use Rattle.dwz_expand_sources.proofs.PartSteps.{part_put}
use Rattle.dwz_expand_sources.proofs.building.put_parts.Goals as goal

pub loop-part-preserved : goal.loop-part-preserved
loop-part-preserved c = part_put c.args.spans.now c.args.parts.now c.loop-part.part-index (record { root = 0; end = 0 }) c.args.ranges.now.items c.loop-part.ranges.items c.put_range.new.ranges.items
    c.requires.parts c.loop-part-test.true c.loop-part.invariant c.in_ok-put_range.ensures
