use Rattle.std.proofs.Common.{length, rules}
use Rattle.std.specs.Vec.Iter.{into_iter_items}
use Rattle.dwz_run_files.proofs.LanesDealt.{dealt_turn}
use Rattle.dwz_run_files.proofs.lanes.take_turns.Goals as goal

pub loop-number-preserved : goal.loop-number-preserved
loop-number-preserved c =
    let so_far = c.loop-number.invariant in (
      search rules,
      λ k r are count.
          dealt_turn into_iter_items k r (length c.args.lanes.items) c.loop-number._number c.in-Some-next.new c.loop-number.made.items
          c.push.new.self.items c.in-Some.lane c.next.new.self c.loop-number.lanes.items c.pop_front.new.self.items
          c.push_back.new.self.items so_far.0 c.in-Some.ensures.items c.in-Some-next.ensures.items c.in_ok-push_back.ensures.items
          c.in_ok-push.ensures.items (so_far.1 k r are count),
    )
