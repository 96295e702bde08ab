use Rattle.std.proofs.Common.{length, ◌≤◌, ◌++◌}
use Rattle.dwz_def_tops.specs.Spots.{Row}
use Rattle.dwz_layout_items.specs.Order.{order_lines}
use Rattle.dwz_layout_items.specs.Outline.{ShowsRow, View}
use Rattle.dwz_layout_items.specs.Parts.{part_lines}
use Rattle.dwz_layout_items.proofs.StepLemmas.{LeftOf}
use Rattle.dwz_layout_items.proofs.kept.+put_part.Given as goal

abbrev pub decreases-put_part : goal.decreases-put_part
decreases-put_part l = length l.outers.now

abbrev pub invariant-outers : goal.invariant-outers
invariant-outers l =
    record {
      short : length l.left ≤ length l.outers;
      left : (v : View) (row : Row) → ShowsRow v row l.outers → LeftOf v l.depth l.pinned l.left (order_lines v.names l.order.items)
          (order_lines v.names l.fn.order.items ++ part_lines v l.depth l.pinned row);
    }

abbrev pub decreases-outers : goal.decreases-outers
decreases-outers l = length l.left
