use Rattle.std.proofs.Common.{◌≡◌, ◌+◌, ℕ, length, sym, subst, arith}
use Rattle.std.specs.Vec.Iter.{into_iter_items, into_iter_len}
use Rattle.dwz_law_layout.specs.Facts.{common, run}
use Rattle.dwz_run_files.proofs.LanesDealt.{AreMade, lanes_long, lanes_more, made_first, made_later}
use Rattle.dwz_run_files.proofs.lanes.lanes.Goals as goal

pub loop-lane-preserved : goal.loop-lane-preserved
loop-lane-preserved g c =
    let was = c.loop-lane.invariant in
    let lanes = c.loop-lane.lanes.items in
    let left = c.loop-lane.lane-iterator in
    let next = c.in-Some.ensures.steps in
    let more = c.in_ok-push_back.ensures.items in
    let long : length c.push_back.new.self.items ≡ length lanes + 1 = lanes_long lanes c.push_back.new.self.items c.into_iter.result more in (
      omega (arith, long, next.1, was.0),
      λ beside f is. (
          let so_far = was.1 beside f is in
          let every =
          made_first (common f) (run f) c.args.step (length lanes) (into_iter_len left) (into_iter_items left) (into_iter_items c.next.new.self)
          c.in-Some.lane c.in_ok-lane.field-0 next.0 c.in_ok-lane.was (omega (arith, next.1)) so_far.1 in (
            lanes_more into_iter_items (common f) (run f) c.args.step lanes c.push_back.new.self.items c.into_iter.result c.in_ok-lane.field-0.items
                c.into_iter.ensures.rest more so_far.0 every,
            subst (λ (k : ℕ). AreMade (common f) (run f) c.args.step k (into_iter_len c.next.new.self) (into_iter_items c.next.new.self)) (sym long)
                (made_later (common f) (run f) c.args.step (length lanes) (into_iter_len left) (into_iter_len c.next.new.self) (into_iter_items left)
                (into_iter_items c.next.new.self) c.in-Some.lane next.0 next.1 so_far.1),
          )),
    )
