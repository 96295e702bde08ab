use Rattle.std.proofs.Common.{◌++◌, ◌∙◌, List, ap}
use Rattle.dwz_layout.specs.declared.walk.Slot.{Slot}
use Rattle.dwz_layout.specs.Entries.{items_slots}
use Rattle.dwz_layout.specs.Walking.{run_slots}
use Rattle.dwz_layout.proofs.WalkLemmas.{empty_none, next_view, next_whole}
use Rattle.dwz_layout.proofs.walk.Walk.new.Goals as goal

pub invariant_of-result : goal.invariant_of-result
invariant_of-result c = next_whole _ c.pull.result.slot _ c.pull.ensures

pub returns : goal.returns
returns c =
    let k = c.args.known.now in
    let sort = c.args.unit.now.sort in
    next_view _ c.pull.result.slot _ c.pull.ensures
    ∙ (λ i. run_slots k (c.no_run.ensures i) ++ items_slots k sort (c.as_slice.ensures i))
    ∙ ap (λ (w : List Slot). w ++ items_slots k sort c.args.unit.now.items) (empty_none k)
