use Rattle.dwz_layout.specs.Walking.{run_slots}
use Rattle.dwz_layout.proofs.WalkLemmas.{none_pulled, pulled}
use Rattle.dwz_layout.proofs.walk.pull.Goals as goal

pub returns-in_default-split_first : goal.returns-in_default-split_first
returns-in_default-split_first c =
    let k = c.args.known.now in (
      none_pulled k c.args.sort (run_slots k c.args.entries) c.args.items.now c.in_default.ensures.0 c.in_default-split_first.ensures.cases,
      none_pulled k c.args.sort (run_slots k c.step.new.self) c.args.items.now c.in_default.ensures.1 c.in_default-split_first.ensures.cases,
    )

pub returns : goal.returns
returns c =
    let k = c.args.known.now in
    pulled k c.args.sort (run_slots k c.args.entries) c.in-Some-split_first.item.now c.in-Some-split_first.items.now c.args.items.now c.first_of.result.slot (run_slots k c.first_of.result.run)
    c.in_default.ensures.0 c.in-Some-split_first.ensures.cases.0 c.first_of.ensures
