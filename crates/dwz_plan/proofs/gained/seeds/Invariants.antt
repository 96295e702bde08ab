use Rattle.std.proofs.Common.{◌≡◌, map, take}
use Rattle.dwz_plan.specs.Gaining.{weights_of}
use Rattle.dwz_plan.specs.Gained.{part_seed}
use Rattle.dwz_plan.proofs.gained.seeds.Given as goal

abbrev pub invariant-loop-part : goal.invariant-loop-part
invariant-loop-part l = l.seeds.items ≡ map (part_seed (weights_of l.rows)) (take l.part-index l.partials)
