use Rattle.std.proofs.Common.{◌≡◌, ◌≤◌, ◌*◌, take}
use Rattle.dwz_plan.specs.Gaining.{weight_of, weights_of}
use Rattle.dwz_plan.proofs.gain.weight_of.Given as goal

abbrev pub invariant-loop-top : goal.invariant-loop-top
invariant-loop-top l = (l.sum ≡ weight_of (weights_of l.rows) (take l.top-index l.tops)) × (l.sum ≤ l.top-index * 4294967295)
