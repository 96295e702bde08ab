use Rattle.std.proofs.Common.{◌≡◌, ◌++◌, drop}
use Rattle.std.specs.List.{flat_map}
use Rattle.dwz_label.specs.Labels.{number}
use Rattle.dwz_label_entries.proofs.targets.put_steps.Given as goal

abbrev pub invariant-loop-step : goal.invariant-loop-step
invariant-loop-step l = l.out.items ++ flat_map number (drop l.step-index l.steps) ≡ l.fn.out.items ++ flat_map number l.steps
