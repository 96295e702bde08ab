use Rattle.std.proofs.Common.{◌≡◌, ◌++◌, drop}
use Rattle.std.specs.List.{flat_map}
use Rattle.dwz_label_words.specs.Plain.{plainly}
use Rattle.dwz_label_words.proofs.targets.put_steps.Given as goal

abbrev pub invariant-loop-step : goal.invariant-loop-step
invariant-loop-step l = l.out.items ++ flat_map plainly (drop l.step-index l.steps) ≡ l.fn.out.items ++ flat_map plainly l.steps
