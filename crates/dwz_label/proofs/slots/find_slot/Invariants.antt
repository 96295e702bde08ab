use Rattle.dwz_label.specs.Slots.{HoldOthers}
use Rattle.dwz_label.proofs.slots.find_slot.Given as goal

abbrev pub invariant-loop-step : goal.invariant-loop-step
invariant-loop-step l = HoldOthers l.labels l.slots l.label l.start l.step
