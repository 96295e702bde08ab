use Rattle.std.proofs.Common.{◌≡◌}
use Rattle.dwz_layout_input.proofs.TextSteps.{named_to}
use Rattle.dwz_layout_input.proofs.texts.put_names.Given as goal

abbrev pub invariant-loop-i : goal.invariant-loop-i
invariant-loop-i l = l.spaces ≡ named_to l.fn.spaces l.texts l.commons l.i
