use Rattle.std.proofs.Common.{◌≡◌, drop}
use Rattle.dwz_def_reading.specs.Rows.{has}
use Rattle.dwz_lines.proofs.formats.has.Given as goal

abbrev pub invariant-loop-other : goal.invariant-loop-other
invariant-loop-other l = has l.form (drop l.other-index l.forms) ≡ has l.form l.forms
