use Rattle.std.proofs.Common.{◌≡◌, ◌++◌, drop}
use Rattle.dwz_run_course.specs.Ends.{parts_text}
use Rattle.dwz_run_course.proofs.telling.parts_text.Given as goal

abbrev pub invariant-loop-part : goal.invariant-loop-part
invariant-loop-part l = l.text.items ++ parts_text l.quiet (drop l.part-index l.parts) ≡ parts_text l.quiet l.parts
