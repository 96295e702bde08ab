use Rattle.std.proofs.Common.{◌≡◌, ◌+◌, drop}
use Rattle.dwz_layout_numbers.specs.Numbering.{leading}
use Rattle.dwz_layout_numbers.proofs.numbers.count_leading.Given as goal

abbrev pub invariant-loop-part : goal.invariant-loop-part
invariant-loop-part l = record { same : l.count ≡ l.part-index; found : leading l.file l.partials ≡ l.count + leading l.file (drop l.part-index l.partials) }
