use Rattle.std.proofs.Common.{◌≡◌, ◌++◌}
use Rattle.dwz_layout_input.specs.Shown.{files_with}
use Rattle.dwz_layout_input.proofs.texts.with_files.Given as goal

abbrev pub invariant-loop-texts : goal.invariant-loop-texts
invariant-loop-texts l = l.made.items ++ files_with l.left.rest.items l.texts-iterator.rest.items l.numbered.rest.items ≡ files_with l.fn.rows.items l.fn.all.items l.fn.numbers.items
