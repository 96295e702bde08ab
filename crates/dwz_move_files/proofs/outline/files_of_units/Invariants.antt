use Rattle.std.proofs.Common.{◌≡◌, take}
use Rattle.dwz_graph.specs.Files.{docs_of}
use Rattle.dwz_graph.proofs.UnitFiles.{files_from}
use Rattle.dwz_move_files.proofs.outline.files_of_units.Given as goal

abbrev pub invariant-loop-number : goal.invariant-loop-number
invariant-loop-number l = l.numbers.items ≡ files_from 0 (take l.number (docs_of l.graph.given))
