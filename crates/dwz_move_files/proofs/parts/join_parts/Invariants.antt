use Rattle.std.proofs.Common.{ℕ, List}
use Rattle.dwz_def_reading.specs.Documents.{Doc}
use Rattle.dwz_move_files.specs.Drafts.{AreParts}
use Rattle.dwz_move_files.proofs.PartSteps.{PartsLeft}
use Rattle.dwz_move_files.proofs.parts.join_parts.Given as goal

abbrev pub invariant-loop-part : goal.invariant-loop-part
invariant-loop-part l = (docs : List (Doc ℕ)) (to : ℕ) → AreParts docs 0 to l.fn.parts.items → PartsLeft docs to l.part-iterator.rest.items l.draft
