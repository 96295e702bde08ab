use Rattle.std.proofs.Common.{ℕ, List, take}
use Rattle.dwz_def_reading.specs.Documents.{Doc}
use Rattle.dwz_def_tops.specs.Spots.{EntryName}
use Rattle.dwz_def_images.specs.Moves.{Move}
use Rattle.dwz_layout_numbers.specs.Images.{AreImages, IsFile, IsPlanned}
use Rattle.dwz_layout_numbers.proofs.images.references.Given as goal

abbrev pub invariant-loop-entry : goal.invariant-loop-entry
invariant-loop-entry l = (docs : List (Doc ℕ)) (m : Move) (names : List EntryName) → IsPlanned docs m l.plan l.tops → IsFile docs names l.index l.start
    → AreImages docs m names (take l.entry-index l.refs) l.images.items
