use Rattle.std.proofs.Common.{ℕ, Bool, List, length}
use Rattle.dwz_def_tops.specs.Spots.{EntryName, FileUnit}
use Rattle.dwz_label.specs.Stretches.{before}
use Rattle.dwz_label_files.specs.Marked.{AreStretches, IsStretch}
use Rattle.dwz_label_files.proofs.marked.joined.Given as goal

abbrev pub invariant-loop-part : goal.invariant-loop-part
invariant-loop-part l = (units : List (FileUnit EntryName)) (movable : List Bool) (len : ℕ) → AreStretches units movable len l.parts
    → IsStretch units movable 0 (before (length movable) len l.part-index) l.all
