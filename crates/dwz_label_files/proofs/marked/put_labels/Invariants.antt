use Rattle.std.proofs.Common.{◌≡◌, ◌+◌, ℕ, List, length}
use Rattle.dwz_def_tops.specs.Spots.{EntryName, FileUnit}
use Rattle.dwz_label_files.specs.Marked.{TellFrom}
use Rattle.dwz_label_join.specs.Joined.{AreNumbersIn}
use Rattle.dwz_label_files.proofs.marked.put_labels.Given as goal

abbrev pub invariant-loop-n : goal.invariant-loop-n
invariant-loop-n l = record {
  len : length l.labels ≡ length l.fn.labels + l.n;
  told : (units : List (FileUnit EntryName)) (names own : List (List ℕ)) (first : ℕ) → AreNumbersIn own names l.numbers → TellFrom units names first l.fn.labels
      → TellFrom units own (first + length l.fn.labels) l.more → TellFrom units names first l.labels;
}
