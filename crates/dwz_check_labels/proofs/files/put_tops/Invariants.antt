use Rattle.std.proofs.Common.{◌≡◌, ◌+◌, ℕ, List, length}
use Rattle.dwz_def_reading.specs.Documents.{DwUnit}
use Rattle.dwz_def_check.specs.CrossNames.{CrossName}
use Rattle.dwz_check_labels.specs.Files.{KnowsSource}
use Rattle.dwz_check_labels.specs.Rows.{AreKeysBelow}
use Rattle.dwz_check_labels.proofs.StepLemmas.{TopsAdded}
use Rattle.dwz_check_labels.proofs.files.put_tops.Given as goal

abbrev pub invariant-loop-top : goal.invariant-loop-top
invariant-loop-top l = record {
  count : length l.labels ≡ length l.fn.labels + l.top-index;
  keys : AreKeysBelow (length l.labels) l.edges.items;
  adds : (said : List (DwUnit ℕ)) (name : ℕ → CrossName) → KnowsSource l.source said name → TopsAdded name said l.top-index l.fn.labels l.labels l.fn.edges.items l.edges.items;
}
