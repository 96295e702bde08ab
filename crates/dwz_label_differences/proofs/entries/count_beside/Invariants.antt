use Rattle.std.proofs.Common.{◌+◌, ◌≤◌, length}
use Rattle.dwz_def_reading.specs.Documents.{Entries}
use Rattle.dwz_def_tops.specs.Spots.{EntryName}
use Rattle.dwz_label_differences.specs.Labels.{AreEntryLabels, flat}
use Rattle.dwz_label_differences.proofs.EntryLemmas.{AreBeside}
use Rattle.dwz_label_differences.proofs.entries.count_beside.Given as goal

abbrev pub invariant-beside : goal.invariant-beside
invariant-beside l = record {
  few : l.count + length l.left ≤ length l.rows;
  counted : (f : Entries EntryName) → AreEntryLabels (flat f) l.rows → AreBeside f l.left l.count;
}

abbrev pub decreases-beside : goal.decreases-beside
decreases-beside l = length l.left
