use Rattle.std.proofs.Common.{◌<◌, ◌^◌, length}
use Rattle.dwz_def_reading.specs.Documents.{Entries}
use Rattle.dwz_def_reading.specs.Trees.{size}
use Rattle.dwz_def_tops.specs.Spots.{EntryName}
use Rattle.dwz_label_differences.specs.Labels.{AreEntryLabels, flat}
use Rattle.dwz_label_differences.proofs.EntryLemmas.{IsOnWay}
use Rattle.dwz_label_differences.proofs.entries.path_below.Given as goal

abbrev pub invariant-way : goal.invariant-way
invariant-way l = (f : Entries EntryName) → AreEntryLabels (flat f) l.rows → l.k < size f → size f < 2 ^ 32 → IsOnWay f l.k l.left l.number l.index l.path.items

abbrev pub decreases-way : goal.decreases-way
decreases-way l = length l.left
