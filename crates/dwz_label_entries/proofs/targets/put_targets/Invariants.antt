use Rattle.std.proofs.Common.{◌≡◌, ◌<◌, ◌++◌, ℕ, List, drop, length, map}
use Rattle.std.specs.List.{flat_map}
use Rattle.dwz_def_tops.specs.Spots.{EntryName}
use Rattle.dwz_def_reading.specs.Units.{RawUnit}
use Rattle.dwz_graph.specs.Rows.{AreTargets}
use Rattle.dwz_label.specs.Labels.{target_label}
use Rattle.dwz_def_reading.specs.Lists.{Each}
use Rattle.dwz_label_entries.specs.Targets.{KnowsNames}
use Rattle.dwz_label_entries.proofs.TargetLemmas.{AreLeft}
use Rattle.dwz_label_entries.proofs.targets.put_targets.Given as goal

abbrev pub invariant-loop-entry : goal.invariant-loop-entry
invariant-loop-entry l = record {
  within : Each (λ i. i < length l.index.steps) (drop l.entry-index l.entries);
  left : (raw : List RawUnit) (name : ℕ → EntryName) (places : List ℕ) → KnowsNames raw name l.index → AreTargets raw l.entries places → length places ≡ length l.entries
      → AreLeft raw name (drop l.entry-index l.entries) l.out.items (l.fn.out.items ++ flat_map target_label (map name places));
}
