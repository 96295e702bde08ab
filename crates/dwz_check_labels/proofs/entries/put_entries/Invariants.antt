use Rattle.std.proofs.Common.{◌≡◌, ◌+◌, ◌++◌, ℕ, List, drop, length}
use Rattle.std.specs.List.{flat_map}
use Rattle.dwz_def_reading.specs.Documents.{DwUnit}
use Rattle.dwz_def_check.specs.CrossNames.{CrossName}
use Rattle.dwz_check_index.specs.Index.{ListedEntry, listed_units}
use Rattle.dwz_check_labels.specs.Entries.{entry_into, entry_label}
use Rattle.dwz_check_labels.specs.Files.{KnowsSource}
use Rattle.dwz_check_labels.proofs.LoneLemmas.{EntriesLeft}
use Rattle.dwz_check_labels.proofs.entries.put_entries.Given as goal

abbrev pub invariant-loop-i : goal.invariant-loop-i
invariant-loop-i l = (said : List (DwUnit ℕ)) (name : ℕ → CrossName) (ds after : List (ListedEntry ℕ)) → KnowsSource l.source said name → drop l.first (listed_units said) ≡ ds ++ after
    → l.first + length ds ≡ l.end
    → EntriesLeft (listed_units said) name l.i l.end l.out.items l.fn.out.items (flat_map (entry_label name) ds) l.tops.items l.fn.tops.items (flat_map (entry_into name) ds)
