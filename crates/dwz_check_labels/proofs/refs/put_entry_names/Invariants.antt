use Rattle.std.proofs.Common.{ℕ, List, drop}
use Rattle.std.specs.List.{flat_map}
use Rattle.dwz_def_reading.specs.Documents.{DwUnit}
use Rattle.dwz_def_check.specs.CrossLabels.{name_label, names_into}
use Rattle.dwz_def_check.specs.CrossNames.{CrossName}
use Rattle.dwz_graph.specs.Surroundings.{AreAmong}
use Rattle.dwz_check_labels.specs.Files.{KnowsSource, common_of, place_of, raw_of}
use Rattle.dwz_check_labels.proofs.RefLemmas.{names_of}
use Rattle.dwz_check_labels.proofs.ToldLemmas.{IsLeft}
use Rattle.dwz_check_labels.proofs.refs.put_entry_names.Given as goal

abbrev pub invariant-loop-entry : goal.invariant-loop-entry
invariant-loop-entry l = record {
  within : AreAmong (common_of l.source.common) (raw_of l.source) (drop l.entry-index l.entries);
  left : (said : List (DwUnit ℕ)) (name : ℕ → CrossName) → KnowsSource l.source said name
      → IsLeft (flat_map name_label (names_of name (place_of l.source) (drop l.entry-index l.entries))) (names_into (names_of name (place_of l.source) (drop l.entry-index l.entries))) l.out.items
      l.fn.out.items (flat_map name_label (names_of name (place_of l.source) l.entries)) l.tops.items l.fn.tops.items (names_into (names_of name (place_of l.source) l.entries));
}
