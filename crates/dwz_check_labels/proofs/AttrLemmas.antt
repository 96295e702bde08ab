-- The attributes of an entry, and the references among those of its file.
use Rattle.std.proofs.Common.{◌≡◌, ℕ, ◌+◌, ◌<◌, List, map, Some, slice_get, ap, ◌∙◌}
use Rattle.std.specs.Prelude.{slice_index, slice_range}
use Rattle.dwz_def_reading.specs.Documents.{DwUnit, Node}
use Rattle.dwz_def_reading.specs.Units.{RawUnit, entries_in}
use Rattle.dwz_graph.proofs.TreeLemmas.{node_attrs}
use Rattle.dwz_unit.specs.Rows.{EntryRow}
use Rattle.dwz_def_check.specs.CrossNames.{CrossName}
use Rattle.dwz_check_labels.specs.declared.source.Source.{Source}
use Rattle.dwz_check_labels.specs.Entries.{IsEntryOf}
use Rattle.dwz_check_labels.specs.Files.{KnowsSource, place_of, raw_of, scope_at}
use Rattle.dwz_check_labels.specs.Values.{AreAttrsMeant}

-- an entry's values mean its attributes, and its references are those of what they name
pub entry_meant : (x : Source) (said : List (DwUnit ℕ)) (name : ℕ → CrossName) → KnowsSource x said name → (n i : ℕ) (row : EntryRow) (d : Node ℕ) (u : RawUnit) → slice_get (raw_of x) n ≡ Some u
    → IsEntryOf x n i row d → (refs : List ℕ) → i < entries_in (raw_of x) → refs ≡ slice_range x.refs.now (slice_index x.starts.now i) (slice_index x.starts.now (i + 1))
    → AreAttrsMeant (scope_at x u) (place_of x) refs row.entry.attrs d.attrs
entry_meant x said name k n i row d u is_unit is refs lt part =
    let means = is.means u is_unit in
    record {
      means = (node_attrs (scope_at x u) row.entry d means).0;
      named = ap (λ (w : List ℕ). map (place_of x) w) part
          ∙ k.parts.part i row u d lt is.found (ap (λ (m : ℕ). slice_get (raw_of x) m) is.unit ∙ is_unit) means;
    }
