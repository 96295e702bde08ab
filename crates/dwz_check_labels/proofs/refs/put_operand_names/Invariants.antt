use Rattle.std.proofs.Common.{◌≡◌, ℕ, List, None, drop, map}
use Rattle.std.specs.List.{flat_map}
use Rattle.dwz_def_reading.specs.Documents.{DwUnit}
use Rattle.dwz_def_reading.specs.Exprs.{first_unnamed}
use Rattle.dwz_def_reading.specs.Meanings.{targets}
use Rattle.dwz_def_reading.specs.Units.{RawUnit}
use Rattle.dwz_def_check.specs.CrossLabels.{name_label, names_into}
use Rattle.dwz_def_check.specs.CrossNames.{CrossName}
use Rattle.dwz_graph.specs.Operands.{is_named}
use Rattle.dwz_graph.specs.Resolved.{IsHere}
use Rattle.dwz_check_labels.specs.Files.{KnowsSource, raw_of, scope_at}
use Rattle.dwz_check_labels.proofs.ToldLemmas.{IsLeft}
use Rattle.dwz_check_labels.proofs.refs.put_operand_names.Given as goal

abbrev pub invariant-loop-operand : goal.invariant-loop-operand
invariant-loop-operand l = (said : List (DwUnit ℕ)) (name : ℕ → CrossName) (u : RawUnit) → KnowsSource l.source said name → IsHere (raw_of l.source) u l.here
    → first_unnamed (is_named (scope_at l.source u)) l.operands ≡ None
    → IsLeft (flat_map name_label (map name (targets (scope_at l.source u) (drop l.operand-index l.operands))))
    (names_into (map name (targets (scope_at l.source u) (drop l.operand-index l.operands))))
    l.out.items l.fn.out.items (flat_map name_label (map name (targets (scope_at l.source u) l.operands))) l.tops.items l.fn.tops.items
    (names_into (map name (targets (scope_at l.source u) l.operands)))
