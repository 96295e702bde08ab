use Rattle.std.proofs.Common.{◌≡◌, ◌++◌, ℕ, None, drop, map}
use Rattle.std.specs.List.{flat_map}
use Rattle.dwz_def_tops.specs.Spots.{EntryName}
use Rattle.dwz_def_reading.specs.Units.{RawUnit}
use Rattle.dwz_label.specs.Labels.{target_label}
use Rattle.dwz_def_reading.specs.Exprs.{first_unnamed}
use Rattle.dwz_def_reading.specs.Meanings.{targets}
use Rattle.dwz_graph.specs.Operands.{is_named}
use Rattle.dwz_graph.specs.Resolved.{IsHere, scope_in}
use Rattle.dwz_unit.specs.Rows.{units_of}
use Rattle.dwz_label_entries.specs.Targets.{KnowsNames}
use Rattle.dwz_label_entries.proofs.refs.put_operands.Given as goal

abbrev pub invariant-loop-operand : goal.invariant-loop-operand
invariant-loop-operand l = (u : RawUnit) (name : ℕ → EntryName) → IsHere (units_of l.units) u l.here → KnowsNames (units_of l.units) name l.index
    → first_unnamed (is_named (scope_in l.sections (units_of l.units) u)) l.operands ≡ None
    → l.out.items ++ flat_map target_label (map name (targets (scope_in l.sections (units_of l.units) u) (drop l.operand-index l.operands))) ≡ l.fn.out.items
    ++ flat_map target_label (map name (targets (scope_in l.sections (units_of l.units) u) l.operands))
