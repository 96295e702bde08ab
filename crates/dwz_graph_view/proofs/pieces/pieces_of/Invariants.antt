use Rattle.std.proofs.Common.{◌≡◌, ◌++◌, ℕ, None, drop, map}
use Rattle.std.specs.List.{flat_map}
use Rattle.dwz_def_reading.specs.Exprs.{first_unnamed, parts_from}
use Rattle.dwz_def_reading.specs.Meanings.{MeaningContext, targets}
use Rattle.dwz_graph.specs.Operands.{is_named}
use Rattle.dwz_graph_view.specs.Settings.{KnowsSetting}
use Rattle.dwz_graph_view.specs.UnitViews.{place_in}
use Rattle.dwz_graph_view.specs.ValueViews.{named_in, part_of}
use Rattle.dwz_graph_view.proofs.pieces.pieces_of.Given as goal

abbrev pub invariant-loop-operand : goal.invariant-loop-operand
invariant-loop-operand l = (map part_of l.pieces.items ++ parts_from l.place l.rest (drop l.operand-index l.operands) ≡ parts_from l.at l.bytes l.operands)
    × ((s : MeaningContext ℕ) → KnowsSetting l.setting s → first_unnamed (is_named s) l.operands ≡ None
    → flat_map named_in l.pieces.items ++ map (place_in l.setting.file) (targets s (drop l.operand-index l.operands)) ≡ map (place_in l.setting.file) (targets s l.operands))
