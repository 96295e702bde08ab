use Rattle.std.proofs.Common.{◌≡◌, ◌++◌, ℕ, None, drop, map}
use Rattle.dwz_def_reading.specs.Exprs.{first_unnamed, parts_of}
use Rattle.dwz_def_reading.specs.Meanings.{MeaningContext, targets}
use Rattle.dwz_def_reading.specs.Shared.{operands_of}
use Rattle.dwz_graph.specs.Operands.{is_named}
use Rattle.dwz_graph_view.specs.Settings.{KnowsSetting}
use Rattle.dwz_graph_view.specs.UnitViews.{place_in}
use Rattle.dwz_graph_view.proofs.PieceSteps.{parts_in, places_in}
use Rattle.dwz_graph_view.proofs.pieces.exprs_of.Given as goal

abbrev pub invariant-loop-expr : goal.invariant-loop-expr
invariant-loop-expr l = (s : MeaningContext ℕ) → KnowsSetting l.setting s → first_unnamed (is_named s) (operands_of l.exprs) ≡ None
    → (parts_in l.shown.items ++ map parts_of (drop l.expr-index l.exprs) ≡ map parts_of l.exprs)
    × (first_unnamed (is_named s) (operands_of (drop l.expr-index l.exprs)) ≡ None)
    × (places_in l.shown.items ++ map (place_in l.setting.file) (targets s (operands_of (drop l.expr-index l.exprs))) ≡ map (place_in l.setting.file) (targets s (operands_of l.exprs)))
