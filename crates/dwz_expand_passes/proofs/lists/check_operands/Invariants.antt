use Rattle.std.proofs.Common.{◌≡◌, None, map, take}
use Rattle.dwz_model.specs.Lists.{Each}
use Rattle.dwz_def_reading.specs.Exprs.{first_unnamed}
use Rattle.dwz_def_reading.specs.Meanings.{targets}
use Rattle.dwz_graph.specs.Operands.{is_named}
use Rattle.dwz_expand_passes.specs.Copied.{Lost}
use Rattle.dwz_expand_passes.specs.Known.{Fits, Setting, scope}
use Rattle.dwz_expand_passes.proofs.lists.check_operands.Given as goal

abbrev pub invariant-loop-operand : goal.invariant-loop-operand
invariant-loop-operand l = (q : Setting) → Fits l.x q → first_unnamed (is_named (scope q)) l.operands ≡ None
    → Each (λ p. ¬ Lost q p) (take l.operand-index (map q.place (targets (scope q) l.operands)))
