use Rattle.std.proofs.Common.{List, ◌++◌, map, take}
use Rattle.dwz_def_reading.specs.declared.exprs.Operand.{Operand}
use Rattle.dwz_expand_layout.specs.Laid.{layout_view}
use Rattle.dwz_expand.specs.Told.{told}
use Rattle.dwz_expand_sections.specs.Narrow.{FirstPlace}
use Rattle.dwz_expand.proofs.told.note_all.Given as goal

abbrev pub invariant-loop-operand : goal.invariant-loop-operand
invariant-loop-operand l = (noted : List Operand) → FirstPlace noted l.fn.before → FirstPlace (noted ++ map (told (layout_view l.layout) l.start) (take l.operand-index l.operands)) l.first
