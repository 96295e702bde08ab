use Rattle.std.proofs.Common.{◌≡◌, ◌++◌, None, take}
use Rattle.dwz_def_expand.specs.OneFile.{OneFile}
use Rattle.dwz_def_reading.specs.Exprs.{first_unnamed}
use Rattle.dwz_def_reading.specs.Units.{RawUnit}
use Rattle.dwz_graph.specs.Operands.{is_named}
use Rattle.dwz_expand.specs.Gathered.{AllKept, Tells, own_scope, told_at}
use Rattle.dwz_expand.proofs.entry.put_operands.Given as goal

abbrev pub invariant-loop-operand : goal.invariant-loop-operand
invariant-loop-operand l =
    (f : OneFile) (u : RawUnit) (t : Tells f l.x u) → first_unnamed (is_named (own_scope l.x.file.now u)) l.operands ≡ None
    → AllKept l.x.file.now t.known.w l.x.unit u l.operands
    → l.told.items ≡ l.fn.told.items ++ told_at f l.x.unit (own_scope l.x.file.now u) (take l.operand-index l.operands)
