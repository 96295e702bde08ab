use Rattle.std.proofs.Common.{◌≡◌, ◌++◌, take}
use Rattle.dwz_unit.specs.RowViews.{spans_of}
use Rattle.dwz_unit.proofs.joined_tables.put_spans.Given as goal

abbrev pub invariant-loop-decl : goal.invariant-loop-decl
invariant-loop-decl l = l.spans.items ≡ l.initial.spans.items ++ spans_of (take l.decl-index l.decls)
