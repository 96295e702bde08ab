use Rattle.std.proofs.Common.{take}
use Rattle.dwz_abbrev.specs.Shapes.{IsLeastCode}
use Rattle.dwz_abbrev.specs.Views.{views}
use Rattle.dwz_abbrev.proofs.table.Table.code_of.Given as goal

abbrev pub invariant-loop-decl : goal.invariant-loop-decl
invariant-loop-decl l = IsLeastCode (views (take l.decl-index l.decl-items)) (record { tag = l.tag; children = l.children; pairs = l.pairs }) l.least
