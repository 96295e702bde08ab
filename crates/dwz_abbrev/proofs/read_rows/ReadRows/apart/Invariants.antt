use Rattle.std.proofs.Common.{◌≡◌, take}
use Rattle.dwz_abbrev.specs.ReadViews.{read_views}
use Rattle.dwz_abbrev.specs.Views.{views}
use Rattle.dwz_abbrev.proofs.read_rows.ReadRows.apart.Given as goal

abbrev pub invariant-loop-decl : goal.invariant-loop-decl
invariant-loop-decl l = views l.decls.items ≡ read_views l.row (take l.decl-index l.decl-items)
