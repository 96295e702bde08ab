use Rattle.std.proofs.Common.{◌≡◌, ◌++◌}
use Rattle.dwz_def_reading.specs.Abbrevs.{by_code, table_bytes}
use Rattle.dwz_abbrev.specs.Views.{lent_views, views}
use Rattle.dwz_abbrev.specs.Written.{Begins}
use Rattle.dwz_abbrev.proofs.writing.put_sorted.Given as goal

abbrev pub invariant-loop-decl : goal.invariant-loop-decl
invariant-loop-decl l =
    Begins l.fn.out.items l.out.items × (l.out.items ++ table_bytes (lent_views l.decl-iterator) ≡ l.fn.out.items ++ table_bytes (by_code (views l.fn.decls)))
