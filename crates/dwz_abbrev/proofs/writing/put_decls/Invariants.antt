use Rattle.std.proofs.Common.{◌≡◌, ◌++◌, drop}
use Rattle.dwz_def_reading.specs.Abbrevs.{table_bytes}
use Rattle.dwz_abbrev.specs.Views.{views}
use Rattle.dwz_abbrev.specs.Written.{Begins}
use Rattle.dwz_abbrev.proofs.writing.put_decls.Given as goal

abbrev pub invariant-loop-decl : goal.invariant-loop-decl
invariant-loop-decl l =
    Begins l.fn.out.items l.out.items × (l.out.items ++ table_bytes (views (drop l.decl-index l.decls)) ≡ l.fn.out.items ++ table_bytes (views l.decls))
