use Rattle.std.proofs.Common.{◌≡◌, None, take}
use Rattle.std.specs.Prelude.{All}
use Rattle.dwz_def_reading.specs.Abbrevs.{find_decl}
use Rattle.dwz_unit.specs.TableViews.{table_views}
use Rattle.dwz_unit.specs.Tails.{whole_tables, tail_in}
use Rattle.dwz_unit.proofs.joined.are_apart.Given as goal

abbrev pub invariant-loop-decl : goal.invariant-loop-decl
invariant-loop-decl l = All (λ d. find_decl (tail_in (whole_tables (table_views l.row l.reads)) l.tail) d.code ≡ None) (take l.decl-index l.decls)
