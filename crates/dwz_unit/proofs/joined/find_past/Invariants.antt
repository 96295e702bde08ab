use Rattle.std.proofs.Common.{◌≡◌, drop}
use Rattle.dwz_def_reading.specs.Abbrevs.{find_decl}
use Rattle.dwz_unit.specs.TableViews.{table_views}
use Rattle.dwz_unit.specs.Tails.{StartsIn, whole_tables, tail_in}
use Rattle.dwz_unit.proofs.joined.find_past.Given as goal

abbrev pub invariant-loop-read : goal.invariant-loop-read
invariant-loop-read l = record {
  within : StartsIn (table_views l.row l.reads) l.tail;
  same : find_decl (drop l.past (tail_in (whole_tables (table_views l.row l.reads)) l.tail)) l.code ≡ find_decl (drop l.initial.past (tail_in (whole_tables (table_views l.row l.reads)) l.initial.tail)) l.code;
}

abbrev pub decreases-loop-read : goal.decreases-loop-read
decreases-loop-read l = l.tail.base
