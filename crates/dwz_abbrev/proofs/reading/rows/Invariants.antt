use Rattle.std.proofs.Common.{◌≡◌, [], length}
use Rattle.std.specs.Prelude.{All}
use Rattle.dwz_bytes.specs.Input.{input}
use Rattle.dwz_def_reading.specs.Abbrevs.{FitsTable, declarations_at}
use Rattle.dwz_abbrev.specs.ReadParts.{IsIn}
use Rattle.dwz_abbrev.specs.ReadViews.{IsInRow, read_views}
use Rattle.dwz_abbrev.specs.Starts.{Reach}
use Rattle.dwz_abbrev.specs.Written.{Begins}
use Rattle.dwz_abbrev.proofs.reading.rows.Given as goal

abbrev pub invariant-loop-cursor : goal.invariant-loop-cursor
invariant-loop-cursor l = record {
  section : l.pairs.section ≡ l.initial.pairs.section;
  read : declarations_at (read_views l.pairs.row l.rows) l.cursor ≡ declarations_at [] (input l.initial.pairs.section l.at);
  reach : Reach l.initial.pairs.section (read_views l.pairs.row l.rows) l.starts.items l.cursor;
  inside : IsIn l.initial.pairs.section l.cursor;
  here : l.start ≡ l.cursor.at;
  fits : FitsTable (read_views l.pairs.row l.rows);
  within : All (IsInRow l.pairs.row) l.rows;
  begins : Begins l.initial.pairs.row l.pairs.row;
}

abbrev pub decreases-loop-cursor : goal.decreases-loop-cursor
decreases-loop-cursor l = length l.cursor.rest
