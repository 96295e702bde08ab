use Rattle.std.proofs.Common.{◌≡◌, drop}
use Rattle.std.specs.Prelude.{map}
use Rattle.dwz_codes.specs.Rows.{row_of, view_of}
use Rattle.dwz_codes.proofs.codes.row_in.Given as goal

abbrev pub invariant-loop-row : goal.invariant-loop-row
invariant-loop-row l = row_of (map view_of (drop l.row-index l.rows)) l.code ≡ row_of (map view_of l.rows) l.code
