use Rattle.std.proofs.Common.{◌≡◌, length, map, take}
use Rattle.std.specs.Prelude.{All}
use Rattle.dwz_unit.specs.Found.{all_pairs}
use Rattle.dwz_unit.specs.Spans.{IsWithin, part_of}
use Rattle.dwz_unit.specs.TableViews.{table_views}
use Rattle.dwz_unit.proofs.joined_tables.JoinedTables.into_pairs.Given as goal

abbrev pub invariant-loop-read : goal.invariant-loop-read
invariant-loop-read l = record {
  pairs : map (part_of l.self-inside.pairs.row) l.spans.items ≡ all_pairs (table_views l.self-inside.pairs.row (take l.read-index l.read-items));
  within : All (IsWithin (length l.self-inside.pairs.row)) l.spans.items;
}
