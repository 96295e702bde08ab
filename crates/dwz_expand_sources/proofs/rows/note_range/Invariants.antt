use Rattle.std.proofs.Common.{◌≡◌, ◌+◌, ◌-◌, length}
use Rattle.std.specs.List.{range_with_len}
use Rattle.dwz_expand_sources.specs.Rows.{noted, range_entries}
use Rattle.dwz_expand_sources.proofs.rows.note_range.Given as goal

abbrev pub invariant-loop-entry : goal.invariant-loop-entry
invariant-loop-entry l = record {
  number : l.at + l.range.first ≡ l.number + l.entry;
  len : length l.row ≡ length l.initial.row;
  row : noted l.unit l.at (range_with_len l.entry (l.range.end - l.entry)) l.row ≡ noted l.unit l.number (range_entries l.range) l.initial.row;
}
