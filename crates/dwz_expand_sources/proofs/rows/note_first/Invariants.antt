use Rattle.std.proofs.Common.{◌≡◌, ◌≤◌, length}
use Rattle.dwz_expand_sources.specs.Rows.{AreFirstFrom, NameCopies, entry_lists}
use Rattle.dwz_expand_sources.proofs.rows.note_first.Given as goal

abbrev pub invariant-loop-unit : goal.invariant-loop-unit
invariant-loop-unit l = record {
  inside : l.unit ≤ length l.sources.units;
  len : length l.row ≡ length l.fn.row;
  name : NameCopies (entry_lists l.sources) l.row;
  least : AreFirstFrom l.unit (entry_lists l.sources) l.row;
}

abbrev pub decreases-loop-unit : goal.decreases-loop-unit
decreases-loop-unit l = l.unit
