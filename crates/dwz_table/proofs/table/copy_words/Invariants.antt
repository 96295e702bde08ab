use Rattle.std.proofs.Common.{◌≡◌, ℕ, ◌<◌, length}
use Rattle.std.specs.Prelude.{slice_index}
use Rattle.std.specs.Mem.Slots.{slots_items}
use Rattle.dwz_table.proofs.table.copy_words.Given as goal

abbrev pub invariant-loop-i : goal.invariant-loop-i
invariant-loop-i l = record {
  len : length l.row.items ≡ length l.initial.row.items;
  words : (b : ℕ) → b < l.i → slice_index l.row.items b ≡ slice_index (slots_items l.closed.words) b;
}
