use Rattle.std.proofs.Common.{◌≡◌, length, take}
use Rattle.dwz_move.specs.Marked.{Marks}
use Rattle.dwz_move_files.specs.Lists.{uleb_tops}
use Rattle.dwz_move_files.proofs.lists.mark_tops.Given as goal

abbrev pub invariant-loop-k : goal.invariant-loop-k
invariant-loop-k l = record {
  any : length l.tops ≡ length l.rows → Marks (take l.k l.tops) l.fn.named.by_any.items l.named.by_any.items;
  uleb : length l.tops ≡ length l.rows → Marks (uleb_tops (take l.k l.rows) (take l.k l.tops)) l.fn.named.by_uleb.items l.named.by_uleb.items;
}
