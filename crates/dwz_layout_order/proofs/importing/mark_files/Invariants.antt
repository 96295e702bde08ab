use Rattle.std.proofs.Common.{map, slice_get, take}
use Rattle.dwz_move.specs.Marked.{Marks}
use Rattle.dwz_layout_order.proofs.importing.mark_files.Given as goal

abbrev pub invariant-loop-unit : goal.invariant-loop-unit
invariant-loop-unit l = Marks (map (slice_get l.files_of_units) (take l.unit-index l.units)) l.fn.flags.items l.flags.items
