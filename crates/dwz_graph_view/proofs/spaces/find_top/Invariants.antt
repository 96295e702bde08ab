use Rattle.std.proofs.Common.{◌≡◌, ℕ, ◌<◌, None, Some, slice_get}
use Rattle.dwz_graph.specs.Index.{Index}
use Rattle.dwz_graph_view.specs.SpaceRows.{own_top}
use Rattle.dwz_graph_view.proofs.spaces.find_top.Given as goal

abbrev pub invariant-loop-file : goal.invariant-loop-file
invariant-loop-file l = (file : ℕ) (x : Index) → file < l.file → slice_get l.indexes file ≡ Some x → own_top x l.number ≡ None
