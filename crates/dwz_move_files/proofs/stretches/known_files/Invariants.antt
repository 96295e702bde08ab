use Rattle.std.proofs.Common.{◌≡◌, ℕ, Some, slice_get, length}
use Rattle.dwz_graph.specs.declared.file.File.{File}
use Rattle.dwz_graph.specs.Index.{Index}
use Rattle.dwz_move_files.specs.declared.draft.KnownFile.{KnownFile}
use Rattle.dwz_move_files.specs.Drafts.{IsKnown}
use Rattle.dwz_move_files.proofs.stretches.known_files.Given as goal

abbrev pub invariant-loop-k : goal.invariant-loop-k
invariant-loop-k l = record {
  len : length l.known.items ≡ l.k;
  each : (k : ℕ) (f : File) (x : Index) (one : KnownFile) → slice_get l.files k ≡ Some f → slice_get l.indexes k ≡ Some x → slice_get l.known.items k ≡ Some one → IsKnown f x one;
}
