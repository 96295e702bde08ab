use Rattle.std.proofs.Common.{◌≡◌, ◌+◌, ◌≤◌, ℕ, length}
use Rattle.std.specs.Prelude.{IfSome}
use Rattle.dwz_def_tops.specs.Deciding.{AreMovable}
use Rattle.dwz_def_tops.specs.Spots.{units_of}
use Rattle.dwz_graph.specs.Files.{docs_of}
use Rattle.dwz_label_files.specs.Marked.{HasPlace, TellFrom}
use Rattle.dwz_label_words.specs.Known.{StaysNamed}
use Rattle.dwz_label_files.proofs.stretch.put_labels.Given as goal

abbrev pub invariant-loop-n : goal.invariant-loop-n
invariant-loop-n l = record {
  from : l.first ≤ l.n;
  stays : StaysNamed l.fn.names l.names;
  len : length l.labels + l.first ≡ length l.fn.labels + l.n;
  place : IfSome l.place (HasPlace l.run l.file l.names.names);
  told : (from : ℕ) → AreMovable (units_of (docs_of l.run.graph.now.given)) l.movable → from + length l.fn.labels ≡ l.first
      → TellFrom (units_of (docs_of l.run.graph.now.given)) l.fn.names.names from l.fn.labels → TellFrom (units_of (docs_of l.run.graph.now.given)) l.names.names from l.labels;
}
