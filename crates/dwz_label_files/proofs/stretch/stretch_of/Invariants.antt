use Rattle.std.proofs.Common.{◌≡◌, ◌+◌, ◌-◌, ◌≤◌, length}
use Rattle.dwz_def_tops.specs.Deciding.{AreMovable}
use Rattle.dwz_def_tops.specs.Spots.{units_of}
use Rattle.dwz_graph.specs.Files.{docs_of}
use Rattle.dwz_label_files.specs.Marked.{TellFrom}
use Rattle.dwz_label_files.proofs.stretch.stretch_of.Given as goal

abbrev pub invariant-files : goal.invariant-files
invariant-files l = record {
  to : l.at ≤ l.end;
  len : l.first + length l.labels ≡ l.at;
  told : AreMovable (units_of (docs_of l.run.graph.now.given)) l.movable → TellFrom (units_of (docs_of l.run.graph.now.given)) l.names l.first l.labels;
}

abbrev pub decreases-files : goal.decreases-files
decreases-files l = l.end - l.at
