use Rattle.std.proofs.Common.{ℕ, List, map, subst}
use Rattle.dwz_def_reading.specs.Files.{Limits, no_files_before}
use Rattle.dwz_graph.specs.Files.{AreReadFrom}
use Rattle.dwz_graph.proofs.ContentLemmas.{content}
use Rattle.dwz_graph.proofs.graph.Graph.read.Goals as goal

pub given_graph-requires : goal.given_graph-requires
given_graph-requires c =
    let files : List (List ℕ) = map content c.args.files.now in
    let kept : AreReadFrom no_files_before files c.in_ok-kept.kept.items = subst (λ (l : Limits). AreReadFrom l files c.in_ok-kept.kept.items) c.all_left.ensures c.in_ok-kept.ensures in
    record { kept = record { end = kept.end; are = kept.are } }
