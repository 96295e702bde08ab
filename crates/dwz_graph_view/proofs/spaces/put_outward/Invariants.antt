use Rattle.std.proofs.Common.{◌++◌, ℕ, List, map}
use Rattle.dwz_def_reading.specs.Files.{Limits}
use Rattle.dwz_def_tops.specs.Spots.{SpaceName}
use Rattle.dwz_graph.specs.Files.{IsRead}
use Rattle.dwz_graph_view.specs.SpaceRows.{IsWayOut}
use Rattle.dwz_graph_view.proofs.SpaceSteps.{OutLeft}
use Rattle.dwz_graph_view.proofs.spaces.put_outward.Given as goal

abbrev pub invariant-outward : goal.invariant-outward
invariant-outward l = (k : Limits) (number : ℕ) (bytes : List ℕ) (said : List SpaceName) → IsRead k number bytes l.file → IsWayOut bytes l.file l.index l.inner said
    → OutLeft bytes l.file l.index l.at (map (λ t. t.now) l.names.items) (map (λ t. t.now) l.fn.names.items ++ map (λ s. s.text) said)

abbrev pub decreases-outward : goal.decreases-outward
decreases-outward l = l.at
