use Rattle.std.proofs.Common.{◌++◌, ℕ, List}
use Rattle.dwz_label_files.proofs.SpaceLemmas.{OutLeft}
use Rattle.dwz_graph.specs.Chains.{IsOut}
use Rattle.dwz_label_files.proofs.spaces.put_outward.Given as goal

abbrev pub invariant-outward : goal.invariant-outward
invariant-outward l = (out : List ℕ) → IsOut l.first l.spaces l.inner out → OutLeft l.first l.spaces l.at l.entries.items (l.fn.entries.items ++ out)

abbrev pub decreases-outward : goal.decreases-outward
decreases-outward l = l.at
