use Rattle.std.proofs.Common.{◌≡◌, ◌++◌, map, vec_len}
use Rattle.std.specs.Prelude.{reverse}
use Rattle.dwz_imports.specs.Stored.{edge}
use Rattle.dwz_check_columns.proofs.paths.put_steps.Given as goal

abbrev pub invariant-steps : goal.invariant-steps
invariant-steps l = l.edges.items ++ map (edge l.key) (reverse l.path.items) ≡ l.fn.edges.items ++ map (edge l.key) (reverse l.fn.path.items)

abbrev pub decreases-steps : goal.decreases-steps
decreases-steps l = vec_len l.path
