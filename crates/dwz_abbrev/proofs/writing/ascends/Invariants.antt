use Rattle.std.proofs.Common.{ℕ, ◌+◌, ◌<◌, get_or}
use Rattle.dwz_abbrev.specs.declared.decl.Decl.{Decl}
use Rattle.dwz_abbrev.proofs.writing.ascends.Given as goal

abbrev pub invariant-loop-place : goal.invariant-loop-place
invariant-loop-place l = (k : ℕ) (d : Decl) → k + 1 < l.place → (get_or l.decls k d).code < (get_or l.decls (k + 1) d).code
