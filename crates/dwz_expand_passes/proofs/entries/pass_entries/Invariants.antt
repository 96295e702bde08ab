use Rattle.std.proofs.Common.{List, [], ◌++◌, length}
use Rattle.std.specs.Prelude.{MatchOption}
use Rattle.dwz_expand_layout.specs.Depths.{DeepLine}
use Rattle.dwz_expand_layout.specs.Entries.{UnitLines}
use Rattle.dwz_expand_layout.specs.Laid.{Made}
use Rattle.dwz_expand_layout.specs.declared.entries.NewKind.{NewKind}
use Rattle.dwz_expand_passes.specs.Noted.{Noted}
use Rattle.dwz_expand_passes.specs.Steps.{IsSource, NotedTo, PassedTo, depth_at, lines_before, rest_of}
use Rattle.dwz_expand_passes.proofs.entries.pass_entries.Given as goal

abbrev pub decreases-loop-next : goal.decreases-loop-next
decreases-loop-next g l = length (rest_of l.next l.walk)

abbrev pub invariant-loop-next : goal.invariant-loop-next
invariant-loop-next g l = record {
  source : MatchOption l.next (Unit {0}) (λ s. IsSource l.known s);
  deep : List DeepLine;
  passed : PassedTo l.known l.fn.walk (rest_of l.next l.walk) deep;
  state : (made : Made) (units : List UnitLines) (kind : NewKind) → g.P.Pass.within made l.fn.pass units kind [] → g.P.Pass.within made l.pass units kind (lines_before (depth_at l.next) deep);
  given : List Noted;
  noted : NotedTo l.known l.fn.walk (rest_of l.next l.walk) given;
  told : (before : List Noted) → g.P.Pass.noted l.fn.pass before → g.P.Pass.noted l.pass (before ++ given);
}
