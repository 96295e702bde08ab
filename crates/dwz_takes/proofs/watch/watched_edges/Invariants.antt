use Rattle.dwz_takes.specs.Steps.{AreWatched}
use Rattle.dwz_takes.proofs.watch.watched_edges.Given as goal

abbrev pub invariant-loop-part : goal.invariant-loop-part
invariant-loop-part l = AreWatched l.rows l.holders l.edges.items l.part
