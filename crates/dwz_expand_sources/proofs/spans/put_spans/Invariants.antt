use Rattle.dwz_unit.specs.Rows.{units_of}
use Rattle.dwz_expand_sources.proofs.SpanSteps.{SpansGo}
use Rattle.dwz_expand_sources.proofs.spans.put_spans.Given as goal

abbrev pub invariant-loop-n : goal.invariant-loop-n
invariant-loop-n l = SpansGo (units_of l.units) l.before l.initial.spans.items l.n l.spans.items
