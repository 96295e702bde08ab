use Rattle.std.proofs.Common.{◌≡◌, ◌++◌, drop}
use Rattle.dwz_encode_texts.specs.Used.{order_uses}
use Rattle.dwz_encode_texts.proofs.used.uses_of.Given as goal

abbrev pub invariant-loop-items : goal.invariant-loop-items
invariant-loop-items l = l.uses.items ++ order_uses l.known l.unit (drop l.items-index l.units) ≡ order_uses l.known l.first l.units
