use Rattle.std.proofs.Common.{◌≡◌, ◌+◌, ℕ, List, length}
use Rattle.dwz_graph.specs.Resolved.{around}
use Rattle.dwz_unit.specs.Rows.{units_of}
use Rattle.dwz_layout_input.specs.Names.{HaveNumbers, Reads, WasHere, look}
use Rattle.dwz_layout_input.proofs.names.put_texts.Given as goal

abbrev pub invariant-loop-space : goal.invariant-loop-space
invariant-loop-space l = record {
  len : length l.texts.items ≡ length l.fn.texts.items + l.space-index;
  was : WasHere (units_of l.units) l.last;
  numbers : (names : ℕ → List ℕ) → Reads (units_of l.units) (around l.sections (units_of l.units)) names (length l.fn.texts.items) l.spaces → HaveNumbers names l.fn.texts.items (look l.fn.seen)
      → HaveNumbers names l.texts.items (look l.seen);
}
