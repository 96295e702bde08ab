use Rattle.std.proofs.Common.{◌≡◌, length, take}
use Rattle.dwz_nodes.specs.Mentions.{sources_of}
use Rattle.dwz_rounds.specs.Marked.{AreMarked, ArePut}
use Rattle.dwz_rounds.proofs.visit.visit_sources.Given as goal

abbrev pub invariant-loop-mention : goal.invariant-loop-mention
invariant-loop-mention l = record {
  len : length l.marks ≡ length l.initial.marks;
  marked : AreMarked l.marks l.visit.items;
  put : ArePut l.initial.visit.items (sources_of (take l.mention-index l.mentions)) l.visit.items;
}
