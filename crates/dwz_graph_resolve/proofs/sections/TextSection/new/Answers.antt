use Rattle.std.proofs.Common.{ℕ, Option, subst, sym}
use Rattle.memchr.specs.Find.{IsLastByte, is_byte}
use Rattle.dwz_graph_resolve.specs.TextEnds.{IsTextEnd}
use Rattle.dwz_graph_resolve.proofs.TextLemmas.{last_zero, no_zero}
use Rattle.dwz_graph_resolve.proofs.sections.TextSection.new.Goals as goal
use Rattle.dwz_graph_resolve.proofs.sections.TextSection.new.Goals.{in-None, in-Some}

pub invariant_of-result : goal.invariant_of-result
invariant_of-result c = record {
  ends = elim c.match-memrchr.branch [
    | in-None w ↦ subst (λ (n : ℕ). IsTextEnd c.args.bytes.now n) (sym w.end-is)
        (no_zero c.args.bytes.now (subst (λ (o : Option ℕ). IsLastByte (is_byte 0) c.args.bytes.now o) w.in-None.is c.memrchr.ensures))
    | in-Some w ↦ subst (λ (n : ℕ). IsTextEnd c.args.bytes.now n) (sym w.end-is)
        (last_zero c.args.bytes.now w.in-Some.last (subst (λ (o : Option ℕ). IsLastByte (is_byte 0) c.args.bytes.now o) w.in-Some.is c.memrchr.ensures))
  ];
}
