use Rattle.std.proofs.Common.{◌≡◌, ◌≤◌, ◌+◌, ◌<◌, ◌⊎◌, inl, inr, length, arith}
use Rattle.dwz_bytes.proofs.PaddedLemmas.{fills_none, fills_step}
use Rattle.std.proofs.lemmas.Grind.{common_steps}
use Rattle.dwz_bytes.proofs.writing.fill.Goals as goal
use Rattle.dwz_bytes.proofs.writing.fill.Goals.{then-i-len, else-i-len}

pub loop-i-preserved : goal.loop-i-preserved
loop-i-preserved c =
    let len = length c.args.out.now in
    let more : ((c.loop-i.i + 1 < len) × (c.if-i-len.more ≡ 128)) ⊎ ((len ≤ c.loop-i.i + 1) × (c.if-i-len.more ≡ 0)) = elim c.if-i-len.branch [
      | then-i-len w ↦ inl (omega arith, w.more-is)
      | else-i-len w ↦ inr (omega arith, w.more-is)
    ] in
    record {
      len = grind (arith, common_steps);
      so_far = fills_step c.loop-i.i len c.loop-i.rest c.if-i-len.more c.loop-i.out _ c.loop-i-test.true more c.loop-i.invariant.len c.loop-i.invariant.so_far;
    }

pub returns : goal.returns
returns c = fills_none c.loop-i.i (length c.args.out.now) c.loop-i.rest c.loop-i.out _ (omega arith) c.loop-i.invariant.len c.loop-i.invariant.so_far
