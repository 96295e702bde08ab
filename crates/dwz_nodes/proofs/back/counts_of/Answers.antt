use Rattle.std.proofs.Common.{ℕ, ◌<◌, List, length, get_or, refl, arith, rules}
use Rattle.std.proofs.lemmas.List.{get_or_read}
use Rattle.dwz_nodes.proofs.Counts.{count_at-small, counted-none, counted-more, counted-skip, counted-all}
use Rattle.dwz_nodes.proofs.back.counts_of.Goals as goal
use Rattle.dwz_nodes.proofs.back.counts_of.Goals.{then-target-len, else-target-len}

pub loop-target-init : goal.loop-target-init
loop-target-init c = counted-none c.args.count c.args.targets.now c.in_ok-counts.counts.items (search rules)

pub overflow_add-index_mut : goal.overflow_add-index_mut
overflow_add-index_mut c =
    let i = c.loop-target.target-index in
    let ts : List ℕ = c.args.targets.now in
    let t : ℕ = get_or ts i 0 in
    let count = c.len.ensures in
    let there : t < length c.loop-target.counts.items = let h = c.if-target-len.true in omega arith in
    let at = get_or_read c.loop-target.counts.items t c.index_mut.result.now there c.index_mut.ensures.value 0 in
    omega (arith, at, c.loop-target.invariant.each t (omega (arith, c.loop-target.invariant.len)), count_at-small ts i t)

pub loop-target-preserved : goal.loop-target-preserved
loop-target-preserved c =
    let i = c.loop-target.target-index in
    let ts : List ℕ = c.args.targets.now in
    let t : ℕ = get_or ts i 0 in
    let count = c.len.ensures in
    let l : i < length ts = omega arith in
    elim c.if-target-len.branch [
      | then-target-len w ↦
          let there : t < length c.loop-target.counts.items = let h = w.if-target-len.true in omega arith in
          let at = get_or_read c.loop-target.counts.items t w.index_mut.result.now there w.index_mut.ensures.value 0 in
          rw w.counts-is (counted-more c.args.count ts i c.loop-target.counts.items t w.index_mut.result.now l refl (omega (arith, c.loop-target.invariant.len)) at c.loop-target.invariant)
      | else-target-len w ↦
          rw w.counts-is (counted-skip c.args.count ts i c.loop-target.counts.items l (let h = w.if-target-len.false in omega (arith, c.loop-target.invariant.len)) c.loop-target.invariant)
    ]

pub returns-clause-each : goal.returns-clause-each
returns-clause-each c a l = counted-all c.args.count c.args.targets.now c.loop-target.target-index c.loop-target.counts.items (omega arith) c.loop-target.invariant a l
