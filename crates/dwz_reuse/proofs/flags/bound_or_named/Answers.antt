use Rattle.std.proofs.Common.{◌≡◌, ◌+◌, ◌∷◌, [], Bool, List, length, ap, ◌∙◌, arith}
use Rattle.std.proofs.lemmas.List.{length-append}
use Rattle.dwz_reuse.proofs.SeedFacts.{seeds_next}
use Rattle.dwz_reuse.proofs.flags.bound_or_named.Goals as goal

pub loop-top-preserved : goal.loop-top-preserved
loop-top-preserved c =
    let now = c.loop-top.seeds.items in
    let len = c.loop-top.invariant.len in
    record {
      len = ap (λ (w : List Bool). length w) c.in_ok-push.ensures.items ∙ length-append now (c.is_either.result ∷ []) ∙ (let e : length now + 1 ≡ c.loop-top.top + 1 = omega (arith, len) in e);
      each = seeds_next c.args.binding.now c.args.named.now c.args.first c.loop-top.top now c.push.new.self.items c.is_either.result len c.in_ok-push.ensures.items c.is_either.ensures c.loop-top.invariant.each;
    }
