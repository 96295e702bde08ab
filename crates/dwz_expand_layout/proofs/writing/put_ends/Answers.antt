use Rattle.std.proofs.Common.{◌≡◌, ◌++◌, ℕ, append-nil, ap, arith, replicate, sym, ◌∙◌}
use Rattle.dwz_encode.proofs.ByteLemmas.{ends_pushed}
use Rattle.dwz_expand_layout.proofs.writing.put_ends.Goals as goal

pub loop-init : goal.loop-init
loop-init c = sym (append-nil c.args.out.now.items)

pub loop-preserved : goal.loop-preserved
loop-preserved c = ends_pushed c.args.out.now.items c.loop.out.items c.push.new.self.items c.loop.counter c.in_ok-push.ensures.items c.loop.invariant

pub returns : goal.returns
returns c =
    let all : c.loop.counter ≡ c.args.count = omega arith in
    c.loop.invariant ∙ ap (λ (n : ℕ). c.args.out.now.items ++ replicate n 0) all
