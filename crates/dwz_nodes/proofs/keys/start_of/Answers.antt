use Rattle.std.proofs.Common.{◌≡◌, suc, ◌-◌, ◌≤◌, length, sym, ap, ◌∙◌, arith}
use Rattle.dwz_nodes.specs.Parts.{start_at}
use Rattle.dwz_nodes.proofs.Parts.{start_at-before}
use Rattle.dwz_nodes.proofs.keys.start_of.Goals as goal

pub returns-else-at-eq0 : goal.returns-else-at-eq0
returns-else-at-eq0 c =
    let n : c.args.at ≡ suc (c.args.at - 1) = let h = c.if-at-eq0.false in omega arith in
    let l : suc (c.args.at - 1) ≤ length c.args.ends.now = let r = c.requires in omega arith in
    sym (ap (λ k. start_at 0 c.args.ends.now k) n ∙ start_at-before 0 c.args.ends.now (c.args.at - 1) l)
