use Rattle.std.proofs.Common.{◌≡◌, suc, ◌-◌, ◌≤◌, length, sym, ap, ◌∙◌, arith}
use Rattle.dwz_groups.specs.Parts.{start_at}
use Rattle.dwz_groups.proofs.PartLemmas.{start_at-suc}
use Rattle.dwz_label.proofs.labels.start_of.Goals as goal

pub returns-else-n-eq0 : goal.returns-else-n-eq0
returns-else-n-eq0 c =
    let n : c.args.n ≡ suc (c.args.n - 1) = let h = c.if-n-eq0.false in omega arith in
    let l : suc (c.args.n - 1) ≤ length c.args.ends.now = let r = c.requires in omega arith in
    sym (ap (λ k. start_at 0 c.args.ends.now k) n ∙ start_at-suc 0 c.args.ends.now (c.args.n - 1) l)
