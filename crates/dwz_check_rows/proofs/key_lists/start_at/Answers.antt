use Rattle.std.proofs.Common.{◌≡◌, suc, ◌-◌, ◌≤◌, length, sym, ap, ◌∙◌, arith}
use Rattle.dwz_groups.specs.Parts.{start_at}
use Rattle.dwz_groups.proofs.PartLemmas.{start_at-suc}
use Rattle.dwz_check_rows.proofs.key_lists.start_at.Goals as goal

pub returns-else-unit-eq0 : goal.returns-else-unit-eq0
returns-else-unit-eq0 c =
    let n : c.args.unit ≡ suc (c.args.unit - 1) = let h = c.if-unit-eq0.false in omega arith in
    let l : suc (c.args.unit - 1) ≤ length c.args.ends.now = let r = c.requires in omega arith in
    sym (ap (λ k. start_at 0 c.args.ends.now k) n ∙ start_at-suc 0 c.args.ends.now (c.args.unit - 1) l)
