use Rattle.std.proofs.Common.{ℕ, List, All, length, ◌<◌, subst, sym}
use Rattle.dwz_rounds.specs.Settling.{AreByKey}
use Rattle.dwz_rounds.proofs.Firsts.{by-key}
use Rattle.dwz_rounds.proofs.settle.by_key.Goals as goal

pub rows_at-requires : goal.rows_at-requires
rows_at-requires c = subst (λ (k : List (List ℕ)). All (λ a. a < length k) c.args.todo.now) (sym c.in_ok-written.ensures) c.requires

pub returns : goal.returns
returns c = let e = c.in_ok-groups.ensures in
    subst (λ (k : List (List ℕ)). AreByKey k c.args.todo.now c.in_ok-groups.groups.nodes.items c.in_ok-groups.groups.news.items) c.in_ok-written.ensures
    (by-key c.in_ok-written.written c.args.todo.now c.in_ok-rows.rows.items e.0 c.in_ok-groups.groups.nodes.items c.in_ok-groups.groups.news.items c.in_ok-rows.ensures.nodes c.in_ok-rows.ensures.keys
    e.1 e.2)
