use Rattle.std.proofs.Common.{◌≡◌, ℕ, List, length, subst, ap, ◌∙◌, arith}
use Rattle.dwz_nodes.specs.Keys.{all_keys}
use Rattle.dwz_nodes.proofs.AllKeys.{all-are, length-all_keys}
use Rattle.dwz_rounds.specs.Rounds.{AreFirsts}
use Rattle.dwz_rounds.proofs.Levels.{keyed-round}
use Rattle.dwz_rounds.proofs.Settling.{partly-all}
use Rattle.dwz_rounds.proofs.workers.whole_round.Goals as goal

pub firsts-requires-clause-few : goal.firsts-requires-clause-few
firsts-requires-clause-few g c κs within =
    let many : length c.new-keys.result ≡ length c.args.nodes.now = ap (λ (keys : List (List ℕ)). length keys) c.new-keys.ensures ∙ length-all_keys c.args.nodes.now c.args.classes.now in
    let n = c.len-count.ensures.count in
    let few = c.len-count.ensures.few in
    let t = c.in_ok-todo.ensures.len in
    (omega arith, omega arith)

pub firsts-requires-clause-partly : goal.firsts-requires-clause-partly
firsts-requires-clause-partly g c κs within =
    let many : length c.new-keys.result ≡ length c.args.nodes.now = ap (λ (keys : List (List ℕ)). length keys) c.new-keys.ensures ∙ length-all_keys c.args.nodes.now c.args.classes.now in
    let n = c.len-count.ensures.count in
    let b = c.in_ok-before.ensures.len in
    let t = c.in_ok-todo.ensures.len in
    partly-all c.new-keys.result c.in_ok-before.before.items c.in_ok-todo.todo.items (omega arith) (omega arith) (λ i l. c.in_ok-todo.ensures.each i (omega arith))

pub returns : goal.returns
returns g c = keyed-round c.args.nodes.now c.requires.closed c.args.classes.now c.in_ok-next.next.items (all_keys c.args.nodes.now c.args.classes.now) (all-are c.args.nodes.now c.args.classes.now)
    (subst (λ (keys : List (List ℕ)). AreFirsts keys c.in_ok-next.next.items) c.new-keys.ensures c.in_ok-next.ensures)
