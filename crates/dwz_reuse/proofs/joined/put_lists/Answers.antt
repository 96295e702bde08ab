use Rattle.std.proofs.Common.{◌≡◌, ℕ, ◌+◌, ◌<◌, List, ◌++◌, length, ap, arith}
use Rattle.dwz_groups.specs.declared.groups.Edge.{Edge}
use Rattle.dwz_check_labels.specs.Rows.{edges_from}
use Rattle.dwz_reuse.proofs.JoinedLists.{all_lists, next_list}
use Rattle.dwz_reuse.proofs.joined.put_lists.Goals as goal

pub loop-number-init : goal.loop-number-init
loop-number-init c = (let e : c.args.first + 0 ≡ c.args.first = omega arith in ap (λ (n : ℕ). c.args.edges.now.items ++ edges_from n c.args.lists.now) e)

pub loop-number-preserved : goal.loop-number-preserved
loop-number-preserved c =
    let low : c.loop-number.number < length c.args.lists.now = omega (arith, c.loop-number-test.true) in
    next_list c.args.first c.loop-number.number c.args.lists.now c.loop-number.edges.items c.put_list.new.edges.items (c.args.edges.now.items ++ edges_from c.args.first c.args.lists.now)
    c.get.result.now low c.get.ensures c.loop-number.invariant c.in_ok-put_list.ensures

pub returns : goal.returns
returns c =
    all_lists c.args.first c.loop-number.number c.args.lists.now c.loop-number.edges.items (c.args.edges.now.items ++ edges_from c.args.first c.args.lists.now)
    (let all = c.loop-number-test.false in omega arith) c.loop-number.invariant
