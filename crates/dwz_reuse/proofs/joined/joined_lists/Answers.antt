use Rattle.std.proofs.Common.{◌≡◌, ℕ, ◌+◌, List, ◌++◌, length, ap, ◌∙◌, arith}
use Rattle.dwz_groups.specs.declared.groups.Edge.{Edge}
use Rattle.dwz_check_labels.specs.Rows.{edges_from}
use Rattle.dwz_reuse.proofs.JoinedLists.{joined_back, keys_low}
use Rattle.dwz_reuse.proofs.joined.joined_lists.Goals as goal

pub group-requires : goal.group-requires
group-requires c =
    let a = c.len-2.ensures in
    let b = c.len-3.ensures in
    keys_low c.args.own.now c.args.others.now c.new-edges.result.items c.put_lists.new.edges.items c.put_lists-2.new.edges.items c.new-edges.ensures.items c.in_ok-put_lists.ensures
    (c.in_ok-put_lists-2.ensures ∙ ap (λ (n : ℕ). c.put_lists.new.edges.items ++ edges_from n c.args.others.now) c.len.ensures) (c.len-2.result + c.len-3.result) c.as_slice.result.now
    (omega (arith, a, b)) c.as_slice.ensures.value

pub returns : goal.returns
returns c =
    let a = c.len-2.ensures in
    let b = c.len-3.ensures in
    joined_back c.args.own.now c.args.others.now c.new-edges.result.items c.put_lists.new.edges.items c.put_lists-2.new.edges.items c.new-edges.ensures.items c.in_ok-put_lists.ensures
    (c.in_ok-put_lists-2.ensures ∙ ap (λ (n : ℕ). c.put_lists.new.edges.items ++ edges_from n c.args.others.now) c.len.ensures) (c.len-2.result + c.len-3.result) c.as_slice.result.now
    c.in_ok-lists.lists (omega (arith, a, b)) c.as_slice.ensures.value c.in_ok-lists.ensures
