use Rattle.std.proofs.Common.{Global, Vec, ℕ, ◌+◌, List, ◌++◌, map, drop, Option, Some, sym, ap, subst, ◌∙◌, arith}
use Rattle.std.specs.List.{range_with_len}
use Rattle.dwz_check_rows.specs.declared.columns.RowKind.TheVariants.{Compile}
use Rattle.dwz_check_rows.specs.declared.columns.UnitNodes.{UnitNodes}
use Rattle.dwz_reuse.specs.Refers.{own_by}
use Rattle.dwz_reuse.proofs.NodeSteps.{Left, all_own, next_room, next_type, next_whole}
use Rattle.dwz_reuse.proofs.own.own_numbers.Goals as goal
use Rattle.dwz_reuse.proofs.own.own_numbers.Goals.{then-is_type+in_ok-push, else-is_type+in_ok-put_numbers}

abbrev any_node : UnitNodes
any_node = record { kind = Compile 0 0; top = 0; tops_end = 0 }

pub put_numbers-requires : goal.put_numbers-requires
put_numbers-requires c =
    let room = next_room c.args.nodes.now c.loop-node.node-index any_node c.loop-node-test.true (own_by c.args.first c.args.nodes.now) c.loop-node.own.items c.loop-node.next c.loop-node.invariant
    (sym c.is_type.ensures ∙ c.if-is_type.false) in
    let count = c.saturating_sub-count.ensures in
    omega (arith, room, count)

pub overflow_add-next : goal.overflow_add-next
overflow_add-next c =
    let room = next_room c.args.nodes.now c.loop-node.node-index any_node c.loop-node-test.true (own_by c.args.first c.args.nodes.now) c.loop-node.own.items c.loop-node.next c.loop-node.invariant
    (sym c.is_type.ensures ∙ c.if-is_type.false) in
    let count = c.saturating_sub-count.ensures in
    omega (arith, room, count)

pub loop-node-preserved : goal.loop-node-preserved
loop-node-preserved c =
    let nodes = c.args.nodes.now in
    let i = c.loop-node.node-index in
    let all = own_by c.args.first nodes in
    elim c.if-is_type.branch [
      | then-is_type+in_ok-push w ↦
          let new : List (Option ℕ) = c.if-is_type.own.items in
          subst (λ (n : ℕ). Left n new (drop (i + 1) nodes) all) (sym w.next-is)
          (next_type nodes i any_node c.loop-node-test.true all c.loop-node.own.items c.loop-node.next c.loop-node.invariant new (sym c.is_type.ensures ∙ w.if-is_type.true)
          (ap (λ (v : Vec (Option ℕ) Global). v.items) w.own-is ∙ w.in_ok-push.ensures.items))
      | else-is_type+in_ok-put_numbers w ↦
          let new : List (Option ℕ) = c.if-is_type.own.items in
          let count = w.saturating_sub-count.ensures in
          subst (λ (n : ℕ). Left n new (drop (i + 1) nodes) all) (sym (w.next-is ∙ ap (λ (n : ℕ). c.loop-node.next + n) count))
          (next_whole nodes i any_node c.loop-node-test.true all c.loop-node.own.items c.loop-node.next c.loop-node.invariant new (sym c.is_type.ensures ∙ w.if-is_type.false)
          (ap (λ (v : Vec (Option ℕ) Global). v.items) w.own-is ∙ w.in_ok-put_numbers.ensures
          ∙ ap (λ (n : ℕ). c.loop-node.own.items ++ map Some (range_with_len c.loop-node.next n)) count))
    ]

pub returns : goal.returns
returns c = all_own c.args.nodes.now c.loop-node.node-index c.loop-node.next c.loop-node.own.items (own_by c.args.first c.args.nodes.now) c.loop-node-test.false c.loop-node.invariant.own_is
