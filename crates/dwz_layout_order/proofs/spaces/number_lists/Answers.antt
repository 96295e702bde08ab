use Rattle.std.proofs.Common.{◌≡◌, ℕ, ◌+◌, ◌<◌, List, length, slice_index, sym, ap, subst, ◌∙◌, arith}
use Rattle.dwz_layout_order.specs.Lists.{list_above, outer_at}
use Rattle.dwz_layout_order.proofs.ListNumbers.{Numbering, key_of, numbered, outer_there}
use Rattle.dwz_layout_order.proofs.spaces.number_lists.Goals as goal

pub loop-k-preserved : goal.loop-k-preserved
loop-k-preserved c =
    let rows = c.args.rows.now in
    let texts = c.args.texts.now in
    let k = c.loop-k.k in
    let within : k < length rows = omega arith in
    let outer : c.list_of-outer.result ≡ list_above c.loop-k.lists.items (outer_at rows k) = c.list_of-outer.ensures ∙ (λ i. list_above (c.as_slice.ensures.value i) (outer_there rows k i)) in
    subst (λ (w : List ℕ). Numbering rows texts (k + 1) w c.number_under.new.seen) (sym c.in_ok-push.ensures.items)
    (numbered rows texts c.requires.rising k within c.loop-k.lists.items c.loop-k.seen c.number_under.new.seen _ c.in_ok-number.number c.loop-k.invariant
    (ap (λ (n : ℕ). key_of n (slice_index texts k)) outer) c.in_ok-number.ensures)
