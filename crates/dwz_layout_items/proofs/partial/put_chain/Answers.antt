use Rattle.std.proofs.Common.{◌≡◌, ◌+◌, ◌∙◌, ◌++◌, List, length, append_assoc, arith}
use Rattle.dwz_def_tops.specs.Spots.{EntryName}
use Rattle.dwz_layout_items.specs.Chains.{down, path_lines, tops_lines}
use Rattle.dwz_layout_items.specs.Lines.{Line}
use Rattle.dwz_layout_items.specs.Order.{order_lines}
use Rattle.dwz_layout_items.proofs.ChainLemmas.{down_length}
use Rattle.dwz_layout_items.proofs.partial.put_chain.Goals as goal

pub returns : goal.returns
returns c = λ names ups u.
    let old : List (Line EntryName) = order_lines names c.args.order.now.items in
    let path : List (Line EntryName) = path_lines names c.args.chain 0 (down ups) in
    let deep : c.in_ok-depth.depth ≡ 2 + length (down ups) = omega (arith, c.in_ok-depth.ensures.depth ups u, down_length ups) in
    c.in_ok-put_tops.ensures names
    ∙ (λ i. c.in_ok-depth.ensures.lines names ups u i ++ tops_lines names (deep i) c.args.tops.now)
    ∙ append_assoc old path (tops_lines names (2 + length (down ups)) c.args.tops.now)
