use Rattle.std.proofs.Common.{◌≡◌, ◌+◌, List, ◌++◌, length, take, sym, ap, ◌∙◌, arith}
use Rattle.std.proofs.lemmas.List.{length-append}
use Rattle.dwz_graph.specs.declared.index.SpaceEntry.{SpaceEntry}
use Rattle.dwz_layout_items.specs.declared.partial.SpaceRow.{SpaceRow}
use Rattle.dwz_layout_order.specs.Lists.{all_spaces, rows_from}
use Rattle.dwz_layout_order.proofs.ChainShown.{rows_append, rows_long}
use Rattle.dwz_layout_order.proofs.SpaceSteps.{spaces_few, spaces_more}
use Rattle.dwz_layout_order.proofs.spaces.space_rows.Goals as goal

pub loop-index-init : goal.loop-index-init
unfolding rows_from
loop-index-init c = c.new-rows.ensures.items

pub push_rows-requires : goal.push_rows-requires
push_rows-requires c =
    let xs = c.args.indexes.now in
    let i = c.loop-index.index-index in
    let x = c.index-item.result in
    let long = ap (λ (w : List SpaceRow). length w) c.loop-index.invariant in
    let count = rows_long 0 (all_spaces (take i xs)) in
    let more = ap (λ (w : List SpaceEntry). length w) (spaces_more xs i x (omega arith) c.index-item.is) in
    let parts = length-append (all_spaces (take i xs)) x.spaces in
    let few = spaces_few xs (i + 1) in
    let own = ap (λ (w : List SpaceEntry). length w) c.spaces.ensures in
    let all = c.requires in
    omega arith

pub loop-index-preserved : goal.loop-index-preserved
loop-index-preserved c =
    let xs = c.args.indexes.now in
    let i = c.loop-index.index-index in
    let x = c.index-item.result in
    let done = all_spaces (take i xs) in
    let long : length c.loop-index.rows.items ≡ length done = ap (λ (w : List SpaceRow). length w) c.loop-index.invariant ∙ rows_long 0 done in
    let none : length done ≡ 0 + length done = omega arith in
    c.in_ok-push_rows.ensures
    ∙ (λ j. c.loop-index.invariant j ++ rows_from ((long ∙ none) j) (c.spaces.ensures j))
    ∙ sym (rows_append 0 done x.spaces)
    ∙ ap (rows_from 0) (sym (spaces_more xs i x (omega arith) c.index-item.is))
