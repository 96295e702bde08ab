use Rattle.std.proofs.Common.{◌≡◌, ◌+◌, List, ◌∷◌, [], ◌++◌, length, take, get_or, sym, ap, ◌∙◌, arith}
use Rattle.std.proofs.lemmas.List.{append-nil, append_assoc, length-append, length-take, take_more}
use Rattle.dwz_layout_items.specs.declared.partial.SpaceRow.{SpaceRow}
use Rattle.dwz_graph.specs.declared.index.SpaceEntry.{SpaceEntry}
use Rattle.dwz_layout_order.specs.Lists.{row_from, rows_from}
use Rattle.dwz_layout_order.proofs.ChainShown.{rows_append, rows_long}
use Rattle.dwz_layout_order.proofs.spaces.push_rows.Goals as goal

abbrev no_entry : SpaceEntry
no_entry = record { entry = 0; outer = 0 }

pub loop-space-init : goal.loop-space-init
unfolding rows_from
loop-space-init c = sym (append-nil c.args.rows.now.items)

pub overflow_cast-number : goal.overflow_cast-number
overflow_cast-number c =
    let n = length c.args.rows.now.items in
    let i = c.loop-space.space-index in
    let spaces = c.args.spaces.now in
    let long = ap (λ (w : List SpaceRow). length w) c.loop-space.invariant in
    let parts = length-append c.args.rows.now.items (rows_from n (take i spaces)) in
    let count = rows_long n (take i spaces) in
    let taken = length-take i spaces in
    let h = c.len-number.ensures in
    omega arith

pub loop-space-preserved : goal.loop-space-preserved
unfolding rows_from
loop-space-preserved c =
    let old = c.args.rows.now.items in
    let spaces = c.args.spaces.now in
    let i = c.loop-space.space-index in
    let before = rows_from (length old) (take i spaces) in
    let long = ap (λ (w : List SpaceRow). length w) c.loop-space.invariant in
    let parts = length-append old before in
    let count = rows_long (length old) (take i spaces) in
    let number : c.len-number.result ≡ length old + length (take i spaces) = omega arith in
    let x : SpaceEntry = get_or spaces i no_entry in
    let more : rows_from (length old) (take (i + 1) spaces) ≡ before ++ row_from (length old + length (take i spaces)) x ∷ [] =
    ap (rows_from (length old)) (take_more spaces i no_entry (omega arith)) ∙ rows_append (length old) (take i spaces) (x ∷ []) in
    c.in_ok-push.ensures.items
    ∙ (λ j. c.loop-space.invariant j ++ record { space = number j; outer = x.outer } ∷ [])
    ∙ append_assoc old before (row_from (length old + length (take i spaces)) x ∷ [])
    ∙ ap (λ (w : List SpaceRow). old ++ w) (sym more)
