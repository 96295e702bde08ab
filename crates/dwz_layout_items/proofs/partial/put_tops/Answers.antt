use Rattle.std.proofs.Common.{◌≡◌, ◌∙◌, ◌++◌, ◌∷◌, [], ℕ, List, ◌+◌, get_or, take, sym, ap, append_assoc, arith}
use Rattle.std.proofs.lemmas.List.{take_more}
use Rattle.dwz_def_tops.specs.Spots.{EntryName}
use Rattle.dwz_layout_items.specs.Chains.{tops_lines}
use Rattle.dwz_layout_items.specs.Lines.{Line}
use Rattle.dwz_layout_items.specs.Order.{order_lines}
use Rattle.dwz_layout_items.proofs.ChainLemmas.{tops_append, tops_none, tops_one}
use Rattle.dwz_layout_items.proofs.LineLemmas.{order_one}
use Rattle.dwz_layout_items.proofs.partial.put_tops.Goals as goal

pub loop-top-init : goal.loop-top-init
loop-top-init c = λ names. tops_none names c.args.depth (order_lines names c.args.order.now.items)

pub loop-top-preserved : goal.loop-top-preserved
loop-top-preserved c = λ names.
    let tops : List ℕ = c.args.tops.now in
    let i = c.loop-top.top-index in
    let top : ℕ = get_or tops i 0 in
    let old : List (Line EntryName) = order_lines names c.args.order.now.items in
    let so_far : List (Line EntryName) = tops_lines names c.args.depth (take i tops) in
    let one : List (Line EntryName) = tops_lines names c.args.depth (top ∷ []) in
    let more : tops_lines names c.args.depth (take (i + 1) tops) ≡ so_far ++ one = ap (tops_lines names c.args.depth) (take_more tops i 0 (omega arith))
    ∙ tops_append names c.args.depth (take i tops) (top ∷ []) in
    ap (order_lines names) c.in_ok-push.ensures.items
    ∙ order_one names c.loop-top.order.items _
    ∙ (λ j. c.loop-top.invariant names j ++ sym (tops_one names c.args.depth top) j)
    ∙ append_assoc old so_far one
    ∙ ap (λ (w : List (Line EntryName)). old ++ w) (sym more)
