use Rattle.std.proofs.Common.{◌≡◌, ◌∙◌, ◌++◌, ◌∷◌, [], ℕ, List, ◌+◌, get_or, take, sym, ap, append_assoc, arith}
use Rattle.std.proofs.lemmas.List.{append-nil, take_more}
use Rattle.dwz_def_tops.specs.Spots.{EntryName}
use Rattle.dwz_layout_items.specs.Lines.{Line}
use Rattle.dwz_layout_items.specs.Order.{import_lines, order_lines}
use Rattle.dwz_layout_items.proofs.LineLemmas.{import_lines_append, import_one, order_one}
use Rattle.dwz_layout_items.proofs.kept.put_imports.Goals as goal

pub loop-part-init : goal.loop-part-init
unfolding import_lines
loop-part-init c = λ names. sym (append-nil (order_lines names c.args.order.now.items))

pub loop-part-preserved : goal.loop-part-preserved
loop-part-preserved c = λ names.
    let parts : List ℕ = c.args.imports.now in
    let i = c.loop-part.part-index in
    let part : ℕ = get_or parts i 0 in
    let old : List (Line EntryName) = order_lines names c.args.order.now.items in
    let so_far : List (Line EntryName) = import_lines names (take i parts) in
    let one : List (Line EntryName) = import_lines names (part ∷ []) in
    let more : import_lines names (take (i + 1) parts) ≡ so_far ++ one = ap (import_lines names) (take_more parts i 0 (omega arith)) ∙ import_lines_append names (take i parts) (part ∷ []) in
    ap (order_lines names) c.in_ok-push.ensures.items
    ∙ order_one names c.loop-part.order.items _
    ∙ (λ j. c.loop-part.invariant names j ++ sym (import_one names part) j)
    ∙ append_assoc old so_far one
    ∙ ap (λ (w : List (Line EntryName)). old ++ w) (sym more)
