-- A space that is closed.
use Rattle.std.proofs.Common.{◌≡◌, ℕ, ◌-◌, Bool, List, ◌∷◌, ◌++◌, ◌||◌, length, get_or, slice_set, sym, ap, ◌∙◌, arith}
use Rattle.std.proofs.lemmas.List.{get_or_at, length-append, set_at}
use Rattle.dwz_layout_items.specs.declared.order.Outer.{Outer}
use Rattle.dwz_layout_order.specs.Outline.{closed}

pub shut : (items before inner : List Outer) (x read : Outer) (at : ℕ) (pinned : Bool) (len : ℕ) (any : Bool) → items ≡ before ++ x ∷ inner → at ≡ length before → read ≡ get_or items at read
    → len ≡ length items → any ≡ (read.pinned || pinned)
    → slice_set items at (record { what = read.what; inside = len - at - 1; stays = read.stays; pinned = any }) ≡ before ++ closed x (length inner) pinned ∷ inner
shut items before inner x read at pinned len any is place found long either =
    let same : read ≡ x = found ∙ (λ i. get_or (is i) at read) ∙ get_or_at before x inner read at (sym place) in
    let total = ap (λ (w : List Outer). length w) is in
    let parts = length-append before (x ∷ inner) in
    let inside : len - at - 1 ≡ length inner = omega arith in
    let either_is : any ≡ (x.pinned || pinned) = either ∙ ap (λ (w : Outer). w.pinned || pinned) same in
    let stored : Outer = record { what = read.what; inside = len - at - 1; stays = read.stays; pinned = any } in
    let stored_is : stored ≡ closed x (length inner) pinned = (λ i. record { what = (same i).what; inside = inside i; stays = (same i).stays; pinned = either_is i }) in
    (λ i. slice_set (is i) at (stored_is i)) ∙ set_at before x inner (closed x (length inner) pinned) at (sym place)
