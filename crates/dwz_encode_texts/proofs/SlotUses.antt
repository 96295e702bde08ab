-- What an entry uses is among what its unit uses, and that among what all units use.
use Rattle.std.proofs.Common.{◌≡◌, ℕ, zero, suc, ◌+◌, List, [], ◌∷◌, sym, subst, inl, inr, arith}
use Rattle.std.specs.List.{flat_map}
use Rattle.dwz_def_reading.specs.Lists.{In}
use Rattle.dwz_def_reading.proofs.ListFacts.{in_left, in_right}
use Rattle.dwz_layout.specs.declared.order.UnitItems.{UnitItems}
use Rattle.dwz_layout.specs.declared.walk.Slot.{Slot}
use Rattle.dwz_layout.specs.Attributes.{here_of}
use Rattle.dwz_layout.specs.Entries.{items_slots}
use Rattle.dwz_encode_texts.specs.Used.{items_uses, order_uses, origin_uses}
use Rattle.dwz_encode_texts.specs.UseLaws.{SlotLaw}

in_flat : {X : Type 0} (f : X → List ℕ) (xs : List X) (x : X) (n : ℕ) → In x xs → In n (f x) → In n (flat_map f xs)
in_flat f [] x n there of = absurd there
in_flat f (y ∷ xs) x n (inl same) of = in_left n (f y) (flat_map f xs) (subst (λ z. In n (f z)) (sym same) of)
in_flat f (y ∷ xs) x n (inr later) of = in_right n (f y) (flat_map f xs) (in_flat f xs x n later of)

pub slot_uses : SlotLaw
unfolding order_uses
slot_uses k first i [] o s found there n of = absurd cc
slot_uses k first zero (x ∷ order) o s found there n of =
    let same : x ≡ o = cc in
    let none : first + 0 ≡ first = omega arith in
    let one : In n (origin_uses k (here_of k first o.sort) s.origin) = subst (λ (u : ℕ). In n (origin_uses k (here_of k u o.sort) s.origin)) none of in
    let unit : In n (items_uses k first o) = in_flat (λ (t : Slot). origin_uses k (here_of k first o.sort) t.origin) (items_slots k o.sort o.items) s n there one in
    in_left n (items_uses k first x) (order_uses k (suc first) order) (subst (λ (w : UnitItems). In n (items_uses k first w)) (sym same) unit)
slot_uses k first (suc i) (x ∷ order) o s found there n of =
    let more : first + suc i ≡ suc first + i = omega arith in
    in_right n (items_uses k first x) (order_uses k (suc first) order)
    (slot_uses k (suc first) i order o s found there n (subst (λ (u : ℕ). In n (origin_uses k (here_of k u o.sort) s.origin)) more of))
