-- Which texts stay depends on which numbers are uses, and not on their order.
use Rattle.std.proofs.Common.{◌≡◌, ◌↔◌, ℕ, Bool, true, false, List, length, take, refl, ap}
use Rattle.std.specs.List.{list_any}
use Rattle.dwz_def_reading.specs.Lists.{In}
use Rattle.dwz_def_reading.specs.Pruning.{is_in_range, is_kept, new_number, pruned}
use Rattle.dwz_def_reading.proofs.PruneLemmas.{same_kept}
use Rattle.dwz_def_tops.proofs.Members.{any_from, any_true}

any_same : (p : ℕ → Bool) (xs ys : List ℕ) → ((n : ℕ) → In n xs → In n ys) → ((n : ℕ) → In n ys → In n xs) → list_any p xs ≡ list_any p ys
any_same p xs ys to from = by (list_any p xs) (list_any p ys) refl refl where
  by : (a b : Bool) → list_any p xs ≡ a → list_any p ys ≡ b → a ≡ b
  by true true e f = refl
  by false false e f = refl
  by true false e f = (let o = any_from p xs e in let yes = any_true p o.one ys (to o.one o.there) o.passes in cc)
  by false true e f = (let o = any_from p ys f in let yes = any_true p o.one xs (from o.one o.there) o.passes in cc)

-- what stays, and where it then stands, is the same for uses in another order
pub uses_same : (section uses others : List ℕ) → ((n : ℕ) → In n uses ↔ In n others)
    → (pruned section uses ≡ pruned section others) × ((used : ℕ) → new_number section uses used ≡ new_number section others used)
unfolding is_kept
uses_same section uses others same =
    let each : (k : ℕ) → is_kept section uses k ≡ is_kept section others k = λ k. any_same (is_in_range section k) uses others (λ n. (same n).0) (λ n. (same n).1) in (
      same_kept (is_kept section uses) (is_kept section others) each 0 section,
      λ used. ap length (same_kept (is_kept section uses) (is_kept section others) each 0 (take used section)),
    )
