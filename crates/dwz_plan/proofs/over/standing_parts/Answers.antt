use Rattle.std.proofs.Common.{◌≡◌, ◌<◌, ◌+◌, ◌∙◌, ◌++◌, [], ◌∷◌, ℕ, List, length, get_or, map, take, ap, sym, arith}
use Rattle.std.specs.List.{range_with_len}
use Rattle.std.proofs.lemmas.List.FromFn.{get_or-map-range_with_len, length-map-range_with_len, map-range_with_len_more}
use Rattle.dwz_groups.specs.declared.tops.Tops.{Tops}
use Rattle.dwz_def_taken.specs.declared.fixed.Fixed.{Fixed}
use Rattle.dwz_plan.specs.Over.{own_units, standing_part, standing_parts, takers_from, tops_in}
use Rattle.dwz_plan.proofs.over.standing_parts.Goals as goal

pub get-users-requires : goal.get-users-requires
get-users-requires c =
    let n = c.len-count.result in
    omega (
      arith,
      c.len-count.ensures,
      ap (λ (ls : List (List ℕ)). length ls) c.in_ok-takers.ensures,
      length-map-range_with_len (λ p. takers_from p 0 (take c.own_units-first.result c.args.fixed.now.takes)) 0 (length c.args.fixed.now.roots),
    )

pub get-own-requires : goal.get-own-requires
get-own-requires c =
    omega (
      arith,
      ap (λ (ls : List (List ℕ)). length ls) c.in_ok-held.ensures,
      length-map-range_with_len (λ p. tops_in (c.own_units-first.result + p) 0 c.as_slice.result.now) 0 c.len-count.result,
    )

pub loop-number-preserved : goal.loop-number-preserved
loop-number-preserved c =
    let tops : Tops = c.args.tops.now in
    let fixed : Fixed = c.args.fixed.now in
    let n = c.loop-number.number in
    let l : n < length fixed.roots = omega (arith, c.len-count.ensures) in
    let low : n < c.len-count.result = omega arith in
    let users : c.get-users.result.now ≡ takers_from n 0 (take (own_units tops fixed) fixed.takes) = c.get-users.ensures
    ∙ (ap (λ (ls : List (List ℕ)). get_or ls n []) c.in_ok-takers.ensures
    ∙ (get_or-map-range_with_len (λ p. takers_from p 0 (take c.own_units-first.result fixed.takes)) 0 (length fixed.roots) n n [] l (omega arith)
    ∙ ap (λ k. takers_from n 0 (take k fixed.takes)) c.own_units-first.ensures)) in
    let own : c.get-own.result.now ≡ tops_in (own_units tops fixed + n) 0 tops.rows = c.get-own.ensures
    ∙ (ap (λ (ls : List (List ℕ)). get_or ls n []) c.in_ok-held.ensures
    ∙ (get_or-map-range_with_len (λ p. tops_in (c.own_units-first.result + p) 0 c.as_slice.result.now) 0 c.len-count.result n n [] low (omega arith)
    ∙ (λ i. tops_in (c.own_units-first.ensures i + n) 0 (c.as_slice.ensures i)))) in
    let part : c.in_ok-part.part ≡ standing_part tops fixed n = c.in_ok-part.ensures ∙ (λ i. record { file = tops.files; users = users i; tops = own i }) in
    c.in_ok-push.ensures.items ∙ ((λ i. c.loop-number.invariant i ++ part i ∷ []) ∙ sym (map-range_with_len_more (standing_part tops fixed) 0 n n (omega arith)))

pub returns : goal.returns
unfolding standing_parts
returns c =
    let all : c.loop-number.number ≡ length c.args.fixed.now.roots = omega (arith, c.len-count.ensures) in
    c.loop-number.invariant ∙ ap (λ k. map (standing_part c.args.tops.now c.args.fixed.now) (range_with_len 0 k)) all
