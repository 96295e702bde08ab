-- What stands in the roots of units, one unit after the other.
use Rattle.std.proofs.Common.{◌≡◌, ℕ, suc, zero, ◌+◌, ◌<◌, List, [], ◌∷◌, ◌++◌, Some, get_or, length, slice_get, take, sym, ap, subst, ◌∙◌}
use Rattle.std.specs.List.{flat_map}
use Rattle.std.proofs.lemmas.List.{append-nil, append_assoc}
use Rattle.std.proofs.lemmas.List.Concat.{flat_map-append}
use Rattle.std.proofs.lemmas.Option.{get_or_from_slice_get}
use Rattle.dwz_def_reading.specs.Lists.{Each}
use Rattle.dwz_def_reading.proofs.ListFacts.{got_there}
use Rattle.dwz_unit.proofs.RowsFound.{take_here}
use Rattle.dwz_expand_sources.specs.declared.sources.SourceRange.{SourceRange}
use Rattle.dwz_expand_sources.specs.declared.spans.UnitSpan.{UnitSpan}
use Rattle.dwz_expand_sources.specs.Building.{part_ranges, range_below, range_if}

each_got : (P : ℕ → Type 0) (xs : List ℕ) (i x : ℕ) → Each P xs → slice_get xs i ≡ Some x → P x
each_got P [] i x h e = absurd cc
each_got P (y ∷ xs) zero x h e = let same : y ≡ x = cc in subst P same h.0
each_got P (y ∷ xs) (suc i) x h e = each_got P xs i x h.1 e

pub part_put : (spans : List UnitSpan) (parts : List ℕ) (i : ℕ) (d : UnitSpan) (old now new : List SourceRange) → Each (λ v. v < length spans) parts → i < length parts
    → now ≡ old ++ part_ranges spans (take i parts)
    → new ≡ now ++ range_if ((get_or spans (get_or parts i 0) d).root + 1) (get_or spans (get_or parts i 0) d).end → new ≡ old ++ part_ranges spans (take (i + 1) parts)
part_put spans parts i d old now new within lt before put =
    let below = λ (part : ℕ). range_below (slice_get spans part) in
    let p = got_there parts i lt in
    let s = got_there spans p.0 (each_got (λ v. v < length spans) parts i p.0 within p.1) in
    let front = take i parts in
    let here : get_or spans (get_or parts i 0) d ≡ s.0 = ap (λ (k : ℕ). get_or spans k d) (get_or_from_slice_get parts i p.0 0 p.1) ∙ get_or_from_slice_get spans p.0 s.0 d s.1 in
    let more : flat_map below (take (i + 1) parts) ≡ flat_map below front ++ range_if (s.0.root + 1) s.0.end =
    ap (flat_map below) (take_here parts i p.0 p.1) ∙ flat_map-append below front (p.0 ∷ [])
    ∙ ap (λ (w : List SourceRange). flat_map below front ++ w) (append-nil (below p.0) ∙ ap range_below s.1) in
    put ∙ (λ j. before j ++ range_if ((here j).root + 1) (here j).end)
    ∙ append_assoc old (flat_map below front) (range_if (s.0.root + 1) s.0.end)
    ∙ ap (λ (w : List SourceRange). old ++ w) (sym more)
