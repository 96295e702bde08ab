use Rattle.std.proofs.Common.{◌≡◌, ℕ, ◌+◌, List, length, map, sym, ap, subst, ◌∙◌, arith}
use Rattle.std.proofs.lemmas.List.{length-map}
use Rattle.dwz_check_index.specs.declared.index.UnitStart.{UnitStart}
use Rattle.dwz_match.specs.Parts.{AreStarts}
use Rattle.dwz_match.proofs.CommonStarts.{starts_are}
use Rattle.dwz_match.proofs.common.common_tops.Goals as goal

pub part_tops-requires : goal.part_tops-requires
part_tops-requires c =
    let few = c.requires.units in
    let long : length c.as_slice.result.now ≡ length c.args.index.now.units =
    ap (λ (w : List ℕ). length w) (c.as_slice.ensures.value ∙ c.in_ok-starts.ensures) ∙ length-map c.units.result.now (λ (s : UnitStart). s.top) ∙ ap (λ (w : List UnitStart). length w) c.units.ensures in
    omega (arith, few, long)

pub returns : goal.returns
returns c docs common partial is =
    let here : c.as_slice.result.now ≡ map (λ (s : UnitStart). s.top) c.args.index.now.units =
    c.as_slice.ensures.value ∙ c.in_ok-starts.ensures ∙ ap (map (λ (s : UnitStart). s.top)) c.units.ensures in
    let s = c.starts.ensures in
    let t = c.tops.ensures in
    let end : c.starts.result.top + length c.tops.result.now ≡ c.args.index.now.starts.top + length c.args.index.now.tops = (λ i. (s i).top + length (t i)) in
    c.in_ok-tops.ensures docs common
    (subst (λ (w : List ℕ). AreStarts docs common w (c.starts.result.top + length c.tops.result.now)) (sym here)
    (subst (λ (k : ℕ). AreStarts docs common (map (λ (s : UnitStart). s.top) c.args.index.now.units) k) (sym end) (starts_are docs common c.args.index.now partial is)))
