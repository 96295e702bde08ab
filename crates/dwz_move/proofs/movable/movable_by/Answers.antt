use Rattle.std.proofs.Common.{◌≡◌, ℕ, ◌<◌, List, length, map, not, sym, ap, subst, ◌∙◌, All}
use Rattle.dwz_groups.specs.declared.groups.Edge.{Edge}
use Rattle.dwz_groups.specs.Groups.{grouped}
use Rattle.dwz_move.specs.Sources.{sources_from}
use Rattle.dwz_move.proofs.MovableLemmas.{flags_by}
use Rattle.dwz_move.proofs.SourceLemmas.{sources_by, sources_low, targets_low}
use Rattle.dwz_groups.specs.Spreading.{AreInside}
use Rattle.dwz_groups.proofs.MarkLemmas.{grouped_length}
use Rattle.dwz_move.proofs.movable.movable_by.Goals as goal

pub group-requires : goal.group-requires
group-requires c =
    let here : c.as_slice.result.now ≡ sources_from 0 c.args.targets.now = c.as_slice.ensures.value ∙ c.in_ok-pairs.ensures in
    let within = subst (λ (n : ℕ). All (λ p. p.key < n) (sources_from 0 c.args.targets.now)) (sym c.len.ensures) (targets_low c.args.targets.now c.requires.inside) in
    subst (λ (w : List Edge). All (λ p. p.key < c.len.result) w) (sym here) within

pub spread-requires-clause-len : goal.spread-requires-clause-len
spread-requires-clause-len c =
    let here : c.as_slice.result.now ≡ sources_from 0 c.args.targets.now = c.as_slice.ensures.value ∙ c.in_ok-pairs.ensures in
    let made : c.in_ok-sources.sources ≡ sources_by c.args.targets.now = c.in_ok-sources.ensures ∙ (λ i. grouped (c.len.ensures i) (here i)) in
    ap (λ (w : List (List ℕ)). length w) made ∙ grouped_length (length c.args.targets.now) (sources_from 0 c.args.targets.now) ∙ sym c.requires.len

pub spread-requires-clause-inside : goal.spread-requires-clause-inside
spread-requires-clause-inside c =
    let here : c.as_slice.result.now ≡ sources_from 0 c.args.targets.now = c.as_slice.ensures.value ∙ c.in_ok-pairs.ensures in
    let made : c.in_ok-sources.sources ≡ sources_by c.args.targets.now = c.in_ok-sources.ensures ∙ (λ i. grouped (c.len.ensures i) (here i)) in
    subst (λ (w : List (List ℕ)). AreInside w) (sym made) (sources_low c.args.targets.now)

pub returns : goal.returns
returns c =
    let here : c.as_slice.result.now ≡ sources_from 0 c.args.targets.now = c.as_slice.ensures.value ∙ c.in_ok-pairs.ensures in
    let made : c.in_ok-sources.sources ≡ sources_by c.args.targets.now = c.in_ok-sources.ensures ∙ (λ i. grouped (c.len.ensures i) (here i)) in
    λ units shown begin. flags_by units c.args.targets.now c.args.seeds.now c.in_ok-marks.marks.items c.in_ok-sources.sources c.in_ok-flags.flags made c.in_ok-marks.ensures
    (c.in_ok-flags.ensures ∙ ap (map not) c.as_slice-2.ensures.value) shown begin
