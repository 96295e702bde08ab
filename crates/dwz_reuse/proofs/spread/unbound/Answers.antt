use Rattle.std.proofs.Common.{◌≡◌, ◌<◌, ℕ, All, Bool, List, length, map, sym, ap, subst, ◌∙◌}
use Rattle.std.specs.Prelude.{not}
use Rattle.std.proofs.lemmas.List.{length-map}
use Rattle.dwz_groups.specs.declared.groups.Edge.{Edge}
use Rattle.dwz_groups.specs.Groups.{grouped}
use Rattle.dwz_groups.specs.Spreading.{AreInside}
use Rattle.dwz_groups.proofs.MarkLemmas.{grouped_length}
use Rattle.dwz_reuse.proofs.CommonSpread.{flags_by}
use Rattle.dwz_reuse.proofs.SpreadSteps.{keys_low, sources_inside}
use Rattle.dwz_reuse.proofs.spread.unbound.Goals as goal

pub group-requires : goal.group-requires
group-requires c =
    let edges = c.in_ok-edges.edges.items in
    let low = keys_low c.args.first (length c.args.seeds.now) c.args.targets.now edges c.in_ok-edges.ensures c.requires.len c.requires.inside in
    subst (λ (w : List Edge). All (λ (e : Edge). e.key < length c.args.seeds.now) w) (sym c.as_slice.ensures.value) low

pub spread-requires-clause-len : goal.spread-requires-clause-len
spread-requires-clause-len c =
    let made : c.in_ok-sources.sources ≡ grouped (length c.args.seeds.now) c.in_ok-edges.edges.items = c.in_ok-sources.ensures ∙ ap (grouped (length c.args.seeds.now)) c.as_slice.ensures.value in
    ap (λ (w : List (List ℕ)). length w) made ∙ grouped_length (length c.args.seeds.now) c.in_ok-edges.edges.items

pub spread-requires-clause-inside : goal.spread-requires-clause-inside
spread-requires-clause-inside c =
    let made : c.in_ok-sources.sources ≡ grouped (length c.args.seeds.now) c.in_ok-edges.edges.items = c.in_ok-sources.ensures ∙ ap (grouped (length c.args.seeds.now)) c.as_slice.ensures.value in
    subst (λ (w : List (List ℕ)). AreInside w) (sym made)
    (sources_inside c.args.first (length c.args.seeds.now) c.args.targets.now c.in_ok-edges.edges.items c.in_ok-edges.ensures c.requires.len c.requires.inside)

pub returns-clause-len : goal.returns-clause-len
returns-clause-len c =
    ap (λ (w : List Bool). length w) (c.in_ok-flags.ensures ∙ ap (map not) c.as_slice-2.ensures.value) ∙ length-map c.in_ok-marks.marks.items not ∙ c.in_ok-marks.ensures.len

pub returns-clause-flags : goal.returns-clause-flags
returns-clause-flags c = λ docs doc placed partial same begin shown. (
    let made : c.in_ok-sources.sources ≡ grouped (length c.args.seeds.now) c.in_ok-edges.edges.items = c.in_ok-sources.ensures ∙ ap (grouped (length c.args.seeds.now)) c.as_slice.ensures.value in
    flags_by docs doc placed partial c.args.first same c.args.targets.now c.args.seeds.now c.in_ok-marks.marks.items c.in_ok-flags.flags.items c.in_ok-edges.edges.items c.in_ok-sources.sources
    c.in_ok-edges.ensures made c.in_ok-marks.ensures (c.in_ok-flags.ensures ∙ ap (map not) c.as_slice-2.ensures.value) begin shown)
