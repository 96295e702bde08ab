use Rattle.std.proofs.Common.{◌≡◌, ◌∙◌, ℕ, All, Bool, List, Option, length, map, ap, sym, subst}
use Rattle.std.proofs.lemmas.List.{length-map}
use Rattle.std.proofs.lemmas.List.Elements.{All-map}
use Rattle.dwz_plan.specs.Gaining.{AreNumbers, weights_of}
use Rattle.dwz_plan.specs.Gained.{group_of, part_seed}
use Rattle.dwz_plan.proofs.gained.marks_of.Goals as goal

pub gaining_groups-requires-clause-groups : goal.gaining_groups-requires-clause-groups
gaining_groups-requires-clause-groups c =
    let n = length c.args.partials.now in
    let len : length c.as_slice.result.now ≡ n = ap (λ (bs : List Bool). length bs) (c.as_slice.ensures.value ∙ c.in_ok-seeds.ensures)
    ∙ length-map c.args.partials.now (part_seed (weights_of c.args.rows.now)) in
    let groups : c.as_slice-2.result.now ≡ map group_of c.args.homes.now = c.as_slice-2.ensures.value ∙ c.in_ok-groups.ensures in
    subst (λ k. All (AreNumbers k) c.as_slice-2.result.now) (sym len) (subst (λ (os : List (Option ℕ)). All (AreNumbers n) os) (sym groups)
    (All-map (AreNumbers n) group_of c.args.homes.now c.requires.homes))
