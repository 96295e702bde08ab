use Rattle.std.proofs.Common.{◌≡◌, ◌<◌, ◌++◌, ◌∙◌, ℕ, All, Bool, List, length, map, true, false, ap, sym, subst, arith}
use Rattle.std.proofs.lemmas.List.{length-map}
use Rattle.dwz_groups.specs.declared.tops.TopRow.{TopRow}
use Rattle.dwz_groups.specs.Groups.{grouped}
use Rattle.dwz_plan.specs.declared.plan.Home.{Home}
use Rattle.dwz_plan.specs.declared.plan.Partial.{Partial}
use Rattle.dwz_plan.specs.Gained.{among, gained, home_after, kept_after}
use Rattle.dwz_plan.specs.Planned.{imports_from, partials, units_of}
use Rattle.dwz_plan.specs.Rows.{Given, given}
use Rattle.dwz_plan.specs.Steps.{staying_pairs, turned}
use Rattle.dwz_plan.proofs.GainedRows.{imports_left, kept_left, users_left}
use Rattle.dwz_plan.proofs.RowLemmas.{length-rows_from}
use Rattle.dwz_plan.proofs.plan.Plan.make.Goals as goal

homes_count : (g : Given) (marks : List Bool) (out : List Home) (n : ℕ) → out ≡ map (home_after marks g) g.rows → length g.rows ≡ n → length out ≡ n
homes_count g marks out n e l = ap (λ (hs : List Home). length hs) e ∙ length-map g.rows (home_after marks g) ∙ l

pub kept_of_units-requires-clause-homes : goal.kept_of_units-requires-clause-homes
kept_of_units-requires-clause-homes c =
    let g : Given = given c.args.scope c.args.tops.now c.args.least.now in
    let moves = c.in_ok-moves.ensures.moves in
    let many = length-rows_from c.args.tops.now.files_of_units 0 c.args.tops.now.rows c.args.least.now c.requires.least in
    let count = homes_count g moves.0 c.as_slice.result.now (length c.args.tops.now.rows) (c.as_slice.ensures.value ∙ moves.1.homes) many in
    omega (arith, count, ap (λ (rs : List TopRow). length rs) c.as_slice-rows.ensures)

pub imports-requires-clause-users : goal.imports-requires-clause-users
imports-requires-clause-users c =
    let moves = c.in_ok-moves.ensures.moves in
    subst (λ n. All (λ part. All (λ u. u < n) part.users) c.as_slice-2.result.now) (sym c.len-units.ensures)
    (subst (λ (ps : List Partial). All (λ part. All (λ u. u < length c.args.tops.now.files_of_units) part.users) ps) (sym (c.as_slice-2.ensures.value ∙ moves.1.partials))
    (users_left c.args.scope c.args.tops.now c.args.least.now moves.0))

pub returns : goal.returns
unfolding gained
returns c =
    let scope = c.args.scope in
    let g : Given = given scope c.args.tops.now c.args.least.now in
    let moves = c.in_ok-moves.ensures.moves in
    let marks : List Bool = moves.0 in
    let homes = c.as_slice.ensures.value ∙ moves.1.homes in
    let kept_is : c.in_ok-kept.kept ≡ map (kept_after marks g) (units_of g) =
    c.in_ok-kept.ensures
    ∙ ((λ i. grouped (c.len-units.ensures i) (staying_pairs true 0 (c.as_slice-rows.ensures i) (homes i) ++ staying_pairs false 0 (c.as_slice-rows.ensures i) (homes i)))
    ∙ kept_left scope c.args.tops.now c.args.least.now marks) in
    let parts = c.as_slice-2.ensures.value ∙ moves.1.partials in
    let imports_is : c.in_ok-imports.imports ≡ map (λ unit. imports_from unit 0 (among marks (partials g))) (units_of g) =
    c.in_ok-imports.ensures ∙ ((λ i. grouped (c.len-units.ensures i) (turned 0 (map (λ (part : Partial). part.users) (parts i)))) ∙ imports_left scope c.args.tops.now c.args.least.now marks) in
    let plan : (record {
      partials = c.in_ok-moves.moves.partials.items;
      homes = c.in_ok-moves.moves.homes.items;
      stand_ins = c.in_ok-moves.moves.stand_ins.items;
      kept = c.in_ok-kept.kept;
      imports = c.in_ok-imports.imports;
    }) ≡ gained marks g = (λ i. record { partials = moves.1.partials i; homes = moves.1.homes i; stand_ins = moves.1.stand_ins i; kept = kept_is i; imports = imports_is i }) in (
      marks,
      moves.1.gaining,
      plan,
    )
