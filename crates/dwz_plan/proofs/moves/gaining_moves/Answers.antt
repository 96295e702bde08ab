use Rattle.std.proofs.Common.{get_or, ◌≤◌, ◌≡◌, ◌<◌, ◌∙◌, [], ℕ, All, Bool, List, Option, length, map, refl, ap, sym, subst, arith}
use Rattle.std.specs.List.{range_with_len}
use Rattle.std.proofs.lemmas.List.{length-map}
use Rattle.std.proofs.lemmas.List.Elements.{All-map}
use Rattle.dwz_def_reading.specs.Lists.{In}
use Rattle.dwz_groups.specs.declared.tops.TopRow.{TopRow}
use Rattle.dwz_groups.specs.declared.tops.Tops.{Tops}
use Rattle.dwz_groups.specs.Groups.{grouped}
use Rattle.dwz_groups.specs.Spreading.{IsSpread}
use Rattle.dwz_plan.specs.declared.plan.Home.{Home}
use Rattle.dwz_plan.specs.declared.plan.Partial.{Partial}
use Rattle.dwz_plan.specs.Gained.{IsGaining, among, group_of, groups_of, home_after, part_seed, place_after}
use Rattle.dwz_plan.specs.Gaining.{AreNumbers, edges_from, weights_of}
use Rattle.dwz_plan.specs.Planned.{partials, place}
use Rattle.dwz_plan.specs.Rows.{Given, given, with_targets}
use Rattle.dwz_plan.specs.Steps.{stander}
use Rattle.dwz_plan.proofs.GainedRows.{among_few, fits, places_low, stands_left}
use Rattle.dwz_plan.proofs.ListFacts.{all_from_in, map_map}
use Rattle.dwz_plan.proofs.RowLemmas.{length-rows_from}
use Rattle.dwz_plan.proofs.TargetLemmas.{after_low, numbers_more, parts_same, place_same}
use Rattle.dwz_plan.proofs.moves.gaining_moves.Goals as goal

in_at : (ns : List ℕ) (P : ℕ → Type 0) → ((n : ℕ) → In n ns → P n) → All P ns
in_at ns P h = all_from_in P ns h

pub marks_of-requires-clause-users : goal.marks_of-requires-clause-users
marks_of-requires-clause-users c =
    let g : Given = given c.args.scope c.args.tops.now c.args.least.now in
    let parts : c.as_slice.result.now ≡ partials g = c.as_slice.ensures.value ∙ c.in_ok-moves.ensures.partials in
    subst (λ (ps : List Partial). All (λ p. length p.users < 4294967296) ps) (sym parts)
    (all_from_in (λ (p : Partial). length p.users < 4294967296) (partials g) (λ p is. omega (arith, (fits c.args.scope c.args.tops.now c.args.least.now [] p is).users_few, c.requires.units)))

pub marks_of-requires-clause-tops : goal.marks_of-requires-clause-tops
marks_of-requires-clause-tops c =
    let g : Given = given c.args.scope c.args.tops.now c.args.least.now in
    let parts : c.as_slice.result.now ≡ partials g = c.as_slice.ensures.value ∙ c.in_ok-moves.ensures.partials in
    let many = length-rows_from c.args.tops.now.files_of_units 0 c.args.tops.now.rows c.args.least.now c.requires.least in
    subst (λ (ps : List Partial). All (λ p. length p.tops < 4294967296) ps) (sym parts)
    (all_from_in (λ (p : Partial). length p.tops < 4294967296) (partials g) (λ p is. omega (arith, (fits c.args.scope c.args.tops.now c.args.least.now [] p is).few, many, c.requires.rows)))

pub marks_of-requires-clause-inside : goal.marks_of-requires-clause-inside
marks_of-requires-clause-inside c =
    let g : Given = given c.args.scope c.args.tops.now c.args.least.now in
    let parts : c.as_slice.result.now ≡ partials g = c.as_slice.ensures.value ∙ c.in_ok-moves.ensures.partials in
    let many = length-rows_from c.args.tops.now.files_of_units 0 c.args.tops.now.rows c.args.least.now c.requires.least in
    subst (λ (rs : List TopRow). All (λ p. All (λ t. t < length rs) p.tops) c.as_slice.result.now) (sym c.as_slice-3.ensures)
    (subst (λ (ps : List Partial). All (λ p. All (λ t. t < length c.args.tops.now.rows) p.tops) ps) (sym parts)
    (all_from_in (λ (p : Partial). All (λ t. t < length c.args.tops.now.rows) p.tops) (partials g)
    (λ p is. in_at p.tops (λ t. t < length c.args.tops.now.rows) (λ t there. omega (arith, (fits c.args.scope c.args.tops.now c.args.least.now [] p is).inside t there, many)))))

pub marks_of-requires-clause-homes : goal.marks_of-requires-clause-homes
marks_of-requires-clause-homes c =
    let g : Given = given c.args.scope c.args.tops.now c.args.least.now in
    let parts : c.as_slice.result.now ≡ partials g = c.as_slice.ensures.value ∙ c.in_ok-moves.ensures.partials in
    let homes : c.as_slice-2.result.now ≡ map (place g) g.rows = c.as_slice-2.ensures.value ∙ c.in_ok-moves.ensures.homes in
    subst (λ (ps : List Partial). All (λ h. AreNumbers (length ps) (group_of h)) c.as_slice-2.result.now) (sym parts)
    (subst (λ (hs : List Home). All (λ h. AreNumbers (length (partials g)) (group_of h)) hs) (sym homes) (places_low c.args.scope c.args.tops.now c.args.least.now [] c.requires.files))

pub marks_of-requires-clause-len : goal.marks_of-requires-clause-len
marks_of-requires-clause-len c =
    let g : Given = given c.args.scope c.args.tops.now c.args.least.now in
    omega (
      arith,
      ap (λ (hs : List Home). length hs) (c.as_slice-2.ensures.value ∙ c.in_ok-moves.ensures.homes),
      length-map g.rows (place g),
      length-rows_from c.args.tops.now.files_of_units 0 c.args.tops.now.rows c.args.least.now c.requires.least,
      c.requires.targets,
    )

marks_len : (n : ℕ) (marks : List Bool) (sources : List (List ℕ)) (ps : List Partial) (ws : List ℕ) → length ps ≡ n → IsSpread sources (map (part_seed ws) ps) marks → length marks ≡ n
marks_len n marks sources ps ws e s = s.len ∙ length-map ps (part_seed ws) ∙ e

pub homes_after-requires-clause-homes : goal.homes_after-requires-clause-homes
homes_after-requires-clause-homes c =
    let g : Given = given c.args.scope c.args.tops.now c.args.least.now in
    let homes : c.as_slice-4.result.now ≡ map (place g) g.rows = c.as_slice-4.ensures.value ∙ c.in_ok-moves.ensures.homes in
    let parts : c.as_slice.result.now ≡ partials g = c.as_slice.ensures.value ∙ c.in_ok-moves.ensures.partials in
    let count : length c.as_slice-5.result.now ≡ length (partials g) = ap (λ (bs : List Bool). length bs) c.as_slice-5.ensures.value ∙ marks_len (length (partials g)) c.in_ok-marks.marks.items _
    c.as_slice.result.now (weights_of c.as_slice-3.result.now) (ap (λ (ps : List Partial). length ps) parts) c.in_ok-marks.ensures in
    subst (λ k. All (λ h. AreNumbers k (group_of h)) c.as_slice-4.result.now) (sym count)
    (subst (λ (hs : List Home). All (λ h. AreNumbers (length (partials g)) (group_of h)) hs) (sym homes) (places_low c.args.scope c.args.tops.now c.args.least.now [] c.requires.files))

-- where tops go after

homes_left : (g : Given) (marks m : List Bool) (hs out : List Home) → hs ≡ map (place g) g.rows → m ≡ marks → out ≡ map (place_after m) hs → out ≡ map (home_after marks g) g.rows
homes_left g marks m hs out e f is = is ∙ (λ i. map (place_after (f i)) (e i)) ∙ map_map (place_after marks) (place g) g.rows

homes_count : (g : Given) (marks : List Bool) (out : List Home) (n : ℕ) → out ≡ map (home_after marks g) g.rows → length g.rows ≡ n → length out ≡ n
homes_count g marks out n e l = ap (λ (hs : List Home). length hs) e ∙ length-map g.rows (home_after marks g) ∙ l

spread_left : (g : Given) (marks : List Bool) (ps : List Partial) (hs : List Home) → ps ≡ partials g → hs ≡ map (place g) g.rows
    → IsSpread (grouped (length ps) (edges_from (map group_of hs) (map group_of hs) g.targets)) (map (part_seed g.weights) ps) marks → IsGaining g marks
spread_left g marks ps hs e f s =
    let groups : map group_of hs ≡ groups_of g = ap (map group_of) f ∙ map_map group_of (place g) g.rows in
    subst (λ (os : List (Option ℕ)). IsSpread (grouped (length (partials g)) (edges_from os os g.targets)) (map (part_seed g.weights) (partials g)) marks) groups
    (subst (λ (qs : List Partial). IsSpread (grouped (length qs) (edges_from (map group_of hs) (map group_of hs) g.targets)) (map (part_seed g.weights) qs) marks) e s)

pub stand_ins-requires-clause-few : goal.stand_ins-requires-clause-few
stand_ins-requires-clause-few c =
    let g : Given = given c.args.scope c.args.tops.now c.args.least.now in
    let marks : List Bool = c.in_ok-marks.marks.items in
    let many = length-rows_from c.args.tops.now.files_of_units 0 c.args.tops.now.rows c.args.least.now c.requires.least in
    let homes = homes_left g marks c.as_slice-5.result.now c.as_slice-4.result.now c.in_ok-homes.homes.items (c.as_slice-4.ensures.value ∙ c.in_ok-moves.ensures.homes) c.as_slice-5.ensures.value
    c.in_ok-homes.ensures in
    let count = homes_count g marks c.as_slice-7.result.now (length c.args.tops.now.rows) (c.as_slice-7.ensures.value ∙ homes) many in
    omega (arith, count, c.requires.rows)

parts_left : (g : Given) (marks m : List Bool) (ps out : List Partial) → ps ≡ partials g → m ≡ marks → out ≡ among m ps → out ≡ among marks (partials g)
parts_left g marks m ps out e f is = is ∙ (λ i. among (f i) (e i))

pub returns-clause-moves : goal.returns-clause-moves
returns-clause-moves c =
    let scope = c.args.scope in
    let tops : Tops = with_targets c.args.targets.now c.args.tops.now in
    let g : Given = given scope tops c.args.least.now in
    let marks : List Bool = c.in_ok-marks.marks.items in
    let same = parts_same c.args.targets.now scope c.args.tops.now c.args.least.now in
    let places : (hs : List Home) → hs ≡ map (place (given scope c.args.tops.now c.args.least.now)) g.rows → hs ≡ map (place g) g.rows =
    λ hs e. e ∙ (λ i. map (λ a. place_same c.args.targets.now scope c.args.tops.now c.args.least.now a i) g.rows) in
    let homes = homes_left g marks c.as_slice-5.result.now c.as_slice-4.result.now c.in_ok-homes.homes.items (places c.as_slice-4.result.now (c.as_slice-4.ensures.value ∙ c.in_ok-moves.ensures.homes))
    c.as_slice-5.ensures.value c.in_ok-homes.ensures in
    let parts = parts_left g marks c.as_slice-6.result.now c.in_ok-moves.moves.partials.items c.in_ok-partials.partials.items (c.in_ok-moves.ensures.partials ∙ same) c.as_slice-6.ensures.value
    c.in_ok-partials.ensures in
    let seven = c.as_slice-7.ensures.value ∙ homes in
    let eight = c.as_slice-8.ensures.value ∙ c.in_ok-moves.ensures.reps in
    let count = homes_count g marks c.as_slice-7.result.now (length g.rows) seven refl in
    let spread = subst (λ (rs : List TopRow). IsSpread (grouped (length c.as_slice.result.now) (edges_from (map group_of c.as_slice-2.result.now) (map group_of c.as_slice-2.result.now) g.targets))
    (map (part_seed (weights_of rs)) c.as_slice.result.now) marks) c.as_slice-3.ensures c.in_ok-marks.ensures in (
      marks,
      record {
        gaining = spread_left g marks c.as_slice.result.now c.as_slice-2.result.now (c.as_slice.ensures.value ∙ c.in_ok-moves.ensures.partials ∙ same)
            (places c.as_slice-2.result.now (c.as_slice-2.ensures.value ∙ c.in_ok-moves.ensures.homes)) spread;
        partials = parts;
        homes = homes;
        stand_ins = c.in_ok-stand_ins.ensures ∙ ((λ i. map (stander (seven i) (eight i)) (range_with_len 0 (count i))) ∙ stands_left scope tops c.args.least.now marks);
      },
    )

pub returns-clause-few : goal.returns-clause-few
returns-clause-few c =
    let marks : List Bool = c.in_ok-marks.marks.items in
    let g : Given = given c.args.scope c.args.tops.now c.args.least.now in
    let parts = parts_left g marks c.as_slice-6.result.now c.in_ok-moves.moves.partials.items c.in_ok-partials.partials.items c.in_ok-moves.ensures.partials c.as_slice-6.ensures.value
    c.in_ok-partials.ensures in
    omega (
      arith,
      ap (λ (ps : List Partial). length ps) parts,
      among_few marks (partials g),
      ap (λ (ps : List Partial). length ps) c.in_ok-moves.ensures.partials,
      c.in_ok-moves.ensures.few,
    )

pub returns-clause-numbers : goal.returns-clause-numbers
returns-clause-numbers c =
    let n = length c.args.tops.now.rows in
    let g : Given = given c.args.scope c.args.tops.now c.args.least.now in
    let before : List Home = c.as_slice-4.result.now in
    let is : before ≡ map (place g) g.rows = c.as_slice-4.ensures.value ∙ c.in_ok-moves.ensures.homes in
    let few : length (partials g) ≤ n = omega (arith, ap (λ (ps : List Partial). length ps) c.in_ok-moves.ensures.partials, c.in_ok-moves.ensures.few) in
    let low : All (λ h. AreNumbers (length (partials g)) (group_of h)) before =
    subst (λ (hs : List Home). All (λ h. AreNumbers (length (partials g)) (group_of h)) hs) (sym is) (places_low c.args.scope c.args.tops.now c.args.least.now [] c.requires.files) in
    subst (λ (hs : List Home). All (λ h. AreNumbers n (group_of h)) hs) (sym c.in_ok-homes.ensures) (All-map (λ h. AreNumbers n (group_of h)) (place_after c.as_slice-5.result.now) before
    (λ k d l. after_low c.as_slice-5.result.now n (get_or before k d) (numbers_more (length (partials g)) n (group_of (get_or before k d)) few (low k d l))))
