use Rattle.std.proofs.Common.{◌≡◌, ◌-◌, ◌<◌, ◌≤◌, ◌++◌, ◌∙◌, ℕ, All, Bool, List, [], length, get_or, map, take, true, false, inl, inr, refl, ap, sym, subst, arith, length-append}
use Rattle.std.specs.List.{range_with_len}
use Rattle.std.proofs.lemmas.List.{length-take-le}
use Rattle.std.proofs.lemmas.List.Elements.{All-take}
use Rattle.std.proofs.lemmas.List.FromFn.{length-map-range_with_len}
use Rattle.dwz_def_reading.specs.Lists.{In}
use Rattle.dwz_def_reading.proofs.ListFacts.{in_cases}
use Rattle.dwz_def_taken.specs.declared.fixed.Fixed.{Fixed}
use Rattle.dwz_groups.specs.declared.tops.TopRow.{TopRow}
use Rattle.dwz_groups.specs.declared.tops.Tops.{Tops}
use Rattle.dwz_groups.specs.Groups.{grouped}
use Rattle.dwz_plan.specs.declared.plan.Home.{Home}
use Rattle.dwz_plan.specs.declared.plan.Partial.{Partial}
use Rattle.dwz_plan.specs.declared.plan.Scope.TheVariants.{Each}
use Rattle.dwz_plan.specs.Gained.{AreMoves, among, gained, group_of, home_after, kept_by, stand_after}
use Rattle.dwz_plan.specs.Gaining.{AreNumbers}
use Rattle.dwz_plan.specs.Over.{all_rows, free_tops, given_free, own_count, own_units, place_over, planned_over, stand_over, standing_parts}
use Rattle.dwz_plan.specs.Planned.{imports_from, partials}
use Rattle.dwz_plan.specs.Rows.{Given, TopFacts, given, with_targets}
use Rattle.dwz_plan.specs.Steps.{staying_pairs, turned}
use Rattle.dwz_plan.proofs.GainedRows.{imports_any, kept_any, once_left, users_in}
use Rattle.dwz_plan.proofs.KeptLemmas.{OnceAt}
use Rattle.dwz_plan.proofs.LedLemmas.{numbers_counted}
use Rattle.dwz_plan.proofs.ListFacts.{all_from_in, map_map}
use Rattle.dwz_plan.proofs.OverBounds.{free_count, free_few, free_files, free_given, free_of_units, free_units, length-standing, standing_once, standing_users}
use Rattle.dwz_plan.proofs.RowLemmas.{length-rows_from}
use Rattle.dwz_plan.proofs.StepLemmas.{counted}
use Rattle.dwz_plan.proofs.TargetLemmas.{moves_cut, numbers_more}
use Rattle.dwz_plan.proofs.plan.Plan.with_common.Goals as goal

-- ---- what the files' own tops are asked

pub first-own-requires : goal.first-own-requires
first-own-requires c = omega (arith, c.len.ensures, free_few c.args.tops.now c.args.fixed.now c.in_ok-free.free c.in_ok-free.ensures, c.requires.least)

pub gaining_moves-requires-clause-rows : goal.gaining_moves-requires-clause-rows
gaining_moves-requires-clause-rows c = omega (arith, free_few c.args.tops.now c.args.fixed.now c.in_ok-free.free c.in_ok-free.ensures, c.requires.room)

pub gaining_moves-requires-clause-units : goal.gaining_moves-requires-clause-units
gaining_moves-requires-clause-units c = omega (arith, free_units c.args.tops.now c.args.fixed.now c.in_ok-free.free c.in_ok-free.ensures, c.requires.units)

pub gaining_moves-requires-clause-least : goal.gaining_moves-requires-clause-least
gaining_moves-requires-clause-least c =
    let few = free_few c.args.tops.now c.args.fixed.now c.in_ok-free.free c.in_ok-free.ensures in
    ap (λ (ns : List ℕ). length ns) c.first-own.ensures ∙ (length-take-le c.len.result c.args.least.now (omega (arith, c.len.ensures, few, c.requires.least)) ∙ c.len.ensures)

pub gaining_moves-requires-clause-inside : goal.gaining_moves-requires-clause-inside
gaining_moves-requires-clause-inside c =
    let bound : length c.args.tops.now.rows ≡ length c.args.least.now = sym c.requires.least in
    subst (λ (n : ℕ). All (λ k. k < n) c.first-own.result.now) bound
    (subst (λ (ns : List ℕ). All (λ k. k < length c.args.tops.now.rows) ns) (sym c.first-own.ensures) (All-take (λ k. k < length c.args.tops.now.rows) c.len.result c.args.least.now c.requires.inside))

pub gaining_moves-requires-clause-of_units : goal.gaining_moves-requires-clause-of_units
gaining_moves-requires-clause-of_units c = free_of_units c.args.tops.now c.args.fixed.now c.in_ok-free.free c.in_ok-free.ensures

pub gaining_moves-requires-clause-files : goal.gaining_moves-requires-clause-files
gaining_moves-requires-clause-files c = free_files c.args.tops.now c.args.fixed.now c.in_ok-free.free c.in_ok-free.ensures c.requires.files

pub gaining_moves-requires-clause-targets : goal.gaining_moves-requires-clause-targets
gaining_moves-requires-clause-targets c = omega (arith, free_few c.args.tops.now c.args.fixed.now c.in_ok-free.free c.in_ok-free.ensures, c.requires.targets)

-- ---- what is asked of all

pub homes_over-requires-clause-homes : goal.homes_over-requires-clause-homes
homes_over-requires-clause-homes c =
    let n = length c.in_ok-free.free.rows in
    let few = free_few c.args.tops.now c.args.fixed.now c.in_ok-free.free c.in_ok-free.ensures in
    let low : All (λ h. AreNumbers n (group_of h)) c.as_slice.result.now =
    subst (λ (hs : List Home). All (λ h. AreNumbers n (group_of h)) hs) (sym c.as_slice.ensures.value) c.in_ok-moves.ensures.numbers in
    λ k d l. numbers_more n (4294967296 - length c.args.fixed.now.roots) (group_of (get_or c.as_slice.result.now k d)) (omega (arith, few, c.requires.room)) (low k d l)

pub kept_of_units-requires-clause-homes : goal.kept_of_units-requires-clause-homes
kept_of_units-requires-clause-homes c =
    ap (λ (hs : List Home). length hs) (c.as_slice-3.ensures.value ∙ c.in_ok-homes.ensures)
    ∙ (length-map-range_with_len (place_over c.args.tops.now c.args.fixed.now c.as_slice.result.now) 0 (length c.args.tops.now.rows)
    ∙ sym (ap (λ (rs : List TopRow). length rs) c.as_slice-rows.ensures))

-- the partial units
parts_are : (tops : Tops) (least : List ℕ) (fixed : Fixed) (marks : List Bool) (standing left parts : List Partial) → standing ≡ standing_parts tops fixed
    → left ≡ among marks (partials (given_free tops least fixed)) → parts ≡ standing ++ left → parts ≡ standing_parts tops fixed ++ among marks (partials (given_free tops least fixed))
parts_are tops least fixed marks standing left parts s l is = is ∙ (λ i. s i ++ l i)

moves_are : (tops : Tops) (least : List ℕ) (fixed : Fixed) (free : Tops) (low : List ℕ) (marks : List Bool) (parts : List Partial) (places : List Home) (stands : List ℕ)
    → length least ≡ length tops.rows → with_targets (take (own_count tops fixed) tops.targets) free ≡ free_tops tops fixed → low ≡ take (length free.rows) least
    → AreMoves (given Each (with_targets tops.targets free) low) marks parts places stands → AreMoves (given_free tops least fixed) marks parts places stands
moves_are tops least fixed free low marks parts places stands len is low_is are =
    let few = free_few tops fixed free is in
    let many : length low ≡ length free.rows = ap (λ (ns : List ℕ). length ns) low_is ∙ length-take-le (length free.rows) least (omega (arith, few, len)) in
    subst (λ (g : Given). AreMoves g marks parts places stands) (free_given tops fixed free is least low low_is)
    (moves_cut tops.targets (own_count tops fixed) Each free low marks parts places stands many (omega (arith, free_count tops fixed free is)) are)

users_all : (tops : Tops) (least : List ℕ) (fixed : Fixed) (marks : List Bool) → All (λ part. All (λ u. u < length tops.files_of_units) part.users)
    (standing_parts tops fixed ++ among marks (partials (given_free tops least fixed)))
users_all tops least fixed marks =
    let n = length tops.files_of_units in
    let g : Given = given_free tops least fixed in
    let few : length (take (own_units tops fixed) tops.files_of_units) ≤ n = omega (arith, length-take-le (own_units tops fixed) tops.files_of_units (omega arith)) in
    all_from_in (λ (part : Partial). All (λ u. u < n) part.users) (standing_parts tops fixed ++ among marks (partials g)) (λ part there. (
    elim (in_cases part (standing_parts tops fixed) (among marks (partials g)) there) [
      | inl here ↦ standing_users tops fixed n (omega arith) part here
      | inr left ↦ (λ k d l. (let low = users_in Each (free_tops tops fixed) (take (own_count tops fixed) least) marks part left k d l in omega (arith, low, few)))
    ]))

once_all : (tops : Tops) (least : List ℕ) (fixed : Fixed) (marks : List Bool) (part : Partial) → In part (standing_parts tops fixed ++ among marks (partials (given_free tops least fixed)))
    → OnceAt part.users
once_all tops least fixed marks part there = elim (in_cases part (standing_parts tops fixed) (among marks (partials (given_free tops least fixed))) there) [
  | inl here ↦ standing_once tops fixed part here
  | inr left ↦ once_left Each (free_tops tops fixed) (take (own_count tops fixed) least) marks part left
]

-- where tops go, by their rows
homes_by : (tops : Tops) (least : List ℕ) (fixed : Fixed) (places : List Home) → length least ≡ length tops.rows
    → map (place_over tops fixed places) (range_with_len 0 (length tops.rows)) ≡ map (λ (a : TopFacts). place_over tops fixed places a.number) (all_rows tops least)
homes_by tops least fixed places len =
    let rows : List TopFacts = all_rows tops least in
    let many : length tops.rows ≡ length rows = sym (length-rows_from tops.files_of_units 0 tops.rows least len) in
    ap (map (place_over tops fixed places)) (ap (range_with_len 0) many ∙ sym (numbers_counted 0 rows (counted Each tops least)))
    ∙ map_map (place_over tops fixed places) (λ (a : TopFacts). a.number) rows

pub imports-requires-clause-few : goal.imports-requires-clause-few
imports-requires-clause-few c =
    let tops : Tops = c.args.tops.now in
    let fixed : Fixed = c.args.fixed.now in
    omega (
      arith,
      ap (λ (ps : List Partial). length ps) (c.as_slice-4.ensures.value ∙ c.in_ok-append.ensures.items),
      length-append c.in_ok-partials.partials.items c.in_ok-moves.moves.partials.items,
      ap (λ (ps : List Partial). length ps) c.in_ok-partials.ensures,
      length-standing tops fixed,
      c.in_ok-moves.ensures.few,
      free_few tops fixed c.in_ok-free.free c.in_ok-free.ensures,
      c.requires.room,
    )

pub imports-requires-clause-users : goal.imports-requires-clause-users
imports-requires-clause-users c =
    let tops : Tops = c.args.tops.now in
    let least : List ℕ = c.args.least.now in
    let fixed : Fixed = c.args.fixed.now in
    let moves = c.in_ok-moves.ensures.moves in
    let are = moves_are tops least fixed c.in_ok-free.free c.first-own.result.now moves.0 c.in_ok-moves.moves.partials.items c.in_ok-moves.moves.homes.items c.in_ok-moves.moves.stand_ins.items
    c.requires.least c.in_ok-free.ensures (c.first-own.ensures ∙ ap (λ n. take n least) c.len.ensures) moves.1 in
    let parts = c.as_slice-4.ensures.value ∙ parts_are tops least fixed moves.0 c.in_ok-partials.partials.items c.in_ok-moves.moves.partials.items c.append.new.self.items c.in_ok-partials.ensures
    are.partials c.in_ok-append.ensures.items in
    subst (λ n. All (λ part. All (λ u. u < n) part.users) c.as_slice-4.result.now) (sym c.len-units.ensures)
    (subst (λ (ps : List Partial). All (λ part. All (λ u. u < length tops.files_of_units) part.users) ps) (sym parts) (users_all tops least fixed moves.0))

pub returns : goal.returns
unfolding gained planned_over
returns c =
    let tops : Tops = c.args.tops.now in
    let least : List ℕ = c.args.least.now in
    let fixed : Fixed = c.args.fixed.now in
    let moves = c.in_ok-moves.ensures.moves in
    let marks : List Bool = moves.0 in
    let g : Given = given_free tops least fixed in
    let are = moves_are tops least fixed c.in_ok-free.free c.first-own.result.now marks c.in_ok-moves.moves.partials.items c.in_ok-moves.moves.homes.items c.in_ok-moves.moves.stand_ins.items
    c.requires.least c.in_ok-free.ensures (c.first-own.ensures ∙ ap (λ n. take n least) c.len.ensures) moves.1 in
    let places : List Home = map (home_after marks g) g.rows in
    let all : List Partial = standing_parts tops fixed ++ among marks (partials g) in
    let to : TopFacts → Home = λ a. place_over tops fixed places a.number in
    let parts : c.append.new.self.items ≡ all = parts_are tops least fixed marks c.in_ok-partials.partials.items c.in_ok-moves.moves.partials.items c.append.new.self.items
    c.in_ok-partials.ensures are.partials c.in_ok-append.ensures.items in
    let homes : c.in_ok-homes.homes.items ≡ map (place_over tops fixed places) (range_with_len 0 (length tops.rows)) = c.in_ok-homes.ensures
    ∙ ap (λ (hs : List Home). map (place_over tops fixed hs) (range_with_len 0 (length tops.rows))) (c.as_slice.ensures.value ∙ are.homes) in
    let count : length c.as_slice-rows.result.now ≡ length tops.rows = ap (λ (rs : List TopRow). length rs) c.as_slice-rows.ensures in
    let stands : c.in_ok-stand_ins.stand_ins.items ≡ map (stand_over fixed (map (stand_after marks g) g.rows)) (range_with_len 0 (length tops.rows)) = c.in_ok-stand_ins.ensures
    ∙ (λ i. map (stand_over fixed ((c.as_slice-2.ensures.value ∙ are.stand_ins) i)) (range_with_len 0 (count i))) in
    let rows = c.as_slice-rows.ensures in
    let by_row : c.as_slice-3.result.now ≡ map to (all_rows tops least) = c.as_slice-3.ensures.value ∙ (homes ∙ homes_by tops least fixed places c.requires.least) in
    let kept : c.in_ok-kept.kept ≡ map (kept_by to (all_rows tops least)) (range_with_len 0 (length tops.files_of_units)) =
    c.in_ok-kept.ensures
    ∙ ((λ i. grouped (c.len-units.ensures i) (staying_pairs true 0 (rows i) (by_row i) ++ staying_pairs false 0 (rows i) (by_row i)))
    ∙ kept_any Each tops least [] to) in
    let imports : c.in_ok-imports.imports ≡ map (λ unit. imports_from unit 0 all) (range_with_len 0 (length tops.files_of_units)) =
    c.in_ok-imports.ensures
    ∙ ((λ i. grouped (c.len-units.ensures i) (turned 0 (map (λ (part : Partial). part.users) ((c.as_slice-4.ensures.value ∙ parts) i))))
    ∙ imports_any Each tops least [] all (once_all tops least fixed marks)) in (
      gained marks g,
      (marks, are.gaining, refl),
      (λ i. record { partials = parts i; homes = homes i; stand_ins = stands i; kept = kept i; imports = imports i }),
    )
