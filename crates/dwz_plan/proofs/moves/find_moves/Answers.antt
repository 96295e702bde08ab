use Rattle.std.proofs.Common.{◌≡◌, ◌<◌, ◌∙◌, ℕ, All, List, length, get_or, map, ap, sym, subst, arith}
use Rattle.dwz_groups.specs.declared.tops.TopRow.{TopRow}
use Rattle.dwz_plan.specs.declared.plan.Home.{Home}
use Rattle.dwz_plan.specs.declared.plan.Home.TheVariants.{Stay}
use Rattle.dwz_plan.specs.Planned.{reps_of}
use Rattle.dwz_plan.specs.Rows.{TopFacts, given, rows_from}
use Rattle.dwz_plan.specs.Steps.{parts_by, placed_by}
use Rattle.dwz_plan.proofs.RowLemmas.{length-rows_from}
use Rattle.dwz_plan.proofs.StepLemmas.{length_lists, lists, lists_low, parts_are, places_are, reps_low, users_are}
use Rattle.dwz_plan.proofs.moves.find_moves.Goals as goal

pub users-requires-clause-reps : goal.users-requires-clause-reps
users-requires-clause-reps c =
    let reps : c.as_slice-2.result.now ≡ reps_of (given c.args.scope c.args.tops.now c.args.least.now) = c.as_slice-2.ensures.value ∙ c.in_ok-reps.ensures in
    let many : length (rows_from c.args.tops.now.files_of_units 0 c.args.tops.now.rows c.args.least.now) ≡ length c.as_slice.result.now =
    length-rows_from c.args.tops.now.files_of_units 0 c.args.tops.now.rows c.args.least.now c.requires.least ∙ sym (ap (λ (rs : List TopRow). length rs) c.as_slice.ensures) in
    subst (λ n. All (λ r. r < n) c.as_slice-2.result.now) many (subst (λ (rs : List ℕ). All (λ r. r < length (rows_from c.args.tops.now.files_of_units 0 c.args.tops.now.rows c.args.least.now)) rs)
    (sym reps) (reps_low c.args.scope c.args.tops.now c.args.least.now))

pub part_movers-requires-clause-few : goal.part_movers-requires-clause-few
part_movers-requires-clause-few c =
    let users : c.in_ok-users.users ≡ lists c.args.scope c.args.tops.now c.args.least.now = users_are c.args.scope c.args.tops.now c.args.least.now c.requires.least c.as_slice.result.now
    c.as_slice-2.result.now (length c.as_slice-files_of_units.result.now) c.in_ok-users.users c.as_slice.ensures (c.as_slice-2.ensures.value ∙ c.in_ok-reps.ensures)
    (ap (λ (ns : List ℕ). length ns) c.as_slice-files_of_units.ensures) c.in_ok-users.ensures in
    omega (arith, ap (λ (ls : List (List ℕ)). length ls) users, length_lists c.args.scope c.args.tops.now c.args.least.now c.requires.least, c.requires.rows)

pub part_movers-requires-clause-inside : goal.part_movers-requires-clause-inside
part_movers-requires-clause-inside c =
    let users : c.in_ok-users.users ≡ lists c.args.scope c.args.tops.now c.args.least.now = users_are c.args.scope c.args.tops.now c.args.least.now c.requires.least c.as_slice.result.now
    c.as_slice-2.result.now (length c.as_slice-files_of_units.result.now) c.in_ok-users.users c.as_slice.ensures (c.as_slice-2.ensures.value ∙ c.in_ok-reps.ensures)
    (ap (λ (ns : List ℕ). length ns) c.as_slice-files_of_units.ensures) c.in_ok-users.ensures in
    let files = c.as_slice-files_of_units.ensures in
    subst (λ (fs : List ℕ). All (λ us. All (λ u. u < length fs) us) c.in_ok-users.users) (sym files)
    (subst (λ (ls : List (List ℕ)). All (λ us. All (λ u. u < length c.args.tops.now.files_of_units) us) ls) (sym users) (lists_low c.args.scope c.args.tops.now c.args.least.now))

pub homes-requires : goal.homes-requires
homes-requires c =
    let users : c.in_ok-users.users ≡ lists c.args.scope c.args.tops.now c.args.least.now = users_are c.args.scope c.args.tops.now c.args.least.now c.requires.least c.as_slice.result.now
    c.as_slice-2.result.now (length c.as_slice-files_of_units.result.now) c.in_ok-users.users c.as_slice.ensures (c.as_slice-2.ensures.value ∙ c.in_ok-reps.ensures)
    (ap (λ (ns : List ℕ). length ns) c.as_slice-files_of_units.ensures) c.in_ok-users.ensures in
    let reps : c.as_slice-3.result.now ≡ reps_of (given c.args.scope c.args.tops.now c.args.least.now) = c.as_slice-3.ensures.value ∙ c.in_ok-reps.ensures in
    let rows : List TopFacts = rows_from c.args.tops.now.files_of_units 0 c.args.tops.now.rows c.args.least.now in
    let many : length rows ≡ length c.as_slice-4.result.now = omega (
      arith,
      ap (λ (hs : List Home). length hs) c.as_slice-4.ensures.value,
      c.in_ok-parted.ensures.len,
      ap (λ (ls : List (List ℕ)). length ls) users,
      length_lists c.args.scope c.args.tops.now c.args.least.now c.requires.least,
      length-rows_from c.args.tops.now.files_of_units 0 c.args.tops.now.rows c.args.least.now c.requires.least,
    ) in
    subst (λ n. All (λ r. r < n) c.as_slice-3.result.now) many (subst (λ (rs : List ℕ). All (λ r. r < length rows) rs) (sym reps) (reps_low c.args.scope c.args.tops.now c.args.least.now))

pub returns-clause-partials : goal.returns-clause-partials
returns-clause-partials c =
    let users : c.in_ok-users.users ≡ lists c.args.scope c.args.tops.now c.args.least.now = users_are c.args.scope c.args.tops.now c.args.least.now c.requires.least c.as_slice.result.now
    c.as_slice-2.result.now (length c.as_slice-files_of_units.result.now) c.in_ok-users.users c.as_slice.ensures (c.as_slice-2.ensures.value ∙ c.in_ok-reps.ensures)
    (ap (λ (ns : List ℕ). length ns) c.as_slice-files_of_units.ensures) c.in_ok-users.ensures in
    c.in_ok-parted.ensures.partials ∙ ((λ i. parts_by (c.as_slice-files_of_units.ensures i) c.args.tops.now.files (users i)) ∙ parts_are c.args.scope c.args.tops.now c.args.least.now)

pub returns-clause-homes : goal.returns-clause-homes
returns-clause-homes c =
    let users : c.in_ok-users.users ≡ lists c.args.scope c.args.tops.now c.args.least.now = users_are c.args.scope c.args.tops.now c.args.least.now c.requires.least c.as_slice.result.now
    c.as_slice-2.result.now (length c.as_slice-files_of_units.result.now) c.in_ok-users.users c.as_slice.ensures (c.as_slice-2.ensures.value ∙ c.in_ok-reps.ensures)
    (ap (λ (ns : List ℕ). length ns) c.as_slice-files_of_units.ensures) c.in_ok-users.ensures in
    let reps : c.as_slice-3.result.now ≡ reps_of (given c.args.scope c.args.tops.now c.args.least.now) = c.as_slice-3.ensures.value ∙ c.in_ok-reps.ensures in
    let long = ap (λ (ls : List (List ℕ)). length ls) users in
    c.in_ok-homes.ensures
    ∙ ((λ i. map (λ r. get_or (c.as_slice-4.ensures.value i) r Stay) (reps i))
    ∙ places_are c.args.scope c.args.tops.now c.args.least.now c.requires.files c.in_ok-parted.parted.of_movers.items
    (λ k l. c.in_ok-parted.ensures.each k (omega (arith, l, long)) ∙ (λ i. placed_by (c.as_slice-files_of_units.ensures i) c.args.tops.now.files (users i) k)))

pub returns-clause-few : goal.returns-clause-few
returns-clause-few c =
    let users : c.in_ok-users.users ≡ lists c.args.scope c.args.tops.now c.args.least.now = users_are c.args.scope c.args.tops.now c.args.least.now c.requires.least c.as_slice.result.now
    c.as_slice-2.result.now (length c.as_slice-files_of_units.result.now) c.in_ok-users.users c.as_slice.ensures (c.as_slice-2.ensures.value ∙ c.in_ok-reps.ensures)
    (ap (λ (ns : List ℕ). length ns) c.as_slice-files_of_units.ensures) c.in_ok-users.ensures in
    omega (
      arith,
      c.in_ok-parted.ensures.few,
      ap (λ (ls : List (List ℕ)). length ls) users,
      length_lists c.args.scope c.args.tops.now c.args.least.now c.requires.least,
    )
