use Rattle.std.proofs.Common.{◌≡◌, ◌<◌, ◌∙◌, ℕ, All, List, length, map, ap, refl, sym, subst, arith}
use Rattle.std.proofs.lemmas.List.{length-map}
use Rattle.dwz_plan.specs.Steps.{movers_by, numbered, placed, users_at}
use Rattle.dwz_groups.specs.declared.groups.Edge.{Edge}
use Rattle.dwz_groups.proofs.MarkLemmas.{grouped_length}
use Rattle.dwz_plan.proofs.MadeLemmas.{movers_few, movers_low, movers_made, numbered_values, parts_made}
use Rattle.dwz_plan.proofs.PlaceLemmas.{length-partials_of}
use Rattle.dwz_plan.proofs.parted.part_movers.Goals as goal

pub number_lists-requires-clause-few : goal.number_lists-requires-clause-few
number_lists-requires-clause-few c =
    let items = movers_made c.args.files_of_units.now c.args.files c.args.users.now c.in_ok-movers.movers c.items.result.now c.in_ok-movers.ensures c.items.ensures in
    omega (arith, ap (λ (ns : List ℕ). length ns) items, movers_few c.args.files_of_units.now c.args.files c.args.users.now, c.requires.few)

pub number_lists-requires-clause-inside : goal.number_lists-requires-clause-inside
number_lists-requires-clause-inside c =
    let items = movers_made c.args.files_of_units.now c.args.files c.args.users.now c.in_ok-movers.movers c.items.result.now c.in_ok-movers.ensures c.items.ensures in
    subst (λ (ns : List ℕ). All (λ m. m < length c.args.users.now) ns) (sym items) (movers_low c.args.files_of_units.now c.args.files c.args.users.now)

pub partials-requires-clause-tops : goal.partials-requires-clause-tops
partials-requires-clause-tops c = ap (λ (ls : List (List ℕ)). length ls) c.in_ok-tops.ensures ∙ grouped_length (length c.as_slice-firsts.result.now) c.as_slice-pairs.result.now

pub homes_of_movers-requires-clause-movers : goal.homes_of_movers-requires-clause-movers
homes_of_movers-requires-clause-movers c =
    let items = movers_made c.args.files_of_units.now c.args.files c.args.users.now c.in_ok-movers.movers c.items.result.now c.in_ok-movers.ensures c.items.ensures in
    let pairs : c.as_slice-pairs.result.now ≡ numbered c.args.users.now (movers_by c.args.files_of_units.now c.args.files c.args.users.now) = c.as_slice-pairs.ensures.value
    ∙ (c.in_ok-numbering.ensures.pairs ∙ ap (numbered c.args.users.now) items) in
    subst (λ (ps : List Edge). All (λ p. p.value < length c.args.users.now) ps) (sym pairs)
    (numbered_values c.args.users.now (movers_by c.args.files_of_units.now c.args.files c.args.users.now) (length c.args.users.now)
    (movers_low c.args.files_of_units.now c.args.files c.args.users.now))

pub returns-clause-partials : goal.returns-clause-partials
returns-clause-partials c =
    let users : List (List ℕ) = c.args.users.now in
    let items = movers_made c.args.files_of_units.now c.args.files users c.in_ok-movers.movers c.items.result.now c.in_ok-movers.ensures c.items.ensures in
    parts_made c.args.files_of_units.now c.args.files users c.items.result.now c.as_slice-firsts.result.now c.as_slice-pairs.result.now c.in_ok-tops.tops c.in_ok-partials.partials.items
    (length c.as_slice-firsts.result.now)
    items (ap (map (users_at users)) c.as_slice-firsts.ensures.value ∙ c.in_ok-numbering.ensures.firsts) (c.as_slice-pairs.ensures.value ∙ c.in_ok-numbering.ensures.pairs) refl c.in_ok-tops.ensures
    c.in_ok-partials.ensures

pub returns-clause-few : goal.returns-clause-few
returns-clause-few c =
    let users : List (List ℕ) = c.args.users.now in
    let firsts : List ℕ = c.as_slice-firsts.result.now in
    let items = movers_made c.args.files_of_units.now c.args.files users c.in_ok-movers.movers c.items.result.now c.in_ok-movers.ensures c.items.ensures in
    let many = length-map firsts (users_at users) in
    let tops = ap (λ (ls : List (List ℕ)). length ls) c.in_ok-tops.ensures ∙ grouped_length (length c.as_slice-firsts.result.now) c.as_slice-pairs.result.now in
    let long = length-partials_of c.args.files_of_units.now c.args.files (map (users_at users) firsts) c.in_ok-tops.tops (tops ∙ sym many) in
    omega (
      arith,
      ap length c.in_ok-partials.ensures,
      long,
      many,
      ap (λ (ns : List ℕ). length ns) c.as_slice-firsts.ensures.value,
      c.in_ok-numbering.ensures.few,
      ap (λ (ns : List ℕ). length ns) items,
      movers_few c.args.files_of_units.now c.args.files users,
    )

pub returns-clause-each : goal.returns-clause-each
returns-clause-each c k l =
    let users : List (List ℕ) = c.args.users.now in
    let items = movers_made c.args.files_of_units.now c.args.files users c.in_ok-movers.movers c.items.result.now c.in_ok-movers.ensures c.items.ensures in
    let pairs : c.as_slice-pairs.result.now ≡ numbered users (movers_by c.args.files_of_units.now c.args.files users) = c.as_slice-pairs.ensures.value
    ∙ (c.in_ok-numbering.ensures.pairs ∙ ap (numbered users) items) in
    c.in_ok-of_movers.ensures.each k l ∙ ap (λ (ps : List Edge). placed c.args.files_of_units.now users ps k) pairs
