use Rattle.std.proofs.Common.{ap, sym, ◌∙◌, ◌<◌, ◌≤◌, not, [], List, ℕ, length, take, get_or, subst, arith, length-take}
use Rattle.std.proofs.lemmas.List.{take_more}
use Rattle.std.proofs.lemmas.List.Elements.{All-take}
use Rattle.std.proofs.lemmas.List.Sums.{prefix_len-le-length}
use Rattle.dwz_def_tops.specs.Spots.{same_numbers}
use Rattle.dwz_groups.specs.declared.groups.Edge.{Edge}
use Rattle.dwz_plan.specs.Steps.{number_of, users_at}
use Rattle.dwz_plan.proofs.ListingLemmas.{Numbers, new_seen, number_seen, numbers-all, numbers-few, numbers-low, numbers-more, numbers-none, put_seen, seen}
use Rattle.dwz_plan.proofs.parts.number_lists.Goals as goal

pub loop-mover-init : goal.loop-mover-init
loop-mover-init c =
    let users : List (List ℕ) = c.args.users.now in
    subst (λ (ks : List (List ℕ)). Numbers users [] ks c.new-firsts.result.items c.new-pairs.result.items) (sym (ap seen c.new-lists.ensures.empty))
    (subst (λ (fs : List ℕ). Numbers users [] [] fs c.new-pairs.result.items) (sym c.new-firsts.ensures.items)
    (subst (λ (ps : List Edge). Numbers users [] [] [] ps) (sym c.new-pairs.ensures.items) (numbers-none users)))

pub loop-mover-preserved : goal.loop-mover-preserved
loop-mover-preserved c =
    let users : List (List ℕ) = c.args.users.now in
    let movers : List ℕ = c.args.movers.now in
    let i = c.loop-mover.mover-index in
    let m : ℕ = get_or movers i 0 in
    let l : i < length movers = omega arith in
    subst (λ (ms : List ℕ). Numbers users ms (seen c.insert_full.new.self.keys) c.push_new.new.firsts.items c.push.new.self.items) (sym (take_more movers i 0 l))
    (numbers-more users (take i movers) (seen c.loop-mover.lists.keys) c.loop-mover.firsts.items c.loop-mover.pairs.items m (seen c.insert_full.new.self.keys) c.push_new.new.firsts.items
    c.push.new.self.items c.in_ok-number.number c.in_ok-number.is_new
    (put_seen (users_at users m) c.get.result c.loop-mover.lists.keys c.insert_full.new.self.keys c.get.ensures c.in_ok-number.ensures.keys)
    (c.in_ok-number.ensures.added ∙ new_seen (users_at users m) c.get.result.now c.loop-mover.lists.keys c.get.ensures)
    (c.in_ok-number.ensures.index ∙ (number_seen c.get.result.now c.loop-mover.lists.keys ∙ ap (λ (us : List ℕ). number_of (seen c.loop-mover.lists.keys) us) c.get.ensures))
    c.in_ok-push_new.ensures c.in_ok-push.ensures.items c.loop-mover.invariant)

pub returns-clause-firsts : goal.returns-clause-firsts
returns-clause-firsts c = (numbers-all c.args.users.now c.args.movers.now c.loop-mover.mover-index (seen c.loop-mover.lists.keys) c.loop-mover.firsts.items c.loop-mover.pairs.items (omega arith)
    c.loop-mover.invariant).0

pub returns-clause-pairs : goal.returns-clause-pairs
returns-clause-pairs c = (numbers-all c.args.users.now c.args.movers.now c.loop-mover.mover-index (seen c.loop-mover.lists.keys) c.loop-mover.firsts.items c.loop-mover.pairs.items (omega arith)
    c.loop-mover.invariant).1

pub overflow_cast-number : goal.overflow_cast-number
overflow_cast-number c =
    let number = c.in_ok-number.ensures.index ∙ number_seen c.get.result.now c.loop-mover.lists.keys in
    let low : number_of (seen c.loop-mover.lists.keys) c.get.result.now ≤ length (seen c.loop-mover.lists.keys) = prefix_len-le-length (λ us. not (same_numbers c.get.result.now us))
    (seen c.loop-mover.lists.keys) in
    omega (arith, number, low, c.loop-mover.invariant.few, length-take c.loop-mover.mover-index c.args.movers.now, c.requires.few)

pub returns-clause-low : goal.returns-clause-low
returns-clause-low c = numbers-low c.args.users.now (take c.loop-mover.mover-index c.args.movers.now) (seen c.loop-mover.lists.keys) c.loop-mover.firsts.items c.loop-mover.pairs.items
    c.loop-mover.invariant

pub returns-clause-few : goal.returns-clause-few
returns-clause-few c =
    omega (
      arith,
      numbers-few c.args.users.now (take c.loop-mover.mover-index c.args.movers.now) (seen c.loop-mover.lists.keys) c.loop-mover.firsts.items c.loop-mover.pairs.items
          c.loop-mover.invariant,
      length-take c.loop-mover.mover-index c.args.movers.now,
    )

pub returns-clause-movers : goal.returns-clause-movers
returns-clause-movers c = c.loop-mover.invariant.low (All-take (λ m. m < length c.args.users.now) c.loop-mover.mover-index c.args.movers.now c.requires.inside)
