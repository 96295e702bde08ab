use Rattle.std.proofs.Common.{rules, ◌≡◌, ℕ, zero, suc, ◌+◌, ◌<◌, List, [], ◌∷◌, Option, Some, None, length, get_or, replicate, refl, sym, ap, subst, ◌∙◌, arith, ◌≤◌, ◌-◌, ◌++◌}
use Rattle.std.proofs.lemmas.List.{length-append, length-set}
use Rattle.std.specs.List.{range_with_len}
use Rattle.dwz_model.specs.Lists.{In}
use Rattle.dwz_model.proofs.ListFacts.{got_index_or, in_at, item_got}
use Rattle.dwz_match.specs.Kin.{AreKinBy, IsFirstKin, SeenIn}
use Rattle.dwz_match.proofs.KinFacts.{AreKinSoFar, first_kin, kin_below, kin_done, kin_next, none_seen, seen_at, seen_low, seen_next}
use Rattle.dwz_match.proofs.kin.kin_of.Goals as goal

pub index-requires : goal.index-requires
index-requires c =
    let low = c.requires.least (get_or c.args.least.now c.loop-top.top 0) (in_at c.args.least.now c.loop-top.top c.loop-top-test.true) in
    let len = c.loop-top.invariant.0 in
    omega (arith, low, len)

-- what was read of a table is what stands there
read_at : (least files : List ℕ) (n k : ℕ) (firsts : List (Option ℕ)) (o : Option ℕ) → k < length firsts → o ≡ get_or firsts k o → SeenIn least files n k (seen_at firsts k) → SeenIn least files n k o
read_at least files n k firsts o l e h = subst (λ (w : Option ℕ). SeenIn least files n k w) (got_index_or firsts k o None (item_got firsts k o l e)) h

pub first_of-first-requires-clause-seen : goal.first_of-first-requires-clause-seen
first_of-first-requires-clause-seen c =
    let low = c.requires.least (get_or c.args.least.now c.loop-top.top 0) (in_at c.args.least.now c.loop-top.top c.loop-top-test.true) in
    let len = c.loop-top.invariant.0 in
    let same = c.requires.files in
    let here = c.loop-top-test.true in
    let k = get_or c.args.least.now c.loop-top.top 0 in
    seen_low c.args.least.now c.args.files.now c.loop-top.top k c.index.result.now (omega (arith, same, here))
    (read_at c.args.least.now c.args.files.now c.loop-top.top k c.loop-top.firsts.items c.index.result.now (omega (arith, low, len)) c.index.ensures (c.loop-top.invariant.1 k))

pub index_mut-requires : goal.index_mut-requires
index_mut-requires c =
    let low = c.requires.least (get_or c.args.least.now c.loop-top.top 0) (in_at c.args.least.now c.loop-top.top c.loop-top-test.true) in
    let len = c.loop-top.invariant.0 in
    omega (arith, low, len)

none_there : (n k : ℕ) → get_or (replicate {A = Option ℕ} n None) k None ≡ None
none_there zero k = refl
none_there (suc n) zero = refl
none_there (suc n) (suc k) = none_there n k

none_long : (n : ℕ) → length (replicate {A = Option ℕ} n None) ≡ n
none_long zero = refl
none_long (suc n) = ap suc (none_long n)

pub loop-top-init : goal.loop-top-init
loop-top-init c =
    let none : c.in_ok-firsts.firsts.items ≡ replicate (length c.args.least.now) None = c.in_ok-firsts.ensures.items_if_clones_equal (λ y e. search rules) in (
      ap (λ (w : List (Option ℕ)). length w) none ∙ none_long (length c.args.least.now),
      λ k. none_seen c.args.least.now c.args.files.now c.in_ok-firsts.firsts.items k (ap (λ (w : List (Option ℕ)). seen_at w k) none ∙ none_there (length c.args.least.now) k),
      ap (λ (w : List ℕ). length w) c.in_ok-kin.ensures.items,
      λ k l. absurd (omega (arith, l)),
    )

pub loop-top-preserved : goal.loop-top-preserved
loop-top-preserved c =
    let least : List ℕ = c.args.least.now in
    let files : List ℕ = c.args.files.now in
    let n : ℕ = c.loop-top.top in
    let m : ℕ = c.first_of-first.result in
    let l = c.loop-top-test.true in
    let same = c.requires.files in
    let len = c.loop-top.invariant.0 in
    let low = c.requires.least (get_or least n 0) (in_at least n l) in
    let below : get_or least n 0 < length c.loop-top.firsts.items = omega (arith, low, len) in
    let seen : SeenIn least files n (get_or least n 0) c.index.result.now = read_at least files n (get_or least n 0) c.loop-top.firsts.items c.index.result.now below c.index.ensures (c.loop-top.invariant.1 (get_or least n 0)) in
    let is : IsFirstKin least files n m = first_kin least files same c.requires.rise n m c.index.result.now l seen c.first_of-first.ensures in (
      length-set c.loop-top.firsts.items (get_or least n 0) (Some m) ∙ len,
      seen_next least files same c.requires.rise n m c.loop-top.firsts.items l below is c.loop-top.invariant.1,
      ap (λ (w : List ℕ). length w) c.in_ok-push.ensures.items ∙ length-append c.loop-top.kin.items (m ∷ []) ∙ ap (λ (k : ℕ). k + 1) c.loop-top.invariant.2,
      subst (AreKinSoFar least files (n + 1)) (sym c.in_ok-push.ensures.items) (kin_next least files n m c.loop-top.kin.items c.loop-top.invariant.2 is c.loop-top.invariant.3),
    )

-- what was made of all tops
all_kin : (least files kin : List ℕ) (count top : ℕ) → length least ≤ count → length kin ≡ top → length least ≤ top → top ≤ length least → AreKinSoFar least files top kin
    → AreKinBy least files count (kin ++ range_with_len (length least) (count - length least))
all_kin least files kin count top room len done most so_far = kin_done least files kin count room (omega (arith, len, done, most)) (λ n l. so_far n (omega (arith, l, done)))

pub returns-clause-kin : goal.returns-clause-kin
returns-clause-kin c =
    subst (AreKinBy c.args.least.now c.args.files.now c.args.count) (sym (c.new.ensures ∙ c.in_ok-put_themselves.ensures))
    (all_kin c.args.least.now c.args.files.now c.loop-top.kin.items c.args.count c.loop-top.top c.requires.count c.loop-top.invariant.2 c.loop-top-test.false c.loop-top.auto.top-end c.loop-top.invariant.3)

pub returns-clause-below : goal.returns-clause-below
returns-clause-below c =
    subst (λ (w : List ℕ). (k : ℕ) → In k w → k < c.args.count) (sym (c.new.ensures ∙ c.in_ok-put_themselves.ensures))
    (kin_below c.args.least.now c.args.files.now c.args.count _ c.requires.count
    (all_kin c.args.least.now c.args.files.now c.loop-top.kin.items c.args.count c.loop-top.top c.requires.count c.loop-top.invariant.2 c.loop-top-test.false c.loop-top.auto.top-end c.loop-top.invariant.3))
