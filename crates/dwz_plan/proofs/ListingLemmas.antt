-- Lists of numbers, each listed where it comes first.
use Rattle.std.proofs.Common.{◌≡◌, ℕ, suc, ◌+◌, ◌<◌, ◌≤◌, ◌==◌, ◌&&◌, ◌||◌, not, All, cond, Bool, true, false, List, [], ◌∷◌, ◌++◌, length, map, filter, fold, get_or, take, refl, sym, ap, subst, ◌∙◌}
use Rattle.std.proofs.Common.{arith, eqb-true, length-append}
use Rattle.std.specs.Prelude.{nat_eq}
use Rattle.std.specs.List.{list_any, position_or_len}
use Rattle.std.proofs.lemmas.Bool.{both_ways, ne_eqb, not-true}
use Rattle.std.proofs.lemmas.List.{append-nil, append_assoc, get_or_append_left, get_or_at, length-map, map-append, take_all}
use Rattle.std.proofs.lemmas.List.Elements.{All-append, All-cons, All-head, All-map, All-nil, All-push, All-tail, All-weaker}
use Rattle.std.proofs.lemmas.List.Folds.{list_any-append, position_or_len_push}
use Rattle.std.proofs.lemmas.List.Sums.{fold-append}
use lib.Pointwise.{pointwise}
use denote.Bor.{Bor}
use Rattle.dwz_def_plan.specs.Plan.{distinct}
use Rattle.dwz_def_tops.specs.Spots.{same_numbers}
use Rattle.dwz_plan.specs.Steps.{lists_of, number_of, numbered, pair, users_at}
use Rattle.dwz_groups.specs.declared.groups.Edge.{Edge}
use Rattle.dwz_def_tops.proofs.SpotLemmas.{numbers_same, numbers_true}

-- ---- equal lists

pub pointwise_same : (xs ys : List ℕ) → pointwise nat_eq xs ys ≡ same_numbers xs ys
unfolding same_numbers
pointwise_same [] [] = refl
pointwise_same [] (y ∷ ys) = refl
pointwise_same (x ∷ xs) [] = refl
pointwise_same (x ∷ xs) (y ∷ ys) = by (x == y) (pointwise_same xs ys)
  where
    by : (t : Bool) → pointwise nat_eq xs ys ≡ same_numbers xs ys → (t && pointwise nat_eq xs ys) ≡ (elim t as (λ _. Bool) [ true ↦ same_numbers xs ys | false ↦ false ])
    by true more = more
    by false more = refl

-- ---- listing

abbrev pub has_list : List ℕ → List (List ℕ) → Bool
has_list us ks = list_any (same_numbers us) ks

abbrev pub put : List (List ℕ) → List ℕ → List (List ℕ)
put ks us = cond (has_list us ks) ks (ks ++ us ∷ [])

abbrev pub listed : List (List ℕ) → List (List ℕ)
listed ls = fold put [] ls

pub filter_within : {X : Type 0} (p q : X → Bool) (xs : List X) → ((x : X) → p x ≡ true → q x ≡ true) → filter p (filter q xs) ≡ filter p xs
filter_within p q [] h = refl
filter_within {X} p q (x ∷ xs) h = by (q x) (p x) refl refl (filter_within p q xs h)
  where
    by : (s t : Bool) → q x ≡ s → p x ≡ t → filter p (filter q xs) ≡ filter p xs → filter p (cond s (x ∷ filter q xs) (filter q xs)) ≡ cond t (x ∷ filter p xs) (filter p xs)
    by true true e f more = ap (λ b. cond b (x ∷ filter p (filter q xs)) (filter p (filter q xs))) f ∙ ap (λ (ys : List X). x ∷ ys) more
    by true false e f more = ap (λ b. cond b (x ∷ filter p (filter q xs)) (filter p (filter q xs))) f ∙ more
    by false true e f more = absurd (both_ways (q x) e (h x f))
    by false false e f more = more

filter_both : {X : Type 0} (p q r : X → Bool) (xs : List X) → ((x : X) → r x ≡ (q x && p x)) → filter p (filter q xs) ≡ filter r xs
filter_both p q r [] h = refl
filter_both {X} p q r (x ∷ xs) h = by (q x) (p x) refl (h x) (filter_both p q r xs h)
  where
    by : (s t : Bool) → p x ≡ t → r x ≡ (s && t) → filter p (filter q xs) ≡ filter r xs → filter p (cond s (x ∷ filter q xs) (filter q xs)) ≡ cond (r x) (x ∷ filter r xs) (filter r xs)
    by true t e f more = (λ i. cond (e i) (x ∷ more i) (more i)) ∙ ap (λ b. cond b (x ∷ filter r xs) (filter r xs)) (sym f)
    by false t e f more = more ∙ ap (λ b. cond b (x ∷ filter r xs) (filter r xs)) (sym f)

-- a list of equal numbers is there
has_same : (us vs : List ℕ) (ks : List (List ℕ)) → same_numbers us vs ≡ true → has_list us ks ≡ has_list vs ks
has_same us vs ks e = ap (λ (xs : List ℕ). has_list xs ks) (numbers_true us vs e)

listed_from : (ks ls : List (List ℕ)) → fold put ks ls ≡ ks ++ filter (λ us. not (has_list us ks)) (distinct ls)
unfolding distinct
listed_from ks [] = sym (append-nil ks)
listed_from ks (us ∷ ls) = by (has_list us ks) refl (listed_from ks ls) (listed_from (ks ++ us ∷ []) ls)
  where
    apart : (vs : List ℕ) → Bool
    apart vs = not (same_numbers us vs)

    missing : List (List ℕ) → List ℕ → Bool
    missing ks vs = not (has_list vs ks)

    inside : has_list us ks ≡ true → (vs : List ℕ) → missing ks vs ≡ true → apart vs ≡ true
    inside e vs m = by (same_numbers us vs) refl
      where
        by : (t : Bool) → same_numbers us vs ≡ t → not t ≡ true
        by true s = absurd (both_ways (has_list us ks) (has_same us vs ks s ∙ not-true (has_list vs ks) m) e)
        by false s = refl

    both : (vs : List ℕ) → missing (ks ++ us ∷ []) vs ≡ (apart vs && missing ks vs)
    both vs = ap not (list_any-append (same_numbers vs) ks (us ∷ [])) ∙ by (has_list vs ks) (same_numbers vs us) (same_numbers us vs) refl refl
      where
        by : (s t u : Bool) → same_numbers vs us ≡ t → same_numbers us vs ≡ u → not (s || (t || false)) ≡ (not u && not s)
        by true true true e f = refl
        by true true false e f = refl
        by true false true e f = refl
        by true false false e f = refl
        by false true true e f = refl
        by false true false e f = absurd (both_ways (same_numbers us vs) f (ap (λ (xs : List ℕ). same_numbers us xs) (numbers_true vs us e) ∙ numbers_same us))
        by false false true e f = absurd (both_ways (same_numbers vs us) e (ap (λ (xs : List ℕ). same_numbers vs xs) (numbers_true us vs f) ∙ numbers_same vs))
        by false false false e f = refl

    by : (t : Bool) → has_list us ks ≡ t → fold put ks ls ≡ ks ++ filter (missing ks) (distinct ls) → fold put (ks ++ us ∷ []) ls ≡ (ks ++ us ∷ []) ++ filter (missing (ks ++ us ∷ [])) (distinct ls)
        → fold put (cond t ks (ks ++ us ∷ [])) ls ≡ ks ++ cond (not t) (us ∷ filter (missing ks) (filter apart (distinct ls))) (filter (missing ks) (filter apart (distinct ls)))
    by true e more new = more ∙ ap (λ (xs : List (List ℕ)). ks ++ xs) (sym (filter_within (missing ks) apart (distinct ls) (inside e)))
    by false e more new = new ∙ (append_assoc ks (us ∷ []) (filter (missing (ks ++ us ∷ [])) (distinct ls))
        ∙ ap (λ (xs : List (List ℕ)). ks ++ us ∷ xs) (sym (filter_both (missing ks) apart (missing (ks ++ us ∷ [])) (distinct ls) both)))

filter_true : {X : Type 0} (xs : List X) → filter (λ x. true) xs ≡ xs
filter_true [] = refl
filter_true {X} (x ∷ xs) = ap (λ (ys : List X). x ∷ ys) (filter_true xs)

pub listed_is : (ls : List (List ℕ)) → listed ls ≡ distinct ls
listed_is ls = listed_from [] ls ∙ filter_true (distinct ls)

pub position_found : {X : Type 0} (p : X → Bool) (xs : List X) → list_any p xs ≡ true → position_or_len p xs < length xs
position_found p [] h = absurd cc
position_found {X} p (x ∷ xs) h = by (p x) h (position_found p xs)
  where
    by : (t : Bool) → (t || list_any p xs) ≡ true → (list_any p xs ≡ true → position_or_len p xs < length xs) → cond (not t) (1 + position_or_len p xs) 0 < suc (length xs)
    by true h more = omega arith
    by false h more = let l = more h in omega arith

-- ---- numbers of lists stay as others are put behind

number_stays : (ks : List (List ℕ)) (us vs : List ℕ) → has_list vs ks ≡ true → number_of (put ks us) vs ≡ number_of ks vs
number_stays ks us vs there = by (has_list us ks) (position_or_len_push (same_numbers vs) ks us)
  where
    before : number_of ks vs < length ks
    before = position_found (same_numbers vs) ks there

    by : (t : Bool) → number_of (ks ++ us ∷ []) vs ≡ cond (number_of ks vs == length ks) (length ks + cond (same_numbers vs us) 0 1) (number_of ks vs)
        → number_of (cond t ks (ks ++ us ∷ [])) vs ≡ number_of ks vs
    by true e = refl
    by false e = e ∙ ap (λ t. cond t (length ks + cond (same_numbers vs us) 0 1) (number_of ks vs)) (ne_eqb (number_of ks vs) (length ks) (λ q. omega (arith, q, before)))

number_new : (ks : List (List ℕ)) (us : List ℕ) → number_of (put ks us) us ≡ number_of ks us
number_new ks us = by (has_list us ks) (position_or_len_push (same_numbers us) ks us)
  where
    at_end : (t : Bool) → number_of ks us == length ks ≡ t → cond t (length ks + 0) (number_of ks us) ≡ number_of ks us
    at_end true e = omega (arith, eqb-true (number_of ks us) (length ks) e)
    at_end false e = refl

    by : (t : Bool) → number_of (ks ++ us ∷ []) us ≡ cond (number_of ks us == length ks) (length ks + cond (same_numbers us us) 0 1) (number_of ks us)
        → number_of (cond t ks (ks ++ us ∷ [])) us ≡ number_of ks us
    by true e = refl
    by false e = e ∙ (ap (λ t. cond (number_of ks us == length ks) (length ks + cond t 0 1) (number_of ks us)) (numbers_same us) ∙ at_end (number_of ks us == length ks) refl)

has_put : (ks : List (List ℕ)) (us vs : List ℕ) → has_list vs ks ≡ true → has_list vs (put ks us) ≡ true
has_put ks us vs there = by (has_list us ks)
  where
    by : (t : Bool) → has_list vs (cond t ks (ks ++ us ∷ [])) ≡ true
    by true = there
    by false = list_any-append (same_numbers vs) ks (us ∷ []) ∙ ap (λ t. t || has_list vs (us ∷ [])) there

has_new : (ks : List (List ℕ)) (us : List ℕ) → has_list us (put ks us) ≡ true
has_new ks us = by (has_list us ks) refl
  where
    end : (s : Bool) → (s || (true || false)) ≡ true
    end true = refl
    end false = refl

    by : (t : Bool) → has_list us ks ≡ t → has_list us (cond t ks (ks ++ us ∷ [])) ≡ true
    by true e = e
    by false e = list_any-append (same_numbers us) ks (us ∷ []) ∙ (ap (λ t. has_list us ks || (t || false)) (numbers_same us) ∙ end (has_list us ks))

length_put : (ks : List (List ℕ)) (us : List ℕ) → length (put ks us) ≤ length ks + 1
length_put ks us = by (has_list us ks)
  where
    by : (t : Bool) → length (cond t ks (ks ++ us ∷ [])) ≤ length ks + 1
    by true = omega arith
    by false = omega (arith, length-append ks (us ∷ []))

-- ---- movers, by their lists of users

pub record Numbers (users : List (List ℕ)) (ms : List ℕ) (keys : List (List ℕ)) (firsts : List ℕ) (pairs : List Edge) : Type 0 where
  pub keys_are : keys ≡ listed (map (users_at users) ms)
  pub firsts_are : map (users_at users) firsts ≡ keys
  pub pairs_are : pairs ≡ map (λ m. pair (number_of keys (users_at users m)) m) ms
  pub has : All (λ m. has_list (users_at users m) keys ≡ true) ms
  pub few : length keys ≤ length ms
  pub low : All (λ m. m < length users) ms → All (λ m. m < length users) firsts

pub numbers-none : (users : List (List ℕ)) → Numbers users [] [] [] []
numbers-none users = record { keys_are = refl; firsts_are = refl; pairs_are = refl; has = λ k d l. absurd (omega arith); few = omega arith; low = λ h. h }

map_agree : {X : Type 0} (f g : ℕ → X) (ms : List ℕ) → All (λ m. f m ≡ g m) ms → map f ms ≡ map g ms
map_agree f g [] all = refl
map_agree f g (m ∷ ms) all = (λ i. All-head (λ m. f m ≡ g m) m ms all i ∷ map_agree f g ms (All-tail (λ m. f m ≡ g m) m ms all) i)

pub numbers-more : (users : List (List ℕ)) (ms : List ℕ) (keys : List (List ℕ)) (firsts : List ℕ) (pairs : List Edge) (m : ℕ) (keys' : List (List ℕ)) (firsts' : List ℕ) (pairs' : List Edge) (n : ℕ)
    (is_new : Bool)
    → keys' ≡ put keys (users_at users m) → is_new ≡ not (has_list (users_at users m) keys) → n ≡ number_of keys (users_at users m)
    → firsts' ≡ firsts ++ cond is_new (m ∷ []) [] → pairs' ≡ pairs ++ pair n m ∷ []
    → Numbers users ms keys firsts pairs → Numbers users (ms ++ m ∷ []) keys' firsts' pairs'
numbers-more users ms keys firsts pairs m keys' firsts' pairs' n is_new put_is new_is number first_is pair_is h = record {
  keys_are = put_is ∙ (ap (λ (ks : List (List ℕ)). put ks us) h.keys_are ∙ (sym (fold-append put [] (map f ms) (us ∷ [])) ∙ ap listed (sym (map-append f ms (m ∷ [])))));
  firsts_are = ap (map f) first_is ∙ (map-append f firsts (cond is_new (m ∷ []) []) ∙ ((λ i. h.firsts_are i ++ map f (cond (new_is i) (m ∷ []) [])) ∙ (by (has_list us keys) ∙ sym put_is)));
  pairs_are = pair_is ∙ ((λ i. h.pairs_are i ++ pair (number i) m ∷ [])
      ∙ ((λ i. map_agree (λ k. pair (number_of keys (f k)) k) (λ k. pair (number_of keys' (f k)) k) ms stays i ++ pair (fresh i) m ∷ [])
      ∙ sym (map-append (λ k. pair (number_of keys' (f k)) k) ms (m ∷ []))));
  has = subst (λ (ks : List (List ℕ)). All (λ k. has_list (f k) ks ≡ true) (ms ++ m ∷ [])) (sym put_is)
      (All-push (λ k. has_list (f k) (put keys us) ≡ true) ms m (All-weaker (λ k. has_list (f k) keys ≡ true) (λ k. has_list (f k) (put keys us) ≡ true) (λ k. has_put keys us (f k)) ms h.has)
      (has_new keys us));
  few = omega (arith, ap (λ (ks : List (List ℕ)). length ks) put_is, length_put keys us, h.few, length-append ms (m ∷ []));
  low = λ all. subst (λ (fs : List ℕ). All (λ k. k < length users) fs) (sym first_is)
      (All-append (λ k. k < length users) firsts (cond is_new (m ∷ []) [])
      (h.low (λ k d l. (let e = get_or_append_left ms (m ∷ []) d k l in omega (arith, e, all k d (omega (arith, l, length-append ms (m ∷ [])))))))
      (last is_new (let e = get_or_at ms m [] m (length ms) refl in omega (arith, e, all (length ms) m (omega (arith, length-append ms (m ∷ [])))))));
}
  where
    f : ℕ → List ℕ
    f = users_at users

    us : List ℕ
    us = users_at users m

    last : (t : Bool) → m < length users → All (λ k. k < length users) (cond t (m ∷ []) [])
    last true l = All-cons (λ k. k < length users) m [] l (All-nil (λ k. k < length users))
    last false l = All-nil (λ k. k < length users)

    by : (t : Bool) → keys ++ map f (cond (not t) (m ∷ []) []) ≡ cond t keys (keys ++ us ∷ [])
    by true = append-nil keys
    by false = refl

    fresh : number_of keys us ≡ number_of keys' us
    fresh = sym (ap (λ (ks : List (List ℕ)). number_of ks us) put_is ∙ number_new keys us)

    stays : All (λ k. pair (number_of keys (f k)) k ≡ pair (number_of keys' (f k)) k) ms
    stays = λ k d l. ap (λ j. pair j (get_or ms k d)) (sym (ap (λ (ks : List (List ℕ)). number_of ks (f (get_or ms k d))) put_is ∙ number_stays keys us (f (get_or ms k d)) (h.has k d l)))

pub numbers-all : (users : List (List ℕ)) (movers : List ℕ) (i : ℕ) (keys : List (List ℕ)) (firsts : List ℕ) (pairs : List Edge) → length movers ≤ i → Numbers users (take i movers) keys firsts pairs
    → (map (users_at users) firsts ≡ lists_of users movers) × (pairs ≡ numbered users movers)
unfolding lists_of numbered
numbers-all users movers i keys firsts pairs l h =
    let all : take i movers ≡ movers = take_all i movers l in
    let keys_all : keys ≡ distinct (map (users_at users) movers) = h.keys_are ∙ (listed_is (map (users_at users) (take i movers)) ∙ ap (λ (ms : List ℕ). distinct (map (users_at users) ms)) all) in
    (h.firsts_are ∙ keys_all, h.pairs_are ∙ (λ j. map (λ m. pair (number_of (keys_all j) (users_at users m)) m) (all j)))

-- each number is that of a list, there are no more lists than movers, and each has a mover
pub numbers-low : (users : List (List ℕ)) (ms : List ℕ) (keys : List (List ℕ)) (firsts : List ℕ) (pairs : List Edge) → Numbers users ms keys firsts pairs → All (λ p. p.key < length firsts) pairs
numbers-low users ms keys firsts pairs h =
    let len : length firsts ≡ length keys = sym (length-map firsts (users_at users)) ∙ ap (λ (ks : List (List ℕ)). length ks) h.firsts_are in
    subst (λ (ps : List Edge). All (λ p. p.key < length firsts) ps) (sym h.pairs_are)
    (All-map (λ (p : Edge). p.key < length firsts) (λ m. pair (number_of keys (users_at users m)) m) ms
    (λ k d l. omega (arith, len, position_found (same_numbers (users_at users (get_or ms k d))) keys (h.has k d l))))

pub numbers-few : (users : List (List ℕ)) (ms : List ℕ) (keys : List (List ℕ)) (firsts : List ℕ) (pairs : List Edge) → Numbers users ms keys firsts pairs → length firsts ≤ length ms
numbers-few users ms keys firsts pairs h = omega (arith, length-map firsts (users_at users), ap (λ (ks : List (List ℕ)). length ks) h.firsts_are, h.few)

-- ---- the keys of a set of slices

abbrev pub seen : List (Bor (List ℕ)) → List (List ℕ)
seen keys = map (λ (b : Bor (List ℕ)). b.now) keys

abbrev pub is_key : List ℕ → Bor (List ℕ) → Bool
is_key us b = pointwise nat_eq us b.now

any_seen : (us : List ℕ) (keys : List (Bor (List ℕ))) → list_any (is_key us) keys ≡ has_list us (seen keys)
any_seen us [] = refl
any_seen us (b ∷ keys) = (λ i. pointwise_same us b.now i || any_seen us keys i)

pub number_seen : (us : List ℕ) (keys : List (Bor (List ℕ))) → position_or_len (is_key us) keys ≡ number_of (seen keys) us
number_seen us [] = refl
number_seen us (b ∷ keys) = (λ i. cond (not (pointwise_same us b.now i)) (1 + number_seen us keys i) 0)

pub put_seen : (us : List ℕ) (b : Bor (List ℕ)) (keys keys' : List (Bor (List ℕ))) → b.now ≡ us → keys' ≡ cond (list_any (is_key b.now) keys) keys (keys ++ b ∷ []) → seen keys' ≡ put (seen keys) us
put_seen us b keys keys' e h = ap seen h ∙ (by (list_any (is_key b.now) keys)
    ∙ (λ i. cond ((any_seen b.now keys ∙ ap (λ (vs : List ℕ). has_list vs (seen keys)) e) i) (seen keys) (seen keys ++ e i ∷ [])))
  where
    by : (t : Bool) → seen (cond t keys (keys ++ b ∷ [])) ≡ cond t (seen keys) (seen keys ++ b.now ∷ [])
    by true = refl
    by false = map-append (λ (b : Bor (List ℕ)). b.now) keys (b ∷ [])

pub new_seen : (us vs : List ℕ) (keys : List (Bor (List ℕ))) → vs ≡ us → not (list_any (is_key vs) keys) ≡ not (has_list us (seen keys))
new_seen us vs keys e = ap not (any_seen vs keys ∙ ap (λ (xs : List ℕ). has_list xs (seen keys)) e)
