-- The partial units of what gains are those partial units that gain.
use Rattle.std.proofs.Common.{◌≡◌, ℕ, ◌==◌, ◌&&◌, not, cond, Bool, true, false, List, [], ◌∷◌, ◌++◌, length, map, refl, sym, ap, ◌∙◌}
use Rattle.std.specs.List.{filter}
use Rattle.dwz_def_tops.proofs.Members.{filter_same}
use Rattle.dwz_def_tops.specs.Deciding.{Test}
use Rattle.dwz_def_tops.specs.Spots.{EntryName, FileUnit, Top, same_numbers, tops_of}
use Rattle.dwz_def_plan.specs.Gain.{gain_rule, gain_test, gains_test}
use Rattle.dwz_def_plan.specs.Homes.{Common, Home, Local, Rule, Stay, all_rule, candidate, home, is_home, rep, same_home, users}
use Rattle.dwz_def_plan.specs.Plan.{distinct, local_partials, partial_with, partials, partials_at, representatives, stands_for}
use Rattle.dwz_def_tops.proofs.SpotLemmas.{numbers_true}
use Rattle.dwz_def_plan.proofs.PlanLemmas.{home_true}
use Rattle.dwz_plan.specs.GainLaws.{part_gains}

-- ---- filters

pub filter_both : {X : Type 0} (p q : X → Bool) (xs : List X) → filter q (filter p xs) ≡ filter (λ x. p x && q x) xs
filter_both p q [] = refl
filter_both {X} p q (x ∷ xs) = by (p x) (filter_both p q xs)
  where
    by : (b : Bool) → filter q (filter p xs) ≡ filter (λ (y : X). p y && q y) xs → filter q (cond b (x ∷ filter p xs) (filter p xs)) ≡ cond (b && q x) (x ∷ filter (λ (y : X). p y && q y) xs)
        (filter (λ (y : X). p y && q y) xs)
    by true e = ap (λ (ys : List X). cond (q x) (x ∷ ys) ys) e
    by false e = e

filter_append : {X : Type 0} (p : X → Bool) (xs ys : List X) → filter p (xs ++ ys) ≡ filter p xs ++ filter p ys
filter_append p [] ys = refl
filter_append {X} p (x ∷ xs) ys = by (p x) (filter_append p xs ys)
  where
    by : (b : Bool) → filter p (xs ++ ys) ≡ filter p xs ++ filter p ys → cond b (x ∷ filter p (xs ++ ys)) (filter p (xs ++ ys)) ≡ cond b (x ∷ filter p xs) (filter p xs) ++ filter p ys
    by true e = ap (λ (zs : List X). x ∷ zs) e
    by false e = e

filter_map : {X Y : Type 0} (p : Y → Bool) (f : X → Y) (xs : List X) → filter p (map f xs) ≡ map f (filter (λ x. p (f x)) xs)
filter_map p f [] = refl
filter_map {X} {Y} p f (x ∷ xs) = by (p (f x)) (filter_map p f xs)
  where
    by : (b : Bool) → filter p (map f xs) ≡ map f (filter (λ (z : X). p (f z)) xs) → cond b (f x ∷ filter p (map f xs)) (filter p (map f xs))
        ≡ map f (cond b (x ∷ filter (λ (z : X). p (f z)) xs) (filter (λ (z : X). p (f z)) xs))
    by true e = ap (λ (zs : List Y). f x ∷ zs) e
    by false e = e

map_like : {X Y : Type 0} (p : X → Bool) (f g : X → Y) (xs : List X) → ((x : X) → p x ≡ true → f x ≡ g x) → map f (filter p xs) ≡ map g (filter p xs)
map_like p f g [] e = refl
map_like {X} {Y} p f g (x ∷ xs) e = by (p x) (e x) (map_like p f g xs e)
  where
    by : (b : Bool) → (b ≡ true → f x ≡ g x) → map f (filter p xs) ≡ map g (filter p xs) → map f (cond b (x ∷ filter p xs) (filter p xs)) ≡ map g (cond b (x ∷ filter p xs) (filter p xs))
    by true here more = (λ i. here refl i ∷ more i)
    by false here more = more

and_swap : (a b : Bool) → (a && b) ≡ (b && a)
and_swap true true = refl
and_swap true false = refl
and_swap false true = refl
and_swap false false = refl

-- ---- lists of users

differs : (c : List ℕ → Bool) (us vs : List ℕ) → c us ≡ false → (not (same_numbers us vs) && c vs) ≡ c vs
differs c us vs e = by (same_numbers us vs) refl
  where
    by : (b : Bool) → same_numbers us vs ≡ b → (not b && c vs) ≡ c vs
    by true q = sym e ∙ ap c (numbers_true us vs q)
    by false q = refl

distinct_filter : (c : List ℕ → Bool) (ls : List (List ℕ)) → distinct (filter c ls) ≡ filter c (distinct ls)
unfolding distinct
distinct_filter c [] = refl
distinct_filter c (us ∷ ls) = by (c us) refl (distinct_filter c ls)
  where
    by : (b : Bool) → c us ≡ b → distinct (filter c ls) ≡ filter c (distinct ls)
        → distinct (cond b (us ∷ filter c ls) (filter c ls)) ≡ cond b (us ∷ filter c (filter (λ vs. not (same_numbers us vs)) (distinct ls)))
        (filter c (filter (λ vs. not (same_numbers us vs)) (distinct ls)))
    by true q more = ap (λ (ws : List (List ℕ)). us ∷ ws)
        (ap (filter (λ vs. not (same_numbers us vs))) more ∙ filter_both c (λ vs. not (same_numbers us vs)) (distinct ls)
        ∙ filter_same (λ vs. c vs && not (same_numbers us vs)) (λ vs. not (same_numbers us vs) && c vs) (distinct ls) (λ vs. and_swap (c vs) (not (same_numbers us vs)))
        ∙ sym (filter_both (λ vs. not (same_numbers us vs)) c (distinct ls)))
    by false q more = more ∙ sym (filter_both (λ vs. not (same_numbers us vs)) c (distinct ls) ∙ filter_same (λ vs. not (same_numbers us vs) && c vs) c (distinct ls) (λ vs. differs c us vs q))

-- ---- partial units

module _ (alike : Test) (units : List (FileUnit EntryName)) where
  abbrev all : Rule
  all = all_rule alike

  abbrev gain : Rule
  gain = gain_rule alike units

  abbrev us : Top → List ℕ
  us t = users alike units t.number

  abbrev cand : Top → Home
  cand t = candidate alike units t.number

  abbrev at : Home → List ℕ → Bool
  at h vs = gain_test alike units (length (tops_of units)) h vs

  stay_apart : (h : Home) → is_home h ≡ true → same_home Stay h ≡ false
  stay_apart Common e = refl
  stay_apart (Local f) e = refl
  stay_apart Stay e = absurd cc

  chosen_at : (h : Home) → is_home h ≡ true → (t : Top) → stands_for gain units h t ≡ (stands_for all units h t && at h (us t))
  unfolding home gains_test
  chosen_at h moving t = by (same_home (cand t) h) refl (at (cand t) (us t)) refl (rep alike units t.number == t.number)
    where
      by : (s : Bool) → same_home (cand t) h ≡ s → (b : Bool) → at (cand t) (us t) ≡ b → (own : Bool) → (same_home (elim b as (λ _. Home) [ true ↦ cand t | false ↦ Stay ]) h && own)
          ≡ ((s && own) && at h (us t))
      by true q true g own = (λ i. q i && own) ∙ sym ((λ i. own && (ap (λ (w : Home). at w (us t)) (sym (home_true (cand t) h q)) ∙ g) i) ∙ and_swap own true)
      by true q false g own = (λ i. stay_apart h moving i && own) ∙ sym ((λ i. own && (ap (λ (w : Home). at w (us t)) (sym (home_true (cand t) h q)) ∙ g) i) ∙ and_swap own false)
      by false q true g own = (λ i. q i && own)
      by false q false g own = (λ i. stay_apart h moving i && own)

  reps_filter : (h : Home) → is_home h ≡ true → representatives gain units h ≡ filter (λ t. at h (us t)) (representatives all units h)
  unfolding representatives
  reps_filter h moving = filter_same (stands_for gain units h) (λ t. stands_for all units h t && at h (us t)) (tops_of units) (chosen_at h moving)
      ∙ sym (filter_both (stands_for all units h) (λ t. at h (us t)) (tops_of units))

  agrees : (h : Home) (vs : List ℕ) → at h vs ≡ true → (t : Top) → (at h (us t) && same_numbers (us t) vs) ≡ same_numbers (us t) vs
  agrees h vs e t = by (same_numbers (us t) vs) refl
    where
      by : (b : Bool) → same_numbers (us t) vs ≡ b → (at h (us t) && b) ≡ b
      by true q = (λ i. (ap (at h) (numbers_true (us t) vs q) ∙ e) i && true)
      by false q = and_swap (at h (us t)) false

  part_like : (h : Home) → is_home h ≡ true → (vs : List ℕ) → at h vs ≡ true → partial_with gain units h vs ≡ partial_with all units h vs
  part_like h moving vs e =
      let tops : filter (λ t. same_numbers (us t) vs) (representatives gain units h) ≡ filter (λ t. same_numbers (us t) vs) (representatives all units h) =
      ap (filter (λ t. same_numbers (us t) vs)) (reps_filter h moving) ∙ filter_both (λ t. at h (us t)) (λ t. same_numbers (us t) vs) (representatives all units h)
      ∙ filter_same (λ t. at h (us t) && same_numbers (us t) vs) (λ t. same_numbers (us t) vs) (representatives all units h) (agrees h vs e) in
      (λ i. record { home = h; users = vs; tops = tops i })

  parts_filter : (h : Home) → is_home h ≡ true → partials_at gain units h ≡ filter (part_gains alike units) (partials_at all units h)
  unfolding partials_at
  parts_filter h moving =
      let reps = representatives all units h in
      let lists = distinct (map us reps) in
      ap (λ (ts : List Top). map (partial_with gain units h) (distinct (map us ts))) (reps_filter h moving)
      ∙ ap (λ (ls : List (List ℕ)). map (partial_with gain units h) (distinct ls)) (sym (filter_map (at h) us reps))
      ∙ ap (map (partial_with gain units h)) (distinct_filter (at h) (map us reps))
      ∙ map_like (at h) (partial_with gain units h) (partial_with all units h) lists (part_like h moving)
      ∙ sym (filter_map (part_gains alike units) (partial_with all units h) lists)

  local_filter : (files : List ℕ) → local_partials gain units files ≡ filter (part_gains alike units) (local_partials all units files)
  unfolding local_partials
  local_filter [] = refl
  local_filter (f ∷ files) = (λ i. parts_filter (Local f) refl i ++ local_filter files i)
      ∙ sym (filter_append (part_gains alike units) (partials_at all units (Local f)) (local_partials all units files))

  pub partials_filter : (files : List ℕ) → partials gain units files ≡ filter (part_gains alike units) (partials all units files)
  unfolding partials
  partials_filter files = (λ i. parts_filter Common refl i ++ local_filter files i) ∙ sym (filter_append (part_gains alike units) (partials_at all units Common) (local_partials all units files))
