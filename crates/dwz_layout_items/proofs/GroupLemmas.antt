-- Tops by the numbers of their name lists: what is grouped is the chains.
use Rattle.std.proofs.Common.{◌≡◌, ℕ, suc, ◌+◌, ◌<◌, ◌≤◌, ◌==◌, ◌⊎◌, ◌||◌, inl, inr, not, All, cond, Bool, true, false, List, [], ◌∷◌, ◌++◌, length, map, filter, get_or, take, refl, sym, ap, subst}
use Rattle.std.proofs.Common.{◌∙◌, arith, eq-eqb}
use Rattle.std.specs.Prelude.{nat_eq}
use Rattle.std.specs.List.{list_any, position_or_len, range_with_len}
use Rattle.std.proofs.lemmas.Bool.{cases_eq, ne_eqb}
use Rattle.std.proofs.lemmas.List.{get_or-map, length-map, map-append}
use Rattle.std.proofs.lemmas.List.Elements.{All-head, All-tail}
use Rattle.dwz_def_reading.specs.Lists.{In}
use Rattle.dwz_def_reading.proofs.ListFacts.{in_map}
use Rattle.dwz_def_tops.proofs.Members.{in_filter_from, in_map_from}
use Rattle.dwz_def_tops.specs.Spots.{same_numbers}
use Rattle.dwz_def_images.specs.Plan.{distinct}
use Rattle.dwz_def_images.proofs.PlanLemmas.{in_distinct}
use Rattle.dwz_groups.specs.Groups.{grouped, values_at}
use Rattle.dwz_groups.specs.declared.groups.Edge.{Edge}
use Rattle.dwz_plan.specs.Steps.{lists_of, number_of, numbered, pair, users_at}
use Rattle.dwz_plan.proofs.DistinctLemmas.{distinct_apart, number_is}
use Rattle.dwz_plan.proofs.ListFacts.{filter_in, map_in, map_map}
use Rattle.dwz_plan.proofs.ListingLemmas.{Numbers, has_list, numbers-all, numbers-low, numbers-more, numbers-none, put}
use Rattle.dwz_plan.proofs.GainedRows.{filter_few}
use Rattle.dwz_layout_items.specs.declared.partial.TopSpaces.{TopSpaces}
use Rattle.dwz_layout_items.specs.Chains.{chains_by, firsts_by, names_at, no_spaces}
use Rattle.dwz_layout_items.specs.Grouping.{IsNumbered, one_list, one_lists}
use Rattle.dwz_layout_items.proofs.RowChains.{first_of_list, mapped}

abbrev pub single : ℕ → List ℕ
single n = n ∷ []

pub singles : List ℕ → List (List ℕ)
singles ns = map single ns

single_same : (a b : ℕ) → same_numbers (single a) (single b) ≡ a == b
unfolding same_numbers
single_same a b = by (a == b)
  where
    by : (t : Bool) → (elim t as (λ _. Bool) [ true ↦ true | false ↦ false ]) ≡ t
    by true = refl
    by false = refl

turned : (a b : ℕ) → a == b ≡ b == a
turned a b = by (cases_eq a b)
  where
    by : (a ≡ b) ⊎ (a ≡ b → ⊥) → a == b ≡ b == a
    by (inl e) = eq-eqb a b e ∙ sym (eq-eqb b a (sym e))
    by (inr other) = ne_eqb a b other ∙ sym (ne_eqb b a (λ e. other (sym e)))

-- ---- the set of the numbers that were seen

any_single : (n : ℕ) (ks : List ℕ) → list_any (nat_eq n) ks ≡ has_list (single n) (singles ks)
unfolding singles
any_single n [] = refl
any_single n (k ∷ ks) = (λ i. sym (single_same n k) i || any_single n ks i)

number_single : (n : ℕ) (ks : List ℕ) → position_or_len (nat_eq n) ks ≡ number_of (singles ks) (single n)
unfolding singles
number_single n [] = refl
number_single n (k ∷ ks) = (λ i. cond (not (sym (single_same n k) i)) (1 + number_single n ks i) 0)

put_single : (n : ℕ) (ks others : List ℕ) → others ≡ cond (list_any (nat_eq n) ks) ks (ks ++ n ∷ []) → singles others ≡ put (singles ks) (single n)
unfolding singles
put_single n ks others e = ap (map single) e ∙ by (list_any (nat_eq n) ks) ∙ ap (λ (b : Bool). cond b (map single ks) (map single ks ++ single n ∷ [])) (any_single n ks)
  where
    by : (t : Bool) → map single (cond t ks (ks ++ n ∷ [])) ≡ cond t (map single ks) (map single ks ++ single n ∷ [])
    by true = refl
    by false = map-append single ks (n ∷ [])

pub list_at : (of_tops : List TopSpaces) (t : ℕ) → t < length of_tops → users_at (one_lists of_tops) t ≡ single (names_at of_tops t)
list_at of_tops t lt = get_or-map one_list of_tops t no_spaces [] lt

-- the tops so far are numbered
pub record Seen (of_tops : List TopSpaces) (tops keys : List ℕ) (pairs : List Edge) : Type 0 where
  pub firsts : List ℕ
  pub numbers : Numbers (one_lists of_tops) tops (singles keys) firsts pairs

pub seen_none : (of_tops : List TopSpaces) (keys : List ℕ) (pairs : List Edge) → keys ≡ [] → pairs ≡ [] → Seen of_tops [] keys pairs
unfolding singles
seen_none of_tops keys pairs k p =
    let none : Seen of_tops [] [] [] = record { firsts = []; numbers = numbers-none (one_lists of_tops) } in
    subst (λ (ks : List ℕ). Seen of_tops [] ks pairs) (sym k) (subst (λ (ps : List Edge). Seen of_tops [] [] ps) (sym p) none)

pub seen_more : (of_tops : List TopSpaces) (tops keys others : List ℕ) (pairs more : List Edge) (t n : ℕ) → t < length of_tops
    → others ≡ cond (list_any (nat_eq (names_at of_tops t)) keys) keys (keys ++ names_at of_tops t ∷ []) → n ≡ position_or_len (nat_eq (names_at of_tops t)) keys → more ≡ pairs ++ pair n t ∷ []
    → Seen of_tops tops keys pairs → Seen of_tops (tops ++ t ∷ []) others more
seen_more of_tops tops keys others pairs more t n lt keys_are number pairs_are s =
    let users : List (List ℕ) = one_lists of_tops in
    let own : users_at users t ≡ single (names_at of_tops t) = list_at of_tops t lt in
    let is_new : Bool = not (has_list (users_at users t) (singles keys)) in
    record {
      firsts = s.firsts ++ cond is_new (t ∷ []) [];
      numbers = numbers-more users tops (singles keys) s.firsts pairs t (singles others) (s.firsts ++ cond is_new (t ∷ []) []) more n is_new
          (put_single (names_at of_tops t) keys others keys_are ∙ ap (put (singles keys)) (sym own)) refl (number ∙ number_single (names_at of_tops t) keys ∙ ap (number_of (singles keys)) (sym own))
          refl pairs_are s.numbers;
    }

pub seen_all : (of_tops : List TopSpaces) (tops keys : List ℕ) (i : ℕ) (pairs : List Edge) → length tops ≤ i → Seen of_tops (take i tops) keys pairs → IsNumbered of_tops tops (length keys) pairs
unfolding singles
seen_all of_tops tops keys i pairs le s =
    let users : List (List ℕ) = one_lists of_tops in
    let all = numbers-all users tops i (singles keys) s.firsts pairs le s.numbers in
    let firsts : length s.firsts ≡ length keys = sym (length-map s.firsts (users_at users)) ∙ ap (λ (w : List (List ℕ)). length w) s.numbers.firsts_are ∙ length-map keys single in
    record {
      many = sym firsts ∙ sym (length-map s.firsts (users_at users)) ∙ ap (λ (w : List (List ℕ)). length w) all.0;
      pairs_are = all.1;
      low = subst (λ (n : ℕ). All (λ p. p.key < n) pairs) firsts (numbers-low users (take i tops) (singles keys) s.firsts pairs s.numbers);
    }

-- a number of a list is below that of tops
pub seen_few : (of_tops : List TopSpaces) (tops keys : List ℕ) (pairs : List Edge) → Seen of_tops tops keys pairs → length keys ≤ length tops
unfolding singles
seen_few of_tops tops keys pairs s = omega (arith, s.numbers.few, length-map keys single)

-- ---- what is grouped

values_of : (f : ℕ → ℕ) (ts : List ℕ) (k : ℕ) → values_at (map (λ t. pair (f t) t) ts) k ≡ filter (λ t. f t == k) ts
unfolding values_at
values_of f [] k = refl
values_of f (t ∷ ts) k = by (f t == k) (values_of f ts k)
  where
    by : (b : Bool) → values_at (map (λ t. pair (f t) t) ts) k ≡ filter (λ t. f t == k) ts
        → map (λ (p : Edge). p.value) (cond b (pair (f t) t ∷ filter (λ (p : Edge). p.key == k) (map (λ t. pair (f t) t) ts)) (filter (λ (p : Edge). p.key == k) (map (λ t. pair (f t) t) ts)))
        ≡ cond b (t ∷ filter (λ t. f t == k) ts) (filter (λ t. f t == k) ts)
    by true more = ap (λ (w : List ℕ). t ∷ w) more
    by false more = more

map_range : (lists : List (List ℕ)) (v : ℕ → List ℕ) (g : List ℕ → List ℕ) (s : ℕ) → ((k : ℕ) → k < length lists → v (s + k) ≡ g (get_or lists k []))
    → map v (range_with_len s (length lists)) ≡ map g lists
map_range [] v g s h = refl
map_range (us ∷ lists) v g s h =
    (λ i. ((let e : s ≡ s + 0 = omega arith in ap v e) ∙ h 0 (omega arith)) i ∷ map_range lists v g (s + 1) (λ k l. (let e : s + 1 + k ≡ s + suc k = omega arith in ap v e) ∙ h (suc k) (omega arith))
    i)

distinct_firsts : (l : ℕ → ℕ) (ts : List ℕ) → distinct (map (λ t. single (l t)) ts) ≡ map (λ t. single (l t)) (firsts_by l ts)
unfolding distinct firsts_by
distinct_firsts l [] = refl
distinct_firsts l (t ∷ ts) =
    ap (λ (w : List (List ℕ)). single (l t) ∷ w)
    (ap (filter (λ vs. not (same_numbers (single (l t)) vs))) (distinct_firsts l ts)
    ∙ sym (mapped (λ u. single (l u)) (λ u. not (l t == l u)) (λ vs. not (same_numbers (single (l t)) vs)) (firsts_by l ts) (λ u is. ap not (sym (single_same (l t) (l u))))))

pub all_in : (P : ℕ → Type 0) (ts : List ℕ) (t : ℕ) → All P ts → In t ts → P t
all_in P [] t all is = absurd is
all_in P (a ∷ ts) t all (inl e) = subst P e (All-head P a ts all)
all_in P (a ∷ ts) t all (inr r) = all_in P ts t (All-tail P a ts all) r

pub grouped_chains : (of_tops : List TopSpaces) (tops : List ℕ) → All (λ t. t < length of_tops) tops
    → grouped (length (lists_of (one_lists of_tops) tops)) (numbered (one_lists of_tops) tops) ≡ chains_by (names_at of_tops) tops
unfolding grouped lists_of numbered chains_by
grouped_chains of_tops tops inside =
    let l : ℕ → ℕ = names_at of_tops in
    let f : ℕ → List ℕ = users_at (one_lists of_tops) in
    let lists : List (List ℕ) = distinct (map f tops) in
    let is : (t : ℕ) → In t tops → f t ≡ single (l t) = λ t there. list_at of_tops t (all_in (λ a. a < length of_tops) tops t inside there) in
    let group : List ℕ → List ℕ = λ us. filter (λ t. same_numbers (f t) us) tops in
    let each : (k : ℕ) → k < length lists → values_at (map (λ t. pair (number_of lists (f t)) t) tops) (0 + k) ≡ group (get_or lists k []) = λ k lt.
    (let z : 0 + k ≡ k = omega arith in
    ap (values_at (map (λ t. pair (number_of lists (f t)) t) tops)) z
    ∙ values_of (λ t. number_of lists (f t)) tops k
    ∙ filter_in (λ t. number_of lists (f t) == k) (λ t. same_numbers (f t) (get_or lists k [])) tops
    (λ t there. number_is lists (f t) k (distinct_apart (map f tops)) (in_distinct (f t) (map f tops) (in_map f t tops there)) lt)) in
    let lists_are : lists ≡ map (λ t. single (l t)) (firsts_by l tops) = ap distinct (map_in f (λ t. single (l t)) tops is) ∙ distinct_firsts l tops in
    let same : (u : ℕ) → group (single (l u)) ≡ filter (λ t. l u == l t) tops = λ u.
    filter_in (λ t. same_numbers (f t) (single (l u))) (λ t. l u == l t) tops (λ t there. ap (λ (vs : List ℕ). same_numbers vs (single (l u))) (is t there) ∙ single_same (l t) (l u)
    ∙ turned (l t) (l u)) in
    map_range lists (values_at (map (λ t. pair (number_of lists (f t)) t) tops)) group 0 each
    ∙ ap (map group) lists_are
    ∙ map_map group (λ t. single (l t)) (firsts_by l tops)
    ∙ map_in (λ u. group (single (l u))) (λ u. filter (λ t. l u == l t) tops) (firsts_by l tops) (λ u there. same u)

-- ---- chains have tops

firsts_few : (l : ℕ → ℕ) (ts : List ℕ) → length (firsts_by l ts) ≤ length ts
unfolding firsts_by
firsts_few l [] = omega arith
firsts_few l (t ∷ ts) = omega (arith, filter_few (λ u. not (l t == l u)) (firsts_by l ts), firsts_few l ts)

pub chains_few : (l : ℕ → ℕ) (ts : List ℕ) → length (chains_by l ts) ≤ length ts
unfolding chains_by
chains_few l ts = omega (arith, length-map (firsts_by l ts) (λ t. filter (λ u. l t == l u) ts), firsts_few l ts)

firsts_in : (l : ℕ → ℕ) (ts : List ℕ) (t : ℕ) → In t (firsts_by l ts) → In t ts
unfolding firsts_by
firsts_in l [] t is = absurd is
firsts_in l (a ∷ ts) t (inl e) = inl e
firsts_in l (a ∷ ts) t (inr r) = inr (firsts_in l ts t (in_filter_from (λ u. not (l a == l u)) t (firsts_by l ts) r).0)

-- the first top of a chain
pub record Headed (ts g : List ℕ) : Type 0 where
  pub there : In (get_or g 0 0) ts
  pub some : 0 < length g

pub headed : (l : ℕ → ℕ) (ts g : List ℕ) → In g (chains_by l ts) → Headed ts g
unfolding chains_by
headed l ts g is =
    let o = in_map_from (λ t. filter (λ u. l t == l u) ts) g (firsts_by l ts) is in
    let first = first_of_list l ts o.source o.there in
    let are : g ≡ o.source ∷ first.0 = sym o.is ∙ first.1 in
    record { there = subst (λ (n : ℕ). In n ts) (sym (ap (λ (w : List ℕ). get_or w 0 0) are)) (firsts_in l ts o.source o.there); some = omega (arith, ap (λ (w : List ℕ). length w) are) }
