-- Values and keys exchanged, and the keys under which a value stands.
use Rattle.std.proofs.Common.{◌≡◌, ℕ, zero, suc, ◌+◌, ◌<◌, ◌==◌, ◌&&◌, ◌||◌, All, cond, Bool, true, false, List, [], ◌∷◌, ◌++◌, length, map, filter, get_or, take, refl, sym, ap, ◌∙◌, arith, eq-eqb}
use Rattle.std.specs.Prelude.{nat_eq}
use Rattle.std.specs.List.{dedup, dedup_from, list_any, range_with_len, zip}
use Rattle.std.proofs.lemmas.Bool.{ne_eqb}
use Rattle.std.proofs.lemmas.List.{append-nil, append_assoc, map-append, take_more, length-take-le}
use Rattle.std.proofs.lemmas.List.Elements.{All-append, All-cons, All-filter, All-head, All-map, All-tail, filter-append}
use Rattle.dwz_groups.specs.declared.tops.TopRow.{TopRow}
use Rattle.dwz_groups.specs.Groups.{grouped, values_at}
use Rattle.dwz_plan.specs.Steps.{all_keys, keys_under, pair, turned, unit_pairs}
use Rattle.dwz_groups.specs.declared.groups.Edge.{Edge}

-- ---- what stands in the pairs

pub unit_keys : (units : ℕ) (rows : List TopRow) (reps : List ℕ) → All (λ r. r.unit < units) rows → All (λ p. p.key < units) (unit_pairs rows reps)
unfolding unit_pairs
unit_keys units [] reps all = λ k d l. absurd (omega arith)
unit_keys units (r ∷ rows) [] all = λ k d l. absurd (omega arith)
unit_keys units (r ∷ rows) (n ∷ reps) all = by r.movable (unit_keys units rows reps (All-tail (λ (r : TopRow). r.unit < units) r rows all))
  where
    rest : List Edge
    rest = map (λ (p : TopRow × ℕ). pair p.0.unit p.1) (filter (λ (p : TopRow × ℕ). p.0.movable) (zip rows reps))

    by : (t : Bool) → All (λ p. p.key < units) (unit_pairs rows reps) → All (λ p. p.key < units)
        (map (λ (p : TopRow × ℕ). pair p.0.unit p.1) (cond t ((r, n) ∷ filter (λ (p : TopRow × ℕ). p.0.movable) (zip rows reps)) (filter (λ (p : TopRow × ℕ). p.0.movable) (zip rows reps))))
    by true more = All-cons (λ (p : Edge). p.key < units) (pair r.unit n) rest (All-head (λ (r : TopRow). r.unit < units) r rows all) more
    by false more = more

pub unit_values : (m : ℕ) (rows : List TopRow) (reps : List ℕ) → All (λ n. n < m) reps → All (λ p. p.value < m) (unit_pairs rows reps)
unfolding unit_pairs
unit_values m [] reps all = λ k d l. absurd (omega arith)
unit_values m (r ∷ rows) [] all = λ k d l. absurd (omega arith)
unit_values m (r ∷ rows) (n ∷ reps) all = by r.movable (unit_values m rows reps (All-tail (λ n. n < m) n reps all))
  where
    rest : List Edge
    rest = map (λ (p : TopRow × ℕ). pair p.0.unit p.1) (filter (λ (p : TopRow × ℕ). p.0.movable) (zip rows reps))

    by : (t : Bool) → All (λ p. p.value < m) (unit_pairs rows reps) → All (λ p. p.value < m)
        (map (λ (p : TopRow × ℕ). pair p.0.unit p.1) (cond t ((r, n) ∷ filter (λ (p : TopRow × ℕ). p.0.movable) (zip rows reps)) (filter (λ (p : TopRow × ℕ). p.0.movable) (zip rows reps))))
    by true more = All-cons (λ (p : Edge). p.value < m) (pair r.unit n) rest (All-head (λ n. n < m) n reps all) more
    by false more = more

pub values_all : (P : ℕ → Type 0) (pairs : List Edge) (k : ℕ) → All (λ p. P p.value) pairs → All P (values_at pairs k)
unfolding values_at
values_all P pairs k all = All-map P (λ (p : Edge). p.value) (filter (λ (p : Edge). p.key == k) pairs) (All-filter (λ (p : Edge). p.key == k) (λ (p : Edge). P p.value) pairs all)

pub grouped_all : (P : ℕ → Type 0) (n : ℕ) (pairs : List Edge) → All (λ p. P p.value) pairs → All (λ ns. All P ns) (grouped n pairs)
unfolding grouped
grouped_all P n pairs all = All-map (λ (ns : List ℕ). All P ns) (values_at pairs) (range_with_len 0 n) (λ k d l. values_all P pairs (get_or (range_with_len 0 n) k d) all)

pub turned_all : (P : ℕ → Type 0) (n : ℕ) (lists : List (List ℕ)) → All (λ ns. All P ns) lists → All (λ p. P p.key) (turned n lists)
unfolding turned
turned_all P n [] all = λ k d l. absurd (omega arith)
turned_all P n (ns ∷ lists) all =
    All-append (λ (p : Edge). P p.key) (map (λ k. pair k n) ns) (turned (n + 1) lists) (All-map (λ (p : Edge). P p.key) (λ k. pair k n) ns (All-head (λ (ns : List ℕ). All P ns) ns lists all))
    (turned_all P (n + 1) lists (All-tail (λ (ns : List ℕ). All P ns) ns lists all))

pub turned_values : (s n : ℕ) (lists : List (List ℕ)) → s < n → All (λ p. s < p.value) (turned n lists)
unfolding turned
turned_values s n [] l = λ k d l. absurd (omega arith)
turned_values s n (ns ∷ lists) l =
    All-append (λ (p : Edge). s < p.value) (map (λ k. pair k n) ns) (turned (n + 1) lists) (All-map (λ (p : Edge). s < p.value) (λ k. pair k n) ns (λ k d in'. l))
    (turned_values s (n + 1) lists (omega arith))

-- ---- one more list

turned-push : (n : ℕ) (lists : List (List ℕ)) (ns : List ℕ) → turned n (lists ++ ns ∷ []) ≡ turned n lists ++ map (λ k. pair k (n + length lists)) ns
unfolding turned
turned-push n [] ns = append-nil (map (λ k. pair k n) ns) ∙ (let e : n ≡ n + 0 = omega arith in ap (λ m. map (λ k. pair k m) ns) e)
turned-push n (l ∷ lists) ns =
    let e : n + 1 + length lists ≡ n + suc (length lists) = omega arith in
    ap (λ (ps : List Edge). map (λ k. pair k n) l ++ ps) (turned-push (n + 1) lists ns ∙ ap (λ m. turned (n + 1) lists ++ map (λ k. pair k m) ns) e)
    ∙ sym (append_assoc (map (λ k. pair k n) l) (turned (n + 1) lists) (map (λ k. pair k (n + suc (length lists))) ns))

pub turned-none : turned 0 [] ≡ []
unfolding turned
turned-none = refl

pub turned-more : (lists : List (List ℕ)) (i : ℕ) → i < length lists → turned 0 (take (i + 1) lists) ≡ turned 0 (take i lists) ++ map (λ k. pair k i) (get_or lists i [])
turned-more lists i l =
    let e : 0 + length (take i lists) ≡ i = omega (arith, length-take-le i lists (omega arith)) in
    ap (turned 0) (take_more lists i [] l) ∙ (turned-push 0 (take i lists) (get_or lists i []) ∙ ap (λ m. turned 0 (take i lists) ++ map (λ k. pair k m) (get_or lists i [])) e)

-- ---- exchanged twice

-- s as often as v stands in a list
unfoldable pub repeats : ℕ → ℕ → List ℕ → List ℕ
repeats s v [] = []
repeats s v (x ∷ xs) = cond (x == v) (s ∷ repeats s v xs) (repeats s v xs)

pub values-turned_one : (s v : ℕ) (ns : List ℕ) → values_at (map (λ k. pair k s) ns) v ≡ repeats s v ns
unfolding values_at repeats
values-turned_one s v [] = refl
values-turned_one s v (n ∷ ns) = by (n == v) (values-turned_one s v ns)
  where
    by : (t : Bool) → values_at (map (λ k. pair k s) ns) v ≡ repeats s v ns
        → map (λ (p : Edge). p.value) (cond t (pair n s ∷ filter (λ (p : Edge). p.key == v) (map (λ k. pair k s) ns)) (filter (λ (p : Edge). p.key == v) (map (λ k. pair k s) ns)))
        ≡ cond t (s ∷ repeats s v ns) (repeats s v ns)
    by true more = ap (λ (xs : List ℕ). s ∷ xs) more
    by false more = more

pub values_at-append : (ps qs : List Edge) (v : ℕ) → values_at (ps ++ qs) v ≡ values_at ps v ++ values_at qs v
unfolding values_at
values_at-append ps qs v = ap (map (λ (p : Edge). p.value)) (filter-append (λ (p : Edge). p.key == v) ps qs) ∙ map-append (λ (p : Edge). p.value) (filter (λ (p : Edge). p.key == v) ps)
    (filter (λ (p : Edge). p.key == v) qs)

dedup_from-above : (s : ℕ) (ys : List ℕ) → All (λ y. s < y) ys → dedup_from nat_eq s ys ≡ s ∷ dedup nat_eq ys
dedup_from-above s [] all = refl
dedup_from-above s (y ∷ ys) all = let above : s < y = All-head (λ y. s < y) y ys all in ap (λ t. cond t (dedup_from nat_eq s ys) (s ∷ dedup_from nat_eq y ys))
    (ne_eqb y s (λ e. omega (arith, e, above)))

dedup_from-repeats : (s v : ℕ) (ns ys : List ℕ) → All (λ y. s < y) ys → dedup_from nat_eq s (repeats s v ns ++ ys) ≡ s ∷ dedup nat_eq ys
unfolding repeats
dedup_from-repeats s v [] ys all = dedup_from-above s ys all
dedup_from-repeats s v (n ∷ ns) ys all = by (n == v) (dedup_from-repeats s v ns ys all)
  where
    by : (t : Bool) → dedup_from nat_eq s (repeats s v ns ++ ys) ≡ s ∷ dedup nat_eq ys → dedup_from nat_eq s (cond t (s ∷ repeats s v ns) (repeats s v ns) ++ ys) ≡ s ∷ dedup nat_eq ys
    by true more = ap (λ t. cond t (dedup_from nat_eq s (repeats s v ns ++ ys)) (s ∷ dedup_from nat_eq s (repeats s v ns ++ ys))) (eq-eqb s s refl) ∙ more
    by false more = more

pub dedup-repeats : (s v : ℕ) (ns ys : List ℕ) → All (λ y. s < y) ys → dedup nat_eq (repeats s v ns ++ ys) ≡ cond (list_any (λ n. n == v) ns) (s ∷ dedup nat_eq ys) (dedup nat_eq ys)
unfolding repeats
dedup-repeats s v [] ys all = refl
dedup-repeats s v (n ∷ ns) ys all = by (n == v) (dedup-repeats s v ns ys all)
  where
    by : (t : Bool) → dedup nat_eq (repeats s v ns ++ ys) ≡ cond (list_any (λ n. n == v) ns) (s ∷ dedup nat_eq ys) (dedup nat_eq ys)
        → dedup nat_eq (cond t (s ∷ repeats s v ns) (repeats s v ns) ++ ys) ≡ cond (t || list_any (λ n. n == v) ns) (s ∷ dedup nat_eq ys) (dedup nat_eq ys)
    by true more = dedup_from-repeats s v ns ys all
    by false more = more

-- the value is among those under the key
any_value : (pairs : List Edge) (k v : ℕ) → list_any (λ n. n == v) (values_at pairs k) ≡ list_any (λ p. p.key == k && p.value == v) pairs
unfolding values_at
any_value [] k v = refl
any_value (p ∷ pairs) k v = by (p.key == k) (any_value pairs k v)
  where
    by : (t : Bool) → list_any (λ n. n == v) (values_at pairs k) ≡ list_any (λ p. p.key == k && p.value == v) pairs
        → list_any (λ n. n == v) (map (λ (p : Edge). p.value) (cond t (p ∷ filter (λ (q : Edge). q.key == k) pairs) (filter (λ (q : Edge). q.key == k) pairs)))
        ≡ ((t && p.value == v) || list_any (λ p. p.key == k && p.value == v) pairs)
    by true more = ap (λ b. p.value == v || b) more
    by false more = more

keys_from : (pairs : List Edge) (v s n : ℕ) → dedup nat_eq (values_at (turned s (map (values_at pairs) (range_with_len s n))) v) ≡ filter (λ k. list_any (λ p. p.key == k && p.value == v) pairs)
    (range_with_len s n)
unfolding turned values_at
keys_from pairs v s zero = refl
keys_from pairs v s (suc n) =
    let ns : List ℕ = values_at pairs s in
    let lists : List (List ℕ) = map (values_at pairs) (range_with_len (s + 1) n) in
    let rest : List Edge = turned (s + 1) lists in
    let above : All (λ y. s < y) (values_at rest v) = values_all (λ y. s < y) rest v (turned_values s (s + 1) lists (omega arith)) in
    ap (dedup nat_eq) (values_at-append (map (λ k. pair k s) ns) rest v ∙ ap (λ (xs : List ℕ). xs ++ values_at rest v) (values-turned_one s v ns))
    ∙ (dedup-repeats s v ns (values_at rest v) above
    ∙ (λ i. cond (any_value pairs s v i) (s ∷ keys_from pairs v (s + 1) n i) (keys_from pairs v (s + 1) n i)))

map_same : {X Y Z : Type 0} (f : Y → Z) (g : X → Y) (h : X → Z) (xs : List X) → ((x : X) → f (g x) ≡ h x) → map f (map g xs) ≡ map h xs
map_same f g h [] e = refl
map_same f g h (x ∷ xs) e = (λ i. e x i ∷ map_same f g h xs e i)

pub all_keys_is : (m n : ℕ) (pairs : List Edge) → map (dedup nat_eq) (grouped m (turned 0 (grouped n pairs))) ≡ all_keys m n pairs
unfolding all_keys grouped keys_under
all_keys_is m n pairs = map_same (dedup nat_eq) (values_at (turned 0 (map (values_at pairs) (range_with_len 0 n))))
    (λ v. filter (λ k. list_any (λ p. p.key == k && p.value == v) pairs) (range_with_len 0 n)) (range_with_len 0 m) (λ v. keys_from pairs v 0 n)
