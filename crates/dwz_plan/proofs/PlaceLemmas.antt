-- Where tops are placed, step by step.
use Rattle.std.proofs.Common.{◌≡◌, ℕ, zero, suc, ◌+◌, ◌<◌, ◌≤◌, ◌==◌, ◌&&◌, ◌⊎◌, inl, inr, All, cond, Bool, true, false, List, [], ◌∷◌, ◌++◌, Option, Some, length, map, fold, get_or, set, take}
use Rattle.std.proofs.Common.{replicate, refl, sym, ap, subst, ◌∙◌, arith, eq-eqb, length-set}
use Rattle.std.specs.List.{zip}
use Rattle.std.proofs.lemmas.Bool.{cases_eq, ne_eqb}
use Rattle.std.proofs.lemmas.List.{append-nil, append_assoc, get_or-map, get_or-replicate, get_or-set_other, get_or-set_same, length-map, length-replicate, take_all, take_more}
use Rattle.std.proofs.lemmas.List.Elements.{All-append, All-cons, All-head, All-nil, All-tail}
use Rattle.std.proofs.lemmas.List.Sums.{fold_more}
use Rattle.dwz_groups.specs.declared.tops.TopRow.{TopRow}
use Rattle.dwz_def_plan.specs.Homes.{Common, Home, Local, Stay}
use Rattle.dwz_plan.specs.Planned.{file_of_home, home_of, place_at}
use Rattle.dwz_plan.specs.Steps.{file_of_rank, is_in_unit, pair, same_bool, partial_of, partials_of, place_of_rank, placed, rank_of, staying_one, staying_pairs, users_at}
use Rattle.dwz_groups.specs.declared.groups.Edge.{Edge}
use Rattle.dwz_plan.specs.declared.plan.Home.{Home as Place}
use Rattle.dwz_plan.specs.declared.plan.Home.TheVariants.{Stay as InUnit}
use Rattle.dwz_plan.specs.declared.plan.Partial.{Partial}

-- ---- by ranks

pub file_is : (files : ℕ) (h : Home) → file_of_rank files (rank_of h) ≡ file_of_home files h
file_is files Common = refl
file_is files (Local f) = (let e : f + 1 ≡ suc f = omega arith in ap (λ r. file_of_rank files (Some r)) e)
file_is files Stay = refl

pub place_is : (h : Home) (n : ℕ) → place_of_rank (rank_of h) n ≡ place_at h n
place_is Common n = refl
place_is (Local f) n = (let e : f + 1 ≡ suc f = omega arith in ap (λ r. place_of_rank (Some r) n) e)
place_is Stay n = refl

-- ---- the places of movers

pub record Places (files : List ℕ) (users : List (List ℕ)) (pairs : List Edge) (homes : List Place) : Type 0 where
  pub len : length homes ≡ length users
  pub each : (k : ℕ) → k < length users → get_or homes k InUnit ≡ placed files users pairs k

pub places-none : (files : List ℕ) (users : List (List ℕ)) (homes : List Place) → homes ≡ replicate (length users) InUnit → Places files users [] homes
unfolding placed
places-none files users homes is = record {
  len = ap (λ (hs : List Place). length hs) is ∙ length-replicate (length users) InUnit;
  each = λ k l. ap (λ (hs : List Place). get_or hs k InUnit) is ∙ get_or-replicate (length users) k InUnit InUnit l;
}

placed-more : (files : List ℕ) (users : List (List ℕ)) (pairs : List Edge) (i : ℕ) (p : Edge) (k : ℕ) → i < length pairs → get_or pairs i p ≡ p
    → placed files users (take (i + 1) pairs) k ≡ cond (p.value == k) (place_at (home_of files (users_at users k)) p.key) (placed files users (take i pairs) k)
unfolding placed
placed-more files users pairs i p k l is =
    let f : Place → Edge → Place = λ h q. cond (q.value == k) (place_at (home_of files (users_at users k)) q.key) h in
    fold_more f InUnit pairs i p l ∙ ap (λ (q : Edge). f (fold f InUnit (take i pairs)) q) is

pub places-more : (files : List ℕ) (users : List (List ℕ)) (pairs : List Edge) (i : ℕ) (p : Edge) (homes : List Place) (rank : Option ℕ) (place : Place) (us : List ℕ) → i < length pairs
    → get_or pairs i p ≡ p → p.value < length users
    → us ≡ users_at users p.value → rank ≡ rank_of (home_of files us) → place ≡ place_of_rank rank p.key
    → Places files users (take i pairs) homes → Places files users (take (i + 1) pairs) (set homes p.value place)
places-more files users pairs i p homes rank place us l is in' list ranked home h = record {
  len = length-set homes p.value place ∙ h.len;
  each = λ k m. by k m (cases_eq k p.value);
}
  where
    here : place ≡ place_at (home_of files (users_at users p.value)) p.key
    here = home ∙ (ap (λ r. place_of_rank r p.key) (ranked ∙ ap (λ (vs : List ℕ). rank_of (home_of files vs)) list) ∙ place_is (home_of files (users_at users p.value)) p.key)

    by : (k : ℕ) → k < length users → (k ≡ p.value) ⊎ (k ≡ p.value → ⊥) → get_or (set homes p.value place) k InUnit ≡ placed files users (take (i + 1) pairs) k
    by k m (inl e) =
        subst (λ j. get_or (set homes p.value place) j InUnit ≡ placed files users (take (i + 1) pairs) j) (sym e)
        (get_or-set_same homes p.value place InUnit (omega (arith, h.len, in'))
        ∙ (here ∙ (ap (λ t. cond t (place_at (home_of files (users_at users p.value)) p.key) (placed files users (take i pairs) p.value)) (sym (eq-eqb p.value p.value refl))
        ∙ sym (placed-more files users pairs i p p.value l is))))
    by k m (inr ne) =
        get_or-set_other homes p.value k place InUnit ne ∙ (h.each k m
        ∙ (ap (λ t. cond t (place_at (home_of files (users_at users k)) p.key) (placed files users (take i pairs) k)) (sym (ne_eqb p.value k (λ e. ne (sym e))))
        ∙ sym (placed-more files users pairs i p k l is)))

pub places-all : (files : List ℕ) (users : List (List ℕ)) (pairs : List Edge) (i : ℕ) (homes : List Place) → length pairs ≤ i → Places files users (take i pairs) homes → (k : ℕ) → k < length users
    → get_or homes k InUnit ≡ placed files users pairs k
places-all files users pairs i homes l h k m = h.each k m ∙ ap (λ (ps : List Edge). placed files users ps k) (take_all i pairs l)

-- ---- partial units, one more

get_or-zip : {X Y : Type 0} (xs : List X) (ys : List Y) (i : ℕ) (x : X) (y : Y) (d : X × Y) → i < length xs → i < length ys → get_or (zip xs ys) i d ≡ (get_or xs i x, get_or ys i y)
get_or-zip [] ys i x y d l m = absurd (omega arith)
get_or-zip (a ∷ xs) [] i x y d l m = absurd (omega arith)
get_or-zip (a ∷ xs) (b ∷ ys) zero x y d l m = refl
get_or-zip (a ∷ xs) (b ∷ ys) (suc i) x y d l m = get_or-zip xs ys i x y d (omega arith) (omega arith)

length-zip : {X Y : Type 0} (xs : List X) (ys : List Y) → length ys ≡ length xs → length (zip xs ys) ≡ length xs
length-zip [] ys e = refl
length-zip (a ∷ xs) [] e = absurd (omega (arith, e))
length-zip (a ∷ xs) (b ∷ ys) e = ap suc (length-zip xs ys (omega (arith, e)))

pub length-partials_of : (fs : List ℕ) (files : ℕ) (lists tops : List (List ℕ)) → length tops ≡ length lists → length (partials_of fs files lists tops) ≡ length lists
unfolding partials_of
length-partials_of fs files lists tops e = length-map (zip lists tops) (λ (p : List ℕ × List ℕ). partial_of fs files p.0 p.1) ∙ length-zip lists tops e

pub partials-more : (fs : List ℕ) (files : ℕ) (lists tops : List (List ℕ)) (i : ℕ) (us ts : List ℕ) (old new : List Partial) (part : Partial) → i < length lists → length tops ≡ length lists
    → us ≡ get_or lists i [] → ts ≡ get_or tops i [] → part ≡ partial_of fs files us ts → new ≡ old ++ part ∷ []
    → old ≡ take i (partials_of fs files lists tops) → new ≡ take (i + 1) (partials_of fs files lists tops)
unfolding partials_of
partials-more fs files lists tops i us ts old new part l len users_are tops_are part_is new_is h =
    let f : List ℕ × List ℕ → Partial = λ p. partial_of fs files p.0 p.1 in
    let long : i < length (zip lists tops) = omega (arith, l, length-zip lists tops len) in
    let long' : i < length (map f (zip lists tops)) = omega (arith, long, length-map (zip lists tops) f) in
    let is : get_or (map f (zip lists tops)) i part ≡ part = get_or-map f (zip lists tops) i ([], []) part long
    ∙ (ap f (get_or-zip lists tops i [] [] ([], []) l (omega (arith, l, len))) ∙ sym (part_is ∙ (λ j. partial_of fs files (users_are j) (tops_are j)))) in
    new_is ∙ ((λ j. h j ++ sym is j ∷ []) ∙ sym (take_more (map f (zip lists tops)) i part long'))

-- ---- what stays, one more

pub staying-more : (pinned : Bool) (n : ℕ) (rows : List TopRow) (homes : List Place) (i : ℕ) (d : TopRow) → i < length rows → length homes ≡ length rows
    → staying_pairs pinned n (take (i + 1) rows) (take (i + 1) homes) ≡ staying_pairs pinned n (take i rows) (take i homes) ++ staying_one pinned (get_or rows i d) (get_or homes i InUnit) (n + i)
unfolding staying_pairs
staying-more pinned n [] homes i d l e = absurd (omega arith)
staying-more pinned n (r ∷ rows) [] i d l e = absurd (omega (arith, e))
staying-more pinned n (r ∷ rows) (h ∷ homes) zero d l e = append-nil (staying_one pinned r h n) ∙ (let z : n ≡ n + 0 = omega arith in ap (staying_one pinned r h) z)
staying-more pinned n (r ∷ rows) (h ∷ homes) (suc i) d l e =
    let s : suc i + 1 ≡ suc (i + 1) = omega arith in
    let z : n + 1 + i ≡ n + suc i = omega arith in
    let more = staying-more pinned (n + 1) rows homes i d (omega arith) (omega (arith, e)) in
    ap (λ j. staying_pairs pinned n (take j (r ∷ rows)) (take j (h ∷ homes))) s
    ∙ (ap (λ (ps : List Edge). staying_one pinned r h n ++ ps) (more
    ∙ ap (λ j. staying_pairs pinned (n + 1) (take i rows) (take i homes) ++ staying_one pinned (get_or rows i d) (get_or homes i InUnit) j) z)
    ∙ sym (append_assoc (staying_one pinned r h n) (staying_pairs pinned (n + 1) (take i rows) (take i homes)) (staying_one pinned (get_or rows i d) (get_or homes i InUnit) (n + suc i))))

pub staying_keys : (units : ℕ) (pinned : Bool) (n : ℕ) (rows : List TopRow) (homes : List Place) → All (λ r. r.unit < units) rows → All (λ p. p.key < units) (staying_pairs pinned n rows homes)
unfolding staying_pairs
staying_keys units pinned n [] homes all = All-nil (λ (p : Edge). p.key < units)
staying_keys units pinned n (r ∷ rows) [] all = All-nil (λ (p : Edge). p.key < units)
staying_keys units pinned n (r ∷ rows) (h ∷ homes) all =
    All-append (λ (p : Edge). p.key < units) (staying_one pinned r h n) (staying_pairs pinned (n + 1) rows homes) (by (same_bool r.pinned pinned && is_in_unit h))
    (staying_keys units pinned (n + 1) rows homes (All-tail (λ (r : TopRow). r.unit < units) r rows all))
  where
    by : (t : Bool) → All (λ p. p.key < units) (cond t (pair r.unit n ∷ []) [])
    by true = All-cons (λ (p : Edge). p.key < units) (pair r.unit n) [] (All-head (λ (r : TopRow). r.unit < units) r rows all) (All-nil (λ (p : Edge). p.key < units))
    by false = All-nil (λ (p : Edge). p.key < units)
