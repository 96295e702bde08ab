-- Lists of units and of targets, and what stands behind them.
use Rattle.std.proofs.Common.{◌≡◌, ℕ, zero, suc, ◌+◌, ◌-◌, ◌<◌, ◌≤◌, ◌==◌, All, cond, Bool, List, [], ◌∷◌, ◌++◌, length, map, filter, get_or, drop}
use Rattle.std.proofs.Common.{refl, sym, ap, ◌∙◌, eq-eqb, arith}
use Rattle.std.specs.Prelude.{replicate}
use Rattle.std.specs.List.{range_with_len}
use Rattle.std.proofs.lemmas.Bool.{ne_eqb}
use Rattle.std.proofs.lemmas.List.{append-nil, append_assoc, drop_all, map-append}
use Rattle.std.proofs.lemmas.List.Elements.{filter-append}
use Rattle.dwz_model.proofs.ListFacts.{drop_here, drop_pairs, got_map, item_got}
use Rattle.dwz_groups.specs.declared.groups.Edge.{Edge}
use Rattle.dwz_groups.specs.Groups.{grouped, values_at}
use Rattle.dwz_groups.proofs.MarkLemmas.{each_pair, inside_at}
use Rattle.dwz_takes.specs.Steps.{edges_from}
use Rattle.dwz_takes.proofs.EdgeFacts.{from_edges}
use Rattle.dwz_check_index.specs.declared.index.UnitStart.{UnitStart}
use Rattle.dwz_match.specs.Parts.{edge_to, start_in}
use Rattle.dwz_layout_input.specs.Behind.{units_from}

-- ---- where tops begin

pub start_here : (end : ℕ) (starts : List UnitStart) (n : ℕ) (s : UnitStart) → n < length starts → s ≡ get_or starts n s → s.top ≡ start_in end (drop n (map (λ s. s.top) starts))
start_here end starts n s l e = sym (ap (start_in end) (drop_here (map (λ (w : UnitStart). w.top) starts) n s.top (got_map (λ (w : UnitStart). w.top) starts n s (item_got starts n s l e))))

-- ---- units of tops

pub units_next : (end unit k : ℕ) (starts units : List ℕ) (from to : ℕ) → k < length starts → from ≡ start_in end (drop k starts) → to ≡ start_in end (drop (k + 1) starts)
    → (units ++ replicate (to - from) (unit + k)) ++ units_from end (unit + (k + 1)) (drop (k + 1) starts) ≡ units ++ units_from end (unit + k) (drop k starts)
units_next end unit k starts units from to l a b =
    let here : drop k starts ≡ get_or starts k 0 ∷ drop (k + 1) starts = drop_pairs starts k 0 l in
    let first : from ≡ get_or starts k 0 = a ∙ ap (start_in end) here in
    let one : unit + (k + 1) ≡ suc (unit + k) = omega arith in
    append_assoc units (replicate (to - from) (unit + k)) (units_from end (unit + (k + 1)) (drop (k + 1) starts))
    ∙ (λ i. units ++ (replicate (b i - first i) (unit + k) ++ units_from end (one i) (drop (k + 1) starts)))
    ∙ ap (λ (w : List ℕ). units ++ units_from end (unit + k) w) (sym here)

pub units_last : (end unit k : ℕ) (starts units all : List ℕ) → length starts ≤ k → units ++ units_from end (unit + k) (drop k starts) ≡ all → units ≡ all
units_last end unit k starts units all l e = sym (append-nil units) ∙ ap (λ (w : List ℕ). units ++ units_from end (unit + k) w) (sym (drop_all k starts l)) ∙ e

-- ---- edges to targets

values_append : (ps qs : List Edge) (v : ℕ) → values_at (ps ++ qs) v ≡ values_at ps v ++ values_at qs v
unfolding values_at
values_append ps qs v = ap (map (λ (p : Edge). p.value)) (filter-append (λ (p : Edge). p.key == v) ps qs) ∙ map-append (λ (p : Edge). p.value) (filter (λ (p : Edge). p.key == v) ps)
    (filter (λ (p : Edge). p.key == v) qs)

-- under its own number a list stands, and under others nothing of it
own_values : (s : ℕ) (ns : List ℕ) → values_at (map (edge_to s) ns) s ≡ ns
unfolding values_at
own_values s [] = refl
own_values s (n ∷ ns) = ap (λ (b : Bool). map (λ (p : Edge). p.value) (cond b (edge_to s n ∷ filter (λ (p : Edge). p.key == s) (map (edge_to s) ns)) (filter (λ (p : Edge). p.key == s) (map (edge_to s) ns))))
    (eq-eqb s s refl) ∙ ap (λ (w : List ℕ). n ∷ w) (own_values s ns)

other_values : (s k : ℕ) (ns : List ℕ) → s < k → values_at (map (edge_to s) ns) k ≡ []
unfolding values_at
other_values s k [] l = refl
other_values s k (n ∷ ns) l = ap (λ (b : Bool). map (λ (p : Edge). p.value) (cond b (edge_to s n ∷ filter (λ (p : Edge). p.key == k) (map (edge_to s) ns)) (filter (λ (p : Edge). p.key == k) (map (edge_to s) ns))))
    (ne_eqb s k (λ e. omega (arith, e, l))) ∙ other_values s k ns l

later_values : (s k : ℕ) (lists : List (List ℕ)) → k < s → values_at (edges_from edge_to s lists) k ≡ []
unfolding values_at
later_values s k [] l = refl
later_values s k (ns ∷ lists) l =
    values_append (map (edge_to s) ns) (edges_from edge_to (suc s) lists) k
    ∙ (λ i. above ns i ++ later_values (suc s) k lists (omega arith) i)
  where
    above : (ms : List ℕ) → values_at (map (edge_to s) ms) k ≡ []
    above [] = refl
    above (m ∷ ms) = ap (λ (b : Bool). map (λ (p : Edge). p.value) (cond b (edge_to s m ∷ filter (λ (p : Edge). p.key == k) (map (edge_to s) ms)) (filter (λ (p : Edge). p.key == k) (map (edge_to s) ms))))
        (ne_eqb s k (λ e. omega (arith, e, l))) ∙ above ms

values_are : (s k : ℕ) (lists : List (List ℕ)) → values_at (edges_from edge_to s lists) (s + k) ≡ get_or lists k []
unfolding values_at
values_are s k [] = refl
values_are s zero (ns ∷ lists) =
    let z : s + 0 ≡ s = omega arith in
    ap (values_at (edges_from edge_to s (ns ∷ lists))) z
    ∙ values_append (map (edge_to s) ns) (edges_from edge_to (suc s) lists) s
    ∙ (λ i. own_values s ns i ++ later_values (suc s) s lists (omega arith) i)
    ∙ append-nil ns
values_are s (suc k) (ns ∷ lists) =
    let e : s + suc k ≡ suc s + k = omega arith in
    values_append (map (edge_to s) ns) (edges_from edge_to (suc s) lists) (s + suc k)
    ∙ (λ i. other_values s (s + suc k) ns (omega arith) i ++ values_at (edges_from edge_to (suc s) lists) (e i))
    ∙ values_are (suc s) k lists

none_there : (f : ℕ → List ℕ) (s count : ℕ) → ((k : ℕ) → f (s + k) ≡ []) → map f (range_with_len s count) ≡ replicate count []
none_there f s zero h = refl
none_there f s (suc count) h =
    let z : s ≡ s + 0 = omega arith in
    (λ i. (ap f z ∙ h 0) i ∷ none_there f (s + 1) count (λ k. (let e : s + 1 + k ≡ s + suc k = omega arith in ap f e ∙ h (suc k))) i)

all_there : (f : ℕ → List ℕ) (s count : ℕ) (lists : List (List ℕ)) → ((k : ℕ) → f (s + k) ≡ get_or lists k []) → map f (range_with_len s (length lists + count)) ≡ lists ++ replicate count []
all_there f s count [] h = let z : 0 + count ≡ count = omega arith in ap (λ (n : ℕ). map f (range_with_len s n)) z ∙ none_there f s count h
all_there f s count (ns ∷ lists) h =
    let z : s ≡ s + 0 = omega arith in
    let more : suc (length lists) + count ≡ suc (length lists + count) = omega arith in
    ap (λ (n : ℕ). map f (range_with_len s n)) more
    ∙ (λ i. (ap f z ∙ h 0) i ∷ all_there f (s + 1) count lists (λ k. (let e : s + 1 + k ≡ s + suc k = omega arith in ap f e ∙ h (suc k))) i)

-- the lists, and an empty one for each of so many behind them
pub grouped_are : (count : ℕ) (lists : List (List ℕ)) → grouped (length lists + count) (edges_from edge_to 0 lists) ≡ lists ++ replicate count []
unfolding grouped
grouped_are count lists = all_there (values_at (edges_from edge_to 0 lists)) 0 count lists (λ k. values_are 0 k lists)

pub edges_low : (count : ℕ) (lists : List (List ℕ)) → All (λ p. p.key < length lists + count) (edges_from edge_to 0 lists)
edges_low count lists = each_pair (λ (e : Edge). e.key < length lists + count) (edges_from edge_to 0 lists) (λ e i.
    let r = from_edges edge_to 0 lists e i in
    let l = inside_at lists r.list r.number r.there in
    let key : 0 + r.list ≡ e.key = ap (λ (w : Edge). w.key) r.is in
    omega (arith, l, key))
