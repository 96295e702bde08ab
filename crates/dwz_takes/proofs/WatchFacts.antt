-- Who has a class, and who stands under it.
use Rattle.std.proofs.Common.{◌≡◌, ◌⊎◌, ℕ, ◌+◌, ◌<◌, ◌≤◌, ◌==◌, All, Bool, true, false, cond, List, [], ◌∷◌, ◌++◌, length, map, get_or, take, refl, sym, ap, subst, ◌∙◌, inl, inr, ⊎_elim, arith, eqb-true}
use Rattle.std.proofs.Math.ListN.{get_or-map}
use Rattle.std.proofs.lemmas.List.{length-map, take_all}
use Rattle.std.specs.Prelude.{nat_eq, slice_index}
use Rattle.std.specs.List.{dedup, dedup_from}
use Rattle.dwz_model.specs.Lists.{In}
use Rattle.dwz_model.proofs.ListFacts.{in_at, in_cases, in_left, in_right}
use Rattle.dwz_groups.specs.declared.groups.Edge.{Edge}
use Rattle.dwz_groups.specs.Groups.{grouped}
use Rattle.dwz_groups.proofs.MarkLemmas.{each_pair, edge_grouped, grouped_edge, grouped_length, inside_at, pair}
use Rattle.dwz_takes.specs.declared.rows.Rows.{Rows}
use Rattle.dwz_takes.specs.Steps.{AreHolders, AreWatched, AreWatchers, IsRarest, edges_from, held}
use Rattle.dwz_takes.specs.Takes.{AreRows, class_of, list_at}
use Rattle.dwz_takes.proofs.EdgeFacts.{edge_in, from_edges}
use Rattle.dwz_takes.proofs.MarkFacts.{each_next}

-- ---- the rarest class so far: it is that of one of all tops, and of those that were seen no class is rarer
pub record IsRarestOf (holders : List (List ℕ)) (classes tops seen : List ℕ) (k : ℕ) : Type 0 where
  pub one : (t : ℕ) × In t tops × (slice_index classes t ≡ k)
  pub least : (t : ℕ) → In t seen → length (list_at holders k) ≤ length (list_at holders (slice_index classes t))

pub rarest_next : (holders : List (List ℕ)) (classes tops : List ℕ) (i k j : ℕ) → i < length tops → IsRarestOf holders classes tops (take i tops) k
    → (j ≡ k) ⊎ (j ≡ slice_index classes (get_or tops i 0)) → length (list_at holders j) ≤ length (list_at holders k)
    → length (list_at holders j) ≤ length (list_at holders (slice_index classes (get_or tops i 0))) → IsRarestOf holders classes tops (take (i + 1) tops) j
rarest_next holders classes tops i k j l h which old new = record {
  one = ⊎_elim (λ (e : j ≡ k). (h.one.0, h.one.1, h.one.2 ∙ sym e)) (λ (e : j ≡ slice_index classes (get_or tops i 0)). (get_or tops i 0, in_at tops i l, sym e)) which;
  least = each_next (λ t. length (list_at holders j) ≤ length (list_at holders (slice_index classes t))) tops i l (λ t is. let m = h.least t is in omega (arith, m)) new;
}

pub rarest_init : (holders : List (List ℕ)) (classes tops : List ℕ) → 0 < length tops → IsRarestOf holders classes tops [] (slice_index classes (get_or tops 0 0))
rarest_init holders classes tops l = record { one = (get_or tops 0 0, in_at tops 0 l, refl); least = λ t is. absurd is }

pub rarest_all : (holders : List (List ℕ)) (classes tops : List ℕ) (i k : ℕ) → length tops ≤ i → IsRarestOf holders classes tops (take i tops) k → IsRarest holders classes tops k
rarest_all holders classes tops i k l h = record { one = h.one; least = λ t is. h.least t (subst (λ (ts : List ℕ). In t ts) (sym (take_all i tops l)) is) }

-- ---- equal numbers in a row

dedup_in : (k : ℕ) (xs : List ℕ) (n : ℕ) → In n (dedup_from nat_eq k xs) → In n (k ∷ xs)
dedup_in k [] n i = i
dedup_in k (x ∷ xs) n i = by (x == k) (dedup_in k xs n) (dedup_in x xs n) i
  where
    by : (t : Bool) → (In n (dedup_from nat_eq k xs) → In n (k ∷ xs)) → (In n (dedup_from nat_eq x xs) → In n (x ∷ xs)) → In n (cond t (dedup_from nat_eq k xs) (k ∷ dedup_from nat_eq x xs)) → In n (k ∷ x ∷ xs)
    by true same other j = ⊎_elim (λ e. inl e) (λ r. inr (inr r)) (same j)
    by false same other (inl e) = inl e
    by false same other (inr r) = inr (other r)

in_dedup : (k : ℕ) (xs : List ℕ) (n : ℕ) → In n (k ∷ xs) → In n (dedup_from nat_eq k xs)
in_dedup k [] n i = i
in_dedup k (x ∷ xs) n i = by (x == k) refl (in_dedup k xs n) (in_dedup x xs n) i
  where
    by : (t : Bool) → (x == k) ≡ t → (In n (k ∷ xs) → In n (dedup_from nat_eq k xs)) → (In n (x ∷ xs) → In n (dedup_from nat_eq x xs)) → In n (k ∷ x ∷ xs) → In n (cond t (dedup_from nat_eq k xs) (k ∷ dedup_from nat_eq x xs))
    by true e same other (inl s) = same (inl s)
    by true e same other (inr (inl s)) = same (inl (sym (eqb-true x k e) ∙ s))
    by true e same other (inr (inr r)) = same (inr r)
    by false e same other (inl s) = inl s
    by false e same other (inr r) = inr (other r)

pub in_distinct : (lists : List (List ℕ)) (k n : ℕ) → In n (list_at lists k) → In n (list_at (map (dedup nat_eq) lists) k)
in_distinct lists k n i = subst (λ (xs : List ℕ). In n xs) (sym (get_or-map (dedup nat_eq) lists k [])) (go (list_at lists k) i)
  where
    go : (xs : List ℕ) → In n xs → In n (dedup nat_eq xs)
    go [] j = j
    go (x ∷ xs) j = in_dedup x xs n j

pub distinct_in : (lists : List (List ℕ)) (k n : ℕ) → In n (list_at (map (dedup nat_eq) lists) k) → In n (list_at lists k)
distinct_in lists k n i = go (list_at lists k) (subst (λ (xs : List ℕ). In n xs) (get_or-map (dedup nat_eq) lists k []) i)
  where
    go : (xs : List ℕ) → In n (dedup nat_eq xs) → In n xs
    go [] j = j
    go (x ∷ xs) j = dedup_in x xs n j

-- ---- the units that have a class

pub class_low : (rows : Rows) → AreRows rows → (t : ℕ) → t < length rows.classes → class_of rows t < length rows.classes
class_low rows are t l = are.classes (class_of rows t) (in_at rows.classes t l)

pub held_low : (rows : Rows) → AreRows rows → All (λ (e : Edge). e.key < length rows.classes) (edges_from (held rows.classes) 0 rows.unit_tops)
held_low rows are = each_pair (λ (e : Edge). e.key < length rows.classes) (edges_from (held rows.classes) 0 rows.unit_tops) (λ e i.
    let r = from_edges (held rows.classes) 0 rows.unit_tops e i in
    subst (λ (k : ℕ). k < length rows.classes) (ap (λ (d : Edge). d.key) r.is) (class_low rows are r.number (are.unit_tops r.list r.number r.there)))

pub holders_by : (rows : Rows) → AreRows rows → AreHolders rows (map (dedup nat_eq) (grouped (length rows.classes) (edges_from (held rows.classes) 0 rows.unit_tops)))
holders_by rows are = let edges = edges_from (held rows.classes) 0 rows.unit_tops in record {
  len = length-map (grouped (length rows.classes) edges) (dedup nat_eq) ∙ grouped_length (length rows.classes) edges;
  each = λ k u. (
    λ i. let r = from_edges (held rows.classes) 0 rows.unit_tops (pair k u) (grouped_edge (length rows.classes) k u edges (distinct_in (grouped (length rows.classes) edges) k u i)) in
        let list : 0 + r.list ≡ u = ap (λ (d : Edge). d.value) r.is in
        let same : r.list ≡ u = omega (arith, list) in
        (r.number, subst (λ (m : ℕ). In r.number (list_at rows.unit_tops m)) same r.there, ap (λ (d : Edge). d.key) r.is),
    λ h. let e : held rows.classes u h.0 ≡ pair k u = ap (λ (m : ℕ). pair m u) h.2 in
        let low = subst (λ (m : ℕ). m < length rows.classes) h.2 (class_low rows are h.0 (are.unit_tops u h.0 h.1)) in
        in_distinct (grouped (length rows.classes) edges) k u (edge_grouped (length rows.classes) k u edges low (subst (λ (d : Edge). In d edges) e (edge_in (held rows.classes) u h.0 rows.unit_tops h.1))),
  );
}

-- ---- who stands under a class

pub watched_init : (rows : Rows) (holders : List (List ℕ)) → AreWatched rows holders [] 0
watched_init rows holders = record { part = λ e i. absurd i; rarest = λ e i. absurd i; found = λ p l t i. absurd (omega arith) }

pub watched_add : (rows : Rows) (holders : List (List ℕ)) (edges : List Edge) (p k : ℕ) → IsRarest holders rows.classes (list_at rows.part_tops p) k → AreWatched rows holders edges p
    → AreWatched rows holders (edges ++ pair k p ∷ []) (p + 1)
watched_add rows holders edges p k rarest h = record {
  part = λ e i. ⊎_elim (λ (j : In e edges). let l = h.part e j in omega (arith, l)) (λ (j : In e (pair k p ∷ [])). let s : p ≡ e.value = ap (λ (d : Edge). d.value) (only e j) in omega (arith, s)) (in_cases e edges (pair k p ∷ []) i);
  rarest = λ e i. ⊎_elim (λ (j : In e edges). h.rarest e j)
      (λ (j : In e (pair k p ∷ [])). subst (λ (d : Edge). IsRarest holders rows.classes (list_at rows.part_tops d.value) d.key) (only e j) rarest) (in_cases e edges (pair k p ∷ []) i);
  found = λ q l t i. ⊎_elim
      (λ (low : q < p). let r = h.found q low t i in (r.0, in_left r.0 edges (pair k p ∷ []) r.1, r.2))
      (λ (s : p ≡ q). (pair k p, in_right (pair k p) edges (pair k p ∷ []) (inl refl), s))
      (let P : Type 0 = (q < p) ⊎ (p ≡ q) in let r : P = grind arith in r);
}
  where
    only : (e : Edge) → In e (pair k p ∷ []) → pair k p ≡ e
    only e (inl s) = s
    only e (inr j) = absurd j

pub watched_skip : (rows : Rows) (holders : List (List ℕ)) (edges : List Edge) (p : ℕ) → list_at rows.part_tops p ≡ [] → AreWatched rows holders edges p → AreWatched rows holders edges (p + 1)
watched_skip rows holders edges p none h = record {
  part = λ e i. let l = h.part e i in omega (arith, l);
  rarest = h.rarest;
  found = λ q l t i. ⊎_elim
      (λ (low : q < p). h.found q low t i)
      (λ (s : p ≡ q). absurd (subst (λ (ts : List ℕ). In t ts) none (subst (λ (m : ℕ). In t (list_at rows.part_tops m)) (sym s) i)))
      (let P : Type 0 = (q < p) ⊎ (p ≡ q) in let r : P = grind arith in r);
}

pub watched_low : (rows : Rows) → AreRows rows → (holders : List (List ℕ)) (edges : List Edge) (n : ℕ) → AreWatched rows holders edges n → All (λ (e : Edge). e.key < length rows.classes) edges
watched_low rows are holders edges n h = each_pair (λ (e : Edge). e.key < length rows.classes) edges (λ e i.
    let r = h.rarest e i in
    subst (λ (k : ℕ). k < length rows.classes) r.one.2 (class_low rows are r.one.0 (are.part_tops e.value r.one.0 r.one.1)))

pub watchers_by : (rows : Rows) → AreRows rows → (holders : List (List ℕ)) (edges : List Edge) → AreWatched rows holders edges (length rows.part_tops)
    → AreWatchers rows holders (grouped (length rows.classes) edges)
watchers_by rows are holders edges h = record {
  len = grouped_length (length rows.classes) edges;
  part = λ k p i. h.part (pair k p) (grouped_edge (length rows.classes) k p edges i);
  rarest = λ k p i. h.rarest (pair k p) (grouped_edge (length rows.classes) k p edges i);
  found = λ p t i.
      let r = h.found p (inside_at rows.part_tops p t i) t i in
      let e : r.0 ≡ pair r.0.key p = ap (λ (m : ℕ). pair r.0.key m) r.2 in
      let s = h.rarest r.0 r.1 in
      let low = subst (λ (k : ℕ). k < length rows.classes) s.one.2 (class_low rows are s.one.0 (are.part_tops r.0.value s.one.0 s.one.1)) in
      (r.0.key, edge_grouped (length rows.classes) r.0.key p edges low (subst (λ (d : Edge). In d edges) e r.1));
}
