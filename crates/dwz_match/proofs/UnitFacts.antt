-- Edges of units and tops that may move.
use Rattle.std.proofs.Common.{◌≡◌, ◌↔◌, ℕ, ◌+◌, ◌<◌, All, Bool, true, false, List, [], ◌∷◌, ◌++◌, length, get_or, sym, ap, subst, ◌∙◌, inl, inr, ⊎_elim, arith}
use Rattle.dwz_model.specs.Lists.{In}
use Rattle.dwz_model.proofs.ListFacts.{in_at, in_cases, in_left, in_right}
use Rattle.dwz_groups.specs.declared.groups.Edge.{Edge}
use Rattle.dwz_groups.specs.Groups.{grouped}
use Rattle.dwz_groups.proofs.MarkLemmas.{each_pair, edge_grouped, grouped_edge, pair}
use Rattle.dwz_match.specs.Units.{MovesIn}

-- the edges are those of the tops before n
abbrev pub AreEdges : List ℕ → List Bool → ℕ → List Edge → Type 0
AreEdges units movable n edges = (e : Edge) → In e edges ↔ (MovesIn units movable e.key e.value × (e.value < n))

module _ (units : List ℕ) (movable : List Bool) (n : ℕ) (edges : List Edge) (are : AreEdges units movable n edges) where
  pub skip_edge : (get_or movable n false ≡ true → ⊥) → AreEdges units movable (n + 1) edges
  skip_edge stays e = (
    λ i. let o = (are e).0 i in (o.0, (let l = o.1 in omega (arith, l))),
    λ h. ⊎_elim (λ (before : e.value < n). (are e).1 (h.0, before)) (λ (here : e.value ≡ n). absurd (stays (ap (λ (k : ℕ). get_or movable k false) (sym here) ∙ h.0.moves))) (let l = h.1 in grind (arith, l)),
  )

  one_edge : (e : Edge) → In e (pair (get_or units n 0) n ∷ []) → pair (get_or units n 0) n ≡ e
  one_edge e (inl p) = p
  one_edge e (inr i) = absurd i

  pub next_edge : n < length units → get_or movable n false ≡ true → AreEdges units movable (n + 1) (edges ++ pair (get_or units n 0) n ∷ [])
  next_edge l moves e = (
    λ i. ⊎_elim
        (λ (j : In e edges). let o = (are e).0 j in (o.0, (let m = o.1 in omega (arith, m))))
        (λ (j : In e (pair (get_or units n 0) n ∷ [])).
        let p = one_edge e j in
        let v : n ≡ e.value = ap (λ (w : Edge). w.value) p in
        let k : get_or units n 0 ≡ e.key = ap (λ (w : Edge). w.key) p in (
          record {
            there = omega (arith, l, v);
            unit = ap (λ (w : ℕ). get_or units w 0) (sym v) ∙ k;
            moves = ap (λ (w : ℕ). get_or movable w false) (sym v) ∙ moves;
          },
          omega (arith, v),
        ))
        (in_cases e edges (pair (get_or units n 0) n ∷ []) i),
    λ h. ⊎_elim
        (λ (before : e.value < n). in_left e edges (pair (get_or units n 0) n ∷ []) ((are e).1 (h.0, before)))
        (λ (here : e.value ≡ n).
        let k : get_or units n 0 ≡ e.key = ap (λ (w : ℕ). get_or units w 0) (sym here) ∙ h.0.unit in
        in_right e edges (pair (get_or units n 0) n ∷ []) (inl (λ j. record { key = k j; value = sym here j })))
        (let m = h.1 in grind (arith, m)),
  )

-- ---- all of them

module _ (units : List ℕ) (movable : List Bool) (edges : List Edge) (are : (e : Edge) → In e edges ↔ MovesIn units movable e.key e.value) (count : ℕ)
    (low : (u : ℕ) → In u units → u < count) where
  unit_low : (u t : ℕ) → MovesIn units movable u t → u < count
  unit_low u t h = subst (λ (k : ℕ). k < count) h.unit (low (get_or units t 0) (in_at units t h.there))

  pub keys_low : All (λ (e : Edge). e.key < count) edges
  keys_low = each_pair (λ (e : Edge). e.key < count) edges (λ e i. unit_low e.key e.value ((are e).0 i))

  pub grouped_moves : (u t : ℕ) → In t (get_or (grouped count edges) u []) ↔ MovesIn units movable u t
  grouped_moves u t = (λ i. (are (pair u t)).0 (grouped_edge count u t edges i), λ h. edge_grouped count u t edges (unit_low u t h) ((are (pair u t)).1 h))
