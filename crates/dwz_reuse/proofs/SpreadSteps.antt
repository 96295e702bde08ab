-- Edges from targets to the tops of a common file that refer into them, one after the other.
use Rattle.std.proofs.Common.{◌≡◌, ◌↔◌, ℕ, ◌+◌, ◌-◌, ◌<◌, ◌≤◌, All, List, [], ◌∷◌, ◌++◌, length, get_or, take, Some, slice_get, sym, ap, subst, ◌∙◌, inl, inr, ⊎_elim, arith}
use Rattle.std.proofs.lemmas.List.{take_all, take_more}
use Rattle.dwz_model.specs.Lists.{In}
use Rattle.dwz_model.proofs.ListFacts.{got_below, got_index_or, got_there, in_cases, in_left, in_right}
use Rattle.dwz_groups.specs.declared.groups.Edge.{Edge}
use Rattle.dwz_groups.specs.Groups.{grouped}
use Rattle.dwz_groups.specs.Spreading.{AreInside, sources_of}
use Rattle.dwz_groups.proofs.MarkLemmas.{each_pair, edge_grouped, grouped_edge, grouped_length, inside_at, pair}
use Rattle.dwz_reuse.specs.Spread.{AreSources, PutsSources}

-- the number at a place
pub found_at : (xs : List ℕ) (i d : ℕ) → i < length xs → slice_get xs i ≡ Some (get_or xs i d)
found_at xs i d l = let o = got_there xs i l in o.1 ∙ ap (λ (n : ℕ). Some n) (sym (got_index_or xs i o.0 d o.1))

only_one : (n t : ℕ) → In n (t ∷ []) → t ≡ n
only_one n t (inl p) = p
only_one n t (inr i) = absurd i

one_edge : (d e : Edge) → In e (d ∷ []) → d ≡ e
one_edge d e (inl p) = p
one_edge d e (inr i) = absurd i

module _ (first top : ℕ) (old now : List Edge) where
  pub puts_none : PutsSources first top [] old old
  puts_none e = (λ i. inl i, λ h. ⊎_elim (λ (a : In e old). a) (λ b. absurd b.1) h)

  more_skip : (ts : List ℕ) (t : ℕ) → t < first → PutsSources first top ts old now → PutsSources first top (ts ++ t ∷ []) old now
  more_skip ts t less h e = (
    λ i. ⊎_elim (λ (a : In e old). inl a) (λ b. inr (b.0, in_left (first + e.key) ts (t ∷ []) b.1)) ((h e).0 i),
    λ k. ⊎_elim
        (λ (a : In e old). (h e).1 (inl a))
        (λ b. ⊎_elim
        (λ (x : In (first + e.key) ts). (h e).1 (inr (b.0, x)))
        (λ (y : In (first + e.key) (t ∷ [])). absurd (let z = only_one (first + e.key) t y in omega (arith, z, less)))
        (in_cases (first + e.key) ts (t ∷ []) b.1))
        k,
  )

  more_put : (ts : List ℕ) (t : ℕ) → first ≤ t → PutsSources first top ts old now → PutsSources first top (ts ++ t ∷ []) old (now ++ pair (t - first) top ∷ [])
  more_put ts t le h e =
      let d : Edge = pair (t - first) top in (
        λ i. ⊎_elim
            (λ (j : In e now). ⊎_elim (λ (a : In e old). inl a) (λ b. inr (b.0, in_left (first + e.key) ts (t ∷ []) b.1)) ((h e).0 j))
            (λ (j : In e (d ∷ [])).
            let p = one_edge d e j in
            let key : t - first ≡ e.key = ap (λ (w : Edge). w.key) p in
            let value : top ≡ e.value = ap (λ (w : Edge). w.value) p in
            inr (sym value, in_right (first + e.key) ts (t ∷ []) (inl (omega (arith, key, le)))))
            (in_cases e now (d ∷ []) i),
        λ k. ⊎_elim
            (λ (a : In e old). in_left e now (d ∷ []) ((h e).1 (inl a)))
            (λ b. ⊎_elim
            (λ (x : In (first + e.key) ts). in_left e now (d ∷ []) ((h e).1 (inr (b.0, x))))
            (λ (y : In (first + e.key) (t ∷ [])).
            let z = only_one (first + e.key) t y in
            let key : t - first ≡ e.key = omega (arith, z) in
            in_right e now (d ∷ []) (inl (λ j. record { key = key j; value = sym b.0 j })))
            (in_cases (first + e.key) ts (t ∷ []) b.1))
            k,
      )

  take_one : (targets : List ℕ) (i t : ℕ) → slice_get targets i ≡ Some t → take (i + 1) targets ≡ take i targets ++ t ∷ []
  take_one targets i t got = take_more targets i t (got_below targets i t got) ∙ ap (λ (w : ℕ). take i targets ++ w ∷ []) (got_index_or targets i t t got)

  pub puts_skip : (targets : List ℕ) (i t : ℕ) → slice_get targets i ≡ Some t → t < first → PutsSources first top (take i targets) old now → PutsSources first top (take (i + 1) targets) old now
  puts_skip targets i t got less h = subst (λ (w : List ℕ). PutsSources first top w old now) (sym (take_one targets i t got)) (more_skip (take i targets) t less h)

  pub puts_next : (targets : List ℕ) (i t : ℕ) → slice_get targets i ≡ Some t → first ≤ t → PutsSources first top (take i targets) old now
      → PutsSources first top (take (i + 1) targets) old (now ++ pair (t - first) top ∷ [])
  puts_next targets i t got le h = subst (λ (w : List ℕ). PutsSources first top w old (now ++ pair (t - first) top ∷ [])) (sym (take_one targets i t got)) (more_put (take i targets) t le h)

  pub puts_all : (targets : List ℕ) (i : ℕ) → length targets ≤ i → PutsSources first top (take i targets) old now → PutsSources first top targets old now
  puts_all targets i le h = subst (λ (w : List ℕ). PutsSources first top w old now) (take_all i targets le) h

-- ---- of all tops

module _ (first : ℕ) (targets : List (List ℕ)) where
  -- of the tops before that one
  abbrev pub SourcesBefore : ℕ → List Edge → Type 0
  SourcesBefore n edges = (e : Edge) → In e edges ↔ (In (first + e.key) (get_or targets (first + e.value) []) × (e.value < n))

  pub none_before : SourcesBefore 0 []
  none_before e = (λ i. absurd i, λ h. absurd (let l = h.1 in omega (arith, l)))

  pub one_more : (n : ℕ) (old new : List Edge) → SourcesBefore n old → PutsSources first n (get_or targets (first + n) []) old new → SourcesBefore (n + 1) new
  one_more n old new before puts e = (
    λ i. ⊎_elim
        (λ (a : In e old). let o = (before e).0 a in (o.0, (let l = o.1 in omega (arith, l))))
        (λ b.
        let same : n ≡ e.value = sym b.0 in
        (subst (λ (k : ℕ). In (first + e.key) (get_or targets (first + k) [])) same b.1, omega (arith, same)))
        ((puts e).0 i),
    λ h. ⊎_elim
        (λ (less : e.value < n). (puts e).1 (inl ((before e).1 (h.0, less))))
        (λ (same : e.value ≡ n). (puts e).1 (inr (same, subst (λ (k : ℕ). In (first + e.key) (get_or targets (first + k) [])) same h.0)))
        (let l = h.1 in grind (arith, l)),
  )

  pub all_before : (n : ℕ) (edges : List Edge) → length targets ≤ first + n → SourcesBefore n edges → AreSources first targets edges
  all_before n edges last before e = (
    λ i. ((before e).0 i).0,
    λ h. (before e).1 (h, (let l = inside_at targets (first + e.value) (first + e.key) h in omega (arith, l, last))),
  )

-- ---- grouped

module _ (first count : ℕ) (targets : List (List ℕ)) (edges : List Edge) (are : AreSources first targets edges) (many : first + count ≡ length targets) (inside : AreInside targets) where
  pub keys_low : All (λ (e : Edge). e.key < count) edges
  keys_low = each_pair (λ (e : Edge). e.key < count) edges (λ e i.
      let l = inside (first + e.value) (first + e.key) ((are e).0 i) in
      omega (arith, l, many))

  pub sources_inside : AreInside (grouped count edges)
  sources_inside m n i =
      let there = (are (pair m n)).0 (grouped_edge count m n edges i) in
      let l = inside_at targets (first + n) (first + m) there in
      let long = grouped_length count edges in
      omega (arith, l, many, long)

pub source_is : (first count : ℕ) (targets : List (List ℕ)) (edges : List Edge) → AreSources first targets edges → (m n : ℕ) → In n (sources_of (grouped count edges) m)
    → In (first + m) (get_or targets (first + n) [])
source_is first count targets edges are m n i = (are (pair m n)).0 (grouped_edge count m n edges i)

pub is_source : (first count : ℕ) (targets : List (List ℕ)) (edges : List Edge) → AreSources first targets edges → (m n : ℕ) → m < count → In (first + m) (get_or targets (first + n) [])
    → In n (sources_of (grouped count edges) m)
is_source first count targets edges are m n l i = edge_grouped count m n edges l ((are (pair m n)).1 i)
