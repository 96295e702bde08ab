-- The entries of files in their own tops, and as looks across files have them.
use Rattle.std.proofs.Common.{◌≡◌, ℕ, suc, ◌+◌, ◌-◌, ◌<◌, List, [], ◌∷◌, ◌++◌, length, map, get_or, Option, Some, None, refl, sym, ap, subst, ◌∙◌, inl, inr, ⊎_elim, arith}
use Rattle.std.specs.List.{range_with_len}
use Rattle.std.proofs.Math.ListN.{get_or-append}
use Rattle.std.proofs.Math.Seq.{get_or-append_right}
use Rattle.std.proofs.lemmas.List.{append_assoc, length-append, length-map}
use Rattle.std.proofs.lemmas.List.FromFn.{get_or-map-range_with_len, length-range_with_len}
use Rattle.dwz_model.proofs.ListFacts.{in_cases, in_left, in_right}
use Rattle.dwz_def_reading.specs.Documents.{Compile, DwUnit, Entries, Kind, Node, OfType, Partial}
use Rattle.dwz_def_reading.specs.Trees.{End, Entry}
use Rattle.dwz_def_reading.specs.Lists.{In}
use Rattle.dwz_def_tops.specs.Seen.{IsPartial}
use Rattle.dwz_def_tops.specs.Spaces.{space_text, tops_under}
use Rattle.dwz_def_tops.specs.Spots.{EntryName, InType, RootOf, SpaceAt, Standing, Within, below_spots, entry_spots, number_tops, spot_numbering, spots_from, top_count, top_spots}
use Rattle.dwz_def_check.specs.CrossNames.{AtPath, CrossName, WholeSpace, cross_names_below, cross_names_from, cross_names_under, cross_unit_names, next_whole, unit_tops}
use Rattle.dwz_def_check.proofs.TopLists.{tops_count}
use Rattle.dwz_graph.specs.Names.{top_in}
use Rattle.dwz_reuse.specs.Refers.{own_at, own_in, own_numbers, own_of}

abbrev Called : Type 0
Called = ℕ × CrossName

abbrev Spot : Type 0
Spot = ℕ × EntryName

-- the entries of units with their names, by their numbers
unfoldable pub pairs_from : ℕ → ℕ → List (DwUnit ℕ) → List Spot
pairs_from unit top [] = []
pairs_from unit top (u ∷ units) =
    (u.root.at, RootOf unit) ∷ (below_spots unit top u.kind u.below ++ pairs_from (suc unit) (top + top_count u.kind u.below) units)

-- ---- entries in step: both stand at one place, and are in one top, by its own number

module _ (own : List (Option ℕ)) where
  abbrev pub InStep : List Spot → List Called → Type 0
  InStep [] [] = Unit {0}
  InStep (s ∷ ss) (x ∷ xs) = (s.0 ≡ x.0) × (top_in s.1 ≡ own_of own x.1) × InStep ss xs
  InStep _ _ = ⊥

  step_append : (ss ts : List Spot) (xs ys : List Called) → InStep ss xs → InStep ts ys → InStep (ss ++ ts) (xs ++ ys)
  step_append [] ts [] ys h k = k
  step_append [] ts (x ∷ xs) ys h k = absurd h
  step_append (s ∷ ss) ts [] ys h k = absurd h
  step_append (s ∷ ss) ts (x ∷ xs) ys h k = (h.0, h.1, step_append ss ts xs ys h.2 k)

  -- beside each name stands one in step
  pub record HasStep (ss : List Spot) (x : Called) : Type 0 where
    pub spot : Spot
    pub there : In spot ss
    pub place : spot.0 ≡ x.0
    pub same : top_in spot.1 ≡ own_of own x.1

  pub step_in : (ss : List Spot) (xs : List Called) (x : Called) → InStep ss xs → In x xs → HasStep ss x
  step_in [] [] x h i = absurd i
  step_in [] (y ∷ xs) x h i = absurd h
  step_in (s ∷ ss) [] x h i = absurd h
  step_in (s ∷ ss) (y ∷ xs) x h (inl e) = record { spot = s; there = inl refl; place = h.0 ∙ ap (λ (w : Called). w.0) e; same = h.1 ∙ ap (λ (w : Called). own_of own w.1) e }
  step_in (s ∷ ss) (y ∷ xs) x h (inr i) = (let o = step_in ss xs x h.2 i in record { spot = o.spot; there = inr o.there; place = o.place; same = o.same })

  below_step : (name : List ℕ → EntryName) (o : Option ℕ) → ((p : List ℕ) → top_in (name p) ≡ o) → (n : ℕ) → own_at own n ≡ o → (path above : List ℕ) (i j : ℕ) (f : Entries ℕ)
      → InStep (entry_spots name path i f) (cross_names_below n above j f)
  unfolding entry_spots cross_names_below
  below_step name o is n at path above i j End = tt
  below_step name o is n at path above i j (Entry e c g) = (
    refl,
    is (i ∷ path) ∙ sym at,
    (step_append _ _ _ _ (below_step name o is n at (i ∷ path) (j ∷ above) 0 0 c) (below_step name o is n at path above (suc i) (suc j) g)),
  )

  -- the tops from one number on have own numbers from another on
  abbrev Shifted : ℕ → ℕ → ℕ → Type 0
  Shifted m n many = (k : ℕ) → k < many → own_at own (n + k) ≡ Some (m + k)

  module _ (unit : ℕ) (space : List (List ℕ) → CrossName) (free : (ts : List (List ℕ)) → own_of own (space ts) ≡ None) where
    abbrev at : List ℕ → ℕ → Standing
    at path i = record { path = path; index = i }

    abbrev spots_by : List ℕ → ℕ → ℕ → Node ℕ → Entries ℕ → Option (List ℕ) → Entries ℕ → List Spot
    spots_by path i m e f o g = elim o as (λ _. List Spot) [
      | None ↦ (e.at, Within m []) ∷ entry_spots (Within m) [] 0 f ++ number_tops (spot_numbering unit) (at path (suc i)) (suc m) g
      | Some text ↦ (e.at, SpaceAt unit (i ∷ path)) ∷ number_tops (spot_numbering unit) (at (i ∷ path) 0) m f ++ number_tops (spot_numbering unit) (at path (suc i)) (m + tops_under f) g
    ]

    abbrev names_by : List (List ℕ) → ℕ → Node ℕ → Entries ℕ → Option (List ℕ) → Entries ℕ → List Called
    names_by ns n e f o g = elim o as (λ _. List Called) [
      | None ↦ (e.at, AtPath n []) ∷ cross_names_below n [] 0 f ++ cross_names_under space ns (suc n) g
      | Some text ↦ (e.at, space (ns ++ text ∷ [])) ∷ cross_names_under space (ns ++ text ∷ []) n f ++ cross_names_under space ns (n + tops_under f) g
    ]

    abbrev count_by : Option (List ℕ) → Entries ℕ → Entries ℕ → ℕ
    count_by o f g = elim o as (λ _. ℕ) [ None ↦ suc (tops_under g) | Some text ↦ tops_under f + tops_under g ]

    abbrev Steps : List ℕ → List (List ℕ) → ℕ → ℕ → ℕ → Entries ℕ → Type 0
    Steps path ns i m n f = Shifted m n (tops_under f) → InStep (number_tops (spot_numbering unit) (at path i) m f) (cross_names_under space ns n f)

    under_step : (path : List ℕ) (ns : List (List ℕ)) (i m n : ℕ) (f : Entries ℕ) → Steps path ns i m n f
    unfolding cross_names_under tops_under
    under_step path ns i m n End h = tt
    under_step path ns i m n (Entry e f g) h =
        go (space_text e) (λ more k l. under_step (i ∷ path) more 0 k l f) (λ k l. under_step path ns (suc i) k l g) h where
          go : (o : Option (List ℕ)) → ((more : List (List ℕ)) (k l : ℕ) → Steps (i ∷ path) more 0 k l f) → ((k l : ℕ) → Steps path ns (suc i) k l g) → Shifted m n (count_by o f g)
              → InStep (spots_by path i m e f o g) (names_by ns n e f o g)
          go None inside behind sh =
              let z : own_at own n ≡ Some m =
              (let a : n ≡ n + 0 = omega arith in ap (own_at own) a) ∙ sh 0 (omega arith) ∙ (let b : m + 0 ≡ m = omega arith in ap (λ (k : ℕ). Some k) b) in (
                refl,
                sym z,
                (step_append _ _ _ _ (below_step (Within m) (Some m) (λ p. refl) n z [] [] 0 0 f)
                    (behind (suc m) (suc n) (λ k l. (let a : suc n + k ≡ n + suc k = omega arith in ap (own_at own) a) ∙ sh (suc k) (omega (arith, l))
                    ∙ (let b : m + suc k ≡ suc m + k = omega arith in ap (λ (w : ℕ). Some w) b)))),
              )
          go (Some text) inside behind sh = (
            refl,
            sym (free (ns ++ text ∷ [])),
            (step_append _ _ _ _ (inside (ns ++ text ∷ []) m n (λ k l. sh k (omega (arith, l))))
                (behind (m + tops_under f) (n + tops_under f) (λ k l. (let a : n + tops_under f + k ≡ n + (tops_under f + k) = omega arith in ap (own_at own) a) ∙ sh (tops_under f + k) (omega (arith, l))
                ∙ (let b : m + (tops_under f + k) ≡ m + tops_under f + k = omega arith in ap (λ (w : ℕ). Some w) b)))),
          )

-- ---- of units

own_part : (front rest all : List (Option ℕ)) (top many : ℕ) → all ≡ front ++ (map Some (range_with_len top many) ++ rest) → Shifted all top (length front) many
own_part front rest all top many is k l =
    let own = map Some (range_with_len top many) in
    let long : length own ≡ many = length-map (range_with_len top many) Some ∙ length-range_with_len top many in
    let e : length front + k - length front ≡ k = omega arith in
    ap (λ (w : List (Option ℕ)). get_or w (length front + k) None) is
    ∙ get_or-append_right front (own ++ rest) (length front + k) None (omega arith)
    ∙ ap (λ (n : ℕ). get_or (own ++ rest) n None) e
    ∙ get_or-append own rest None k (omega (arith, l, long))
    ∙ get_or-map-range_with_len Some top many k (top + k) None l refl

none_part : (front rest all : List (Option ℕ)) → all ≡ front ++ (None ∷ rest) → own_at all (length front) ≡ None
none_part front rest all is =
    let e : length front - length front ≡ 0 = omega arith in
    ap (λ (w : List (Option ℕ)). get_or w (length front) None) is
    ∙ get_or-append_right front (None ∷ rest) (length front) None (omega arith)
    ∙ ap (λ (n : ℕ). get_or (None ∷ rest) n None) e

pub from_step : (own front : List (Option ℕ)) (unit top whole : ℕ) (units : List (DwUnit ℕ)) → ((u : DwUnit ℕ) → In u units → IsPartial u.kind → ⊥) → own ≡ front ++ own_numbers top units
    → InStep own (pairs_from unit top units) (cross_names_from whole (length front) units)
unfolding pairs_from cross_names_from own_numbers top_spots
from_step own front unit top whole [] np is = tt
from_step own front unit top whole (u ∷ units) np is =
    by u.kind (np u (inl refl)) is (λ more t w e. from_step own more (suc unit) t w units (λ v i. np v (inr i)) e) where
      by : (k : Kind ℕ) → (IsPartial k → ⊥) → own ≡ front ++ (own_in top k u ++ own_numbers (top + top_count k u.below) units)
          → ((more : List (Option ℕ)) (t w : ℕ) → own ≡ more ++ own_numbers t units → InStep own (pairs_from (suc unit) t units) (cross_names_from w (length more) units))
          → InStep own ((u.root.at, RootOf unit) ∷ (below_spots unit top k u.below ++ pairs_from (suc unit) (top + top_count k u.below) units))
          (cross_unit_names whole (length front) k u ++ cross_names_from (next_whole k whole) (length front + length (unit_tops k u)) units)
      by Compile p e rest =
          let more = front ++ own_in top Compile u in
          let long : length more ≡ length front + length (unit_tops Compile u) = (
          let a = length-append front (own_in top Compile u) in
          let b = length-map (range_with_len top (tops_under u.below)) Some in
          let c = length-range_with_len top (tops_under u.below) in
          let d : length (unit_tops Compile u) ≡ tops_under u.below = tops_count [] u.below in
          omega (arith, a, b, c, d)) in
          let later : InStep own (pairs_from (suc unit) (top + top_count Compile u.below) units) (cross_names_from (suc whole) (length front + length (unit_tops Compile u)) units) =
          subst (λ (n : ℕ). InStep own (pairs_from (suc unit) (top + top_count Compile u.below) units) (cross_names_from (suc whole) n units)) long
          (rest more (top + top_count Compile u.below) (suc whole) (e ∙ sym (append_assoc front (own_in top Compile u) (own_numbers (top + top_count Compile u.below) units)))) in (
            refl,
            refl,
            step_append own _ _ _ _
                (under_step own unit (WholeSpace whole) (λ ts. refl) [] [] 0 top (length front) u.below (own_part front (own_numbers (top + top_count Compile u.below) units) own top (tops_under u.below) e)) later,
          )
      by (OfType signature main) p e rest =
          let more = front ++ None ∷ [] in
          let long : length more ≡ length front + length (unit_tops (OfType signature main) u) = (let nones : List (Option ℕ) = None ∷ [] in let a = length-append front nones in omega (arith, a)) in
          let none = none_part front (own_numbers (top + 0) units) own e in
          let later : InStep own (pairs_from (suc unit) (top + 0) units) (cross_names_from (suc whole) (length front + length (unit_tops (OfType signature main) u)) units) =
          subst (λ (n : ℕ). InStep own (pairs_from (suc unit) (top + 0) units) (cross_names_from (suc whole) n units)) long
          (rest more (top + 0) (suc whole) (e ∙ sym (append_assoc front (None ∷ []) (own_numbers (top + 0) units)))) in
          (refl, sym none, step_append own _ _ _ _ (below_step own (InType unit) None (λ p. refl) (length front) none [] [] 0 0 u.below) later)
      by Partial p e rest = absurd (p tt)

-- they are among the names of places
pub pairs_spot : (unit top : ℕ) (units : List (DwUnit ℕ)) (s : Spot) → In s (pairs_from unit top units) → In s (spots_from unit top units)
unfolding pairs_from spots_from
pairs_spot unit top [] s i = absurd i
pairs_spot unit top (u ∷ units) s (inl e) = inr (inl e)
pairs_spot unit top (u ∷ units) s (inr i) = ⊎_elim
    (λ (a : In s (below_spots unit top u.kind u.below)). inr (inr (in_left s (below_spots unit top u.kind u.below) (spots_from (suc unit) (top + top_count u.kind u.below) units) a)))
    (λ (b : In s (pairs_from (suc unit) (top + top_count u.kind u.below) units)). inr (inr (in_right s (below_spots unit top u.kind u.below) (spots_from (suc unit) (top + top_count u.kind u.below) units)
    (pairs_spot (suc unit) (top + top_count u.kind u.below) units s b))))
    (in_cases s (below_spots unit top u.kind u.below) (pairs_from (suc unit) (top + top_count u.kind u.below) units) i)
