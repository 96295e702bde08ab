-- The entries of the tops of a common file, as looks across files call them, have the names of tops behind those of files.
use Rattle.std.proofs.Common.{◌≡◌, ℕ, zero, suc, ◌+◌, List, [], ◌∷◌, ◌++◌, length, map, Option, Some, None, slice_get, refl, ap, subst, ◌∙◌, inl, inr}
use Rattle.std.proofs.lemmas.List.{length-append}
use Rattle.dwz_def_reading.specs.Documents.{Compile, DwUnit, Entries, Kind, Node, OfType, Partial}
use Rattle.dwz_def_reading.specs.Lists.{In}
use Rattle.dwz_def_reading.specs.Trees.{End, Entry}
use Rattle.dwz_def_tops.specs.Seen.{IsPartial}
use Rattle.dwz_def_tops.specs.Spaces.{space_text, tops_under}
use Rattle.dwz_def_tops.specs.Spots.{EntryName, RootOf, SpaceAt, Standing, Within, entry_spots, number_tops, spot_numbering, top_spots, tops_among}
use Rattle.dwz_def_check.specs.CrossNames.{AtPath, CrossName, PartSpace, cross_names_below, cross_names_from, cross_names_under, cross_tops, cross_unit_names, next_whole, unit_tops}
use Rattle.dwz_def_check.proofs.TopLists.{tops_count}
use Rattle.dwz_def_taken.specs.Beside.{as_compile}
use Rattle.dwz_graph.specs.Names.{names_from}

abbrev Called : Type 0
Called = ℕ × CrossName

abbrev Spot : Type 0
Spot = ℕ × EntryName

abbrev names_in : List Spot → List EntryName
names_in spots = map (λ x. x.1) spots

-- ---- names in step: what is called a top has the name of that top

abbrev InStep : List EntryName → List Called → Type 0
InStep [] [] = Unit {0}
InStep (s ∷ ss) (x ∷ xs) = ((top : ℕ) → x.1 ≡ AtPath top [] → s ≡ Within top []) × InStep ss xs
InStep _ _ = ⊥

step_append : (ss ts : List EntryName) (xs ys : List Called) → InStep ss xs → InStep ts ys → InStep (ss ++ ts) (xs ++ ys)
step_append [] ts [] ys h k = k
step_append [] ts (x ∷ xs) ys h k = absurd h
step_append (s ∷ ss) ts [] ys h k = absurd h
step_append (s ∷ ss) ts (x ∷ xs) ys h k = (h.0, step_append ss ts xs ys h.1 k)

step_joined : (ss ts : List Spot) (xs ys : List Called) → InStep (names_in ss) xs → InStep (names_in ts) ys → InStep (names_in (ss ++ ts)) (xs ++ ys)
step_joined [] ts [] ys h k = k
step_joined [] ts (x ∷ xs) ys h k = absurd h
step_joined (s ∷ ss) ts [] ys h k = absurd h
step_joined (s ∷ ss) ts (x ∷ xs) ys h k = (h.0, step_joined ss ts xs ys h.1 k)

pub step_top : (ss : List EntryName) (xs : List Called) (k at top : ℕ) → InStep ss xs → slice_get xs k ≡ Some (at, AtPath top []) → slice_get ss k ≡ Some (Within top [])
step_top [] [] k at top h e = absurd cc
step_top [] (x ∷ xs) k at top h e = absurd h
step_top (s ∷ ss) [] k at top h e = absurd h
step_top (s ∷ ss) (x ∷ xs) zero at top h e = (let same : x ≡ (at, AtPath top []) = cc in ap (λ (w : EntryName). Some w) (h.0 top (ap (λ (w : Called). w.1) same)))
step_top (s ∷ ss) (x ∷ xs) (suc k) at top h e = step_top ss xs k at top h.1 e

below_step : (n : ℕ) (path : List ℕ) (i : ℕ) (f : Entries ℕ) → InStep (names_in (entry_spots (Within n) path i f)) (cross_names_below n path i f)
unfolding entry_spots cross_names_below
below_step n path i End = tt
below_step n path i (Entry e f g) = (
  λ top is. absurd cc,
  step_joined (entry_spots (Within n) (i ∷ path) 0 f) (entry_spots (Within n) path (suc i) g) (cross_names_below n (i ∷ path) 0 f) (cross_names_below n path (suc i) g)
      (below_step n (i ∷ path) 0 f) (below_step n path (suc i) g),
)

same_top : (n top : ℕ) → AtPath n [] ≡ AtPath top [] → Within n [] ≡ Within top []
same_top n top e = let a : n ≡ top = cc in ap (λ (k : ℕ). Within k []) a

module _ (unit : ℕ) where
  abbrev at : List ℕ → ℕ → Standing
  at path i = record { path = path; index = i }

  abbrev spots_by : List ℕ → ℕ → ℕ → Node ℕ → Entries ℕ → Option (List ℕ) → Entries ℕ → List Spot
  spots_by path i n e f o g = elim o as (λ _. List Spot) [
    | None ↦ (e.at, Within n []) ∷ entry_spots (Within n) [] 0 f ++ number_tops (spot_numbering unit) (at path (suc i)) (suc n) g
    | Some text ↦ (e.at, SpaceAt unit (i ∷ path)) ∷ number_tops (spot_numbering unit) (at (i ∷ path) 0) n f ++ number_tops (spot_numbering unit) (at path (suc i)) (n + tops_under f) g
  ]

  abbrev names_by : List (List ℕ) → ℕ → Node ℕ → Entries ℕ → Option (List ℕ) → Entries ℕ → List Called
  names_by names n e f o g = elim o as (λ _. List Called) [
    | None ↦ (e.at, AtPath n []) ∷ cross_names_below n [] 0 f ++ cross_names_under PartSpace names (suc n) g
    | Some text ↦ (e.at, PartSpace (names ++ text ∷ [])) ∷ cross_names_under PartSpace (names ++ text ∷ []) n f ++ cross_names_under PartSpace names (n + tops_under f) g
  ]

  under_step : (path : List ℕ) (names : List (List ℕ)) (i n : ℕ) (f : Entries ℕ) → InStep (names_in (number_tops (spot_numbering unit) (at path i) n f)) (cross_names_under PartSpace names n f)
  unfolding cross_names_under
  under_step path names i n End = tt
  under_step path names i n (Entry e f g) =
      go (space_text e) (λ more m. under_step (i ∷ path) more 0 m f) (λ m. under_step path names (suc i) m g)
    where
      go : (o : Option (List ℕ)) → ((more : List (List ℕ)) (m : ℕ) → InStep (names_in (number_tops (spot_numbering unit) (at (i ∷ path) 0) m f)) (cross_names_under PartSpace more m f))
          → ((m : ℕ) → InStep (names_in (number_tops (spot_numbering unit) (at path (suc i)) m g)) (cross_names_under PartSpace names m g))
          → InStep (names_in (spots_by path i n e f o g)) (names_by names n e f o g)
      go None inside behind = (
        λ top is. same_top n top is,
        step_joined (entry_spots (Within n) [] 0 f) (number_tops (spot_numbering unit) (at path (suc i)) (suc n) g) (cross_names_below n [] 0 f) (cross_names_under PartSpace names (suc n) g)
            (below_step n [] 0 f) (behind (suc n)),
      )
      go (Some text) inside behind = (
        λ top is. absurd cc,
        step_joined (number_tops (spot_numbering unit) (at (i ∷ path) 0) n f) (number_tops (spot_numbering unit) (at path (suc i)) (n + tops_under f) g)
            (cross_names_under PartSpace (names ++ text ∷ []) n f) (cross_names_under PartSpace names (n + tops_under f) g) (inside (names ++ text ∷ []) n) (behind (n + tops_under f)),
      )

-- ---- of units

abbrev ArePartial : List (DwUnit ℕ) → Type 0
ArePartial units = (u : DwUnit ℕ) → In u units → IsPartial u.kind

pub names_step : (unit whole top : ℕ) (units : List (DwUnit ℕ)) → ArePartial units → InStep (names_from unit top (map as_compile units)) (cross_names_from whole top units)
unfolding names_from cross_names_from top_spots
names_step unit whole top [] h = tt
names_step unit whole top (u ∷ units) h =
    first u.kind (h u (inl refl)) (names_step (suc unit) (next_whole u.kind whole) (top + length (unit_tops u.kind u)) units (λ v is. h v (inr is)))
  where
    first : (k : Kind ℕ) → IsPartial k
        → InStep (names_from (suc unit) (top + length (unit_tops k u)) (map as_compile units)) (cross_names_from (next_whole k whole) (top + length (unit_tops k u)) units)
        → InStep (RootOf unit ∷ (names_in (top_spots unit [] 0 top u.below) ++ names_from (suc unit) (top + tops_under u.below) (map as_compile units)))
        (cross_unit_names whole top k u ++ cross_names_from (next_whole k whole) (top + length (unit_tops k u)) units)
    first Partial p more =
        let many : length (unit_tops Partial u) ≡ tops_under u.below = tops_count [] u.below in
        let later = cross_names_from whole (top + length (unit_tops Partial u)) units in
        let rest : InStep (names_from (suc unit) (top + tops_under u.below) (map as_compile units)) later =
        subst (λ (k : ℕ). InStep (names_from (suc unit) (top + k) (map as_compile units)) later) many more in (
          λ n is. absurd cc,
          step_append (names_in (top_spots unit [] 0 top u.below)) (names_from (suc unit) (top + tops_under u.below) (map as_compile units)) (cross_names_under PartSpace [] top u.below) later
              (under_step unit [] [] 0 top u.below) rest,
        )
    first Compile p more = absurd p
    first (OfType signature main) p more = absurd p

-- as many tops
pub tops_many : (units : List (DwUnit ℕ)) → ArePartial units → length (cross_tops units) ≡ tops_among (map as_compile units)
unfolding cross_tops tops_among
tops_many [] h = refl
tops_many (u ∷ units) h =
    length-append (unit_tops u.kind u) (cross_tops units)
    ∙ (λ i. first u.kind (h u (inl refl)) i + tops_many units (λ v is. h v (inr is)) i)
  where
    first : (k : Kind ℕ) → IsPartial k → length (unit_tops k u) ≡ tops_under u.below
    first Partial p = tops_count [] u.below
    first Compile p = absurd p
    first (OfType signature main) p = absurd p
