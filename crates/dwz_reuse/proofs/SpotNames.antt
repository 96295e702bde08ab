-- Which top an entry of a common file is in, by what looks across files call its place.
use Rattle.std.proofs.Common.{◌≡◌, ℕ, suc, ◌+◌, List, [], ◌∷◌, ◌++◌, length, map, Option, Some, None, refl, sym, ap, subst, ◌∙◌, inl, inr, ⊎_elim}
use Rattle.dwz_model.proofs.ListFacts.{in_cases, in_left, in_right}
use Rattle.dwz_def_reading.specs.Documents.{Compile, DwUnit, Entries, Kind, Node, OfType, Partial}
use Rattle.dwz_def_reading.specs.Lists.{In}
use Rattle.dwz_def_reading.specs.Trees.{End, Entry}
use Rattle.dwz_def_tops.specs.Lists.{NoneTwice}
use Rattle.dwz_def_tops.specs.Seen.{IsPartial}
use Rattle.dwz_def_tops.specs.Spaces.{space_text, tops_under}
use Rattle.dwz_def_tops.specs.Spots.{EntryName, RootOf, SpaceAt, Standing, UnitOf, Within, entry_spots, number_tops, spot_in, spot_numbering, spots_from, top_spots}
use Rattle.dwz_def_tops.specs.Spots.{Import, InChain, InType, PartialOf, PartialRoot}
use Rattle.dwz_def_tops.proofs.NameLists.{firsts, spot_is}
use Rattle.dwz_def_check.specs.CrossNames.{AtPath, CrossName, PartRoot, PartSpace, WholeRoot, WholeSpace}
use Rattle.dwz_def_check.specs.CrossNames.{cross_names_below, cross_names_from, cross_names_under, cross_unit_names, next_whole, unit_tops}
use Rattle.dwz_def_check.proofs.TopLists.{tops_count}
use Rattle.dwz_def_taken.specs.Beside.{as_compile}
use Rattle.dwz_graph.specs.Names.{top_in}
use Rattle.dwz_match.specs.Partial.{ArePartial}
use Rattle.dwz_match.proofs.BareTops.{names_agree}
use Rattle.dwz_reuse.specs.Into.{top_called}

abbrev Spot : Type 0
Spot = ℕ × EntryName

abbrev Called : Type 0
Called = ℕ × CrossName

-- the entry of a top that is called so has a name there
abbrev HasSpot : List Spot → Called → Type 0
HasSpot spots x = (top : ℕ) (path : List ℕ) → x.1 ≡ AtPath top path → In (x.0, Within top path) spots

abbrev AllSpots : List Called → List Spot → Type 0
AllSpots names spots = (x : Called) → In x names → HasSpot spots x

all_left : (names : List Called) (xs ys : List Spot) → AllSpots names xs → AllSpots names (xs ++ ys)
all_left names xs ys h x i top path e = in_left (x.0, Within top path) xs ys (h x i top path e)

all_right : (names : List Called) (xs ys : List Spot) → AllSpots names ys → AllSpots names (xs ++ ys)
all_right names xs ys h x i top path e = in_right (x.0, Within top path) xs ys (h x i top path e)

all_both : (xs ys : List Called) (ps qs : List Spot) → AllSpots xs ps → AllSpots ys qs → AllSpots (xs ++ ys) (ps ++ qs)
all_both xs ys ps qs f g x i = ⊎_elim (λ (j : In x xs). all_left xs ps qs f x j) (λ (j : In x ys). all_right ys ps qs g x j) (in_cases x xs ys i)

at_first : (at : ℕ) (name : CrossName) (spot : EntryName) (names : List Called) (spots : List Spot) → ((top : ℕ) (path : List ℕ) → name ≡ AtPath top path → spot ≡ Within top path)
    → AllSpots names spots → AllSpots ((at, name) ∷ names) ((at, spot) ∷ spots)
at_first at name spot names spots same h x (inl e) top path is =
    let n : name ≡ x.1 = ap (λ (w : Called). w.1) e in
    let a : at ≡ x.0 = ap (λ (w : Called). w.0) e in
    let y : spot ≡ Within top path = same top path (n ∙ is) in
    inl (λ j. (a j, y j))
at_first at name spot names spots same h x (inr i) top path is = inr (h x i top path is)

at_skip : (s : Spot) (names : List Called) (spots : List Spot) → AllSpots names spots → AllSpots names (s ∷ spots)
at_skip s names spots h x i top path is = inr (h x i top path is)

within_one : (n top : ℕ) (p path : List ℕ) → AtPath n p ≡ AtPath top path → Within n p ≡ Within top path
within_one n top p path e = let a : n ≡ top = cc in let b : p ≡ path = cc in (λ j. Within (a j) (b j))

below_all : (n : ℕ) (path : List ℕ) (i : ℕ) (f : Entries ℕ) → AllSpots (cross_names_below n path i f) (entry_spots (Within n) path i f)
unfolding entry_spots cross_names_below
below_all n path i End = λ s is. absurd is
below_all n path i (Entry e f g) =
    at_first e.at (AtPath n (i ∷ path)) (Within n (i ∷ path)) _ _ (λ top p q. within_one n top (i ∷ path) p q)
    (all_both (cross_names_below n (i ∷ path) 0 f) (cross_names_below n path (suc i) g) (entry_spots (Within n) (i ∷ path) 0 f) (entry_spots (Within n) path (suc i) g)
    (below_all n (i ∷ path) 0 f) (below_all n path (suc i) g))

module _ (unit : ℕ) where
  abbrev at : List ℕ → ℕ → Standing
  at path i = record { path = path; index = i }

  abbrev spots_by : List ℕ → ℕ → ℕ → Node ℕ → Entries ℕ → Option (List ℕ) → Entries ℕ → List Spot
  spots_by path i n e f o g = elim o as (λ _. List Spot) [
    | None ↦ (e.at, Within n []) ∷ entry_spots (Within n) [] 0 f ++ number_tops (spot_numbering unit) (at path (suc i)) (suc n) g
    | Some text ↦ (e.at, SpaceAt unit (i ∷ path)) ∷ number_tops (spot_numbering unit) (at (i ∷ path) 0) n f ++ number_tops (spot_numbering unit) (at path (suc i)) (n + tops_under f) g
  ]

  abbrev names_by : List (List ℕ) → ℕ → Node ℕ → Entries ℕ → Option (List ℕ) → Entries ℕ → List Called
  names_by names n e f o g = elim o as (λ _. List Called) [
    | None ↦ (e.at, AtPath n []) ∷ cross_names_below n [] 0 f ++ cross_names_under PartSpace names (suc n) g
    | Some text ↦ (e.at, PartSpace (names ++ text ∷ [])) ∷ cross_names_under PartSpace (names ++ text ∷ []) n f ++ cross_names_under PartSpace names (n + tops_under f) g
  ]

  under_all : (path : List ℕ) (names : List (List ℕ)) (i n : ℕ) (f : Entries ℕ) → AllSpots (cross_names_under PartSpace names n f) (number_tops (spot_numbering unit) (at path i) n f)
  unfolding cross_names_under
  under_all path names i n End = λ s is. absurd is
  under_all path names i n (Entry e f g) =
      go (space_text e) (λ more m. under_all (i ∷ path) more 0 m f) (λ m. under_all path names (suc i) m g)
    where
      go : (o : Option (List ℕ)) → ((more : List (List ℕ)) (m : ℕ) → AllSpots (cross_names_under PartSpace more m f) (number_tops (spot_numbering unit) (at (i ∷ path) 0) m f))
          → ((m : ℕ) → AllSpots (cross_names_under PartSpace names m g) (number_tops (spot_numbering unit) (at path (suc i)) m g))
          → AllSpots (names_by names n e f o g) (spots_by path i n e f o g)
      go None inside behind =
          at_first e.at (AtPath n []) (Within n []) _ _ (λ top p q. within_one n top [] p q)
          (all_both (cross_names_below n [] 0 f) (cross_names_under PartSpace names (suc n) g) (entry_spots (Within n) [] 0 f) (number_tops (spot_numbering unit) (at path (suc i)) (suc n) g)
          (below_all n [] 0 f) (behind (suc n)))
      go (Some text) inside behind =
          at_first e.at (PartSpace (names ++ text ∷ [])) (SpaceAt unit (i ∷ path)) _ _ (λ top p q. absurd cc)
          (all_both (cross_names_under PartSpace (names ++ text ∷ []) n f) (cross_names_under PartSpace names (n + tops_under f) g) (number_tops (spot_numbering unit) (at (i ∷ path) 0) n f)
          (number_tops (spot_numbering unit) (at path (suc i)) (n + tops_under f) g) (inside (names ++ text ∷ []) n) (behind (n + tops_under f)))

names_all : (unit whole top : ℕ) (units : List (DwUnit ℕ)) → ArePartial units → AllSpots (cross_names_from whole top units) (spots_from unit top (map as_compile units))
unfolding spots_from cross_names_from top_spots
names_all unit whole top [] h = λ s is. absurd is
names_all unit whole top (u ∷ units) h =
    first u.kind (h u (inl refl)) (names_all (suc unit) (next_whole u.kind whole) (top + length (unit_tops u.kind u)) units (λ v is. h v (inr is)))
  where
    first : (k : Kind ℕ) → IsPartial k
        → AllSpots (cross_names_from (next_whole k whole) (top + length (unit_tops k u)) units) (spots_from (suc unit) (top + length (unit_tops k u)) (map as_compile units))
        → AllSpots (cross_unit_names whole top k u ++ cross_names_from (next_whole k whole) (top + length (unit_tops k u)) units)
        ((u.at, UnitOf unit) ∷ (u.root.at, RootOf unit) ∷ top_spots unit [] 0 top u.below ++ spots_from (suc unit) (top + tops_under u.below) (map as_compile units))
    first Partial p more =
        let m = top + length (unit_tops Partial u) in
        let many : length (unit_tops Partial u) ≡ tops_under u.below = tops_count [] u.below in
        let later = cross_names_from whole m units in
        let rest : AllSpots later (spots_from (suc unit) (top + tops_under u.below) (map as_compile units)) =
        subst (λ (k : ℕ). AllSpots later (spots_from (suc unit) (top + k) (map as_compile units))) many more in
        let tops = top_spots unit [] 0 top u.below in
        let others = spots_from (suc unit) (top + tops_under u.below) (map as_compile units) in
        let under = cross_names_under PartSpace [] top u.below in
        at_skip (u.at, UnitOf unit) ((u.root.at, PartRoot) ∷ under ++ later) ((u.root.at, RootOf unit) ∷ tops ++ others)
        (at_first u.root.at PartRoot (RootOf unit) (under ++ later) (tops ++ others) (λ t q e. absurd cc)
        (all_both under later tops others (under_all unit [] [] 0 top u.below) rest))
    first Compile p more = absurd p
    first (OfType signature main) p more = absurd p

module _ (unit top : ℕ) (units : List (DwUnit ℕ)) (partial : ArePartial units) (once : NoneTwice (firsts (spots_from unit top (map as_compile units)))) (name : ℕ → CrossName)
    (named : (p : ℕ) (x : CrossName) → In (p, x) (cross_names_from 0 top units) → name p ≡ x) where
  abbrev spots : List Spot
  spots = spots_from unit top (map as_compile units)

  -- it is called as one of a top
  in_one : (p : ℕ) (x : CrossName) → In (p, x) (cross_names_from 0 top units) → (s : EntryName) → spot_in spots p ≡ s → (y : CrossName) → x ≡ y → top_in s ≡ top_called y
  in_one p x i s is (AtPath n path) e =
      let there : In (p, Within n path) spots = names_all unit 0 top units partial (p, x) i n path e in
      let same : s ≡ Within n path = sym is ∙ spot_is spots once p (Within n path) there in
      ap top_in same
  in_one p x i (Within n path) is y e =
      let same : y ≡ AtPath n path = sym e ∙ sym (named p x i) ∙ names_agree unit 0 top units partial name named p n path is in
      sym (ap top_called same)
  in_one p x i (UnitOf a) is (WholeRoot n) e = refl
  in_one p x i (UnitOf a) is (WholeSpace n names) e = refl
  in_one p x i (UnitOf a) is PartRoot e = refl
  in_one p x i (UnitOf a) is (PartSpace names) e = refl
  in_one p x i (RootOf a) is (WholeRoot n) e = refl
  in_one p x i (RootOf a) is (WholeSpace n names) e = refl
  in_one p x i (RootOf a) is PartRoot e = refl
  in_one p x i (RootOf a) is (PartSpace names) e = refl
  in_one p x i (SpaceAt a q) is (WholeRoot n) e = refl
  in_one p x i (SpaceAt a q) is (WholeSpace n names) e = refl
  in_one p x i (SpaceAt a q) is PartRoot e = refl
  in_one p x i (SpaceAt a q) is (PartSpace names) e = refl
  in_one p x i (InType a q) is (WholeRoot n) e = refl
  in_one p x i (InType a q) is (WholeSpace n names) e = refl
  in_one p x i (InType a q) is PartRoot e = refl
  in_one p x i (InType a q) is (PartSpace names) e = refl
  in_one p x i (PartialOf a) is (WholeRoot n) e = refl
  in_one p x i (PartialOf a) is (WholeSpace n names) e = refl
  in_one p x i (PartialOf a) is PartRoot e = refl
  in_one p x i (PartialOf a) is (PartSpace names) e = refl
  in_one p x i (PartialRoot a) is (WholeRoot n) e = refl
  in_one p x i (PartialRoot a) is (WholeSpace n names) e = refl
  in_one p x i (PartialRoot a) is PartRoot e = refl
  in_one p x i (PartialRoot a) is (PartSpace names) e = refl
  in_one p x i (InChain a b d) is (WholeRoot n) e = refl
  in_one p x i (InChain a b d) is (WholeSpace n names) e = refl
  in_one p x i (InChain a b d) is PartRoot e = refl
  in_one p x i (InChain a b d) is (PartSpace names) e = refl
  in_one p x i (Import a b) is (WholeRoot n) e = refl
  in_one p x i (Import a b) is (WholeSpace n names) e = refl
  in_one p x i (Import a b) is PartRoot e = refl
  in_one p x i (Import a b) is (PartSpace names) e = refl

  pub top_same : (p : ℕ) (x : CrossName) → In (p, x) (cross_names_from 0 top units) → top_in (spot_in spots p) ≡ top_called x
  top_same p x i = in_one p x i (spot_in spots p) refl x refl
