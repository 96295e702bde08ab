-- The tops of a common file in looks across files, and as its partial units read as compile units have them.
use Rattle.std.proofs.Common.{◌≡◌, ℕ, ℤ, suc, ◌+◌, ◌==◌, Bool, true, false, List, [], ◌∷◌, ◌++◌, length, map, Option, Some, None, refl, sym, ap, subst, ◌∙◌, inl, inr, ⊎_elim}
use Rattle.std.proofs.lemmas.Bool.{eqb-true}
use Rattle.std.proofs.lemmas.List.{map-append}
use Rattle.dwz_model.proofs.ListFacts.{in_cases, in_left, in_right}
use Rattle.dwz_def_reading.specs.Documents.{Attr, Compile, DwUnit, Entries, Kind, Node, OfType, Partial, entries_map, language, node_map, unit_map}
use Rattle.dwz_def_reading.specs.Lists.{In}
use Rattle.dwz_def_reading.specs.Trees.{End, Entry}
use Rattle.dwz_def_tops.specs.Seen.{IsPartial}
use Rattle.dwz_def_tops.specs.Spaces.{space_text, tops_under}
use Rattle.dwz_def_tops.specs.Spots.{ASpace, ATop, EntryName, RootOf, Row, SpaceAt, SpaceName, Standing, Top, UnitOf, Within, entry_spots, in_file, name_by, name_list, name_of}
use Rattle.dwz_def_tops.specs.Spots.{number_tops, row_below, row_in, row_tops, spot_in, spot_numbering, spots_from, top_count, top_spots, tops_from}
use Rattle.dwz_def_tops.proofs.SpaceLemmas.{text_map}
use Rattle.dwz_def_cross.specs.Tops.{CrossTop}
use Rattle.dwz_def_check.specs.CrossLabels.{cross_top_map}
use Rattle.dwz_def_check.specs.CrossNames.{AtPath, CrossName, PartRoot, PartSpace, cross_names_below, cross_names_from, cross_names_under, cross_tops, cross_tops_in, cross_unit_names, next_whole, unit_tops}
use Rattle.dwz_def_check.proofs.TopLists.{tops_count}
use Rattle.dwz_def_taken.specs.Beside.{as_compile}
use Rattle.dwz_match.specs.Partial.{ArePartial}

-- ---- tops

-- a top as looks across files have it
abbrev pub cross_of : Top → CrossTop EntryName
cross_of t = record { names = name_list t; node = t.node; below = t.below }

name_is : (text : List ℕ) (o : Option (Attr EntryName)) → (name_by text o).text ≡ text
name_is text None = refl
name_is text (Some a) = refl

abbrev texts : List SpaceName → List (List ℕ)
texts spaces = map (λ s. s.text) spaces

module _ (name : ℕ → EntryName) where
  module _ (file unit : ℕ) (tongue : Option ℤ) where
    abbrev row_by : List SpaceName → ℕ → Node EntryName → Entries EntryName → Option (List ℕ) → Entries EntryName → Row
    row_by spaces n e f o more = elim o as (λ _. Row) [
      | None ↦ ATop (record { file = file; unit = unit; language = tongue; spaces = spaces; number = n; node = e; below = f }) (row_in file unit tongue spaces (suc n) more)
      | Some text ↦ ASpace e (row_in file unit tongue (spaces ++ name_of text e ∷ []) n f) (row_in file unit tongue spaces (n + tops_under f) more)
    ]

    abbrev cross_by : List (List ℕ) → Node ℕ → Entries ℕ → Option (List ℕ) → Entries ℕ → List (CrossTop ℕ)
    cross_by names e f o more = elim o as (λ _. List (CrossTop ℕ)) [
      | None ↦ record { names = names; node = e; below = f } ∷ cross_tops_in names more
      | Some text ↦ cross_tops_in (names ++ text ∷ []) f ++ cross_tops_in names more
    ]

    abbrev Same : List SpaceName → ℕ → Entries ℕ → Type 0
    Same spaces n f = map cross_of (row_tops (row_in file unit tongue spaces n (entries_map name f))) ≡ map (cross_top_map name) (cross_tops_in (texts spaces) f)

    -- rows of entries have the tops of these
    pub row_cross : (spaces : List SpaceName) (n : ℕ) (f : Entries ℕ) → Same spaces n f
    unfolding row_in row_tops cross_tops_in entries_map
    row_cross spaces n End = refl
    row_cross spaces n (Entry e f g) =
        ap (λ (o : Option (List ℕ)). map cross_of (row_tops (row_by spaces n (node_map name e) (entries_map name f) o (entries_map name g)))) (text_map name e)
        ∙ go (space_text e) (λ more m. row_cross more m f) (λ m. row_cross spaces m g)
      where
        go : (o : Option (List ℕ)) → ((more : List SpaceName) (m : ℕ) → Same more m f) → ((m : ℕ) → Same spaces m g)
            → map cross_of (row_tops (row_by spaces n (node_map name e) (entries_map name f) o (entries_map name g))) ≡ map (cross_top_map name) (cross_by (texts spaces) e f o g)
        go None inside behind = ap (λ (w : List (CrossTop EntryName)). cross_top_map name (record { names = texts spaces; node = e; below = f }) ∷ w) (behind (suc n))
        go (Some text) inside behind =
            let own : SpaceName = name_of text (node_map name e) in
            let more : List SpaceName = spaces ++ own ∷ [] in
            let inner = row_tops (row_in file unit tongue more n (entries_map name f)) in
            let later = row_tops (row_in file unit tongue spaces (n + tops_under (entries_map name f)) (entries_map name g)) in
            let named : texts more ≡ texts spaces ++ text ∷ [] = map-append (λ s. s.text) spaces (own ∷ []) ∙ ap (λ (w : List ℕ). texts spaces ++ w ∷ []) (name_is text _) in
            map-append cross_of inner later
            ∙ ap (λ (w : List (CrossTop EntryName)). w ++ map cross_of later) (inside more n ∙ ap (λ (w : List (List ℕ)). map (cross_top_map name) (cross_tops_in w f)) named)
            ∙ ap (λ (w : List (CrossTop EntryName)). map (cross_top_map name) (cross_tops_in (texts spaces ++ text ∷ []) f) ++ w) (behind (n + tops_under (entries_map name f)))
            ∙ sym (map-append (cross_top_map name) (cross_tops_in (texts spaces ++ text ∷ []) f) (cross_tops_in (texts spaces) g))

  unit_cross : (file unit n : ℕ) (u : DwUnit ℕ) (k : Kind ℕ) → IsPartial k
      → map cross_of (row_tops (row_below file unit n (unit_map name (as_compile u)) Compile)) ≡ map (cross_top_map name) (unit_tops k u)
  unit_cross file unit n u Partial h = row_cross file unit (language (unit_map name (as_compile u))) [] n u.below
  unit_cross file unit n u Compile h = absurd h
  unit_cross file unit n u (OfType signature main) h = absurd h

  -- so have those of units
  pub units_cross : (file s n : ℕ) (units : List (DwUnit ℕ)) → ArePartial units
      → map cross_of (tops_from s n (map (in_file file) (map (unit_map name) (map as_compile units)))) ≡ map (cross_top_map name) (cross_tops units)
  unfolding tops_from cross_tops
  units_cross file s n [] h = refl
  units_cross file s n (u ∷ units) h =
      let v = unit_map name (as_compile u) in
      let m = n + top_count v.kind v.below in
      let first = row_tops (row_below file s n v Compile) in
      let rest = tops_from (suc s) m (map (in_file file) (map (unit_map name) (map as_compile units))) in
      map-append cross_of first rest
      ∙ ap (λ (w : List (CrossTop EntryName)). w ++ map cross_of rest) (unit_cross file s n u u.kind (h u (inl refl)))
      ∙ ap (λ (w : List (CrossTop EntryName)). map (cross_top_map name) (unit_tops u.kind u) ++ w) (units_cross file (suc s) m units (λ v is. h v (inr is)))
      ∙ sym (map-append (cross_top_map name) (unit_tops u.kind u) (cross_tops units))

-- ---- names

abbrev Spot : Type 0
Spot = ℕ × EntryName

-- whichever entry of a top stands at the place is called so
abbrev Crosses : List (ℕ × CrossName) → Spot → Type 0
Crosses names s = (top : ℕ) (path : List ℕ) → s.1 ≡ Within top path → In (s.0, AtPath top path) names

abbrev AllCross : List Spot → List (ℕ × CrossName) → Type 0
AllCross spots names = (s : Spot) → In s spots → Crosses names s

all_left : (spots : List Spot) (xs ys : List (ℕ × CrossName)) → AllCross spots xs → AllCross spots (xs ++ ys)
all_left spots xs ys h s i top path e = in_left (s.0, AtPath top path) xs ys (h s i top path e)

all_right : (spots : List Spot) (xs ys : List (ℕ × CrossName)) → AllCross spots ys → AllCross spots (xs ++ ys)
all_right spots xs ys h s i top path e = in_right (s.0, AtPath top path) xs ys (h s i top path e)

all_both : (xs ys : List Spot) (ps qs : List (ℕ × CrossName)) → AllCross xs ps → AllCross ys qs → AllCross (xs ++ ys) (ps ++ qs)
all_both xs ys ps qs f g s i = ⊎_elim (λ (j : In s xs). all_left xs ps qs f s j) (λ (j : In s ys). all_right ys ps qs g s j) (in_cases s xs ys i)

at_first : (at : ℕ) (name : EntryName) (x : CrossName) (spots : List Spot) (names : List (ℕ × CrossName)) → ((top : ℕ) (path : List ℕ) → name ≡ Within top path → x ≡ AtPath top path)
    → AllCross spots names → AllCross ((at, name) ∷ spots) ((at, x) ∷ names)
at_first at name x spots names same h s (inl e) top path is =
    let n : name ≡ s.1 = ap (λ (w : Spot). w.1) e in
    let a : at ≡ s.0 = ap (λ (w : Spot). w.0) e in
    let y : x ≡ AtPath top path = same top path (n ∙ is) in
    inl (λ j. (a j, y j))
at_first at name x spots names same h s (inr i) top path is = inr (h s i top path is)

within_one : (n top : ℕ) (p path : List ℕ) → Within n p ≡ Within top path → AtPath n p ≡ AtPath top path
within_one n top p path e = let a : n ≡ top = cc in let b : p ≡ path = cc in (λ j. AtPath (a j) (b j))

below_all : (n : ℕ) (path : List ℕ) (i : ℕ) (f : Entries ℕ) → AllCross (entry_spots (Within n) path i f) (cross_names_below n path i f)
unfolding entry_spots cross_names_below
below_all n path i End = λ s is. absurd is
below_all n path i (Entry e f g) =
    at_first e.at (Within n (i ∷ path)) (AtPath n (i ∷ path)) _ _ (λ top p q. within_one n top (i ∷ path) p q)
    (all_both (entry_spots (Within n) (i ∷ path) 0 f) (entry_spots (Within n) path (suc i) g) (cross_names_below n (i ∷ path) 0 f) (cross_names_below n path (suc i) g)
    (below_all n (i ∷ path) 0 f) (below_all n path (suc i) g))

module _ (unit : ℕ) where
  abbrev at : List ℕ → ℕ → Standing
  at path i = record { path = path; index = i }

  abbrev spots_by : List ℕ → ℕ → ℕ → Node ℕ → Entries ℕ → Option (List ℕ) → Entries ℕ → List Spot
  spots_by path i n e f o g = elim o as (λ _. List Spot) [
    | None ↦ (e.at, Within n []) ∷ entry_spots (Within n) [] 0 f ++ number_tops (spot_numbering unit) (at path (suc i)) (suc n) g
    | Some text ↦ (e.at, SpaceAt unit (i ∷ path)) ∷ number_tops (spot_numbering unit) (at (i ∷ path) 0) n f ++ number_tops (spot_numbering unit) (at path (suc i)) (n + tops_under f) g
  ]

  abbrev names_by : List (List ℕ) → ℕ → Node ℕ → Entries ℕ → Option (List ℕ) → Entries ℕ → List (ℕ × CrossName)
  names_by names n e f o g = elim o as (λ _. List (ℕ × CrossName)) [
    | None ↦ (e.at, AtPath n []) ∷ cross_names_below n [] 0 f ++ cross_names_under PartSpace names (suc n) g
    | Some text ↦ (e.at, PartSpace (names ++ text ∷ [])) ∷ cross_names_under PartSpace (names ++ text ∷ []) n f ++ cross_names_under PartSpace names (n + tops_under f) g
  ]

  under_all : (path : List ℕ) (names : List (List ℕ)) (i n : ℕ) (f : Entries ℕ) → AllCross (number_tops (spot_numbering unit) (at path i) n f) (cross_names_under PartSpace names n f)
  unfolding cross_names_under
  under_all path names i n End = λ s is. absurd is
  under_all path names i n (Entry e f g) =
      go (space_text e) (λ more m. under_all (i ∷ path) more 0 m f) (λ m. under_all path names (suc i) m g)
    where
      go : (o : Option (List ℕ)) → ((more : List (List ℕ)) (m : ℕ) → AllCross (number_tops (spot_numbering unit) (at (i ∷ path) 0) m f) (cross_names_under PartSpace more m f))
          → ((m : ℕ) → AllCross (number_tops (spot_numbering unit) (at path (suc i)) m g) (cross_names_under PartSpace names m g))
          → AllCross (spots_by path i n e f o g) (names_by names n e f o g)
      go None inside behind =
          at_first e.at (Within n []) (AtPath n []) _ _ (λ top p q. within_one n top [] p q)
          (all_both (entry_spots (Within n) [] 0 f) (number_tops (spot_numbering unit) (at path (suc i)) (suc n) g) (cross_names_below n [] 0 f) (cross_names_under PartSpace names (suc n) g)
          (below_all n [] 0 f) (behind (suc n)))
      go (Some text) inside behind =
          at_first e.at (SpaceAt unit (i ∷ path)) (PartSpace (names ++ text ∷ [])) _ _ (λ top p q. absurd cc)
          (all_both (number_tops (spot_numbering unit) (at (i ∷ path) 0) n f) (number_tops (spot_numbering unit) (at path (suc i)) (n + tops_under f) g)
          (cross_names_under PartSpace (names ++ text ∷ []) n f) (cross_names_under PartSpace names (n + tops_under f) g) (inside (names ++ text ∷ []) n) (behind (n + tops_under f)))

at_skip : (at : ℕ) (name : EntryName) (spots : List Spot) (names : List (ℕ × CrossName)) → ((top : ℕ) (path : List ℕ) → name ≡ Within top path → ⊥) → AllCross spots names
    → AllCross ((at, name) ∷ spots) names
at_skip at name spots names none h s (inl e) top path is = absurd (none top path (let n : name ≡ s.1 = ap (λ (w : Spot). w.1) e in n ∙ is))
at_skip at name spots names none h s (inr i) top path is = h s i top path is

pub spots_all : (unit whole top : ℕ) (units : List (DwUnit ℕ)) → ArePartial units → AllCross (spots_from unit top (map as_compile units)) (cross_names_from whole top units)
unfolding spots_from cross_names_from top_spots
spots_all unit whole top [] h = λ s is. absurd is
spots_all unit whole top (u ∷ units) h =
    first u.kind (h u (inl refl)) (spots_all (suc unit) (next_whole u.kind whole) (top + length (unit_tops u.kind u)) units (λ v is. h v (inr is)))
  where
    first : (k : Kind ℕ) → IsPartial k
        → AllCross (spots_from (suc unit) (top + length (unit_tops k u)) (map as_compile units)) (cross_names_from (next_whole k whole) (top + length (unit_tops k u)) units)
        → AllCross ((u.at, UnitOf unit) ∷ (u.root.at, RootOf unit) ∷ top_spots unit [] 0 top u.below ++ spots_from (suc unit) (top + tops_under u.below) (map as_compile units))
        (cross_unit_names whole top k u ++ cross_names_from (next_whole k whole) (top + length (unit_tops k u)) units)
    first Partial p more =
        let m = top + length (unit_tops Partial u) in
        let many : length (unit_tops Partial u) ≡ tops_under u.below = tops_count [] u.below in
        let rest : AllCross (spots_from (suc unit) (top + tops_under u.below) (map as_compile units)) (cross_names_from whole m units) =
        subst (λ (k : ℕ). AllCross (spots_from (suc unit) (top + k) (map as_compile units)) (cross_names_from whole m units)) many more in
        let tops = top_spots unit [] 0 top u.below in
        let others = spots_from (suc unit) (top + tops_under u.below) (map as_compile units) in
        let under = cross_names_under PartSpace [] top u.below in
        let later = cross_names_from whole m units in
        at_skip u.at (UnitOf unit) ((u.root.at, RootOf unit) ∷ tops ++ others) ((u.root.at, PartRoot) ∷ under ++ later) (λ t q e. absurd cc)
        (at_first u.root.at (RootOf unit) PartRoot (tops ++ others) (under ++ later) (λ t q e. absurd cc)
        (all_both tops others under later (under_all unit [] [] 0 top u.below) rest))
    first Compile p more = absurd p
    first (OfType signature main) p more = absurd p

-- what a place is called where an entry of a top stands there
found : (spots : List Spot) (p top : ℕ) (path : List ℕ) → spot_in spots p ≡ Within top path → In (p, Within top path) spots
unfolding spot_in
found [] p top path e = absurd cc
found (s ∷ spots) p top path e = go (s.0 == p) refl e (found spots p top path) where
  go : (b : Bool) → (s.0 == p) ≡ b → elim b as (λ _. EntryName) [ true ↦ s.1 | false ↦ spot_in spots p ] ≡ Within top path → (spot_in spots p ≡ Within top path → In (p, Within top path) spots)
      → In (p, Within top path) (s ∷ spots)
  go true q is later = inl (let at : s.0 ≡ p = eqb-true s.0 p q in λ j. (at j, is j))
  go false q is later = inr (later is)

pub names_agree : (unit whole top : ℕ) (units : List (DwUnit ℕ)) → ArePartial units → (name : ℕ → CrossName) → ((p : ℕ) (x : CrossName) → In (p, x) (cross_names_from whole top units) → name p ≡ x)
    → (p n : ℕ) (path : List ℕ) → spot_in (spots_from unit top (map as_compile units)) p ≡ Within n path → name p ≡ AtPath n path
names_agree unit whole top units h name named p n path e =
    named p (AtPath n path) (spots_all unit whole top units h (p, Within n path) (found (spots_from unit top (map as_compile units)) p n path e) n path refl)
