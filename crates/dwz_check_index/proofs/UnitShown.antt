-- A unit: what is built of it shows the names of its entries, its tops, and its root and spaces.
use Rattle.std.proofs.Common.{◌≡◌, ℕ, ◌+◌, List, [], ◌∷◌, ◌++◌, length, Some, slice_get, inl, refl, sym, ap, subst, ◌∙◌, arith}
use Rattle.std.proofs.lemmas.List.{append-nil, length-append}
use Rattle.dwz_def_reading.specs.Documents.{Compile, DwUnit, Kind, Node, OfType, Partial}
use Rattle.dwz_def_reading.specs.Lists.{In}
use Rattle.dwz_def_reading.specs.Trees.{size}
use Rattle.dwz_def_reading.specs.Units.{CompileUnit, PartialUnit, RawKind, RawUnit, TypeUnit, entry_count}
use Rattle.dwz_def_reading.specs.Meanings.{Around, MeaningContext, MeansKind, MeansUnit, scope_of}
use Rattle.dwz_def_cross.specs.Tops.{CrossTop, type_top}
use Rattle.dwz_def_check.specs.CrossNames.{AtPath, CrossName, PartRoot, PartSpace, WholeRoot, WholeSpace, cross_names_under, cross_tops_in, cross_unit_names, next_whole, unit_tops}
use Rattle.dwz_def_check.specs.CrossNodes.{lone_of}
use Rattle.dwz_def_check.proofs.TopLists.{tops_count}
use Rattle.dwz_graph.specs.Spaces.{stored_space}
use Rattle.dwz_graph.specs.Steps.{is_space}
use Rattle.dwz_graph.proofs.ListMeans.{means_size}
use Rattle.dwz_check_index.specs.declared.index.CrossStarts.{CrossStarts}
use Rattle.dwz_check_index.specs.declared.index.Stands.{Stands}
use Rattle.dwz_check_index.specs.declared.index.Stands.TheVariants.{PartialRoot, PartialSpace, UnitRoot, UnitSpace}
use Rattle.dwz_check_index.specs.declared.index.Step.{Step}
use Rattle.dwz_check_index.specs.Building.{lone_at, step, top_entry, whole_behind, with_below, with_list, with_outer, with_root, with_start, with_top, with_unit}
use Rattle.dwz_check_index.specs.Index.{Called, CrossIndex, Leads, ListedEntry, listed, part_above, stands_of, whole_above}
use Rattle.dwz_check_index.proofs.ListBuilding.{units_kept}
use Rattle.dwz_check_index.proofs.ListMeans.{list_means, top_means}
use Rattle.dwz_check_index.proofs.ListShown.{Family, built_to, in_part, in_whole, list_shown, lone_long, top_shown, tops_long}
use Rattle.dwz_check_index.proofs.Shown.{Built, Lone, entry_here, name_here, push_lone, push_step}

pub whole_means : (s : MeaningContext ℕ) (k : RawKind) (kind : Kind ℕ) (whole : ℕ) → MeansKind s k kind → whole_behind k whole ≡ next_whole kind whole
whole_means s CompileUnit kind whole e = ap (λ (w : Kind ℕ). next_whole w whole) (sym e)
whole_means s PartialUnit kind whole e = ap (λ (w : Kind ℕ). next_whole w whole) (sym e)
whole_means s (TypeUnit signature type_offset) kind whole e = ap (λ (w : Kind ℕ). next_whole w whole) (sym e.1)

module _ (starts : CrossStarts) (said : List (DwUnit ℕ)) (names : List Called) (entries : List (ListedEntry ℕ)) (tops : List (CrossTop ℕ)) (lone : List (Node ℕ)) where
  abbrev BuiltSo : CrossIndex → ℕ → List Called → List (ListedEntry ℕ) → List (CrossTop ℕ) → List (Node ℕ) → Type 0
  BuiltSo x first ns es ts ls = Built starts said names entries tops lone x first ns es ts ls

  abbrev LoneSo : List ℕ → List (Node ℕ) → Type 0
  LoneSo xs ls = Lone starts said names entries tops lone xs ls

  -- ---- a root, and what is below it

  root_shown : (space above : List (List ℕ) → CrossName) (rs ss : Stands) (root : CrossName) (fam : Family starts said names entries tops lone space above ss) (unit : ℕ) (v : DwUnit ℕ)
      → slice_get said unit ≡ Some v → rs ≡ stands_of root → above [] ≡ root → ((i : ℕ) (x : Step) (d : Node ℕ) → x.up ≡ i → Leads names i x d root)
      → (top first : ℕ) (x : CrossIndex) (ns : List Called) (es : List (ListedEntry ℕ)) (ts : List (CrossTop ℕ)) (ls all : List (Node ℕ)) → top ≡ starts.top + length x.tops
      → ((t : CrossTop ℕ) → In t (cross_tops_in [] v.below) → In t (unit_tops v.kind v))
      → BuiltSo x first ((v.root.at, root) ∷ (cross_names_under space [] top v.below ++ ns)) ((v.root, v.below) ∷ (listed v.below ++ es)) (cross_tops_in [] v.below ++ ts) all
      → (LoneSo x.lone all → slice_get entries first ≡ Some (v.root, v.below) → LoneSo (x.lone ++ lone_at rs first) (fam.all v.below ++ ls))
      → BuiltSo (with_list is_space unit ss first 0 (first + 1) v.below (with_outer rs first 0 first x)) (first + 1 + size v.below) ns es ts ls
  root_shown space above rs ss root fam unit v of_unit stands above_is leads top first x ns es ts ls all number within h put =
      let name : Called = (v.root.at, root) in
      let e : ListedEntry ℕ = (v.root, v.below) in
      let more = cross_names_under space [] top v.below ++ ns in
      let behind = listed v.below ++ es in
      let here = name_here starts said names entries tops lone x.steps first name e more behind h.steps in
      let entry = entry_here starts said names entries tops lone x.steps first name e more behind h.steps in
      let s = step first 0 rs in
      let opened : BuiltSo (with_outer rs first 0 first x) (first + 1) more behind (cross_tops_in [] v.below ++ ts) (fam.all v.below ++ ls) = record {
        steps = push_step starts said names entries tops lone x.steps first s name e more behind h.steps refl stands (leads first s v.root refl);
        tops_so = h.tops_so;
        lone_so = put h.lone_so entry;
        starts_are = h.starts_are;
      } in
      list_shown starts said names entries tops lone space above ss fam unit v of_unit [] top 0 first (first + 1) v.root.at v.below (with_outer rs first 0 first x) ns es ts ls
      (here ∙ ap (λ (w : CrossName). Some (v.root.at, w)) (sym above_is)) (omega arith) number within opened

  -- ---- a unit

  module _ (around : Around ℕ) (unit whole top first : ℕ) (u : RawUnit) (v : DwUnit ℕ) (x : CrossIndex) (h : MeansUnit around u v) where
    abbrev s : MeaningContext ℕ
    s = scope_of around u

    root_means : (rs ss : Stands) (y : CrossIndex) → with_root unit rs ss first u.below y ≡ with_list is_space unit ss first 0 (first + 1) v.below (with_outer rs first 0 first y)
    root_means rs ss y = list_means s unit ss first 0 (first + 1) u.below v.below (with_outer rs first 0 first y) h.below

    sizes : first + 1 + size v.below ≡ first + entry_count u
    sizes = let z = means_size s u.below v.below h.below in omega (arith, z)

    pub unit_shown : (ns : List Called) (es : List (ListedEntry ℕ)) (ts : List (CrossTop ℕ)) (ls : List (Node ℕ)) → slice_get said unit ≡ Some v → top ≡ starts.top + length x.tops
        → BuiltSo x first (cross_unit_names whole top v.kind v ++ ns) ((v.root, v.below) ∷ (listed v.below ++ es)) (unit_tops v.kind v ++ ts) (lone_of v.kind v ++ ls)
        → BuiltSo (with_unit unit whole first u x) (first + entry_count u) ns es ts ls
    unit_shown ns es ts ls of_unit number built = by u.kind h.kind where
      y : CrossIndex
      y = with_start x

      Left : Kind ℕ → Type 0
      Left kind = BuiltSo y first (cross_unit_names whole top kind v ++ ns) ((v.root, v.below) ∷ (listed v.below ++ es)) (unit_tops kind v ++ ts) (lone_of kind v ++ ls)

      started : Left v.kind
      started = record { steps = built.steps; tops_so = built.tops_so; lone_so = built.lone_so; starts_are = built.starts_are }

      within : (kind : Kind ℕ) → v.kind ≡ kind → (t : CrossTop ℕ) → In t (unit_tops kind v) → In t (unit_tops v.kind v)
      within kind e t k = subst (λ (w : Kind ℕ). In t (unit_tops w v)) (sym e) k

      by : (k : RawKind) → MeansKind s k v.kind → BuiltSo (with_below unit whole first k u.below y) (first + entry_count u) ns es ts ls
      by CompileUnit e =
          subst (λ (w : CrossIndex). BuiltSo w (first + entry_count u) ns es ts ls) (sym (root_means (UnitRoot whole) (UnitSpace whole) y))
          (built_to starts said names entries tops lone (with_list is_space unit (UnitSpace whole) first 0 (first + 1) v.below (with_outer (UnitRoot whole) first 0 first y)) (first + 1 + size v.below)
          (first + entry_count u) ns es ts ls sizes
          (root_shown (WholeSpace whole) (whole_above whole) (UnitRoot whole) (UnitSpace whole) (WholeRoot whole) (in_whole starts said names entries tops lone whole) unit v of_unit refl refl
          (λ i z d is. is) top first y ns es ts ls (lone_of Compile v ++ ls) number (within Compile e) (subst Left e started)
          (λ all is. push_lone starts said names entries tops lone y.lone first v.root _ all (v.below, is))))
      by PartialUnit e =
          subst (λ (w : CrossIndex). BuiltSo w (first + entry_count u) ns es ts ls) (sym (root_means PartialRoot PartialSpace y))
          (built_to starts said names entries tops lone (with_list is_space unit PartialSpace first 0 (first + 1) v.below (with_outer PartialRoot first 0 first y)) (first + 1 + size v.below)
          (first + entry_count u) ns es ts ls sizes
          (root_shown PartSpace part_above PartialRoot PartialSpace PartRoot (in_part starts said names entries tops lone) unit v of_unit refl refl
          (λ i z d is. is) top first y ns es ts ls (lone_of Partial v ++ ls) number (within Partial e) (subst Left e started)
          (λ all is. subst (λ (w : List ℕ). LoneSo w ls) (sym (append-nil y.lone)) all)))
      by (TypeUnit signature type_offset) e =
          let kind : Kind ℕ = OfType signature (s.around.place (s.unit + type_offset)) in
          subst (λ (w : CrossIndex). BuiltSo w (first + entry_count u) ns es ts ls) (sym (top_means s unit first first u.below v.below y h.below))
          (built_to starts said names entries tops lone (with_top unit first first v.below y) (first + 1 + size v.below) (first + entry_count u) ns es ts ls sizes
          (top_shown starts said names entries tops lone unit first first v.root.at top (AtPath top []) (type_top v) v y ns es ts ls of_unit (within kind e.1 (type_top v) (inl refl)) (λ here. here) refl
          number (subst Left e.1 started)))

    -- ---- what it adds to lists

    pub unit_tops_long : length (with_unit unit whole first u x).tops ≡ length x.tops + length (unit_tops v.kind v)
    unit_tops_long = by u.kind h.kind where
      y : CrossIndex
      y = with_start x

      rooted : (rs ss : Stands) → length (with_root unit rs ss first u.below y).tops ≡ length x.tops + length (cross_tops_in [] v.below)
      rooted rs ss =
          let same = ap (λ (w : CrossIndex). length w.tops) (root_means rs ss y) in
          omega (arith, same, tops_long unit ss first 0 (first + 1) v.below (with_outer rs first 0 first y), tops_count [] v.below)

      by : (k : RawKind) → MeansKind s k v.kind → length (with_below unit whole first k u.below y).tops ≡ length x.tops + length (unit_tops v.kind v)
      by CompileUnit e = rooted (UnitRoot whole) (UnitSpace whole) ∙ ap (λ (w : Kind ℕ). length x.tops + length (unit_tops w v)) (sym e)
      by PartialUnit e = rooted PartialRoot PartialSpace ∙ ap (λ (w : Kind ℕ). length x.tops + length (unit_tops w v)) (sym e)
      by (TypeUnit signature type_offset) e =
          length-append x.tops (top_entry first unit first ∷ []) ∙ ap (λ (w : Kind ℕ). length x.tops + length (unit_tops w v)) (sym e.1)

    pub unit_lone_long : slice_get said unit ≡ Some v → length (with_unit unit whole first u x).lone ≡ length x.lone + length (lone_of v.kind v)
    unit_lone_long of_unit = by u.kind h.kind where
      y : CrossIndex
      y = with_start x

      by : (k : RawKind) → MeansKind s k v.kind → length (with_below unit whole first k u.below y).lone ≡ length x.lone + length (lone_of v.kind v)
      by CompileUnit e =
          let same = ap (λ (w : CrossIndex). length w.lone) (root_means (UnitRoot whole) (UnitSpace whole) y) in
          let kind = ap (λ (w : Kind ℕ). length (lone_of w v)) e in
          omega (
            arith,
            same,
            kind,
            lone_long starts said names entries tops lone (WholeSpace whole) (whole_above whole) (UnitSpace whole) (in_whole starts said names entries tops lone whole) unit v of_unit
                0 first (first + 1) v.below (with_outer (UnitRoot whole) first 0 first y),
            length-append x.lone (first ∷ []),
          )
      by PartialUnit e =
          let same = ap (λ (w : CrossIndex). length w.lone) (root_means PartialRoot PartialSpace y) in
          let kind = ap (λ (w : Kind ℕ). length (lone_of w v)) e in
          omega (
            arith,
            same,
            kind,
            lone_long starts said names entries tops lone PartSpace part_above PartialSpace (in_part starts said names entries tops lone) unit v of_unit
                0 first (first + 1) v.below (with_outer PartialRoot first 0 first y),
            length-append x.lone [],
          )
      by (TypeUnit signature type_offset) e = let kind = ap (λ (w : Kind ℕ). length (lone_of w v)) e.1 in omega (arith, kind)

    pub unit_units : (with_unit unit whole first u x).units ≡ x.units ++ (record { top = x.starts.top + length x.tops; lone = x.starts.lone + length x.lone }) ∷ []
    unit_units = by u.kind where
      y : CrossIndex
      y = with_start x

      by : (k : RawKind) → (with_below unit whole first k u.below y).units ≡ y.units
      by CompileUnit = units_kept stored_space unit (UnitSpace whole) first 0 (first + 1) u.below (with_outer (UnitRoot whole) first 0 first y)
      by PartialUnit = units_kept stored_space unit PartialSpace first 0 (first + 1) u.below (with_outer PartialRoot first 0 first y)
      by (TypeUnit signature type_offset) = refl
