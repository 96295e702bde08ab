-- Names that stand in kept units and in partial units.
use Rattle.std.proofs.Common.{◌≡◌, ◌⊎◌, ℕ, ℤ, suc, ◌+◌, ◌<◌, ◌≤◌, Bool, true, false, List, [], ◌∷◌, ◌++◌, length, map, Option, refl, sym, ap, subst, ◌∙◌, inl, inr, arith}
use Rattle.std.proofs.lemmas.List.{append-nil, map-append}
use Rattle.dwz_def_reading.specs.Lists.{Each, In}
use Rattle.dwz_def_reading.specs.Trees.{End, Entry}
use Rattle.dwz_def_reading.proofs.ListFacts.{in_cases, in_left, in_map, in_right}
use Rattle.dwz_def_reading.specs.Documents.{Compile, DwUnit, Entries, Kind, Node, OfType, Partial, entries_map, kind_map, language, node_map, unit_map}
use Rattle.dwz_def_tops.specs.Lists.{Nth}
use Rattle.dwz_def_tops.specs.Shown.{keys, unit_keys}
use Rattle.dwz_def_tops.specs.Spaces.{space_text, tops_under}
use Rattle.dwz_def_tops.proofs.MainLemmas.{keys_map}
use Rattle.dwz_def_tops.proofs.Members.{each_in, in_map_from}
use Rattle.dwz_def_tops.proofs.SpaceLemmas.{text_map}
use Rattle.dwz_def_tops.specs.Spots.{ASpace, ATop, EntryName, FileUnit, InType, Labelled, LabelledSpaces, LabelledTop, Nothing, RootOf, Row, SpaceName, Top, Within, in_file, name_of, row_below}
use Rattle.dwz_def_tops.specs.Spots.{rows_of_root}
use Rattle.dwz_def_tops.specs.Spots.{row_tops, top_count, top_spots, tops_from, tops_of}
use Rattle.dwz_def_tops.proofs.NameLists.{count_map}
use Rattle.dwz_def_tops.proofs.RowLemmas.{RowIs, below_unit, unit_row}
use Rattle.dwz_def_tops.proofs.TopNumbers.{below_length, from_numbered, top_at}
use Rattle.dwz_def_tops.proofs.Tops.{unit_of}
use Rattle.dwz_graph.proofs.TopLemmas.{below_names}
use Rattle.dwz_def_images.specs.IsPlan.{Has, Item, OfSpace, OfTop, Remains}
use Rattle.dwz_def_images.specs.Moves.{Move, image_in}
use Rattle.dwz_def_images.specs.Plan.{imports, kept_row}
use Rattle.dwz_def_images.proofs.RowParts.{kept_is}
use Rattle.dwz_def_images.specs.After.{AreOld}
use Rattle.dwz_def_tops.specs.UnitNames.{IsNamedBelow}
use Rattle.dwz_def_images.specs.Units.{changes, kept_unit, tree}
use Rattle.dwz_def_images.proofs.EntryLemmas.{kept_compile, kept_still, kept_type}
use Rattle.dwz_def_images.proofs.KeyLemmas.{tree_is}
use Rattle.dwz_def_images.proofs.OldRows.{row_kinded, tops_somewhere}
use Rattle.dwz_layout_numbers.proofs.Paths.{names_paths, paths_in, paths_map, paths_of, spot_of}
use Rattle.dwz_layout_numbers.proofs.Runs.{Between, space_names, top_names, tops_between}

-- ---- the names of labelled entries

pub labelled_keys : (name : List ℕ → EntryName) (path : List ℕ) (i : ℕ) (f : Entries EntryName) → Labelled name path i f → keys f ≡ map name (paths_in path i f)
unfolding keys paths_in
labelled_keys name path i End h = refl
labelled_keys name path i (Entry e c n) h =
    (λ j. h.0 j ∷ (labelled_keys name (i ∷ path) 0 c h.1 j ++ labelled_keys name path (suc i) n h.2 j))
    ∙ ap (λ (w : List EntryName). name (i ∷ path) ∷ w) (sym (map-append name (paths_in (i ∷ path) 0 c) (paths_in path (suc i) n)))

abbrev pub own_keys : Top → List EntryName
own_keys t = t.node.at ∷ keys t.below

pub top_labelled : (t : Top) → LabelledTop t → own_keys t ≡ map (Within t.number) (paths_of t.below)
top_labelled t h = (λ j. h.0 j ∷ labelled_keys (Within t.number) [] 0 t.below h.1 j)

-- ---- in the tree of a row

same_item : (t u : Top) → OfTop t ≡ OfTop u → t ≡ u
same_item t u e = cc

same_space : (d e : Node EntryName) → OfSpace d ≡ OfSpace e → d ≡ e
same_space d e h = cc

pub tree_top : (f : EntryName → EntryName) (row : Row) (last : Entries EntryName) (names : List (List ℕ)) (t : Top) → Has names (OfTop t) row → (s : EntryName) → In s (map f (own_keys t))
    → In s (keys (tree f row last))
unfolding keys tree
tree_top f Nothing last names t h s is = absurd h
tree_top f (ATop u next) last names t (inl y) s is =
    let own : In s (f u.node.at ∷ keys (entries_map f u.below)) = subst (λ (w : Top). In s (f w.node.at ∷ keys (entries_map f w.below))) (sym (same_item u t y.1))
    (subst (λ (w : List EntryName). In s (f t.node.at ∷ w)) (sym (keys_map f t.below)) is) in
    in_left s (f u.node.at ∷ keys (entries_map f u.below)) (keys (tree f next last)) own
tree_top f (ATop u next) last names t (inr y) s is = in_right s (f u.node.at ∷ keys (entries_map f u.below)) (keys (tree f next last)) (tree_top f next last names t y s is)
tree_top f (ASpace e inner next) last names t (inl y) s is = absurd (let z = y.1 in cc)
tree_top f (ASpace e inner next) last names t (inr (inl i)) s is = inr (in_left s (keys (tree f inner End)) (keys (tree f next last)) (tree_top f inner End i.1 t i.4 s is))
tree_top f (ASpace e inner next) last names t (inr (inr y)) s is = inr (in_right s (keys (tree f inner End)) (keys (tree f next last)) (tree_top f next last names t y s is))

pub tree_space : (f : EntryName → EntryName) (row : Row) (last : Entries EntryName) (names : List (List ℕ)) (e : Node EntryName) → Has names (OfSpace e) row → In (f e.at) (keys (tree f row last))
unfolding keys tree
tree_space f Nothing last names e h = absurd h
tree_space f (ATop u next) last names e (inl y) = absurd (let z = y.1 in cc)
tree_space f (ATop u next) last names e (inr y) = in_right (f e.at) (f u.node.at ∷ keys (entries_map f u.below)) (keys (tree f next last)) (tree_space f next last names e y)
tree_space f (ASpace d inner next) last names e (inl y) = inl (ap (λ (w : Node EntryName). f w.at) (same_space d e y.1))
tree_space f (ASpace d inner next) last names e (inr (inl i)) = inr (in_left (f e.at) (keys (tree f inner End)) (keys (tree f next last)) (tree_space f inner End i.1 e i.4))
tree_space f (ASpace d inner next) last names e (inr (inr y)) = inr (in_right (f e.at) (keys (tree f inner End)) (keys (tree f next last)) (tree_space f next last names e y))

-- ---- a name below the root of a compile unit is of an entry of a top, or of a space

pub record SpaceThere (row : Row) (s : EntryName) : Type 0 where
  pub names : List (List ℕ)
  pub e : Node EntryName
  pub has : Has names (OfSpace e) row
  pub is : s ≡ e.at

abbrev TopOrSpace : Row → EntryName → Type 0
TopOrSpace row s = ((n : ℕ) × (path : List ℕ) × (s ≡ Within n path)) ⊎ SpaceThere row s

module _ (file unit : ℕ) (tongue : Option ℤ) (name : ℕ → EntryName) where
  pub below_there : (spaces : List SpaceName) (n : ℕ) (row : Row) (f : Entries ℕ) → RowIs file unit tongue spaces n row (entries_map name f) → (path : List ℕ) (i : ℕ)
      → LabelledSpaces unit path i row → (k : ℕ) (s : EntryName) → In s (map spot_of (top_spots unit path i k f)) → TopOrSpace row s
  unfolding entries_map top_spots
  below_there spaces n Nothing End h path i labels k s is = absurd is
  below_there spaces n Nothing (Entry e f g) h path i labels k s is = absurd h
  below_there spaces n (ATop t row) End h path i labels k s is = absurd h
  below_there spaces n (ASpace d inner row) End h path i labels k s is = absurd h
  below_there spaces n (ATop t row) (Entry e f g) h path i labels k s is =
      let plain = sym (text_map name e) ∙ h.0 in
      let own = map (Within k) (paths_of f) in
      let rest = map spot_of (top_spots unit path (suc i) (suc k) g) in
      elim (in_cases s own rest (subst (In s) (top_names unit path i k e f g plain) is)) [
        | inl a ↦ (let o = in_map_from (Within k) s (paths_of f) a in inl (k, o.source, sym o.is))
        | inr b ↦ later (below_there spaces (suc n) row g h.2 path (suc i) labels (suc k) s b)
      ]
    where
      later : TopOrSpace row s → TopOrSpace (ATop t row) s
      later (inl w) = inl w
      later (inr x) = inr (record { names = x.names; e = x.e; has = inr x.has; is = x.is })
  below_there spaces n (ASpace d inner row) (Entry e f g) h path i labels k s is =
      let named = sym (text_map name e) ∙ h.1 in
      let a = map spot_of (top_spots unit (i ∷ path) 0 k f) in
      let b = map spot_of (top_spots unit path (suc i) (k + tops_under f) g) in
      elim (subst (In s) (space_names unit path i k e f g h.0 named) is) [
        | inl x ↦ inr (record { names = []; e = d; has = inl (refl, refl); is = sym x ∙ sym labels.0 })
        | inr y ↦ (elim (in_cases s a b y) [
          | inl x ↦ inside (below_there (spaces ++ name_of h.0 (node_map name e) ∷ []) n inner f h.3 (i ∷ path) 0 labels.1 k s x)
          | inr z ↦ later (below_there spaces (n + tops_under (entries_map name f)) row g h.4 path (suc i) labels.2 (k + tops_under f) s z)
        ])
      ]
    where
      inside : TopOrSpace inner s → TopOrSpace (ASpace d inner row) s
      inside (inl w) = inl w
      inside (inr x) = inr (record { names = h.0 ∷ x.names; e = x.e; has = inr (inl (h.0, x.names, ap space_text (sym h.2) ∙ h.1, refl, x.has)); is = x.is })

      later : TopOrSpace row s → TopOrSpace (ASpace d inner row) s
      later (inl w) = inl w
      later (inr x) = inr (record { names = x.names; e = x.e; has = inr (inr x.has); is = x.is })

-- ---- in a kept unit

module _ (units : List (FileUnit EntryName)) (m : Move) (old : AreOld units) (i : ℕ) (u : FileUnit EntryName) (nth : Nth 0 units i u) where
  abbrev f : EntryName → EntryName
  f = image_in m

  -- what remains of the row of a compile unit
  item_kept : u.unit.kind ≡ Compile → (s : EntryName)
      → ((row : Row) (last : Entries EntryName) → ((names : List (List ℕ)) (x : Item) → Has names x (rows_of_root units i) → Remains m.gone x → Has names x row) → In s (keys (tree f row last)))
      → In s (keys (kept_unit m units i u).below)
  item_kept kind s there = by (changes m units u.file) refl where
    by : (b : Bool) → changes m units u.file ≡ b → In s (keys (kept_unit m units i u).below)
    by true c = subst (λ (w : Entries EntryName). In s (keys w)) (sym (kept_compile m units i u kind c))
        (there (kept_row m.gone units i) (imports i 0 m.parts) (λ names x has stays. (kept_is m.gone units i names x).1 (has, stays)))
    by false c =
        let r = unit_row units i u nth kind in
        subst (λ (w : Entries EntryName). In s (keys w)) (sym (kept_still m units i u c))
        (subst (λ (w : Entries EntryName). In s (keys w)) (tree_is u.file i (language u.unit) f [] r.first (rows_of_root units i) u.unit.below r.is) (there (rows_of_root units i) End (λ names x has
        stays.
        has)))

  pub top_kept : u.unit.kind ≡ Compile → (t : Top) → In t (tops_of units) → t.unit ≡ i → m.gone t.number ≡ false → (s : EntryName) → In s (map f (own_keys t))
      → In s (keys (kept_unit m units i u).below)
  top_kept kind t is at stays s there =
      let r = unit_row units i u nth kind in
      let o = unit_of units t is in
      let w = tops_somewhere (rows_of_root units i) (row_kinded u.file i (language u.unit) [] r.first (rows_of_root units i) u.unit.below r.is) t
      (subst (λ (n : ℕ). In t (row_tops (rows_of_root units n))) at o.in_row) in
      item_kept kind s (λ row last has. tree_top f row last w.names t (has w.names (OfTop t) w.has stays) s there)

  pub space_kept : u.unit.kind ≡ Compile → (s : EntryName) → f s ≡ s → SpaceThere (rows_of_root units i) s → In s (keys (kept_unit m units i u).below)
  space_kept kind s fixed x = item_kept kind s
      (λ row last has. subst (λ (w : EntryName). In w (keys (tree f row last))) (ap f (sym x.is) ∙ fixed) (tree_space f row last x.names x.e (has x.names (OfSpace x.e) x.has tt)))

  pub type_kept : (signature : ℕ) (main : EntryName) → u.unit.kind ≡ OfType signature main → (s : EntryName) → f s ≡ s → In s (map (InType i) (paths_in [] 0 u.unit.below))
      → In s (keys (kept_unit m units i u).below)
  type_kept signature main kind s fixed is =
      let labels : Labelled (InType i) [] 0 u.unit.below = subst (λ (w : Kind EntryName). IsNamedBelow i w (rows_of_root units i) u.unit.below) kind (old.units_named i u nth).below in
      let there : In s (keys u.unit.below) = subst (In s) (sym (labelled_keys (InType i) [] 0 u.unit.below labels)) is in
      subst (λ (w : Entries EntryName). In s (keys w)) (sym (kept_type m units i u signature main kind))
      (subst (In s) (sym (keys_map f u.unit.below)) (subst (λ (w : EntryName). In w (map f (keys u.unit.below))) fixed (in_map f s (keys u.unit.below) there)))

-- a name of a unit that was read, which stands for itself and is of no top that goes, stands in the kept unit
module _ (units : List (FileUnit EntryName)) (m : Move) (old : AreOld units) (file : ℕ) (name : ℕ → EntryName) (i first : ℕ) (v : DwUnit ℕ) where
  abbrev w : DwUnit EntryName
  w = unit_map name v

  abbrev u : FileUnit EntryName
  u = in_file file w

  -- the tops of the row are among all
  abbrev Among : Type 0
  Among = (t : Top) → In t (row_tops (row_below file i first (unit_map name v) (kind_map name v.kind))) → In t (tops_of units)

  -- where it is of an entry of a top, that one is in the top's tree and the top stays
  abbrev Stays : EntryName → Type 0
  Stays s = (t : Top) (path : List ℕ) → In t (tops_of units) → s ≡ Within t.number path → In path (paths_of t.below) × (m.gone t.number ≡ false)

  -- the top of that number, which is one of those of the unit
  top_there : v.kind ≡ Compile → Among → (n : ℕ) → first ≤ n → n < first + tops_under v.below → (t : Top) × In t (tops_of units) × (t.number ≡ n) × (t.unit ≡ i)
  unfolding tops_from
  top_there kind among n low high =
      let one : List (FileUnit EntryName) = u ∷ [] in
      let row = row_tops (row_below file i first w (kind_map name v.kind)) in
      let long : length row ≡ tops_under v.below = below_length file i first w w.kind ∙ count_map name v.kind v.below ∙ ap (λ (k : Kind ℕ). top_count k v.below) kind in
      let all : tops_from i first one ≡ row = append-nil row in
      let t = top_at first (tops_from i first one) n (from_numbered i first one) low (omega (arith, high, long, ap (λ (x : List Top). length x) all)) in
      let there = subst (In t.0) all t.1 in
      (t.0, among t.0 there, t.2, (below_unit u i first w.kind t.0 there).1)

  pub below_kept : Nth 0 units i (in_file file (unit_map name v)) → Among → (s : EntryName) → image_in m s ≡ s → Stays s → In s (below_names i first v.kind v.below)
      → In s (keys (kept_unit m units i (in_file file (unit_map name v))).below)
  below_kept nth among s fixed stays h = by v.kind refl h where
    in_compile : v.kind ≡ Compile → TopOrSpace (rows_of_root units i) s → Each (Between first (first + tops_under v.below)) (map spot_of (top_spots i [] 0 first v.below))
        → In s (map spot_of (top_spots i [] 0 first v.below)) → In s (keys (kept_unit m units i u).below)
    in_compile kind (inr x) all is = space_kept units m old i u nth (ap (kind_map name) kind) s fixed x
    in_compile kind (inl o) all is =
        let b : Between first (first + tops_under v.below) (Within o.0 o.1) = subst (Between first (first + tops_under v.below)) o.2
        (each_in (Between first (first + tops_under v.below)) s (map spot_of (top_spots i [] 0 first v.below)) all is) in
        let t = top_there kind among o.0 b.0 b.1 in
        let is_s : s ≡ Within t.0.number o.1 = o.2 ∙ ap (λ (n : ℕ). Within n o.1) (sym t.2) in
        let st = stays t.0 o.1 t.1 is_s in
        let own : In s (own_keys t.0) = subst (In s) (sym (top_labelled t.0 (old.tops_named t.0 t.1)))
        (subst (λ (x : EntryName). In x (map (Within t.0.number) (paths_of t.0.below))) (sym is_s) (in_map (Within t.0.number) o.1 (paths_of t.0.below) st.0)) in
        top_kept units m old i u nth (ap (kind_map name) kind) t.0 t.1 t.3 st.1 s (subst (λ (x : EntryName). In x (map (image_in m) (own_keys t.0))) fixed (in_map (image_in m) s (own_keys t.0) own))

    by : (k : Kind ℕ) → v.kind ≡ k → In s (below_names i first k v.below) → In s (keys (kept_unit m units i u).below)
    by Compile kind is =
        let r = unit_row units i u nth (ap (kind_map name) kind) in
        let labels : LabelledSpaces i [] 0 (rows_of_root units i) = subst (λ (x : Kind EntryName). IsNamedBelow i x (rows_of_root units i) w.below) (ap (kind_map name) kind) (old.units_named i u
        nth).below in
        in_compile kind (below_there file i (language w) name [] r.first (rows_of_root units i) v.below r.is [] 0 labels first s is)
        (tops_between i [] 0 first (first + tops_under v.below) v.below (omega arith)) is
    by (OfType signature main) kind is =
        type_kept units m old i u nth signature (name main) (ap (kind_map name) kind) s fixed
        (subst (λ (x : List (List ℕ)). In s (map (InType i) x)) (sym (paths_map name [] 0 v.below)) (subst (In s) (names_paths (InType i) [] 0 v.below) is))
    by Partial kind is = absurd is

  pub unit_kept : Nth 0 units i (in_file file (unit_map name v)) → Among → (s : EntryName) → image_in m s ≡ s → Stays s → (s ≡ RootOf i) ⊎ In s (below_names i first v.kind v.below)
      → In s (unit_keys (kept_unit m units i (in_file file (unit_map name v))))
  unfolding unit_keys
  unit_kept nth among s fixed stays (inl e) = inr (inl (ap (image_in m) ((old.units_named i u nth).root ∙ sym e) ∙ fixed))
  unit_kept nth among s fixed stays (inr h) = inr (inr (below_kept nth among s fixed stays h))
