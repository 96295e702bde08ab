-- Over a finished common file a file of which nothing moves, and nothing is taken, has its units as they were.
use Rattle.std.proofs.Common.{◌≡◌, ℕ, ℤ, suc, ◌+◌, ◌⊎◌, ◌==◌, cond, Bool, true, false, List, [], ◌∷◌, ◌++◌, Option, Some, None, length, map, refl, sym, ap, subst, ◌∙◌, inl, inr, eqb-true}
use Rattle.std.proofs.lemmas.List.{map-append}
use Rattle.std.specs.List.{filter}
use Rattle.dwz_def_reading.specs.Documents.{Attr, Compile, Doc, DwUnit, Entries, Kind, Node, OfType, Partial, attr_map, entries_map, kind_map, language, node_map, unit_map}
use Rattle.dwz_def_reading.specs.Lists.{In}
use Rattle.dwz_def_reading.specs.Trees.{End, Entry}
use Rattle.dwz_def_reading.proofs.ListFacts.{in_cases, in_left, in_right}
use Rattle.dwz_def_tops.specs.Spaces.{space_text, tops_under}
use Rattle.dwz_def_tops.proofs.SpaceLemmas.{text_map, under_count}
use Rattle.dwz_def_tops.specs.Spots.{ASpace, ATop, FileUnit, InChain, InType, Import, Nothing, PartialOf, PartialRoot, RootOf, Row, SpaceAt, SpaceName, EntryName, Top, UnitOf, Within, below_spots, entry_spots, in_file, name_of, named_files, named_in, no_name, row_below, row_in, row_tops, spot_in, spots_from, top_count, top_spots, tops_among, tops_from, tops_of, units_of, file_numbers}
use Rattle.dwz_def_tops.proofs.RowLemmas.{RowIs, row_is}
use Rattle.dwz_def_images.specs.Homes.{Home, Local, moves, same_home}
use Rattle.dwz_def_images.specs.Moves.{Move, image_in}
use Rattle.dwz_def_images.specs.Plan.{PartialUnit, image_by}
use Rattle.dwz_def_images.proofs.PlanLemmas.{home_true}
use Rattle.dwz_def_images.specs.Images.{InNoTop}
use Rattle.dwz_def_images.specs.Units.{changes, kept_unit, kept_units, out_units, partial_unit, partial_units, units_of_file}
use Rattle.dwz_def_images.proofs.EntryLemmas.{kept_still, top_changes}
use Rattle.dwz_def_tops.proofs.FiledTops.{counted, filed_count, filed_length, tops_append}
use Rattle.dwz_def_tops.proofs.NameLists.{count_map, spots_space, spots_top}
use Rattle.dwz_def_images.proofs.StillLemmas.{at_append, at_other, at_own}
use Rattle.dwz_def_images.proofs.ApartOwn.{Old}
use Rattle.dwz_def_taken.proofs.OwnUnits.{stands_fixed}
use Rattle.std.proofs.lemmas.Bool.{or_right}
use Rattle.std.specs.Option.{is_some}
use Rattle.dwz_def_tops.proofs.Members.{in_nth}
use Rattle.dwz_def_tops.specs.Lists.{Nth}
use Rattle.dwz_def_taken.specs.Laws.{ArePlacedOver}
use Rattle.dwz_def_taken.specs.declared.fixed.Fixed.{Fixed}
use Rattle.dwz_def_taken.specs.Takes.{IsFixed, free_rule, image_at}
use Rattle.dwz_def_taken.specs.Beside.{Reused, reused_of}
use Rattle.dwz_def_over.proofs.LocalParts.{local_file, local_part, top_moves, tops_there}
use Rattle.dwz_def_taken.specs.Over.{move_over}

-- ---- the names of a file

-- the name is of no entry of a top, or of an entry of one of these tops, which is of the file
abbrev OfTops : ℕ → List Top → EntryName → Type 0
OfTops file tops s = InNoTop s ⊎ ((t : Top) × (path : List ℕ) × In t tops × (t.file ≡ file) × (s ≡ Within t.number path))

of_more : (file : ℕ) (xs ys : List Top) → ((t : Top) → In t xs → In t ys) → (s : EntryName) → OfTops file xs s → OfTops file ys s
of_more file xs ys more s (inl n) = inl n
of_more file xs ys more s (inr o) = inr (o.0, o.1, more o.0 o.2, o.3, o.4)

entry_names : (name : List ℕ → EntryName) (path : List ℕ) (i : ℕ) (f : Entries ℕ) (x : ℕ × EntryName) → In x (entry_spots name path i f) → (p : List ℕ) × (x.1 ≡ name p)
unfolding entry_spots
entry_names name path i End x h = absurd h
entry_names name path i (Entry e f k) x (inl y) = (i ∷ path, ap (λ (w : ℕ × EntryName). w.1) (sym y))
entry_names name path i (Entry e f k) x (inr r) = elim (in_cases x (entry_spots name (i ∷ path) 0 f) (entry_spots name path (suc i) k) r) [
  | inl a ↦ entry_names name (i ∷ path) 0 f x a
  | inr b ↦ entry_names name path (suc i) k x b
]

module _ (g : ℕ → EntryName) (file : ℕ) where
  row_names : (unit : ℕ) (tongue : Option ℤ) (spaces : List SpaceName) (n : ℕ) (row : Row) (f : Entries ℕ) → RowIs file unit tongue spaces n row (entries_map g f)
      → (path : List ℕ) (i : ℕ) (x : ℕ × EntryName) → In x (top_spots unit path i n f) → OfTops file (row_tops row) x.1
  unfolding entries_map row_tops top_spots
  row_names unit tongue spaces n Nothing End h path i x is = absurd is
  row_names unit tongue spaces n (ATop u row) (Entry e f k) h path i x is =
      let plain : space_text e ≡ None = sym (text_map g e) ∙ h.0 in
      let number : n ≡ u.number = ap (λ (w : Top). w.number) h.1 in
      let of : u.file ≡ file = sym (ap (λ (w : Top). w.file) h.1) in
      elim (subst (In x) (spots_top unit path i n e f k plain) is) [
        | inl y ↦ inr (u, [], inl refl, of, sym (ap (λ (w : ℕ × EntryName). w.1) y) ∙ ap (λ (w : ℕ). Within w []) number)
        | inr r ↦ (elim (in_cases x (entry_spots (Within n) [] 0 f) (top_spots unit path (suc i) (suc n) k) r) [
          | inl a ↦ (let o = entry_names (Within n) [] 0 f x a in inr (u, o.0, inl refl, of, o.1 ∙ ap (λ (w : ℕ). Within w o.0) number))
          | inr b ↦ of_more file (row_tops row) (u ∷ row_tops row) (λ t there. inr there) x.1 (row_names unit tongue spaces (suc n) row k h.2 path (suc i) x b)
        ])
      ]
  row_names unit tongue spaces n (ASpace d inner row) (Entry e f k) h path i x is =
      let space : space_text e ≡ Some h.0 = sym (text_map g e) ∙ h.1 in
      let rest = subst (λ (w : ℕ). RowIs file unit tongue spaces (n + w) row (entries_map g k)) (under_count g f) h.4 in
      elim (subst (In x) (spots_space unit path i n e f k h.0 space) is) [
        | inl y ↦ inl (subst InNoTop (ap (λ (w : ℕ × EntryName). w.1) y) tt)
        | inr r ↦ (elim (in_cases x (top_spots unit (i ∷ path) 0 n f) (top_spots unit path (suc i) (n + tops_under f) k) r) [
          | inl a ↦
              of_more file (row_tops inner) (row_tops inner ++ row_tops row) (λ t there. in_left t (row_tops inner) (row_tops row) there) x.1
              (row_names unit tongue (spaces ++ name_of h.0 (node_map g e) ∷ []) n inner f h.3 (i ∷ path) 0 x a)
          | inr b ↦
              of_more file (row_tops row) (row_tops inner ++ row_tops row) (λ t there. in_right t (row_tops inner) (row_tops row) there) x.1
              (row_names unit tongue spaces (n + tops_under f) row k rest path (suc i) x b)
        ])
      ]
  row_names unit tongue spaces n (ATop u row) End h path i x is = absurd h
  row_names unit tongue spaces n (ASpace d inner row) End h path i x is = absurd h
  row_names unit tongue spaces n Nothing (Entry e f k) h path i x is = absurd h

  below_names : (unit n : ℕ) (u : DwUnit ℕ) (k : Kind ℕ) (x : ℕ × EntryName) → In x (below_spots unit n k u.below) → OfTops file (row_tops (row_below file unit n (unit_map g u) (kind_map g k))) x.1
  below_names unit n u Compile x h =
      let tongue = language (unit_map g u) in
      row_names unit tongue [] n (row_in file unit tongue [] n (entries_map g u.below)) u.below (row_is file unit tongue [] n (entries_map g u.below)) [] 0 x h
  below_names unit n u (OfType signature main) x h = let o = entry_names (InType unit) [] 0 u.below x h in inl (subst InNoTop (sym o.1) tt)
  below_names unit n u Partial x h = absurd h

  abbrev filed : List (DwUnit ℕ) → List (FileUnit EntryName)
  filed units = map (in_file file) (map (unit_map g) units)

  file_names : (unit n : ℕ) (units : List (DwUnit ℕ)) (x : ℕ × EntryName) → In x (spots_from unit n units) → OfTops file (tops_from unit n (filed units)) x.1
  unfolding spots_from tops_from
  file_names unit n [] x h = absurd h
  file_names unit n (u ∷ units) x (inl y) = inl (subst InNoTop (ap (λ (w : ℕ × EntryName). w.1) y) tt)
  file_names unit n (u ∷ units) x (inr (inl y)) = inl (subst InNoTop (ap (λ (w : ℕ × EntryName). w.1) y) tt)
  file_names unit n (u ∷ units) x (inr (inr r)) =
      let first = row_tops (row_below file unit n (unit_map g u) (kind_map g u.kind)) in
      let rest = tops_from (suc unit) (n + top_count (kind_map g u.kind) (entries_map g u.below)) (filed units) in
      let later = tops_from (suc unit) (n + top_count u.kind u.below) (filed units) in
      let same : later ≡ rest = ap (λ (w : ℕ). tops_from (suc unit) (n + w) (filed units)) (sym (count_map g u.kind u.below)) in
      elim (in_cases x (below_spots unit n u.kind u.below) (spots_from (suc unit) (n + top_count u.kind u.below) units) r) [
        | inl a ↦ of_more file first (first ++ rest) (λ t there. in_left t first rest there) x.1 (below_names unit n u u.kind x a)
        | inr b ↦
            of_more file later (first ++ rest) (λ t there. in_right t first rest (subst (In t) same there)) x.1
            (file_names (suc unit) (n + top_count u.kind u.below) units x b)
      ]

-- what is found for a place is `no_name`, or one of these
found : (xs : List (ℕ × EntryName)) (p : ℕ) → (spot_in xs p ≡ no_name) ⊎ ((x : ℕ × EntryName) × In x xs × (x.1 ≡ spot_in xs p))
unfolding spot_in
found [] p = inl refl
found (x ∷ xs) p = go (x.0 == p) (found xs p) where
  go : (b : Bool) → (spot_in xs p ≡ no_name) ⊎ ((y : ℕ × EntryName) × In y xs × (y.1 ≡ spot_in xs p))
      → (let s : EntryName = elim b as (λ _. EntryName) [ true ↦ x.1 | false ↦ spot_in xs p ] in (s ≡ no_name) ⊎ ((y : ℕ × EntryName) × In y (x ∷ xs) × (y.1 ≡ s)))
  go true more = inr (x, inl refl, refl)
  go false (inl e) = inl e
  go false (inr o) = inr (o.0, inr o.1, o.2)

-- ---- images of these names

no_top_fixed : (stand : ℕ → ℕ) (s : EntryName) → InNoTop s → image_by stand s ≡ s
no_top_fixed stand (Within t path) h = absurd h
no_top_fixed stand (UnitOf i) h = refl
no_top_fixed stand (RootOf i) h = refl
no_top_fixed stand (SpaceAt i path) h = refl
no_top_fixed stand (InType i path) h = refl
no_top_fixed stand (PartialOf n) h = refl
no_top_fixed stand (PartialRoot n) h = refl
no_top_fixed stand (InChain part chain depth) h = refl
no_top_fixed stand (Import i n) h = refl

-- the tops of the file stand for themselves
abbrev Rests : (ℕ → ℕ) → ℕ → List Top → Type 0
Rests stand file tops = (t : Top) → In t tops → t.file ≡ file → stand t.number ≡ t.number

name_fixed : (stand : ℕ → ℕ) (file : ℕ) (tops : List Top) → Rests stand file tops → (s : EntryName) → OfTops file tops s → image_by stand s ≡ s
name_fixed stand file tops rests s (inl n) = no_top_fixed stand s n
name_fixed stand file tops rests s (inr o) = ap (image_by stand) o.4 ∙ ap (λ (w : ℕ). Within w o.1) (rests o.0 o.2 o.3) ∙ sym o.4

-- ---- a function that changes none of the names of a unit doesn't change the unit

module _ (f : EntryName → EntryName) (g : ℕ → EntryName) (fixed : (x : ℕ) → f (g x) ≡ g x) where
  refs_fixed : (xs : List ℕ) → map f (map g xs) ≡ map g xs
  refs_fixed [] = refl
  refs_fixed (x ∷ xs) = ap (λ (w : EntryName). w ∷ map f (map g xs)) (fixed x) ∙ ap (λ (w : List EntryName). g x ∷ w) (refs_fixed xs)

  attrs_fixed : (attrs : List (Attr ℕ)) → map (attr_map f) (map (attr_map g) attrs) ≡ map (attr_map g) attrs
  attrs_fixed [] = refl
  attrs_fixed (a ∷ attrs) =
      ap (λ (w : List EntryName). record { name = a.name; form = a.form; raw = a.raw; value = record { plain = a.value.plain; refs = w; address = a.value.address } } ∷ map (attr_map f) (map (attr_map g) attrs))
      (refs_fixed a.value.refs)
      ∙ ap (λ (w : List (Attr EntryName)). attr_map g a ∷ w) (attrs_fixed attrs)

  node_fixed : (e : Node ℕ) → node_map f (node_map g e) ≡ node_map g e
  node_fixed e = node_by (f (g e.at)) (g e.at) (map (attr_map f) (map (attr_map g) e.attrs)) (map (attr_map g) e.attrs) (fixed e.at) (attrs_fixed e.attrs) where
    node_by : (a b : EntryName) (x y : List (Attr EntryName)) → a ≡ b → x ≡ y → (let c : Node EntryName = record { at = a; tag = e.tag; attrs = x } in let d : Node EntryName =
        record { at = b; tag = e.tag; attrs = y } in c ≡ d)
    node_by a b x y p q = cc

  entries_fixed : (k : Entries ℕ) → entries_map f (entries_map g k) ≡ entries_map g k
  unfolding entries_map
  entries_fixed End = refl
  entries_fixed (Entry e k n) =
      ap (λ (w : Node EntryName). Entry w (entries_map f (entries_map g k)) (entries_map f (entries_map g n))) (node_fixed e)
      ∙ ap (λ (w : Entries EntryName). Entry (node_map g e) w (entries_map f (entries_map g n))) (entries_fixed k)
      ∙ ap (λ (w : Entries EntryName). Entry (node_map g e) (entries_map g k) w) (entries_fixed n)

  kind_fixed : (k : Kind ℕ) → kind_map f (kind_map g k) ≡ kind_map g k
  kind_fixed Compile = refl
  kind_fixed (OfType signature main) = ap (OfType signature) (fixed main)
  kind_fixed Partial = refl

  unit_fixed : (u : DwUnit ℕ) → unit_map f (unit_map g u) ≡ unit_map g u
  unit_fixed u = unit_by (f (g u.at)) (g u.at) (kind_map f (kind_map g u.kind)) (kind_map g u.kind) (node_map f (node_map g u.root)) (node_map g u.root) (entries_map f (entries_map g u.below))
      (entries_map g u.below)
      (fixed u.at) (kind_fixed u.kind) (node_fixed u.root) (entries_fixed u.below)
    where
      unit_by : (a b : EntryName) (k l : Kind EntryName) (r s : Node EntryName) (x y : Entries EntryName) → a ≡ b → k ≡ l → r ≡ s → x ≡ y
          → (let c : DwUnit EntryName = record { at = a; kind = k; root = r; below = x } in let d : DwUnit EntryName = record { at = b; kind = l; root = s; below = y } in c ≡ d)
      unit_by a b k l r s x y p q v w = cc

module _ (stand : ℕ → ℕ) (file : ℕ) where
  abbrev f : EntryName → EntryName
  f = image_by stand

  own_fixed : (own unit n : ℕ) (units : List (DwUnit ℕ)) → (spots : List (ℕ × EntryName)) → spots ≡ spots_from unit n units
      → Rests stand file (tops_from unit n (map (in_file own) (named_in spots units)))
      → own ≡ file → map (unit_map f) (named_in spots units) ≡ named_in spots units
  own_fixed own unit n units spots e rests same = all units where
    fixed : (x : ℕ) → f (spot_in spots x) ≡ spot_in spots x
    fixed x = elim (found spots x) [
      | inl y ↦ ap f y ∙ sym y
      | inr o ↦
          ap f (sym o.2)
          ∙ name_fixed stand own (tops_from unit n (map (in_file own) (named_in spots units))) (λ t there of. rests t there (of ∙ same)) o.0.1
          (file_names (spot_in spots) own unit n units o.0 (subst (In o.0) e o.1))
          ∙ o.2
    ]

    all : (some : List (DwUnit ℕ)) → map (unit_map f) (named_in spots some) ≡ named_in spots some
    all [] = refl
    all (u ∷ some) = ap (λ (w : DwUnit EntryName). w ∷ map (unit_map f) (named_in spots some)) (unit_fixed f (spot_in spots) fixed u)
        ∙ ap (λ (w : List (DwUnit EntryName)). unit_map (spot_in spots) u ∷ w)
        (all some)

  files_fixed : (first unit n : ℕ) (docs : List (Doc ℕ)) → Rests stand file (tops_from unit n (named_files first unit n docs)) → map (unit_map f) (units_of_file file (named_files first unit n docs))
      ≡ units_of_file file (named_files first unit n docs)
  unfolding named_files units_of_file
  files_fixed first unit n [] rests = refl
  files_fixed first unit n (doc ∷ docs) rests =
      let spots = spots_from unit n doc.units in
      let own = map (in_file first) (named_in spots doc.units) in
      let rest = named_files (suc first) (unit + length doc.units) (n + tops_among doc.units) docs in
      let tops = tops_append unit n own rest in
      let later : tops_from (unit + length own) (n + counted own) rest ≡ tops_from (unit + length doc.units) (n + tops_among doc.units) rest =
      ap (λ (w : ℕ). tops_from (unit + w) (n + counted own) rest) (filed_length spots first doc.units) ∙ ap (λ (w : ℕ). tops_from (unit + length doc.units) (n + w) rest)
      (filed_count spots first doc.units) in
      let mine : Rests stand file (tops_from unit n own) = λ t there. rests t
      (subst (In t) (sym tops) (in_left t (tops_from unit n own) (tops_from (unit + length own) (n + counted own) rest) there)) in
      let others : Rests stand file (tops_from (unit + length doc.units) (n + tops_among doc.units) rest) =
      λ t there. rests t (subst (In t) (sym tops) (in_right t (tops_from unit n own) (tops_from (unit + length own) (n + counted own) rest) (subst (In t) (sym later) there))) in
      let a = units_of_file file own in
      let b = units_of_file file rest in
      let x : map (unit_map f) a ≡ a = here (named_in spots doc.units) (own_fixed first unit n doc.units spots refl mine) (first == file) refl in
      let y : map (unit_map f) b ≡ b = files_fixed (suc first) (unit + length doc.units) (n + tops_among doc.units) docs others in
      ap (map (unit_map f)) (at_append file own rest) ∙ map-append (unit_map f) a b ∙ ap (λ (w : List (DwUnit EntryName)). w ++ map (unit_map f) b) x ∙ ap (λ (w : List (DwUnit EntryName)). a ++ w) y
      ∙ sym (at_append file own rest)
    where
      here : (us : List (DwUnit EntryName)) → (first ≡ file → map (unit_map f) us ≡ us) → (b : Bool) → (first == file) ≡ b → map (unit_map f) (units_of_file file (map (in_file first) us))
          ≡ units_of_file file (map (in_file first) us)
      here us fixed true e =
          let same = eqb-true first file e in
          let at : units_of_file file (map (in_file first) us) ≡ us = subst (λ (w : ℕ). units_of_file w (map (in_file first) us) ≡ us) same (at_own first us) in
          ap (map (unit_map f)) at ∙ fixed same ∙ sym at
      here us fixed false e = let at = at_other file first us e in ap (map (unit_map f)) at ∙ sym at

-- ---- what stands after in the file

no_parts : (m : Move) (h : Home) (s : ℕ) (parts : List PartialUnit) → ((p : PartialUnit) → In p parts → p.home ≡ h → ⊥) → partial_units m h s parts ≡ []
unfolding partial_units
no_parts m h s [] none = refl
no_parts m h s (p ∷ parts) none = go (same_home p.home h) refl (no_parts m h (suc s) parts (λ q is. none q (inr is))) where
  go : (b : Bool) → same_home p.home h ≡ b → partial_units m h (suc s) parts ≡ []
      → (elim b as (λ _. List (DwUnit EntryName)) [ true ↦ partial_unit m s ∷ partial_units m h (suc s) parts | false ↦ partial_units m h (suc s) parts ]) ≡ []
  go true e more = absurd (none p (inl refl) (home_true p.home h e))
  go false e more = more

kept_same : (m : Move) (units : List (FileUnit EntryName)) (i : ℕ) (u : FileUnit EntryName) → changes m units u.file ≡ false → unit_map (image_in m) u.unit ≡ u.unit → kept_unit m units i u ≡ u.unit
kept_same m units i u c e =
    by (kind_map (image_in m) u.unit.kind) (node_map (image_in m) u.unit.root) (kept_unit m units i u).below (ap (λ (w : DwUnit EntryName). w.kind) e) (ap (λ (w : DwUnit EntryName). w.root) e)
    (kept_still m units i u c ∙ ap (λ (w : DwUnit EntryName). w.below) e)
  where
    by : (k : Kind EntryName) (r : Node EntryName) (x : Entries EntryName) → k ≡ u.unit.kind → r ≡ u.unit.root → x ≡ u.unit.below
        → (let a : DwUnit EntryName = record { at = u.unit.at; kind = k; root = r; below = x } in a ≡ u.unit)
    by k r x p q v = cc

heads_same : (x y : DwUnit EntryName) (xs ys : List (DwUnit EntryName)) → x ∷ xs ≡ y ∷ ys → (x ≡ y) × (xs ≡ ys)
heads_same x y xs ys e = (cc, cc)

all_kept : (m : Move) (units : List (FileUnit EntryName)) (file : ℕ) → changes m units file ≡ false → (s : ℕ) (some : List (FileUnit EntryName))
    → map (unit_map (image_in m)) (units_of_file file some) ≡ units_of_file file some → kept_units m units file s some ≡ units_of_file file some
unfolding kept_units units_of_file
all_kept m units file c s [] h = refl
all_kept m units file c s (u ∷ some) h = go (u.file == file) refl (all_kept m units file c (suc s) some) h where
  g : DwUnit EntryName → DwUnit EntryName
  g = unit_map (image_in m)

  more : List (FileUnit EntryName)
  more = filter (λ (w : FileUnit EntryName). w.file == file) some

  go : (b : Bool) → (u.file == file) ≡ b → (map g (units_of_file file some) ≡ units_of_file file some → kept_units m units file (suc s) some ≡ units_of_file file some)
      → map g (map (λ w. w.unit) (cond b (u ∷ more) more)) ≡ map (λ w. w.unit) (cond b (u ∷ more) more)
      → (elim b as (λ _. List (DwUnit EntryName)) [ true ↦ kept_unit m units s u ∷ kept_units m units file (suc s) some | false ↦ kept_units m units file (suc s) some ])
      ≡ map (λ w. w.unit) (cond b (u ∷ more) more)
  go true e rest k =
      let z = heads_same (g u.unit) u.unit (map g (units_of_file file some)) (units_of_file file some) k in
      let own : changes m units u.file ≡ false = ap (changes m units) (eqb-true u.file file e) ∙ c in
      ap (λ (w : DwUnit EntryName). w ∷ kept_units m units file (suc s) some) (kept_same m units s u own z.0) ∙ ap (λ (w : List (DwUnit EntryName)). u.unit ∷ w) (rest z.1)
  go false e rest k = rest k

module _ (docs : List (Doc ℕ)) (common : Doc ℕ) (fixed : Fixed) (p : ArePlacedOver docs common) (fx : IsFixed (reused_of docs common) fixed) (file : ℕ) where
  abbrev r : Reused
  r = reused_of docs common

  abbrev units : List (FileUnit EntryName)
  units = units_of docs

  abbrev m : Move
  m = move_over (reused_of docs common) fixed (file_numbers 0 docs)

  not_gone : changes m units file ≡ false → (t : Top) → In t (tops_of units) → t.file ≡ file → m.gone t.number ≡ false
  not_gone c t there of = go (m.gone t.number) refl where
    go : (b : Bool) → m.gone t.number ≡ b → b ≡ false
    go false e = refl
    go true e = absurd (let z : changes m units file ≡ true = ap (changes m units) (sym of) ∙ top_changes m units t there e in cc)

  rests : changes m units file ≡ false → Rests m.stand file (tops_of units)
  rests c t there of = (stands_fixed docs common fixed p fx (Old t.unit) t (there, refl, not_gone c t there of)).1

  no_local : changes m units file ≡ false → (n : ℕ) (part : PartialUnit) → Nth 0 m.parts n part → part.home ≡ Local file → ⊥
  no_local c n part nth e =
      let l = local_part docs common fixed p fx file n part nth e in
      let t = l.is.some.0 in
      let in_tops = l.is.some.1 in
      let there = tops_there docs common fixed p fx n part l t in_tops in
      let stays = not_gone c t there (local_file docs common fixed p fx n part l file e t in_tops) in
      let gone : m.gone t.number ≡ true = or_right (is_some (image_at fixed t.number)) (moves (free_rule r fixed) units t.number) (top_moves docs common fixed p fx n part l t in_tops) in
      absurd (let z : true ≡ false = sym gone ∙ stays in cc)

  -- a file of which nothing moves has its units as they were
  pub still_over : changes m units file ≡ false → out_units m units file ≡ units_of_file file units
  unfolding out_units
  still_over c =
      ap (λ (w : List (DwUnit EntryName)). w ++ kept_units m units file 0 units) (no_parts m (Local file) 0 m.parts (λ q there e. (let n = in_nth 0 m.parts q there in no_local c n.number q n.nth e)))
      ∙ all_kept m units file c 0 units (files_fixed m.stand file 0 0 0 docs (rests c))
