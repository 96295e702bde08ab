-- The names of units before: none of them is of a partial unit, so no old entry imports one.
use Rattle.std.proofs.Common.{◌⊎◌, ◌≡◌, ℕ, suc, List, [], ◌∷◌, map, refl, sym, ap, subst, ◌∙◌, inl, inr}
use Rattle.dwz_def_reading.specs.Documents.{Attr, Compile, DwUnit, Entries, Kind, Node, OfType, Partial, attr_map, kind_map, language, node_map, ref}
use Rattle.dwz_def_reading.specs.Lists.{In}
use Rattle.dwz_def_reading.specs.Trees.{End, Entry}
use Rattle.dwz_def_reading.proofs.ListFacts.{in_cases, in_map}
use Rattle.dwz_def_tops.specs.Lists.{Nth}
use Rattle.dwz_def_tops.specs.Seen.{IsImport, IsPartial, Named, Seen, all_seen, named_value, seen, seen_below, seen_roots}
use Rattle.dwz_def_tops.proofs.Members.{in_map_from}
use Rattle.dwz_def_tops.proofs.SeenLemmas.{root_from, seen_from}
use Rattle.dwz_def_tops.proofs.ShownLemmas.{EntryWith}
use Rattle.dwz_def_tops.specs.Spots.{EntryName, FileUnit, Import, InChain, InType, Labelled, LabelledTop, PartialOf, PartialRoot, RootOf, SpaceAt, Top, UnitOf, Within, rows_of_root}
use Rattle.dwz_def_tops.proofs.RowLemmas.{unit_row}
use Rattle.dwz_def_tops.proofs.Tops.{row_top}
use Rattle.dwz_def_plan.specs.Moves.{Move, image_in}
use Rattle.dwz_def_plan.specs.Plan.{image_by}
use Rattle.dwz_def_images.specs.After.{AreOld, IsKeptUnit, IsNewUnit}
use Rattle.dwz_def_tops.specs.UnitNames.{IsNamedBelow}
use Rattle.dwz_def_images.specs.Images.{units_in}
use Rattle.dwz_def_images.proofs.OldRows.{InTop, IsSpaceSeen, Origin, raw_top, seen_origin, space_place}

-- ---- units with their files

pub record UnitAt (s : ℕ) (units : List (FileUnit EntryName)) (u : DwUnit EntryName) : Type 0 where
  pub number : ℕ
  pub unit : FileUnit EntryName
  pub nth : Nth s units number unit
  pub is : unit.unit ≡ u

pub unit_at : (s : ℕ) (units : List (FileUnit EntryName)) (u : DwUnit EntryName) → In u (units_in units) → UnitAt s units u
unit_at s [] u h = absurd h
unit_at s (f ∷ units) u (inl x) = record { number = s; unit = f; nth = inl (refl, refl); is = x }
unit_at s (f ∷ units) u (inr r) = let o = unit_at (suc s) units u r in record { number = o.number; unit = o.unit; nth = inr o.nth; is = o.is }

pub in_units : (s : ℕ) (units : List (FileUnit EntryName)) (i : ℕ) (u : FileUnit EntryName) → Nth s units i u → In u.unit (units_in units)
in_units s [] i u h = absurd h
in_units s (f ∷ units) i u (inl x) = inl (ap (λ (w : FileUnit EntryName). w.unit) x.1)
in_units s (f ∷ units) i u (inr r) = inr (in_units (suc s) units i u r)

-- ---- the names of old entries

abbrev pub IsOldPlace : EntryName → Type 0
IsOldPlace (Within t path) = Unit {0}
IsOldPlace (RootOf i) = Unit {0}
IsOldPlace (SpaceAt i path) = Unit {0}
IsOldPlace (InType i path) = Unit {0}
IsOldPlace _ = ⊥

pub record LabelledAt (name : List ℕ → EntryName) (s : EntryName) : Type 0 where
  pub path : List ℕ
  pub is : s ≡ name path

pub labelled_at : (name : List ℕ → EntryName) (path : List ℕ) (i : ℕ) (f : Entries EntryName) (e : Seen EntryName) → Labelled name path i f → In e (seen f) → LabelledAt name e.at
unfolding seen
labelled_at name path i End e h is = absurd is
labelled_at name path i (Entry d f g) e h (inl x) = record { path = i ∷ path; is = ap (λ (w : Seen EntryName). w.at) (sym x) ∙ h.0 }
labelled_at name path i (Entry d f g) e h (inr r) = elim (in_cases e (seen f) (seen g) r) [
  | inl a ↦ labelled_at name (i ∷ path) 0 f e h.1 a
  | inr b ↦ labelled_at name path (suc i) g e h.2 b
]

pub top_at : (t : Top) → LabelledTop t → (e : Seen EntryName) → In e (raw_top t) → LabelledAt (Within t.number) e.at
top_at t h e (inl x) = record { path = []; is = ap (λ (w : Seen EntryName). w.at) (sym x) ∙ h.0 }
top_at t h e (inr r) = labelled_at (Within t.number) [] 0 t.below e h.1 r

module _ (units : List (FileUnit EntryName)) (old : AreOld units) where
  below_place : (i : ℕ) (u : FileUnit EntryName) → Nth 0 units i u → (e : Seen EntryName) → In e (seen u.unit.below) → (k : Kind EntryName) → u.unit.kind ≡ k → IsOldPlace e.at
  below_place i u nth e h Compile kind =
      let r = unit_row units i u nth kind in
      let named = subst (λ (w : Kind EntryName). IsNamedBelow i w (rows_of_root units i) u.unit.below) kind (old.units_named i u nth).below in
      go (seen_origin u.file i (language u.unit) [] r.first (rows_of_root units i) u.unit.below r.is e h) named
    where
      go : Origin u.file i (language u.unit) (rows_of_root units i) u.unit.below e → IsNamedBelow i Compile (rows_of_root units i) u.unit.below → IsOldPlace e.at
      go (InTop t a b) named = let l = top_at t (old.tops_named t (row_top units i t a).0) e b in subst IsOldPlace (sym l.is) tt
      go (IsSpaceSeen names d a b) named = let l = space_place i [] 0 (rows_of_root units i) named names d a in subst IsOldPlace (sym (b ∙ l.1)) tt
  below_place i u nth e h (OfType signature main) kind =
      let named = subst (λ (w : Kind EntryName). IsNamedBelow i w (rows_of_root units i) u.unit.below) kind (old.units_named i u nth).below in
      let l = labelled_at (InType i) [] 0 u.unit.below e named h in
      subst IsOldPlace (sym l.is) tt
  below_place i u nth e h Partial kind = absurd (subst (λ (w : Kind EntryName). IsNamedBelow i w (rows_of_root units i) u.unit.below) kind (old.units_named i u nth).below)

  pub old_place : (e : Seen EntryName) → In e (all_seen (units_in units)) → IsOldPlace e.at
  old_place e h = elim (in_cases e (seen_roots (units_in units)) (seen_below (units_in units)) h) [
    | inl a ↦ (let o = root_from (units_in units) e a in
        let n = unit_at 0 units o.unit o.there in
        let root : e.at ≡ RootOf n.number = ap (λ (w : Seen EntryName). w.at) (sym o.is) ∙ ap (λ (w : DwUnit EntryName). w.root.at) (sym n.is) ∙ (old.units_named n.number n.unit n.nth).root in
        subst IsOldPlace (sym root) tt)
    | inr b ↦ (let o = seen_from (units_in units) e b in
        let n = unit_at 0 units o.unit o.there in
        below_place n.number n.unit n.nth e (subst (λ (w : DwUnit EntryName). In e (seen w.below)) (sym n.is) o.is) n.unit.unit.kind refl)
  ]

  pub no_new_named : (attrs : List (Attr EntryName)) → EntryWith (units_in units) attrs → (a : Named EntryName) → In a (map named_value attrs) → (s : EntryName) → In s a.value.refs → IsOldPlace s
  no_new_named attrs o a is s there =
      let d = old.closed o.entry a s o.there (subst (λ (w : List (Named EntryName)). In a w) (sym o.attrs_are) is) there in
      subst IsOldPlace d.2 (old_place d.0 d.1)

  pub no_new_ref : (attrs : List (Attr EntryName)) → EntryWith (units_in units) attrs → (a : Attr EntryName) → In (named_value a) (map named_value attrs) → (s : EntryName) → In s a.value.refs
      → IsOldPlace s
  no_new_ref attrs o a is s there = no_new_named attrs o (named_value a) is s there

-- ---- no old entry imports a partial unit

old_image : (stand : ℕ → ℕ) (s : EntryName) (n : ℕ) → IsOldPlace s → image_by stand s ≡ PartialRoot n → ⊥
old_image stand (Within t p) n h e = cc
old_image stand (RootOf i) n h e = cc
old_image stand (SpaceAt i p) n h e = cc
old_image stand (InType i p) n h e = cc
old_image stand (UnitOf i) n h e = h
old_image stand (PartialOf i) n h e = h
old_image stand (PartialRoot i) n h e = h
old_image stand (InChain a b c) n h e = h
old_image stand (Import i j) n h e = h

first_of_refs : (f : EntryName → EntryName) (refs : List EntryName) (s : EntryName) → map f refs ≡ s ∷ [] → (r : EntryName) × In r refs × (f r ≡ s)
first_of_refs f [] s e = absurd cc
first_of_refs f (r ∷ refs) s e = (r, inl refl, cc)

abbrev named_ref : ℕ → EntryName → Named EntryName
named_ref name s = record { name = name; value = ref s }

-- an image that is the root of a partial unit was that before
root_image : (stand : ℕ → ℕ) (s : EntryName) (n : ℕ) → image_by stand s ≡ PartialRoot n → s ≡ PartialRoot n
root_image stand (Within t p) n e = absurd cc
root_image stand (UnitOf i) n e = e
root_image stand (RootOf i) n e = e
root_image stand (SpaceAt i p) n e = e
root_image stand (InType i p) n e = e
root_image stand (PartialOf i) n e = e
root_image stand (PartialRoot i) n e = e
root_image stand (InChain a b c) n e = e
root_image stand (Import i j) n e = e

-- where an image names the root of a partial unit, the attribute did
pub root_named : (stand : ℕ → ℕ) (attrs : List (Attr EntryName)) (n : ℕ) → In (record { name = 0x18; value = ref (PartialRoot n) }) (map named_value (map (attr_map (image_by stand)) attrs))
    → (a : Attr EntryName) × In a attrs × In (PartialRoot n) a.value.refs
root_named stand attrs n is =
    let f = image_by stand in
    let x = in_map_from named_value (named_ref 0x18 (PartialRoot n)) (map (attr_map f) attrs) is in
    let y = in_map_from (attr_map f) x.source attrs x.there in
    let refs : map f y.source.value.refs ≡ PartialRoot n ∷ [] = ap (λ (w : Attr EntryName). w.value.refs) y.is ∙ ap (λ (w : Named EntryName). w.value.refs) x.is in
    let r = first_of_refs f y.source.value.refs (PartialRoot n) refs in
    (y.source, y.there, subst (λ (w : EntryName). In w y.source.value.refs) (root_image stand r.0 n r.2) r.1)

pub no_partial_root : (units : List (FileUnit EntryName)) (old : AreOld units) (stand : ℕ → ℕ) (attrs : List (Attr EntryName)) → EntryWith (units_in units) attrs → (n : ℕ)
    → In (record { name = 0x18; value = ref (PartialRoot n) }) (map named_value (map (attr_map (image_by stand)) attrs)) → ⊥
no_partial_root units old stand attrs o n is =
    let f = image_by stand in
    let x = in_map_from named_value (named_ref 0x18 (PartialRoot n)) (map (attr_map f) attrs) is in
    let y = in_map_from (attr_map f) x.source attrs x.there in
    let refs : map f y.source.value.refs ≡ PartialRoot n ∷ [] = ap (λ (w : Attr EntryName). w.value.refs) y.is ∙ ap (λ (w : Named EntryName). w.value.refs) x.is in
    let r = first_of_refs f y.source.value.refs (PartialRoot n) refs in
    old_image stand r.0 n (no_new_ref units old attrs o y.source (in_named y.source attrs y.there) r.0 r.1) r.2
  where
    in_named : (a : Attr EntryName) (attrs : List (Attr EntryName)) → In a attrs → In (named_value a) (map named_value attrs)
    in_named a attrs is = in_map named_value a attrs is

-- ---- partial units among those after

kept_kind : (stand : ℕ → ℕ) (units : List (FileUnit EntryName)) (i : ℕ) (k : Kind EntryName) (below : Entries EntryName) → IsNamedBelow i k (rows_of_root units i) below
    → IsPartial (kind_map (image_by stand) k) → ⊥
kept_kind stand units i Compile below h is = is
kept_kind stand units i (OfType signature main) below h is = is
kept_kind stand units i Partial below h is = h

module _ (units : List (FileUnit EntryName)) (old : AreOld units) (m : Move) (outs : List (DwUnit EntryName)) (from : (v : DwUnit EntryName) → In v outs → IsNewUnit m v ⊎ IsKeptUnit m units v) where
  -- a partial unit among them is a new one
  pub partial_is_new : (v : DwUnit EntryName) → In v outs → IsPartial v.kind → IsNewUnit m v
  partial_is_new v there partial = elim (from v there) [
    | inl a ↦ a
    | inr b ↦ absurd (kept_kind (m.stand) units b.number b.unit.unit.kind b.unit.unit.below (old.units_named b.number b.unit b.nth).below
        (subst (λ (w : DwUnit EntryName). IsPartial w.kind) (sym b.is) partial))
  ]

  pub no_import : (e : Node EntryName) → EntryWith (units_in units) e.attrs → (v : DwUnit EntryName) → IsImport outs (node_map (image_in m) e) v → ⊥
  no_import e o v is =
      let n = partial_is_new v is.unit is.partial in
      no_partial_root units old (m.stand) e.attrs o n.number (subst (λ (w : DwUnit EntryName). In (record { name = 0x18; value = ref w.root.at }) (map named_value (map (attr_map (image_in m))
      e.attrs)))
      (sym n.is) is.names)
