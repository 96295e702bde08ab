-- References of the units that stand after name entries.
use Rattle.std.proofs.Common.{◌≡◌, ℕ, Bool, true, false, List, [], ◌∷◌, map, refl, sym, ap, subst, ◌∙◌, inl, inr}
use Rattle.dwz_def_reading.specs.Documents.{Attr, Compile, DwUnit, Entries, Kind, Node, OfType, Partial, attr_map, entries_map, language}
use Rattle.dwz_def_reading.specs.Lists.{In}
use Rattle.dwz_def_reading.specs.Trees.{End}
use Rattle.dwz_def_reading.proofs.ListFacts.{in_cases, in_map, in_right}
use Rattle.dwz_def_tops.specs.Lists.{Nth}
use Rattle.dwz_def_tops.specs.Seen.{Closed, Named, Seen, all_seen, named_map, named_value, see, seen, seen_below, seen_map, seen_roots}
use Rattle.dwz_def_tops.proofs.Members.{each_in, in_map_from}
use Rattle.dwz_def_tops.proofs.SeenLemmas.{entry_seen, names_map, root_from, root_seen, seen_entries, seen_from}
use Rattle.dwz_def_tops.proofs.ShownLemmas.{attr_from, entry_under}
use Rattle.dwz_def_tops.specs.Spots.{EntryName, FileUnit, PartialRoot, Top, rows_of_root, tops_of}
use Rattle.dwz_def_tops.proofs.RowLemmas.{unit_row}
use Rattle.dwz_def_tops.proofs.Tops.{row_top, unit_of}
use Rattle.dwz_def_plan.specs.IsPlan.{OfSpace, OfTop, row}
use Rattle.dwz_def_plan.specs.Moves.{Move, image_in, seen_top}
use Rattle.dwz_def_plan.specs.Plan.{PartialUnit, import_of, imports, kept_row}
use Rattle.dwz_def_plan.proofs.KeptLemmas.{are_imports}
use Rattle.dwz_def_plan.proofs.RowParts.{kept_is}
use Rattle.dwz_def_images.specs.After.{AreAfter, AreOld}
use Rattle.dwz_def_tops.specs.UnitNames.{IsNamedBelow}
use Rattle.dwz_def_images.specs.Held.{IsHeld, NameNone}
use Rattle.dwz_def_images.specs.Images.{units_in}
use Rattle.dwz_def_images.specs.Units.{changes, kept_unit, partial_unit, tree}
use Rattle.dwz_def_images.proofs.EntryLemmas.{all_of, kept_compile, kept_still, kept_type, top_seen}
use Rattle.dwz_def_images.proofs.KindLemmas.{kept_kinded}
use Rattle.dwz_def_images.proofs.OldLemmas.{in_units, unit_at}
use Rattle.dwz_def_images.proofs.OldRows.{InTop, IsSpaceSeen, Origin, item_under, raw_seen, raw_top, row_kinded, seen_origin, tops_among}
use Rattle.dwz_def_images.proofs.ServeLemmas.{held_serves}
use Rattle.dwz_def_images.proofs.TreeLemmas.{Behind, OfASpace, OfATop, TreeOrigin, seen_top_map, space_seen, tree_origin}

pub row_seen : (nodes : List (Node EntryName)) (e : Seen EntryName) → In e (seen (row nodes)) → (d : Node EntryName) × In d nodes × (e.attrs ≡ map named_value d.attrs)
unfolding seen
row_seen [] e h = absurd h
row_seen (d ∷ nodes) e (inl x) = (d, inl refl, sym (ap (λ (w : Seen EntryName). w.attrs) x))
row_seen (d ∷ nodes) e (inr r) = let o = row_seen nodes e r in (o.0, inr o.1, o.2)

pub none_seen : (e : Seen EntryName) → In e (seen End) → ⊥
unfolding seen
none_seen e h = h

-- ---- where an entry that stands after comes from

-- its attributes are those of an old entry with their places replaced, or those of an import, or they name nothing
pub data From (units : List (FileUnit EntryName)) (m : Move) (e : Seen EntryName) : Type 0 where
  OfOld : (d : Seen EntryName) → In d (all_seen (units_in units)) → e.attrs ≡ map (named_map (image_in m)) d.attrs → From units m e
  OfImport : (unit n : ℕ) (part : PartialUnit) → Nth 0 m.parts n part → e.attrs ≡ map named_value (import_of unit n).attrs → From units m e
  OfNone : NameNone e.attrs → From units m e

module _ (units : List (FileUnit EntryName)) (m : Move) (old : AreOld units) (held : IsHeld units m) (outs : List (DwUnit EntryName)) (after : AreAfter m units outs) where
  abbrev f : EntryName → EntryName
  f = image_in m

  abbrev parts : List PartialUnit
  parts = m.parts

  abbrev Comes : Seen EntryName → Type 0
  Comes e = From units m e

  top_origin : (t : Top) → In t (tops_of units) → (e : Seen EntryName) → In e (seen_top f t) → Comes e
  top_origin t there e h =
      let o = in_map_from (seen_map f) e (raw_top t) (subst (λ (w : List (Seen EntryName)). In e w) (seen_top_map f t) h) in
      let u = unit_of units t there in
      let r = unit_row units t.unit u.unit u.nth u.compile in
      let below = raw_seen u.unit.file t.unit (language u.unit.unit) [] r.first (rows_of_root units t.unit) u.unit.unit.below r.is t u.in_row o.source o.there in
      OfOld o.source (entry_seen (units_in units) u.unit.unit o.source (in_units 0 units t.unit u.unit u.nth) below) (sym (ap (λ (w : Seen EntryName). w.attrs) o.is))

  map_none : (attrs : List (Attr EntryName)) → NameNone (map named_value attrs) → NameNone (map named_value (map (attr_map f) attrs))
  map_none [] h = tt
  map_none (a ∷ attrs) h = (ap (map f) h.0, map_none attrs h.1)

  new_origin : (n : ℕ) (part : PartialUnit) → Nth 0 parts n part → (e : Seen EntryName) → In e (seen (tree f (m.rows n) End)) → Comes e
  new_origin n part nth e h = go (tree_origin f (m.rows n) End (held.kinds n part nth) e h) where
    go : TreeOrigin f (m.rows n) End e → Comes e
    go (OfATop names t has x) = top_origin t (held.tops n part nth names t has) e x
    go (OfASpace names d has attrs) = OfNone (subst NameNone (sym attrs) (map_none d.attrs (held.plain n part nth names d has)))
    go (Behind x) = absurd (none_seen e x)

  import_origin : (i : ℕ) (e : Seen EntryName) → In e (seen (imports i 0 parts)) → Comes e
  import_origin i e h =
      let a = are_imports i parts in
      let o = row_seen (map (import_of i) a.parts_imported) e (subst (λ (w : Entries EntryName). In e (seen w)) a.entries_are h) in
      let n = in_map_from (import_of i) o.0 a.parts_imported o.1 in
      let p = (a.are n.source).0 n.there in
      OfImport i n.source p.0 p.1 (o.2 ∙ ap (λ (w : Node EntryName). map named_value w.attrs) (sym n.is))

  mapped_origin : (i : ℕ) (u : FileUnit EntryName) → Nth 0 units i u → (e : Seen EntryName) → In e (seen (entries_map f u.unit.below)) → Comes e
  mapped_origin i u nth e h =
      let o = in_map_from (seen_map f) e (seen u.unit.below) (subst (λ (w : List (Seen EntryName)). In e w) (seen_entries f u.unit.below) h) in
      OfOld o.source (entry_seen (units_in units) u.unit o.source (in_units 0 units i u nth) o.there) (sym (ap (λ (w : Seen EntryName). w.attrs) o.is))

  changed_origin : (i : ℕ) (u : FileUnit EntryName) → Nth 0 units i u → u.unit.kind ≡ Compile → (e : Seen EntryName) → In e (seen (tree f (kept_row m.gone units i) (imports i 0 parts))) → Comes e
  changed_origin i u nth kind e h =
      go (tree_origin f (kept_row m.gone units i) (imports i 0 parts) (kept_kinded m.gone units i
      (row_kinded u.file i (language u.unit) [] (unit_row units i u nth kind).first (rows_of_root units i) u.unit.below (unit_row units i u nth kind).is)) e h)
    where
      go : TreeOrigin f (kept_row m.gone units i) (imports i 0 parts) e → Comes e
      go (OfATop names t has x) = top_origin t (row_top units i t (tops_among (rows_of_root units i) names t ((kept_is m.gone units i names (OfTop t)).0 has).0)).0 e x
      go (OfASpace names d has attrs) =
          let r = unit_row units i u nth kind in
          let under = item_under u.file i (language u.unit) [] r.first (rows_of_root units i) u.unit.below r.is names (OfSpace d) ((kept_is m.gone units i names (OfSpace d)).0 has).0 in
          let w = entry_under (units_in units) u.unit names d (in_units 0 units i u nth) under in
          OfOld w.entry w.there (attrs ∙ names_map f d.attrs ∙ ap (map (named_map f)) (sym w.attrs_are))
      go (Behind x) = import_origin i e x

  kept_origin : (i : ℕ) (u : FileUnit EntryName) → Nth 0 units i u → (e : Seen EntryName) → In e (seen (kept_unit m units i u).below) → (k : Kind EntryName) → u.unit.kind ≡ k → (b : Bool)
      → changes m units u.file ≡ b → Comes e
  kept_origin i u nth e h Compile kind true c = changed_origin i u nth kind e (subst (λ (w : Entries EntryName). In e (seen w)) (kept_compile m units i u kind c) h)
  kept_origin i u nth e h k kind false c = mapped_origin i u nth e (subst (λ (w : Entries EntryName). In e (seen w)) (kept_still m units i u c) h)
  kept_origin i u nth e h (OfType signature main) kind true c = mapped_origin i u nth e (subst (λ (w : Entries EntryName). In e (seen w)) (kept_type m units i u signature main kind) h)
  kept_origin i u nth e h Partial kind true c = absurd (subst (λ (w : Kind EntryName). IsNamedBelow i w (rows_of_root units i) u.unit.below) kind (old.units_named i u nth).below)

  root_origin : (v : DwUnit EntryName) → In v outs → (e : Seen EntryName) → see v.root v.below ≡ e → Comes e
  root_origin v there e same = elim (after.from v there) [
    | inl a ↦ OfNone (subst NameNone (ap (λ (w : DwUnit EntryName). map named_value w.root.attrs) a.is ∙ ap (λ (w : Seen EntryName). w.attrs) same) (held.roots a.number))
    | inr b ↦
        let u = b.unit.unit in
        OfOld (see u.root u.below) (root_seen (units_in units) u (in_units 0 units b.number b.unit b.nth))
        (ap (λ (w : Seen EntryName). w.attrs) (sym same) ∙ ap (λ (w : DwUnit EntryName). map named_value w.root.attrs) (sym b.is) ∙ names_map f u.root.attrs)
  ]

  below_origin : (v : DwUnit EntryName) → In v outs → (e : Seen EntryName) → In e (seen v.below) → Comes e
  below_origin v there e h = elim (after.from v there) [
    | inl a ↦ new_origin a.number a.part a.nth e (subst (λ (w : DwUnit EntryName). In e (seen w.below)) (sym a.is) h)
    | inr b ↦ kept_origin b.number b.unit b.nth e (subst (λ (w : DwUnit EntryName). In e (seen w.below)) (sym b.is) h) b.unit.unit.kind refl (changes m units b.unit.file) refl
  ]

  origin : (e : Seen EntryName) → In e (all_seen outs) → Comes e
  origin e h = elim (in_cases e (seen_roots outs) (seen_below outs) h) [
    | inl a ↦ (let o = root_from outs e a in root_origin o.unit o.there e o.is)
    | inr b ↦ (let o = seen_from outs e b in below_origin o.unit o.there e o.is)
  ]

  -- ---- an entry stands at each reference

  abbrev Stands : EntryName → Type 0
  Stands q = (d : Seen EntryName) × In d (all_seen outs) × (d.at ≡ q)

  mapped_there : (i : ℕ) (u : FileUnit EntryName) → Nth 0 units i u → (d : Seen EntryName) → In d (seen u.unit.below) → (kept_unit m units i u).below ≡ entries_map f u.unit.below → Stands (f d.at)
  mapped_there i u nth d h below =
      let there = subst (λ (w : List (Seen EntryName)). In (seen_map f d) w) (sym (seen_entries f u.unit.below)) (in_map (seen_map f) d (seen u.unit.below) h) in
      (seen_map f d, entry_seen outs (kept_unit m units i u) (seen_map f d) (after.kept i u nth) (subst (λ (w : Entries EntryName). In (seen_map f d) (seen w)) (sym below) there), refl)

  below_there : (i : ℕ) (u : FileUnit EntryName) → Nth 0 units i u → (d : Seen EntryName) → In d (seen u.unit.below) → (k : Kind EntryName) → u.unit.kind ≡ k → (b : Bool) → changes m units u.file ≡ b
      → Stands (f d.at)
  below_there i u nth d h k kind false c = mapped_there i u nth d h (kept_still m units i u c)
  below_there i u nth d h (OfType signature main) kind true c = mapped_there i u nth d h (kept_type m units i u signature main kind)
  below_there i u nth d h Partial kind true c = absurd (subst (λ (w : Kind EntryName). IsNamedBelow i w (rows_of_root units i) u.unit.below) kind (old.units_named i u nth).below)
  below_there i u nth d h Compile kind true c =
      go (seen_origin u.file i (language u.unit) [] (unit_row units i u nth kind).first (rows_of_root units i) u.unit.below (unit_row units i u nth kind).is d h)
    where
      go : Origin u.file i (language u.unit) (rows_of_root units i) u.unit.below d → Stands (f d.at)
      go (InTop t there x) = (
        seen_map f d,
        in_right (seen_map f d) (seen_roots outs) (seen_below outs)
            (top_seen units m old (held_serves units m old held) outs (λ i. Unit {0}) (all_of m units outs after) i u nth tt kind t there (m.gone t.number) refl (changes m units u.file) refl d x),
        refl,
      )
      go (IsSpaceSeen names c' has at) =
          let o = space_seen f (kept_row m.gone units i) (imports i 0 parts) names c' ((kept_is m.gone units i names (OfSpace c')).1 (has, tt)) in
          let v = kept_unit m units i u in
          (o.0, entry_seen outs v o.0 (after.kept i u nth) (subst (λ (w : Entries EntryName). In o.0 (seen w)) (sym (kept_compile m units i u kind c)) o.1), o.2 ∙ ap f (sym at))

  -- the image of an entry is an entry
  pub image_there : (d : Seen EntryName) → In d (all_seen (units_in units)) → Stands (f d.at)
  image_there d h = elim (in_cases d (seen_roots (units_in units)) (seen_below (units_in units)) h) [
    | inl a ↦
        let o = root_from (units_in units) d a in
        let n = unit_at 0 units o.unit o.there in
        let v = kept_unit m units n.number n.unit in
        (see v.root v.below, root_seen outs v (after.kept n.number n.unit n.nth), ap (λ (w : DwUnit EntryName). f w.root.at) n.is ∙ ap (λ (w : Seen EntryName). f w.at) o.is)
    | inr b ↦
        let o = seen_from (units_in units) d b in
        let n = unit_at 0 units o.unit o.there in
        below_there n.number n.unit n.nth d (subst (λ (w : DwUnit EntryName). In d (seen w.below)) (sym n.is) o.is) n.unit.unit.kind refl (changes m units n.unit.file) refl
  ]

  import_ref : (i n : ℕ) (a : Named EntryName) (q : EntryName) → In a (map named_value (import_of i n).attrs) → In q a.value.refs → PartialRoot n ≡ q
  import_ref i n a q (inl x) there = elim (subst (λ (w : Named EntryName). In q w.value.refs) (sym x) there) [ inl e ↦ e | inr r ↦ absurd r ]
  import_ref i n a q (inr r) there = absurd r

  stands_at : (e : Seen EntryName) → Comes e → (a : Named EntryName) (q : EntryName) → In a e.attrs → In q a.value.refs → Stands q
  stands_at e (OfOld d there attrs) a q h ref =
      let o = attr_from f d.attrs a q (subst (λ (w : List (Named EntryName)). In a w) attrs h) ref in
      let target = old.closed d o.attr o.place there o.there o.refs in
      let new = image_there target.0 target.1 in
      (new.0, new.1, new.2 ∙ ap f target.2 ∙ o.image_is)
  stands_at e (OfImport i n part nth attrs) a q h ref =
      let v = partial_unit m n in
      (see v.root v.below, root_seen outs v (after.new n part nth), import_ref i n a q (subst (λ (w : List (Named EntryName)). In a w) attrs h) ref)
  stands_at e (OfNone none) a q h ref = absurd (subst (λ (w : List EntryName). In q w) (each_in (λ b. b.value.refs ≡ []) a e.attrs none h) ref)

  pub out_closed : Closed outs
  out_closed = λ e a q h is has. stands_at e (origin e h) a q is has
