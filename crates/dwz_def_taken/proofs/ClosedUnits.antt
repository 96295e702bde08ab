-- References of units that stand after name entries, where what stands for the entries of tops that are gone is there.
use Rattle.std.proofs.Common.{◌≡◌, ℕ, Bool, true, false, List, [], ◌∷◌, map, refl, sym, ap, subst, ◌∙◌, inl, inr}
use Rattle.dwz_def_reading.specs.Documents.{Compile, DwUnit, Entries, Kind, Node, OfType, Partial, entries_map, language}
use Rattle.dwz_def_reading.specs.Lists.{In}
use Rattle.dwz_def_reading.proofs.ListFacts.{in_cases, in_map}
use Rattle.dwz_def_tops.specs.Lists.{Nth}
use Rattle.dwz_def_tops.specs.Seen.{Closed, Named, Seen, all_seen, named_map, named_value, see, seen, seen_below, seen_map, seen_roots}
use Rattle.dwz_def_tops.proofs.Members.{each_in, in_map_from}
use Rattle.dwz_def_tops.proofs.SeenLemmas.{entry_seen, names_map, root_from, root_seen, seen_entries, seen_from}
use Rattle.dwz_def_tops.proofs.ShownLemmas.{attr_from, entry_under}
use Rattle.dwz_def_tops.specs.Spots.{EntryName, FileUnit, PartialRoot, Top, rows_of_root, row_tops, tops_of}
use Rattle.dwz_def_tops.proofs.RowLemmas.{unit_row}
use Rattle.dwz_def_tops.proofs.Tops.{row_top, unit_of}
use Rattle.dwz_def_images.specs.IsPlan.{OfSpace, OfTop}
use Rattle.dwz_def_images.specs.Moves.{Move, image_in, seen_top}
use Rattle.dwz_def_images.specs.Plan.{PartialUnit, import_of, imports, kept_row}
use Rattle.dwz_def_images.proofs.KeptLemmas.{are_imports}
use Rattle.dwz_def_images.proofs.RowParts.{kept_is}
use Rattle.dwz_def_images.specs.After.{AreAfter, AreOld}
use Rattle.dwz_def_tops.specs.UnitNames.{IsNamedBelow}
use Rattle.dwz_def_images.specs.Held.{NameNone}
use Rattle.dwz_def_images.specs.Images.{units_in}
use Rattle.dwz_def_images.specs.Units.{changes, kept_unit, partial_unit, tree}
use Rattle.dwz_def_images.proofs.ClosedLemmas.{row_seen}
use Rattle.dwz_def_images.proofs.EntryLemmas.{kept_compile, kept_still, kept_type}
use Rattle.dwz_def_images.proofs.KindLemmas.{kept_kinded}
use Rattle.dwz_def_images.proofs.OldLemmas.{in_units, unit_at}
use Rattle.dwz_def_images.proofs.OldRows.{InTop, IsSpaceSeen, Origin, item_under, raw_seen, raw_top, row_kinded, seen_origin, tops_among, tops_somewhere}
use Rattle.dwz_def_images.proofs.TreeLemmas.{Behind, OfASpace, OfATop, TreeOrigin, seen_top_map, space_seen, tree_origin, tree_seen}

module _ (units : List (FileUnit EntryName)) (m : Move) (old : AreOld units) (outs : List (DwUnit EntryName)) (after : AreAfter m units outs)
    (gone : (t : Top) → In t (tops_of units) → m.gone t.number ≡ true → (d : Seen EntryName) → In d (raw_top t)
    → (e : Seen EntryName) × In e (all_seen outs) × (e.at ≡ image_in m d.at)) where
  abbrev f : EntryName → EntryName
  f = image_in m

  abbrev Stands : EntryName → Type 0
  Stands q = (d : Seen EntryName) × In d (all_seen outs) × (d.at ≡ q)

  -- each reference of the entry names one that stands there
  abbrev Closes : Seen EntryName → Type 0
  Closes e = (a : Named EntryName) (q : EntryName) → In a e.attrs → In q a.value.refs → Stands q

  -- ---- the image of an entry is an entry

  mapped_there : (i : ℕ) (u : FileUnit EntryName) → Nth 0 units i u → (d : Seen EntryName) → In d (seen u.unit.below) → (kept_unit m units i u).below ≡ entries_map f u.unit.below → Stands (f d.at)
  mapped_there i u nth d h below =
      let there = subst (λ (w : List (Seen EntryName)). In (seen_map f d) w) (sym (seen_entries f u.unit.below)) (in_map (seen_map f) d (seen u.unit.below) h) in
      (seen_map f d, entry_seen outs (kept_unit m units i u) (seen_map f d) (after.kept i u nth) (subst (λ (w : Entries EntryName). In (seen_map f d) (seen w)) (sym below) there), refl)

  top_there : (i : ℕ) (u : FileUnit EntryName) → Nth 0 units i u → u.unit.kind ≡ Compile → changes m units u.file ≡ true → (t : Top) → In t (row_tops (rows_of_root units i)) → (d : Seen EntryName)
      → In d (raw_top t) → (b : Bool) → m.gone t.number ≡ b → Stands (f d.at)
  top_there i u nth kind c t in_row d x true q = gone t (row_top units i t in_row).0 q d x
  top_there i u nth kind c t in_row d x false q =
      let r = unit_row units i u nth kind in
      let o = tops_somewhere (rows_of_root units i) (row_kinded u.file i (language u.unit) [] r.first (rows_of_root units i) u.unit.below r.is) t in_row in
      let stays = (kept_is m.gone units i o.names (OfTop t)).1 (o.has, q) in (
        seen_map f d,
        entry_seen outs (kept_unit m units i u) (seen_map f d) (after.kept i u nth)
            (subst (λ (w : Entries EntryName). In (seen_map f d) (seen w)) (sym (kept_compile m units i u kind c))
            (tree_seen f (kept_row m.gone units i) (imports i 0 m.parts) o.names t stays (seen_map f d)
            (subst (λ (w : List (Seen EntryName)). In (seen_map f d) w) (sym (seen_top_map f t)) (in_map (seen_map f) d (raw_top t) x)))),
        refl,
      )

  below_there : (i : ℕ) (u : FileUnit EntryName) → Nth 0 units i u → (d : Seen EntryName) → In d (seen u.unit.below) → (k : Kind EntryName) → u.unit.kind ≡ k → (b : Bool) → changes m units u.file ≡ b
      → Stands (f d.at)
  below_there i u nth d h k kind false c = mapped_there i u nth d h (kept_still m units i u c)
  below_there i u nth d h (OfType signature main) kind true c = mapped_there i u nth d h (kept_type m units i u signature main kind)
  below_there i u nth d h Partial kind true c = absurd (subst (λ (w : Kind EntryName). IsNamedBelow i w (rows_of_root units i) u.unit.below) kind (old.units_named i u nth).below)
  below_there i u nth d h Compile kind true c =
      go (seen_origin u.file i (language u.unit) [] (unit_row units i u nth kind).first (rows_of_root units i) u.unit.below (unit_row units i u nth kind).is d h)
    where
      go : Origin u.file i (language u.unit) (rows_of_root units i) u.unit.below d → Stands (f d.at)
      go (InTop t there x) = top_there i u nth kind c t there d x (m.gone t.number) refl
      go (IsSpaceSeen names c' has at) =
          let o = space_seen f (kept_row m.gone units i) (imports i 0 m.parts) names c' ((kept_is m.gone units i names (OfSpace c')).1 (has, tt)) in
          let v = kept_unit m units i u in
          (o.0, entry_seen outs v o.0 (after.kept i u nth) (subst (λ (w : Entries EntryName). In o.0 (seen w)) (sym (kept_compile m units i u kind c)) o.1), o.2 ∙ ap f (sym at))

  pub image_stands : (d : Seen EntryName) → In d (all_seen (units_in units)) → Stands (f d.at)
  image_stands d h = elim (in_cases d (seen_roots (units_in units)) (seen_below (units_in units)) h) [
    | inl a ↦
        let o = root_from (units_in units) d a in
        let n = unit_at 0 units o.unit o.there in
        let v = kept_unit m units n.number n.unit in
        (see v.root v.below, root_seen outs v (after.kept n.number n.unit n.nth), ap (λ (w : DwUnit EntryName). f w.root.at) n.is ∙ ap (λ (w : Seen EntryName). f w.at) o.is)
    | inr b ↦
        let o = seen_from (units_in units) d b in
        let n = unit_at 0 units o.unit o.there in
        below_there n.number n.unit n.nth d (subst (λ (w : DwUnit EntryName). In d (seen w.below)) (sym n.is) o.is) n.unit.unit.kind refl (changes m units n.unit.file) refl
  ]

  -- ---- where an entry that stands after comes from

  pub from_none : (e : Seen EntryName) → NameNone e.attrs → Closes e
  from_none e none a q h ref = absurd (subst (λ (w : List EntryName). In q w) (each_in (λ b. b.value.refs ≡ []) a e.attrs none h) ref)

  from_old : (e d : Seen EntryName) → In d (all_seen (units_in units)) → e.attrs ≡ map (named_map f) d.attrs → Closes e
  from_old e d there attrs a q h ref =
      let o = attr_from f d.attrs a q (subst (λ (w : List (Named EntryName)). In a w) attrs h) ref in
      let target = old.closed d o.attr o.place there o.there o.refs in
      let new = image_stands target.0 target.1 in
      (new.0, new.1, new.2 ∙ ap f target.2 ∙ o.image_is)

  pub from_top : (t : Top) → In t (tops_of units) → (e : Seen EntryName) → In e (seen_top f t) → Closes e
  from_top t there e h =
      let o = in_map_from (seen_map f) e (raw_top t) (subst (λ (w : List (Seen EntryName)). In e w) (seen_top_map f t) h) in
      let u = unit_of units t there in
      let r = unit_row units t.unit u.unit u.nth u.compile in
      let below = raw_seen u.unit.file t.unit (language u.unit.unit) [] r.first (rows_of_root units t.unit) u.unit.unit.below r.is t u.in_row o.source o.there in
      from_old e o.source (entry_seen (units_in units) u.unit.unit o.source (in_units 0 units t.unit u.unit u.nth) below) (sym (ap (λ (w : Seen EntryName). w.attrs) o.is))

  import_ref : (i n : ℕ) (a : Named EntryName) (q : EntryName) → In a (map named_value (import_of i n).attrs) → In q a.value.refs → PartialRoot n ≡ q
  import_ref i n a q (inl x) there = elim (subst (λ (w : Named EntryName). In q w.value.refs) (sym x) there) [ inl e ↦ e | inr r ↦ absurd r ]
  import_ref i n a q (inr r) there = absurd r

  from_import : (i : ℕ) (e : Seen EntryName) → In e (seen (imports i 0 m.parts)) → Closes e
  from_import i e h a q attr ref =
      let is = are_imports i m.parts in
      let o = row_seen (map (import_of i) is.parts_imported) e (subst (λ (w : Entries EntryName). In e (seen w)) is.entries_are h) in
      let n = in_map_from (import_of i) o.0 is.parts_imported o.1 in
      let p = (is.are n.source).0 n.there in
      let v = partial_unit m n.source in
      let attrs : e.attrs ≡ map named_value (import_of i n.source).attrs = o.2 ∙ ap (λ (w : Node EntryName). map named_value w.attrs) (sym n.is) in
      (see v.root v.below, root_seen outs v (after.new n.source p.0 p.1), import_ref i n.source a q (subst (λ (w : List (Named EntryName)). In a w) attrs attr) ref)

  from_mapped : (i : ℕ) (u : FileUnit EntryName) → Nth 0 units i u → (e : Seen EntryName) → In e (seen (entries_map f u.unit.below)) → Closes e
  from_mapped i u nth e h =
      let o = in_map_from (seen_map f) e (seen u.unit.below) (subst (λ (w : List (Seen EntryName)). In e w) (seen_entries f u.unit.below) h) in
      from_old e o.source (entry_seen (units_in units) u.unit o.source (in_units 0 units i u nth) o.there) (sym (ap (λ (w : Seen EntryName). w.attrs) o.is))

  from_changed : (i : ℕ) (u : FileUnit EntryName) → Nth 0 units i u → u.unit.kind ≡ Compile → (e : Seen EntryName) → In e (seen (tree f (kept_row m.gone units i) (imports i 0 m.parts))) → Closes e
  from_changed i u nth kind e h =
      go (tree_origin f (kept_row m.gone units i) (imports i 0 m.parts) (kept_kinded m.gone units i
      (row_kinded u.file i (language u.unit) [] (unit_row units i u nth kind).first (rows_of_root units i) u.unit.below (unit_row units i u nth kind).is)) e h)
    where
      go : TreeOrigin f (kept_row m.gone units i) (imports i 0 m.parts) e → Closes e
      go (OfATop names t has x) = from_top t (row_top units i t (tops_among (rows_of_root units i) names t ((kept_is m.gone units i names (OfTop t)).0 has).0)).0 e x
      go (OfASpace names d has attrs) =
          let r = unit_row units i u nth kind in
          let under = item_under u.file i (language u.unit) [] r.first (rows_of_root units i) u.unit.below r.is names (OfSpace d) ((kept_is m.gone units i names (OfSpace d)).0 has).0 in
          let w = entry_under (units_in units) u.unit names d (in_units 0 units i u nth) under in
          from_old e w.entry w.there (attrs ∙ names_map f d.attrs ∙ ap (map (named_map f)) (sym w.attrs_are))
      go (Behind x) = from_import i e x

  from_kept : (i : ℕ) (u : FileUnit EntryName) → Nth 0 units i u → (e : Seen EntryName) → In e (seen (kept_unit m units i u).below) → (k : Kind EntryName) → u.unit.kind ≡ k → (b : Bool)
      → changes m units u.file ≡ b → Closes e
  from_kept i u nth e h Compile kind true c = from_changed i u nth kind e (subst (λ (w : Entries EntryName). In e (seen w)) (kept_compile m units i u kind c) h)
  from_kept i u nth e h k kind false c = from_mapped i u nth e (subst (λ (w : Entries EntryName). In e (seen w)) (kept_still m units i u c) h)
  from_kept i u nth e h (OfType signature main) kind true c = from_mapped i u nth e (subst (λ (w : Entries EntryName). In e (seen w)) (kept_type m units i u signature main kind) h)
  from_kept i u nth e h Partial kind true c = absurd (subst (λ (w : Kind EntryName). IsNamedBelow i w (rows_of_root units i) u.unit.below) kind (old.units_named i u nth).below)

  -- ---- all of it, where it holds of the partial units

  pub units_closed : ((n : ℕ) (part : PartialUnit) → Nth 0 m.parts n part → (e : Seen EntryName) → In e (see (partial_unit m n).root (partial_unit m n).below ∷ seen (partial_unit m n).below) → Closes e)
      → Closed outs
  units_closed parts = λ e a q h attr ref. elim (in_cases e (seen_roots outs) (seen_below outs) h) [
    | inl x ↦ (let o = root_from outs e x in root_of o.unit o.there e o.is a q attr ref)
    | inr y ↦ (let o = seen_from outs e y in below_of o.unit o.there e o.is a q attr ref)
  ]
    where
      root_of : (v : DwUnit EntryName) → In v outs → (e : Seen EntryName) → see v.root v.below ≡ e → Closes e
      root_of v there e same = elim (after.from v there) [
        | inl a ↦ parts a.number a.part a.nth e (inl (ap (λ (w : DwUnit EntryName). see w.root w.below) a.is ∙ same))
        | inr b ↦
            let u = b.unit.unit in
            from_old e (see u.root u.below) (root_seen (units_in units) u (in_units 0 units b.number b.unit b.nth))
            (ap (λ (w : Seen EntryName). w.attrs) (sym same) ∙ ap (λ (w : DwUnit EntryName). map named_value w.root.attrs) (sym b.is) ∙ names_map f u.root.attrs)
      ]

      below_of : (v : DwUnit EntryName) → In v outs → (e : Seen EntryName) → In e (seen v.below) → Closes e
      below_of v there e h = elim (after.from v there) [
        | inl a ↦ parts a.number a.part a.nth e (inr (subst (λ (w : DwUnit EntryName). In e (seen w.below)) (sym a.is) h))
        | inr b ↦ from_kept b.number b.unit b.nth e (subst (λ (w : DwUnit EntryName). In e (seen w.below)) (sym b.is) h) b.unit.unit.kind refl (changes m units b.unit.file) refl
      ]
