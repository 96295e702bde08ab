-- References of what stands after in place of a file name what stands there, whichever units these are.
use Rattle.std.proofs.Common.{◌≡◌, ◌⊎◌, ℕ, Bool, true, false, List, [], ◌==◌, map, refl, sym, ap, subst, ◌∙◌, inl, inr, eq-eqb, eqb-true}
use Rattle.dwz_def_reading.specs.Documents.{Compile, DwUnit, Entries, Kind, Node, OfType, Partial, entries_map, language}
use Rattle.dwz_def_reading.specs.Lists.{In}
use Rattle.dwz_def_reading.specs.Trees.{End, Entry}
use Rattle.dwz_def_reading.proofs.ListFacts.{in_cases, in_left, in_map, in_right}
use Rattle.dwz_def_tops.specs.Lists.{Nth}
use Rattle.dwz_def_tops.specs.Seen.{Closed, Named, Seen, all_seen, named_map, named_value, see, seen, seen_below, seen_map, seen_roots}
use Rattle.dwz_def_tops.proofs.Members.{each_in, in_filter, in_filter_from, in_map_from, in_nth, nth_in}
use Rattle.dwz_def_tops.proofs.SeenLemmas.{entry_seen, names_map, root_from, root_seen, seen_entries, seen_from, seen_in}
use Rattle.dwz_def_tops.proofs.ShownLemmas.{attr_from}
use Rattle.dwz_def_tops.specs.Spaces.{IsUnder}
use Rattle.dwz_def_tops.specs.Spots.{FileUnit, PartialRoot, EntryName, Top, rows_of_root, row_tops, tops_of}
use Rattle.dwz_def_tops.proofs.RowLemmas.{row_unit, unit_row}
use Rattle.dwz_def_tops.proofs.Tops.{row_top, unit_of}
use Rattle.dwz_def_images.specs.Homes.{Local}
use Rattle.dwz_def_images.specs.IsPlan.{Has, OfSpace, OfTop}
use Rattle.dwz_def_images.specs.Moves.{Move, image_in, seen_top}
use Rattle.dwz_def_images.specs.Plan.{PartialUnit, import_of, imports, kept_row}
use Rattle.dwz_def_images.proofs.KeptLemmas.{are_imports}
use Rattle.dwz_def_images.proofs.RowParts.{kept_is}
use Rattle.dwz_def_images.specs.After.{AreOld, IsOfFile}
use Rattle.dwz_def_tops.specs.UnitNames.{IsNamedBelow}
use Rattle.dwz_def_images.specs.Held.{Kinded, NameNone}
use Rattle.dwz_def_images.specs.Units.{changes, kept_unit, kept_units, out_units, partial_unit, partial_units, tree, units_of_file}
use Rattle.dwz_def_images.proofs.ClosedLemmas.{none_seen, row_seen}
use Rattle.dwz_def_images.proofs.EntryLemmas.{kept_compile, kept_still, kept_type}
use Rattle.dwz_def_images.proofs.KindLemmas.{kept_kinded}
use Rattle.dwz_def_images.proofs.OldRows.{InTop, IsSpaceSeen, Origin, item_under, raw_seen, raw_top, row_kinded, seen_origin, tops_among}
use Rattle.dwz_def_images.proofs.TreeLemmas.{Behind, OfASpace, OfATop, TreeOrigin, seen_top_map, tree_origin}
use Rattle.std.specs.List.{filter}
use Rattle.dwz_def_readback.proofs.HomeLemmas.{kept_from, parts_from}
use Rattle.dwz_def_readback.proofs.KeptLemmas.{mapped_kept, space_kept, top_kept}
use Rattle.dwz_def_readback.proofs.WithinLemmas.{none_mapped}

-- an entry in spaces is seen
under_seen : (names : List (List ℕ)) (e : Node EntryName) (g : Entries EntryName) → IsUnder names e g → (d : Seen EntryName) × In d (seen g) × (d.attrs ≡ map named_value e.attrs)
unfolding seen
under_seen names e End h = absurd h
under_seen names e (Entry d g k) (inl x) = (see d g, inl refl, ap (λ (w : Node EntryName). map named_value w.attrs) x.1)
under_seen names e (Entry d g k) (inr (inl i)) = let o = under_seen i.1 e g i.4 in (o.0, inr (in_left o.0 (seen g) (seen k) o.1), o.2)
under_seen names e (Entry d g k) (inr (inr r)) = let o = under_seen names e k r in (o.0, inr (in_right o.0 (seen g) (seen k) o.1), o.2)

-- what a partial unit of the file holds: tops of the file, and spaces that name nothing; nor does its root
pub record HoldsOwn (units : List (FileUnit EntryName)) (m : Move) (file n : ℕ) : Type 0 where
  pub kinds : Kinded (m.rows n)
  pub tops : (names : List (List ℕ)) (t : Top) → Has names (OfTop t) (m.rows n) → In t (tops_of units) × (t.file ≡ file)
  pub plain : (names : List (List ℕ)) (e : Node EntryName) → Has names (OfSpace e) (m.rows n) → NameNone (map named_value e.attrs)
  pub root : NameNone (map named_value (m.roots n))

-- an entry of these units stands at the image of that place
abbrev pub StandsAt : Move → List (DwUnit EntryName) → EntryName → Type 0
StandsAt m outs at = (d : Seen EntryName) × In d (all_seen outs) × (d.at ≡ image_in m at)

-- a move of units, and what stands after in place of a file: its units that are kept, the partial units that these use, and what is gone
-- of its tops
module _ (units : List (FileUnit EntryName)) (m : Move) (old : AreOld units) (file : ℕ) (outs : List (DwUnit EntryName))
    (kept_in : (i : ℕ) (u : FileUnit EntryName) → Nth 0 units i u → u.file ≡ file → In (kept_unit m units i u) outs)
    (new_in : (n : ℕ) (part : PartialUnit) → Nth 0 m.parts n part → (i : ℕ) → In i part.users → IsOfFile units file i → In (partial_unit m n) outs)
    (gone_there : (t : Top) → In t (tops_of units) → t.file ≡ file → m.gone t.number ≡ true → (d : Seen EntryName) → In d (raw_top t) → StandsAt m outs d.at)
    (own : (n : ℕ) (part : PartialUnit) → Nth 0 m.parts n part → part.home ≡ Local file → HoldsOwn units m file n) where
  abbrev f : EntryName → EntryName
  f = image_in m

  -- ---- the images of what stood in the file

  abbrev Stands : EntryName → Type 0
  Stands q = (d : Seen EntryName) × In d (all_seen outs) × (d.at ≡ q)

  module _ (i : ℕ) (u : FileUnit EntryName) (nth : Nth 0 units i u) (of_file : u.file ≡ file) where
    top_there : u.unit.kind ≡ Compile → (t : Top) → In t (row_tops (rows_of_root units i)) → (b : Bool) → m.gone t.number ≡ b → changes m units u.file ≡ true → (e : Seen EntryName) → In e (raw_top t)
        → Stands (f e.at)
    top_there kind t in_row true mv change e h =
        let there = row_top units i t in_row in
        let file_is = (row_unit u.file i (language u.unit) [] (unit_row units i u nth kind).first (rows_of_root units i) u.unit.below (unit_row units i u nth kind).is t in_row).0 in
        gone_there t there.0 (file_is ∙ of_file) mv e h
    top_there kind t in_row false mv change e h = (
      seen_map f e,
      in_right (seen_map f e) (seen_roots outs) (seen_below outs) (seen_in outs (kept_unit m units i u) (seen_map f e) (kept_in i u nth of_file) (top_kept units m old i u nth kind t in_row mv change e h)),
      refl,
    )

    mapped_there : (d : Seen EntryName) → In d (seen u.unit.below) → (kept_unit m units i u).below ≡ entries_map f u.unit.below → Stands (f d.at)
    mapped_there d h below = (seen_map f d, entry_seen outs (kept_unit m units i u) (seen_map f d) (kept_in i u nth of_file) (mapped_kept units m old i u nth d h below), refl)

    below_there : (d : Seen EntryName) → In d (seen u.unit.below) → (k : Kind EntryName) → u.unit.kind ≡ k → (b : Bool) → changes m units u.file ≡ b → Stands (f d.at)
    below_there d h k kind false c = mapped_there d h (kept_still m units i u c)
    below_there d h (OfType signature main) kind true c = mapped_there d h (kept_type m units i u signature main kind)
    below_there d h Partial kind true c = absurd (subst (λ (w : Kind EntryName). IsNamedBelow i w (rows_of_root units i) u.unit.below) kind (old.units_named i u nth).below)
    below_there d h Compile kind true c =
        go (seen_origin u.file i (language u.unit) [] (unit_row units i u nth kind).first (rows_of_root units i) u.unit.below (unit_row units i u nth kind).is d h)
      where
        go : Origin u.file i (language u.unit) (rows_of_root units i) u.unit.below d → Stands (f d.at)
        go (InTop t there x) = top_there kind t there (m.gone t.number) refl c d x
        go (IsSpaceSeen names c' has at) =
            let o = space_kept units m old i u nth kind names c' has c in
            (o.0, entry_seen outs (kept_unit m units i u) o.0 (kept_in i u nth of_file) o.1, o.2 ∙ ap f (sym at))

    root_there : Stands (f u.unit.root.at)
    root_there = (let v = kept_unit m units i u in (see v.root v.below, root_seen outs v (kept_in i u nth of_file), refl))

  -- ---- where what stands in the file comes from

  -- an entry of the file before
  pub record OldIn (d : Seen EntryName) : Type 0 where
    pub number : ℕ
    pub unit : FileUnit EntryName
    pub nth : Nth 0 units number unit
    pub of_file : unit.file ≡ file
    pub is_in : (see unit.unit.root unit.unit.below ≡ d) ⊎ In d (seen unit.unit.below)

  image_there : (d : Seen EntryName) → OldIn d → Stands (f d.at)
  image_there d o = elim o.is_in [
    | inl e ↦ subst (λ (w : Seen EntryName). Stands (f w.at)) e (root_there o.number o.unit o.nth o.of_file)
    | inr h ↦ below_there o.number o.unit o.nth o.of_file d h o.unit.unit.kind refl (changes m units o.unit.file) refl
  ]

  data Comes (e : Seen EntryName) : Type 0 where
    OfOld : (d : Seen EntryName) → OldIn d → e.attrs ≡ map (named_map f) d.attrs → Comes e
    OfImport : (n : ℕ) → In (partial_unit m n) outs → (unit : ℕ) → e.attrs ≡ map named_value (import_of unit n).attrs → Comes e
    OfNone : NameNone e.attrs → Comes e

  top_origin : (t : Top) → In t (tops_of units) → t.file ≡ file → (e : Seen EntryName) → In e (seen_top f t) → Comes e
  top_origin t there of_file e h =
      let o = in_map_from (seen_map f) e (raw_top t) (subst (λ (w : List (Seen EntryName)). In e w) (seen_top_map f t) h) in
      let u = unit_of units t there in
      let r = unit_row units t.unit u.unit u.nth u.compile in
      let below = raw_seen u.unit.file t.unit (language u.unit.unit) [] r.first (rows_of_root units t.unit) u.unit.unit.below r.is t u.in_row o.source o.there in
      OfOld o.source (record { number = t.unit; unit = u.unit; nth = u.nth; of_file = sym u.file_is ∙ of_file; is_in = inr below }) (sym (ap (λ (w : Seen EntryName). w.attrs) o.is))

  new_origin : (n : ℕ) (part : PartialUnit) → Nth 0 m.parts n part → part.home ≡ Local file → (e : Seen EntryName) → In e (seen (tree f (m.rows n) End)) → Comes e
  new_origin n part nth at e h = go (tree_origin f (m.rows n) End holds.kinds e h) where
    holds : HoldsOwn units m file n
    holds = own n part nth at

    go : TreeOrigin f (m.rows n) End e → Comes e
    go (OfATop names t has x) = (let o = holds.tops names t has in top_origin t o.0 o.1 e x)
    go (OfASpace names d has attrs) = OfNone (subst NameNone (sym attrs) (none_mapped f d.attrs (holds.plain names d has)))
    go (Behind x) = absurd (none_seen e x)

  module _ (i : ℕ) (u : FileUnit EntryName) (nth : Nth 0 units i u) (of_file : u.file ≡ file) where
    old_in : (d : Seen EntryName) → In d (seen u.unit.below) → OldIn d
    old_in d h = record { number = i; unit = u; nth = nth; of_file = of_file; is_in = inr h }

    import_origin : (e : Seen EntryName) → In e (seen (imports i 0 m.parts)) → Comes e
    import_origin e h =
        let a = are_imports i m.parts in
        let o = row_seen (map (import_of i) a.parts_imported) e (subst (λ (w : Entries EntryName). In e (seen w)) a.entries_are h) in
        let n = in_map_from (import_of i) o.0 a.parts_imported o.1 in
        let p = (a.are n.source).0 n.there in
        OfImport n.source (new_in n.source p.0 p.1 i p.2 (u, nth, of_file)) i (o.2 ∙ ap (λ (w : Node EntryName). map named_value w.attrs) (sym n.is))

    mapped_origin : (e : Seen EntryName) → In e (seen (entries_map f u.unit.below)) → Comes e
    mapped_origin e h =
        let o = in_map_from (seen_map f) e (seen u.unit.below) (subst (λ (w : List (Seen EntryName)). In e w) (seen_entries f u.unit.below) h) in
        OfOld o.source (old_in o.source o.there) (sym (ap (λ (w : Seen EntryName). w.attrs) o.is))

    changed_origin : u.unit.kind ≡ Compile → (e : Seen EntryName) → In e (seen (tree f (kept_row m.gone units i) (imports i 0 m.parts))) → Comes e
    changed_origin kind e h =
        go (tree_origin f (kept_row m.gone units i) (imports i 0 m.parts)
        (kept_kinded m.gone units i (row_kinded u.file i (language u.unit) [] (unit_row units i u nth kind).first (rows_of_root units i) u.unit.below (unit_row units i u nth kind).is)) e h)
      where
        go : TreeOrigin f (kept_row m.gone units i) (imports i 0 m.parts) e → Comes e
        go (OfATop names t has x) =
            (let r = unit_row units i u nth kind in
            let in_row = tops_among (rows_of_root units i) names t ((kept_is m.gone units i names (OfTop t)).0 has).0 in
            let o = in_map_from (seen_map f) e (raw_top t) (subst (λ (w : List (Seen EntryName)). In e w) (seen_top_map f t) x) in
            OfOld o.source (old_in o.source (raw_seen u.file i (language u.unit) [] r.first (rows_of_root units i) u.unit.below r.is t in_row o.source o.there)) (sym (ap (λ (w : Seen EntryName).
            w.attrs)
            o.is)))
        go (OfASpace names d has attrs) =
            (let r = unit_row units i u nth kind in
            let under = item_under u.file i (language u.unit) [] r.first (rows_of_root units i) u.unit.below r.is names (OfSpace d) ((kept_is m.gone units i names (OfSpace d)).0 has).0 in
            let w = under_seen names d u.unit.below under in
            OfOld w.0 (old_in w.0 w.1) (attrs ∙ names_map f d.attrs ∙ ap (map (named_map f)) (sym w.2)))
        go (Behind x) = import_origin e x

    kept_origin : (e : Seen EntryName) → In e (seen (kept_unit m units i u).below) → (k : Kind EntryName) → u.unit.kind ≡ k → (b : Bool) → changes m units u.file ≡ b → Comes e
    kept_origin e h Compile kind true c = changed_origin kind e (subst (λ (w : Entries EntryName). In e (seen w)) (kept_compile m units i u kind c) h)
    kept_origin e h k kind false c = mapped_origin e (subst (λ (w : Entries EntryName). In e (seen w)) (kept_still m units i u c) h)
    kept_origin e h (OfType signature main) kind true c = mapped_origin e (subst (λ (w : Entries EntryName). In e (seen w)) (kept_type m units i u signature main kind) h)
    kept_origin e h Partial kind true c = absurd (subst (λ (w : Kind EntryName). IsNamedBelow i w (rows_of_root units i) u.unit.below) kind (old.units_named i u nth).below)

  below_origin : (v : DwUnit EntryName) → In v (out_units m units file) → (e : Seen EntryName) → In e (seen v.below) → Comes e
  unfolding out_units
  below_origin v there e h = elim (in_cases v (partial_units m (Local file) 0 m.parts) (kept_units m units file 0 units) there) [
    | inl a ↦ (let o = parts_from m (Local file) 0 m.parts v a in new_origin o.number o.part o.nth o.home_is e (subst (λ (w : DwUnit EntryName). In e (seen w.below)) (sym o.is) h))
    | inr b ↦
        let o = kept_from m units file 0 units v b in
        kept_origin o.number o.unit o.nth o.file_is e (subst (λ (w : DwUnit EntryName). In e (seen w.below)) (sym o.is) h) o.unit.unit.kind refl (changes m units o.unit.file) refl
  ]

  root_origin : (v : DwUnit EntryName) → In v (out_units m units file) → (e : Seen EntryName) → see v.root v.below ≡ e → Comes e
  unfolding out_units
  root_origin v there e same = elim (in_cases v (partial_units m (Local file) 0 m.parts) (kept_units m units file 0 units) there) [
    | inl a ↦
        let o = parts_from m (Local file) 0 m.parts v a in
        OfNone (subst NameNone (ap (λ (w : DwUnit EntryName). map named_value w.root.attrs) o.is ∙ ap (λ (w : Seen EntryName). w.attrs) same) (own o.number o.part o.nth o.home_is).root)
    | inr b ↦
        let o = kept_from m units file 0 units v b in
        let u = o.unit.unit in
        OfOld (see u.root u.below) (record { number = o.number; unit = o.unit; nth = o.nth; of_file = o.file_is; is_in = inl refl })
        (ap (λ (w : Seen EntryName). w.attrs) (sym same) ∙ ap (λ (w : DwUnit EntryName). map named_value w.root.attrs) (sym o.is) ∙ names_map f u.root.attrs)
  ]

  origin : (e : Seen EntryName) → In e (all_seen (out_units m units file)) → Comes e
  origin e h = elim (in_cases e (seen_roots (out_units m units file)) (seen_below (out_units m units file)) h) [
    | inl a ↦ (let o = root_from (out_units m units file) e a in root_origin o.unit o.there e o.is)
    | inr b ↦ (let o = seen_from (out_units m units file) e b in below_origin o.unit o.there e o.is)
  ]

  -- before, each reference of the file named an entry of it
  abbrev pub ClosedBefore : Type 0
  ClosedBefore = (d : Seen EntryName) (a : Named EntryName) (k : EntryName) → OldIn d → In a d.attrs → In k a.value.refs → (c : Seen EntryName) × OldIn c × (c.at ≡ k)

  import_ref : (i n : ℕ) (a : Named EntryName) (q : EntryName) → In a (map named_value (import_of i n).attrs) → In q a.value.refs → PartialRoot n ≡ q
  import_ref i n a q (inl x) there = elim (subst (λ (w : Named EntryName). In q w.value.refs) (sym x) there) [ inl e ↦ e | inr r ↦ absurd r ]
  import_ref i n a q (inr r) there = absurd r

  -- after, each names an entry of what stands in its place
  refs_stand : ClosedBefore → (e : Seen EntryName) (a : Named EntryName) (q : EntryName) → In e (all_seen (out_units m units file)) → In a e.attrs → In q a.value.refs
      → (d : Seen EntryName) × In d (all_seen outs) × (d.at ≡ q)
  refs_stand closed e a q there attr ref = go (origin e there) where
    go : Comes e → Stands q
    go (OfOld d is_old attrs) =
        (let o = attr_from f d.attrs a q (subst (λ (w : List (Named EntryName)). In a w) attrs attr) ref in
        let target = closed d o.attr o.place is_old o.there o.refs in
        let new = image_there target.0 target.1 in
        (new.0, new.1, new.2 ∙ ap f target.2 ∙ o.image_is))
    go (OfImport n new i attrs) =
        (let v = partial_unit m n in
        (see v.root v.below, root_seen outs v new, import_ref i n a q (subst (λ (w : List (Named EntryName)). In a w) attrs attr) ref))
    go (OfNone none) = absurd (subst (λ (w : List EntryName). In q w) (each_in (λ b. b.value.refs ≡ []) a e.attrs none attr) ref)

  -- ---- the units of the file, as a list

  to_seen : (d : Seen EntryName) → OldIn d → In d (all_seen (units_of_file file units))
  unfolding units_of_file
  to_seen d o =
      let some = filter (λ (u : FileUnit EntryName). u.file == file) units in
      let there = in_map (λ (u : FileUnit EntryName). u.unit) o.unit some (in_filter (λ u. u.file == file) o.unit units (nth_in 0 units o.number o.unit o.nth) (eq-eqb o.unit.file file o.of_file)) in
      let all = map (λ (u : FileUnit EntryName). u.unit) some in
      elim o.is_in [
        | inl e ↦ subst (λ (w : Seen EntryName). In w (all_seen all)) e (root_seen all o.unit.unit there)
        | inr h ↦ entry_seen all o.unit.unit d there h
      ]

  from_unit : (d : Seen EntryName) (w : DwUnit EntryName) → In w (units_of_file file units) → (see w.root w.below ≡ d) ⊎ In d (seen w.below) → OldIn d
  unfolding units_of_file
  from_unit d w there h =
      let some = filter (λ (u : FileUnit EntryName). u.file == file) units in
      let o = in_map_from (λ (u : FileUnit EntryName). u.unit) w some there in
      let p = in_filter_from (λ u. u.file == file) o.source units o.there in
      let n = in_nth 0 units o.source p.0 in
      record {
        number = n.number;
        unit = o.source;
        nth = n.nth;
        of_file = eqb-true o.source.file file p.1;
        is_in = subst (λ (v : DwUnit EntryName). (see v.root v.below ≡ d) ⊎ In d (seen v.below)) (sym o.is) h;
      }

  from_seen : (d : Seen EntryName) → In d (all_seen (units_of_file file units)) → OldIn d
  from_seen d h = elim (in_cases d (seen_roots (units_of_file file units)) (seen_below (units_of_file file units)) h) [
    | inl a ↦ (let o = root_from (units_of_file file units) d a in from_unit d o.unit o.there (inl o.is))
    | inr b ↦ (let o = seen_from (units_of_file file units) d b in from_unit d o.unit o.there (inr o.is))
  ]

  -- where each of the file named what stood in it
  pub refs_there : Closed (units_of_file file units) → (e : Seen EntryName) (a : Named EntryName) (q : EntryName) → In e (all_seen (out_units m units file)) → In a e.attrs → In q a.value.refs
      → (d : Seen EntryName) × In d (all_seen outs) × (d.at ≡ q)
  refs_there closed e a q there attr ref =
      refs_stand (λ d b k is_old b_in k_in. (let c = closed d b k (to_seen d is_old) b_in k_in in (c.0, from_seen c.0 c.1, c.2))) e a q there attr ref
