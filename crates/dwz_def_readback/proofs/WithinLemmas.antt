-- References of what stands in a file after name entries of that file, or of the common file.
use Rattle.std.proofs.Common.{◌≡◌, ◌⊎◌, ℕ, suc, ◌+◌, length, Bool, true, false, List, [], ◌∷◌, ◌++◌, ◌==◌, map, refl, sym, ap, subst, ◌∙◌, arith, inl, inr, eq-eqb, eqb-true}
use Rattle.std.proofs.lemmas.List.{append_assoc}
use Rattle.dwz_def_reading.specs.Documents.{Attr, Compile, Doc, DwUnit, Entries, Kind, Node, OfType, Partial, attr_map, entries_map, language}
use Rattle.dwz_def_reading.specs.Lists.{Each, In}
use Rattle.dwz_def_reading.specs.Trees.{End, Entry}
use Rattle.dwz_def_reading.proofs.ListFacts.{in_cases, in_left, in_map, in_right}
use Rattle.dwz_def_tops.specs.Lists.{Nth}
use Rattle.dwz_def_tops.specs.Seen.{Closed, Named, Seen, all_seen, named_map, named_value, see, seen, seen_below, seen_map, seen_roots}
use Rattle.dwz_def_tops.proofs.Members.{each_in, in_filter, in_filter_from, in_map_from, in_nth, nth_in}
use Rattle.dwz_def_tops.proofs.SeenLemmas.{entry_seen, names_map, root_from, root_seen, seen_entries, seen_from, seen_in}
use Rattle.dwz_def_tops.proofs.ShownLemmas.{attr_from, closed_shown, map_shown}
use Rattle.dwz_def_tops.specs.Spaces.{IsUnder}
use Rattle.dwz_def_tops.specs.Alike.{IsAlike, TopScope}
use Rattle.dwz_def_tops.specs.Spots.{FileUnit, PartialRoot, EntryName, Top, name_list, rows_of_root, row_tops, tops_of, units_of, in_file, named, named_files, spot_in, spots_from}
use Rattle.dwz_def_tops.specs.Spots.{tops_among as tops_count}
use Rattle.dwz_def_tops.proofs.RowLemmas.{unit_row}
use Rattle.dwz_def_tops.proofs.Tops.{row_top, unit_of}
use Rattle.dwz_def_images.specs.Homes.{Common, Home, IsChoice, Local, Rule, Stay, file_of, is_home, moves, same_home, users}
use Rattle.dwz_def_images.specs.IsPlan.{Has, IsHome, IsPart, OfSpace, OfTop}
use Rattle.dwz_def_images.specs.Moves.{Move, image_in, plan, seen_top}
use Rattle.dwz_def_images.specs.Plan.{PartialUnit, import_of, imports, kept_row}
use Rattle.dwz_def_images.proofs.HomeLemmas.{file_at, home_is}
use Rattle.dwz_def_images.proofs.KeptLemmas.{are_imports}
use Rattle.dwz_def_images.proofs.PlanLemmas.{are_parts, home_own}
use Rattle.dwz_def_images.proofs.RowParts.{kept_is}
use Rattle.dwz_def_images.proofs.PartRows.{part_is}
use Rattle.dwz_def_images.proofs.UserLemmas.{moving}
use Rattle.dwz_def_images.specs.After.{AreOld, ArePlaced}
use Rattle.dwz_def_tops.specs.UnitNames.{IsNamedBelow}
use Rattle.dwz_def_images.specs.Held.{IsHeld, NameNone}
use Rattle.dwz_def_images.specs.Units.{changes, common_units, kept_unit, kept_units, out_units, partial_unit, partial_units, tree, units_of_file}
use Rattle.dwz_def_images.proofs.ClosedLemmas.{none_seen, row_seen}
use Rattle.dwz_def_images.proofs.EntryLemmas.{kept_compile, kept_still, kept_type}
use Rattle.dwz_def_images.proofs.HeldLemmas.{row_found}
use Rattle.dwz_def_images.proofs.KindLemmas.{kept_kinded}
use Rattle.dwz_def_images.proofs.OldFiles.{closed_append}
use Rattle.dwz_def_images.proofs.StillLemmas.{at_append, at_other, at_own}
use Rattle.dwz_def_images.proofs.OldRows.{InTop, IsSpaceSeen, Origin, item_under, raw_seen, raw_top, row_kinded, seen_origin, tops_among}
use Rattle.dwz_def_images.proofs.TreeLemmas.{Behind, OfASpace, OfATop, TreeOrigin, seen_top_map, tree_origin, tree_seen}
use Rattle.std.specs.List.{filter}
use Rattle.dwz_def_images.proofs.FileLemmas.{replaced}
use Rattle.dwz_def_encoding.specs.Carried.{ClosedIn}
use Rattle.dwz_def_encoding.specs.Meant.{all_entry_keys, entry_keys}
use Rattle.dwz_def_encoding.proofs.ChosenNames.{all_seen_key}
use Rattle.dwz_def_readback.specs.Back.{run_of}
use Rattle.dwz_def_readback.specs.Files.{Stored, tells}
use Rattle.dwz_def_readback.proofs.HomeLemmas.{kept_from, parts_from, top_file}
use Rattle.dwz_def_readback.proofs.KeptLemmas.{mapped_kept, space_kept, top_kept}
use Rattle.dwz_def_readback.proofs.NameLemmas.{common_entries, fitted_entries}

-- an entry in spaces is seen
under_seen : (names : List (List ℕ)) (e : Node EntryName) (g : Entries EntryName) → IsUnder names e g → (d : Seen EntryName) × In d (seen g) × (d.attrs ≡ map named_value e.attrs)
unfolding seen
under_seen names e End h = absurd h
under_seen names e (Entry d g k) (inl x) = (see d g, inl refl, ap (λ (w : Node EntryName). map named_value w.attrs) x.1)
under_seen names e (Entry d g k) (inr (inl i)) = let o = under_seen i.1 e g i.4 in (o.0, inr (in_left o.0 (seen g) (seen k) o.1), o.2)
under_seen names e (Entry d g k) (inr (inr r)) = let o = under_seen names e k r in (o.0, inr (in_right o.0 (seen g) (seen k) o.1), o.2)

pub none_mapped : (f : EntryName → EntryName) (attrs : List (Attr EntryName)) → NameNone (map named_value attrs) → NameNone (map named_value (map (attr_map f) attrs))
none_mapped f [] h = tt
none_mapped f (a ∷ attrs) h = (ap (map f) h.0, none_mapped f attrs h.1)

-- ---- what is put into a file

pub parts_to : (m : Move) (h : Home) (s : ℕ) (parts : List PartialUnit) (n : ℕ) (part : PartialUnit) → Nth s parts n part → part.home ≡ h → In (partial_unit m n) (partial_units m h s parts)
unfolding partial_units
parts_to m h s [] n part nth e = absurd nth
parts_to m h s (p ∷ parts) n part (inl x) e = here (same_home p.home h) same where
  same : same_home p.home h ≡ true
  same = subst (λ (w : Home). same_home w h ≡ true) (sym (ap (λ (w : PartialUnit). w.home) x.1 ∙ e)) (home_own h)

  here : (b : Bool) → b ≡ true
      → In (partial_unit m n) (elim b as (λ _. List (DwUnit EntryName)) [ true ↦ partial_unit m s ∷ partial_units m h (suc s) parts | false ↦ partial_units m h (suc s) parts ])
  here true q = inl (ap (partial_unit m) x.0)
  here false q = absurd cc
parts_to m h s (p ∷ parts) n part (inr r) e = by (same_home p.home h) (parts_to m h (suc s) parts n part r e) where
  by : (b : Bool) → In (partial_unit m n) (partial_units m h (suc s) parts)
      → In (partial_unit m n) (elim b as (λ _. List (DwUnit EntryName)) [ true ↦ partial_unit m s ∷ partial_units m h (suc s) parts | false ↦ partial_units m h (suc s) parts ])
  by true k = inr k
  by false k = k

pub kept_to : (m : Move) (all : List (FileUnit EntryName)) (file s : ℕ) (some : List (FileUnit EntryName)) (i : ℕ) (u : FileUnit EntryName) → Nth s some i u → u.file ≡ file
    → In (kept_unit m all i u) (kept_units m all file s some)
unfolding kept_units
kept_to m all file s [] i u nth e = absurd nth
kept_to m all file s (w ∷ some) i u (inl x) e = here (w.file == file) (eq-eqb w.file file (ap (λ (y : FileUnit EntryName). y.file) x.1 ∙ e)) where
  here : (b : Bool) → b ≡ true → In (kept_unit m all i u) (elim b as (λ _. List (DwUnit EntryName)) [
    | true ↦ kept_unit m all s w ∷ kept_units m all file (suc s) some
    | false ↦ kept_units m all file (suc s) some
  ])
  here true q = inl (ap (λ (j : ℕ). kept_unit m all j w) x.0 ∙ ap (λ (y : FileUnit EntryName). kept_unit m all i y) x.1)
  here false q = absurd cc
kept_to m all file s (w ∷ some) i u (inr r) e = by (w.file == file) (kept_to m all file (suc s) some i u r e) where
  by : (b : Bool) → In (kept_unit m all i u) (kept_units m all file (suc s) some)
      → In (kept_unit m all i u) (elim b as (λ _. List (DwUnit EntryName)) [ true ↦ kept_unit m all s w ∷ kept_units m all file (suc s) some | false ↦ kept_units m all file (suc s) some ])
  by true k = inr k
  by false k = k

module _ (scope : TopScope) (units : List (FileUnit EntryName)) (rule : Rule) (is : IsAlike scope units rule.alike) (choice : IsChoice units rule) (files : List ℕ) (old : AreOld units)
    (held : IsHeld units (plan rule units files)) (file : ℕ) where
  abbrev m : Move
  m = plan rule units files

  abbrev f : EntryName → EntryName
  f = image_in m

  -- what stands in the common file, and in the file
  abbrev outs : List (DwUnit EntryName)
  outs = common_units m ++ out_units m units file

  kept_in : (i : ℕ) (u : FileUnit EntryName) → Nth 0 units i u → u.file ≡ file → In (kept_unit m units i u) outs
  unfolding out_units
  kept_in i u nth e =
      in_right (kept_unit m units i u) (common_units m) (partial_units m (Local file) 0 m.parts ++ kept_units m units file 0 units)
      (in_right (kept_unit m units i u) (partial_units m (Local file) 0 m.parts) (kept_units m units file 0 units) (kept_to m units file 0 units i u nth e))

  part_home : (n : ℕ) (part : PartialUnit) → Nth 0 m.parts n part → IsHome units part.users part.home
  part_home n part nth =
      let p = each_in (IsPart rule units) part m.parts (are_parts rule units files) (nth_in 0 m.parts n part nth) in
      let t = p.some.0 in
      let b = (p.tops t).0 p.some.1 in
      let moved : moves rule units t.number ≡ true = ap is_home b.home ∙ p.moves in
      let found = subst (IsHome units (users rule.alike units t.number)) (sym (moving units rule t.number moved).at_home ∙ b.home) (home_is rule.alike units t.number) in
      subst (λ (us : List ℕ). IsHome units us part.home) b.users found

  -- a partial unit that a unit of the file uses
  new_in : (n : ℕ) (part : PartialUnit) → Nth 0 m.parts n part → (i : ℕ) → In i part.users → file_of units i ≡ file → In (partial_unit m n) outs
  unfolding out_units common_units
  new_in n part nth i user e = by part.home refl (part_home n part nth) where
    by : (h : Home) → part.home ≡ h → IsHome units part.users h → In (partial_unit m n) outs
    by Common p is_at = in_left (partial_unit m n) (partial_units m Common 0 m.parts) (partial_units m (Local file) 0 m.parts ++ kept_units m units file 0 units)
        (parts_to m Common 0 m.parts n part nth p)
    by (Local own) p is_at =
        (let same : own ≡ file = sym (is_at.5 i user) ∙ e in
        in_right (partial_unit m n) (partial_units m Common 0 m.parts) (partial_units m (Local file) 0 m.parts ++ kept_units m units file 0 units)
        (in_left (partial_unit m n) (partial_units m (Local file) 0 m.parts) (kept_units m units file 0 units) (parts_to m (Local file) 0 m.parts n part nth (p ∙ ap (λ (x : ℕ). Local x) same))))
    by Stay p is_at =
        (let q = each_in (IsPart rule units) part m.parts (are_parts rule units files) (nth_in 0 m.parts n part nth) in
        absurd (let no = sym (ap is_home p) ∙ q.moves in cc))

  -- ---- the images of what stood in the file

  abbrev Stands : EntryName → Type 0
  Stands q = (d : Seen EntryName) × In d (all_seen outs) × (d.at ≡ q)

  module _ (i : ℕ) (u : FileUnit EntryName) (nth : Nth 0 units i u) (of_file : u.file ≡ file) where
    unit_file : file_of units i ≡ file
    unit_file = file_at units 0 i i u nth (omega arith) ∙ of_file

    moved_seen : (t : Top) → In t (tops_of units) → t.unit ≡ i → m.gone t.number ≡ true → (e : Seen EntryName) → In e (seen_top f t) → In e (seen_below outs)
    moved_seen t there own mv e h =
        let o = held.held t there mv in
        let new = new_in o.number o.part o.nth t.unit o.user (ap (file_of units) own ∙ unit_file) in
        seen_in outs (partial_unit m o.number) e new (tree_seen f (m.rows o.number) End (name_list t) o.top o.has e (subst (λ (w : List (Seen EntryName)). In e w) o.same h))

    top_there : u.unit.kind ≡ Compile → (t : Top) → In t (row_tops (rows_of_root units i)) → (b : Bool) → m.gone t.number ≡ b → changes m units u.file ≡ true → (e : Seen EntryName) → In e (raw_top t)
        → In (seen_map f e) (seen_below outs)
    top_there kind t in_row true mv change e h =
        let own = row_top units i t in_row in
        moved_seen t own.0 own.1 mv (seen_map f e) (subst (λ (w : List (Seen EntryName)). In (seen_map f e) w) (sym (seen_top_map f t)) (in_map (seen_map f) e (raw_top t) h))
    top_there kind t in_row false mv change e h =
        seen_in outs (kept_unit m units i u) (seen_map f e) (kept_in i u nth of_file) (top_kept units m old i u nth kind t in_row mv change e h)

    mapped_there : (d : Seen EntryName) → In d (seen u.unit.below) → (kept_unit m units i u).below ≡ entries_map f u.unit.below → Stands (f d.at)
    mapped_there d h below = (seen_map f d, entry_seen outs (kept_unit m units i u) (seen_map f d) (kept_in i u nth of_file) (mapped_kept units m old i u nth d h below), refl)

    below_there : (d : Seen EntryName) → In d (seen u.unit.below) → (k : Kind EntryName) → u.unit.kind ≡ k → (b : Bool) → changes m units u.file ≡ b → Stands (f d.at)
    below_there d h k kind false c = mapped_there d h (kept_still m units i u c)
    below_there d h (OfType signature main) kind true c = mapped_there d h (kept_type m units i u signature main kind)
    below_there d h Partial kind true c = absurd (subst (λ (w : Kind EntryName). IsNamedBelow i w (rows_of_root units i) u.unit.below) kind (old.units_named i u nth).below)
    below_there d h Compile kind true c =
        go (seen_origin u.file i (language u.unit) [] (unit_row units i u nth kind).first (rows_of_root units i) u.unit.below (unit_row units i u nth kind).is d h)
      where
        go : Origin u.file i (language u.unit) (rows_of_root units i) u.unit.below d → Stands (f d.at)
        go (InTop t there x) = (seen_map f d, in_right (seen_map f d) (seen_roots outs) (seen_below outs) (top_there kind t there (m.gone t.number) refl c d x), refl)
        go (IsSpaceSeen names c' has at) =
            let o = space_kept units m old i u nth kind names c' has c in
            (o.0, entry_seen outs (kept_unit m units i u) o.0 (kept_in i u nth of_file) o.1, o.2 ∙ ap f (sym at))

    root_there : Stands (f u.unit.root.at)
    root_there = (let v = kept_unit m units i u in (see v.root v.below, root_seen outs v (kept_in i u nth of_file), refl))

  -- ---- where what stands in the file comes from

  -- an entry of the file before
  pub record OldIn (d : Seen EntryName) : Type 0 where
    pub number : ℕ
    pub unit : FileUnit EntryName
    pub nth : Nth 0 units number unit
    pub of_file : unit.file ≡ file
    pub is_in : (see unit.unit.root unit.unit.below ≡ d) ⊎ In d (seen unit.unit.below)

  image_there : (d : Seen EntryName) → OldIn d → Stands (f d.at)
  image_there d o = elim o.is_in [
    | inl e ↦ subst (λ (w : Seen EntryName). Stands (f w.at)) e (root_there o.number o.unit o.nth o.of_file)
    | inr h ↦ below_there o.number o.unit o.nth o.of_file d h o.unit.unit.kind refl (changes m units o.unit.file) refl
  ]

  data Comes (e : Seen EntryName) : Type 0 where
    OfOld : (d : Seen EntryName) → OldIn d → e.attrs ≡ map (named_map f) d.attrs → Comes e
    OfImport : (n : ℕ) → In (partial_unit m n) outs → (unit : ℕ) → e.attrs ≡ map named_value (import_of unit n).attrs → Comes e
    OfNone : NameNone e.attrs → Comes e

  top_origin : (t : Top) → In t (tops_of units) → t.file ≡ file → (e : Seen EntryName) → In e (seen_top f t) → Comes e
  top_origin t there of_file e h =
      let o = in_map_from (seen_map f) e (raw_top t) (subst (λ (w : List (Seen EntryName)). In e w) (seen_top_map f t) h) in
      let u = unit_of units t there in
      let r = unit_row units t.unit u.unit u.nth u.compile in
      let below = raw_seen u.unit.file t.unit (language u.unit.unit) [] r.first (rows_of_root units t.unit) u.unit.unit.below r.is t u.in_row o.source o.there in
      OfOld o.source (record { number = t.unit; unit = u.unit; nth = u.nth; of_file = sym u.file_is ∙ of_file; is_in = inr below }) (sym (ap (λ (w : Seen EntryName). w.attrs) o.is))

  new_origin : (n : ℕ) (part : PartialUnit) → Nth 0 m.parts n part → part.home ≡ Local file → (e : Seen EntryName) → In e (seen (tree f (m.rows n) End)) → Comes e
  new_origin n part nth at e h = go (tree_origin f (m.rows n) End (held.kinds n part nth) e h) where
    go : TreeOrigin f (m.rows n) End e → Comes e
    go (OfATop names t has x) =
        (let in_part = ((part_is n part).tops_are names t).0 (subst (Has names (OfTop t)) (row_found rule units files n part nth) has) in
        top_origin t (held.tops n part nth names t has) (top_file scope units rule is choice files file n part nth at t in_part.0) e x)
    go (OfASpace names d has attrs) = OfNone (subst NameNone (sym attrs) (none_mapped f d.attrs (held.plain n part nth names d has)))
    go (Behind x) = absurd (none_seen e x)

  module _ (i : ℕ) (u : FileUnit EntryName) (nth : Nth 0 units i u) (of_file : u.file ≡ file) where
    old_in : (d : Seen EntryName) → In d (seen u.unit.below) → OldIn d
    old_in d h = record { number = i; unit = u; nth = nth; of_file = of_file; is_in = inr h }

    import_origin : (e : Seen EntryName) → In e (seen (imports i 0 m.parts)) → Comes e
    import_origin e h =
        let a = are_imports i m.parts in
        let o = row_seen (map (import_of i) a.parts_imported) e (subst (λ (w : Entries EntryName). In e (seen w)) a.entries_are h) in
        let n = in_map_from (import_of i) o.0 a.parts_imported o.1 in
        let p = (a.are n.source).0 n.there in
        OfImport n.source (new_in n.source p.0 p.1 i p.2 (file_at units 0 i i u nth (omega arith) ∙ of_file)) i (o.2 ∙ ap (λ (w : Node EntryName). map named_value w.attrs) (sym n.is))

    mapped_origin : (e : Seen EntryName) → In e (seen (entries_map f u.unit.below)) → Comes e
    mapped_origin e h =
        let o = in_map_from (seen_map f) e (seen u.unit.below) (subst (λ (w : List (Seen EntryName)). In e w) (seen_entries f u.unit.below) h) in
        OfOld o.source (old_in o.source o.there) (sym (ap (λ (w : Seen EntryName). w.attrs) o.is))

    changed_origin : u.unit.kind ≡ Compile → (e : Seen EntryName) → In e (seen (tree f (kept_row m.gone units i) (imports i 0 m.parts))) → Comes e
    changed_origin kind e h =
        go (tree_origin f (kept_row m.gone units i) (imports i 0 m.parts)
        (kept_kinded m.gone units i (row_kinded u.file i (language u.unit) [] (unit_row units i u nth kind).first (rows_of_root units i) u.unit.below (unit_row units i u nth kind).is)) e h)
      where
        go : TreeOrigin f (kept_row m.gone units i) (imports i 0 m.parts) e → Comes e
        go (OfATop names t has x) =
            (let r = unit_row units i u nth kind in
            let in_row = tops_among (rows_of_root units i) names t ((kept_is m.gone units i names (OfTop t)).0 has).0 in
            let o = in_map_from (seen_map f) e (raw_top t) (subst (λ (w : List (Seen EntryName)). In e w) (seen_top_map f t) x) in
            OfOld o.source (old_in o.source (raw_seen u.file i (language u.unit) [] r.first (rows_of_root units i) u.unit.below r.is t in_row o.source o.there)) (sym (ap (λ (w : Seen EntryName).
            w.attrs)
            o.is)))
        go (OfASpace names d has attrs) =
            (let r = unit_row units i u nth kind in
            let under = item_under u.file i (language u.unit) [] r.first (rows_of_root units i) u.unit.below r.is names (OfSpace d) ((kept_is m.gone units i names (OfSpace d)).0 has).0 in
            let w = under_seen names d u.unit.below under in
            OfOld w.0 (old_in w.0 w.1) (attrs ∙ names_map f d.attrs ∙ ap (map (named_map f)) (sym w.2)))
        go (Behind x) = import_origin e x

    kept_origin : (e : Seen EntryName) → In e (seen (kept_unit m units i u).below) → (k : Kind EntryName) → u.unit.kind ≡ k → (b : Bool) → changes m units u.file ≡ b → Comes e
    kept_origin e h Compile kind true c = changed_origin kind e (subst (λ (w : Entries EntryName). In e (seen w)) (kept_compile m units i u kind c) h)
    kept_origin e h k kind false c = mapped_origin e (subst (λ (w : Entries EntryName). In e (seen w)) (kept_still m units i u c) h)
    kept_origin e h (OfType signature main) kind true c = mapped_origin e (subst (λ (w : Entries EntryName). In e (seen w)) (kept_type m units i u signature main kind) h)
    kept_origin e h Partial kind true c = absurd (subst (λ (w : Kind EntryName). IsNamedBelow i w (rows_of_root units i) u.unit.below) kind (old.units_named i u nth).below)

  below_origin : (v : DwUnit EntryName) → In v (out_units m units file) → (e : Seen EntryName) → In e (seen v.below) → Comes e
  unfolding out_units
  below_origin v there e h = elim (in_cases v (partial_units m (Local file) 0 m.parts) (kept_units m units file 0 units) there) [
    | inl a ↦ (let o = parts_from m (Local file) 0 m.parts v a in new_origin o.number o.part o.nth o.home_is e (subst (λ (w : DwUnit EntryName). In e (seen w.below)) (sym o.is) h))
    | inr b ↦
        let o = kept_from m units file 0 units v b in
        kept_origin o.number o.unit o.nth o.file_is e (subst (λ (w : DwUnit EntryName). In e (seen w.below)) (sym o.is) h) o.unit.unit.kind refl (changes m units o.unit.file) refl
  ]

  root_origin : (v : DwUnit EntryName) → In v (out_units m units file) → (e : Seen EntryName) → see v.root v.below ≡ e → Comes e
  unfolding out_units
  root_origin v there e same = elim (in_cases v (partial_units m (Local file) 0 m.parts) (kept_units m units file 0 units) there) [
    | inl a ↦
        let o = parts_from m (Local file) 0 m.parts v a in
        OfNone (subst NameNone (ap (λ (w : DwUnit EntryName). map named_value w.root.attrs) o.is ∙ ap (λ (w : Seen EntryName). w.attrs) same) (held.roots o.number))
    | inr b ↦
        let o = kept_from m units file 0 units v b in
        let u = o.unit.unit in
        OfOld (see u.root u.below) (record { number = o.number; unit = o.unit; nth = o.nth; of_file = o.file_is; is_in = inl refl })
        (ap (λ (w : Seen EntryName). w.attrs) (sym same) ∙ ap (λ (w : DwUnit EntryName). map named_value w.root.attrs) (sym o.is) ∙ names_map f u.root.attrs)
  ]

  origin : (e : Seen EntryName) → In e (all_seen (out_units m units file)) → Comes e
  origin e h = elim (in_cases e (seen_roots (out_units m units file)) (seen_below (out_units m units file)) h) [
    | inl a ↦ (let o = root_from (out_units m units file) e a in root_origin o.unit o.there e o.is)
    | inr b ↦ (let o = seen_from (out_units m units file) e b in below_origin o.unit o.there e o.is)
  ]

  -- before, each reference of the file named an entry of it
  abbrev pub ClosedBefore : Type 0
  ClosedBefore = (d : Seen EntryName) (a : Named EntryName) (k : EntryName) → OldIn d → In a d.attrs → In k a.value.refs → (c : Seen EntryName) × OldIn c × (c.at ≡ k)

  import_ref : (i n : ℕ) (a : Named EntryName) (q : EntryName) → In a (map named_value (import_of i n).attrs) → In q a.value.refs → PartialRoot n ≡ q
  import_ref i n a q (inl x) there = elim (subst (λ (w : Named EntryName). In q w.value.refs) (sym x) there) [ inl e ↦ e | inr r ↦ absurd r ]
  import_ref i n a q (inr r) there = absurd r

  -- after, each names an entry of it, or of the common file
  pub refs_stand : ClosedBefore → (e : Seen EntryName) (a : Named EntryName) (q : EntryName) → In e (all_seen (out_units m units file)) → In a e.attrs → In q a.value.refs
      → (d : Seen EntryName) × In d (all_seen outs) × (d.at ≡ q)
  refs_stand closed e a q there attr ref = go (origin e there) where
    go : Comes e → Stands q
    go (OfOld d is_old attrs) =
        (let o = attr_from f d.attrs a q (subst (λ (w : List (Named EntryName)). In a w) attrs attr) ref in
        let target = closed d o.attr o.place is_old o.there o.refs in
        let new = image_there target.0 target.1 in
        (new.0, new.1, new.2 ∙ ap f target.2 ∙ o.image_is))
    go (OfImport n new i attrs) =
        (let v = partial_unit m n in
        (see v.root v.below, root_seen outs v new, import_ref i n a q (subst (λ (w : List (Named EntryName)). In a w) attrs attr) ref))
    go (OfNone none) = absurd (subst (λ (w : List EntryName). In q w) (each_in (λ b. b.value.refs ≡ []) a e.attrs none attr) ref)

  -- ---- the units of the file, as a list

  to_seen : (d : Seen EntryName) → OldIn d → In d (all_seen (units_of_file file units))
  unfolding units_of_file
  to_seen d o =
      let some = filter (λ (u : FileUnit EntryName). u.file == file) units in
      let there = in_map (λ (u : FileUnit EntryName). u.unit) o.unit some (in_filter (λ u. u.file == file) o.unit units (nth_in 0 units o.number o.unit o.nth) (eq-eqb o.unit.file file o.of_file)) in
      let all = map (λ (u : FileUnit EntryName). u.unit) some in
      elim o.is_in [
        | inl e ↦ subst (λ (w : Seen EntryName). In w (all_seen all)) e (root_seen all o.unit.unit there)
        | inr h ↦ entry_seen all o.unit.unit d there h
      ]

  from_unit : (d : Seen EntryName) (w : DwUnit EntryName) → In w (units_of_file file units) → (see w.root w.below ≡ d) ⊎ In d (seen w.below) → OldIn d
  unfolding units_of_file
  from_unit d w there h =
      let some = filter (λ (u : FileUnit EntryName). u.file == file) units in
      let o = in_map_from (λ (u : FileUnit EntryName). u.unit) w some there in
      let p = in_filter_from (λ u. u.file == file) o.source units o.there in
      let n = in_nth 0 units o.source p.0 in
      record {
        number = n.number;
        unit = o.source;
        nth = n.nth;
        of_file = eqb-true o.source.file file p.1;
        is_in = subst (λ (v : DwUnit EntryName). (see v.root v.below ≡ d) ⊎ In d (seen v.below)) (sym o.is) h;
      }

  from_seen : (d : Seen EntryName) → In d (all_seen (units_of_file file units)) → OldIn d
  from_seen d h = elim (in_cases d (seen_roots (units_of_file file units)) (seen_below (units_of_file file units)) h) [
    | inl a ↦ (let o = root_from (units_of_file file units) d a in from_unit d o.unit o.there (inl o.is))
    | inr b ↦ (let o = seen_from (units_of_file file units) d b in from_unit d o.unit o.there (inr o.is))
  ]

  pub refs_within : Closed (units_of_file file units) → (e : Seen EntryName) (a : Named EntryName) (q : EntryName) → In e (all_seen (out_units m units file)) → In a e.attrs → In q a.value.refs
      → In q (all_entry_keys (common_units m ++ out_units m units file))
  refs_within closed e a q there attr ref =
      let before : ClosedBefore = λ d b k is_old b_in k_in. (let c = closed d b k (to_seen d is_old) b_in k_in in (c.0, from_seen c.0 c.1, c.2)) in
      let o = refs_stand before e a q there attr ref in
      subst (λ (x : EntryName). In x (all_entry_keys outs)) o.2 (all_seen_key outs o.0 o.1)

pub entries_append : (xs ys : List (DwUnit EntryName)) → all_entry_keys (xs ++ ys) ≡ all_entry_keys xs ++ all_entry_keys ys
unfolding all_entry_keys
entries_append [] ys = refl
entries_append (x ∷ xs) ys = ap (λ (w : List EntryName). entry_keys x ++ w) (entries_append xs ys) ∙ sym (append_assoc (entry_keys x) (all_entry_keys xs) (all_entry_keys ys))

-- ---- each reference of a file names an entry of it

none_closed : Closed {P = EntryName} []
unfolding seen_roots seen_below
none_closed e a p there attr ref = absurd there

block_closed : (file own unit top : ℕ) (doc : Doc ℕ) → ArePlaced doc.units → Closed (units_of_file file (map (in_file own) (named unit top doc.units)))
block_closed file own unit top doc placed = by (own == file) refl where
  whole : Closed (named unit top doc.units)
  whole = closed_shown (spot_in (spots_from unit top doc.units)) doc.units (named unit top doc.units) (map_shown (spot_in (spots_from unit top doc.units)) doc.units) placed.closed

  by : (b : Bool) → (own == file) ≡ b → Closed (units_of_file file (map (in_file own) (named unit top doc.units)))
  by true e =
      subst (λ (o : ℕ). Closed (units_of_file file (map (in_file o) (named unit top doc.units)))) (sym (eqb-true own file e))
      (subst (λ (w : List (DwUnit EntryName)). Closed w) (sym (at_own file (named unit top doc.units))) whole)
  by false e = subst (λ (w : List (DwUnit EntryName)). Closed w) (sym (at_other file own (named unit top doc.units) e)) none_closed

pub closed_at : (file own unit top : ℕ) (docs : List (Doc ℕ)) → Each (λ doc. ArePlaced doc.units) docs → Closed (units_of_file file (named_files own unit top docs))
unfolding named_files units_of_file
closed_at file own unit top [] placed = none_closed
closed_at file own unit top (doc ∷ docs) placed =
    let block = map (in_file own) (named unit top doc.units) in
    let rest = named_files (suc own) (unit + length doc.units) (top + tops_count doc.units) docs in
    subst (λ (w : List (DwUnit EntryName)). Closed w) (sym (at_append file block rest))
    (closed_append (units_of_file file block) (units_of_file file rest) (block_closed file own unit top doc placed.0)
    (closed_at file (suc own) (unit + length doc.units) (top + tops_count doc.units) docs placed.1))

-- each reference of a file names an entry of it, or of the common file
pub within : (scope : TopScope) (docs : List (Doc ℕ)) (rule : Rule) → Each (λ doc. ArePlaced doc.units) docs → IsAlike scope (units_of docs) rule.alike → IsChoice (units_of docs) rule
    → (input : Stored) (file : ℕ) → ClosedIn (tells (run_of rule docs input) file) (out_units (run_of rule docs input).move (units_of docs) file)
within scope docs rule placed is choice input file e a k there attr ref =
    let r = run_of rule docs input in
    let whole = replaced scope docs rule placed is choice in
    let found = refs_within scope (units_of docs) rule is choice r.files whole.old whole.held file (closed_at file 0 0 0 docs placed) e a k there attr ref in
    elim (in_cases k (all_entry_keys (common_units r.move)) (all_entry_keys (out_units r.move r.units file))
    (subst (In k) (entries_append (common_units r.move) (out_units r.move r.units file)) found)) [
      | inl common ↦ inr (subst (In k) (sym (common_entries r)) common)
      | inr own ↦ inl (subst (In k) (sym (fitted_entries r file)) own)
    ]
