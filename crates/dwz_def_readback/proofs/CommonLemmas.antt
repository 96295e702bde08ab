-- What is in the common file refers to what is in the common file.
use Rattle.std.proofs.Common.{◌≡◌, ◌≢◌, ℕ, true, List, [], ◌∷◌, map, refl, sym, ap, subst, ◌∙◌, inl, inr}
use Rattle.dwz_def_reading.specs.Documents.{Attr, Compile, Doc, DwUnit, Entries, Kind, OfType, Partial, attr_map, language}
use Rattle.dwz_def_reading.specs.Lists.{Each, In}
use Rattle.dwz_def_reading.specs.Trees.{End, Entry}
use Rattle.dwz_def_reading.proofs.ListFacts.{in_cases, in_map}
use Rattle.dwz_def_tops.specs.Lists.{Nth}
use Rattle.dwz_def_tops.specs.Seen.{Named, Seen, all_seen, named_value, seen, seen_below, seen_map, seen_roots}
use Rattle.dwz_def_tops.proofs.Members.{each_in, in_map_from, nth_in}
use Rattle.dwz_def_tops.proofs.SeenLemmas.{entry_seen, root_from, seen_from}
use Rattle.dwz_def_tops.proofs.ShownLemmas.{attr_from}
use Rattle.dwz_def_tops.specs.Alike.{IsAlike, TopScope}
use Rattle.dwz_def_tops.specs.Spots.{EntryName, FileUnit, InType, RootOf, SpaceAt, Top, Within, name_list, rows_of_root, tops_of, units_of}
use Rattle.dwz_def_tops.proofs.AlikePer.{alike_per}
use Rattle.dwz_def_tops.proofs.RowLemmas.{unit_row}
use Rattle.dwz_def_tops.proofs.Targets.{Inside, RefTo, RefsOf, RefsOfAttr, RefsOfTop}
use Rattle.dwz_def_tops.proofs.Tops.{row_top, unit_of}
use Rattle.dwz_def_images.specs.Homes.{Common, Home, IsChoice, Local, Rule, Stay, candidate, file_of, home, is_home, moves, rep, users}
use Rattle.dwz_def_images.specs.IsPlan.{Has, IsHome, IsPart, OfTop}
use Rattle.dwz_def_images.specs.Moves.{Move, image_in, plan, seen_top}
use Rattle.dwz_def_images.specs.Plan.{PartialUnit, stand_in}
use Rattle.dwz_def_images.proofs.HomeLemmas.{home_is}
use Rattle.dwz_def_images.proofs.PlanLemmas.{are_parts}
use Rattle.dwz_def_images.proofs.PartRows.{part_is}
use Rattle.dwz_def_images.proofs.StandLemmas.{targets_move, targets_used}
use Rattle.dwz_def_images.proofs.UserLemmas.{Fair, home_same, leads, move_stand, moving}
use Rattle.dwz_def_images.specs.After.{AreOld, ArePlaced}
use Rattle.dwz_def_tops.specs.UnitNames.{IsNamedBelow}
use Rattle.dwz_def_images.specs.Held.{IsHeld, NameNone}
use Rattle.dwz_def_images.specs.Images.{units_in}
use Rattle.dwz_def_images.specs.Units.{common_units, partial_unit, partial_units, tree}
use Rattle.dwz_def_images.proofs.ClosedLemmas.{none_seen}
use Rattle.dwz_def_images.proofs.FileLemmas.{replaced}
use Rattle.dwz_def_images.proofs.HeldLemmas.{row_found}
use Rattle.dwz_def_images.proofs.OldLemmas.{in_units, labelled_at, top_at, unit_at}
use Rattle.dwz_def_images.proofs.OldRows.{InTop, IsSpaceSeen, Origin, raw_seen, raw_top, seen_origin, space_place}
use Rattle.dwz_def_images.proofs.TreeLemmas.{Behind, OfASpace, OfATop, TreeOrigin, seen_top_map, tree_origin, tree_seen}
use Rattle.dwz_def_encoding.specs.Carried.{ClosedIn}
use Rattle.dwz_def_encoding.specs.Meant.{all_entry_keys}
use Rattle.dwz_def_encoding.proofs.ChosenNames.{all_seen_key}
use Rattle.dwz_def_readback.specs.Back.{run_of}
use Rattle.dwz_def_readback.specs.Files.{Stored, tells_common}
use Rattle.dwz_def_readback.proofs.HomeLemmas.{parts_from}
use Rattle.dwz_def_readback.proofs.NameLemmas.{common_entries}
use Rattle.dwz_def_readback.proofs.WithinLemmas.{none_mapped, parts_to}

-- ---- a reference of what is seen of a top

attrs_ref : (P : ℕ → Type 0) (attrs : List (Attr EntryName)) → Each (RefsOfAttr P) attrs → (a : Named EntryName) → In a (map named_value attrs) → (q : EntryName) → In q a.value.refs → RefTo P q
attrs_ref P attrs refs a there q is =
    let o = in_map_from named_value a attrs there in
    each_in (RefTo P) q o.source.value.refs (each_in (RefsOfAttr P) o.source attrs refs o.there) (subst (λ (w : Named EntryName). In q w.value.refs) (sym o.is) is)

below_ref : (P : ℕ → Type 0) (g : Entries EntryName) → RefsOf P g → (d : Seen EntryName) → In d (seen g) → (a : Named EntryName) → In a d.attrs → (q : EntryName) → In q a.value.refs → RefTo P q
unfolding seen
below_ref P End refs d h a there q is = absurd h
below_ref P (Entry e g k) refs d (inl x) a there q is = attrs_ref P e.attrs refs.0 a (subst (λ (w : Seen EntryName). In a w.attrs) (sym x) there) q is
below_ref P (Entry e g k) refs d (inr r) a there q is = elim (in_cases d (seen g) (seen k) r) [
  | inl x ↦ below_ref P g refs.1 d x a there q is
  | inr y ↦ below_ref P k refs.2 d y a there q is
]

top_ref : (P : ℕ → Type 0) (t : Top) → RefsOfTop P t → (d : Seen EntryName) → In d (raw_top t) → (a : Named EntryName) → In a d.attrs → (q : EntryName) → In q a.value.refs → RefTo P q
top_ref P t refs d (inl x) a there q is = attrs_ref P t.node.attrs refs.0 a (subst (λ (w : Seen EntryName). In a w.attrs) (sym x) there) q is
top_ref P t refs d (inr r) a there q is = below_ref P t.below refs.1 d r a there q is

-- the number of a top
abbrev number_of : EntryName → ℕ
number_of (Within t path) = t
number_of _ = 0

module _ (scope : TopScope) (units : List (FileUnit EntryName)) (rule : Rule) (is : IsAlike scope units rule.alike) (choice : IsChoice units rule) (files : List ℕ) (old : AreOld units)
    (held : IsHeld units (plan rule units files)) where
  abbrev m : Move
  m = plan rule units files

  abbrev f : EntryName → EntryName
  f = image_in m

  -- what is at the name of a top's entry is seen of that top
  record SeenOf (d : Seen EntryName) (n : ℕ) : Type 0 where
    top : Top
    there : In top (tops_of units)
    seen_is : In d (raw_top top)
    number : top.number ≡ n

  below_of : (i : ℕ) (u : FileUnit EntryName) → Nth 0 units i u → (d : Seen EntryName) → In d (seen u.unit.below) → (n : ℕ) (path : List ℕ) → d.at ≡ Within n path → (k : Kind EntryName)
      → u.unit.kind ≡ k
      → SeenOf d n
  below_of i u nth d h n path at Compile kind =
      let r = unit_row units i u nth kind in
      let named = subst (λ (w : Kind EntryName). IsNamedBelow i w (rows_of_root units i) u.unit.below) kind (old.units_named i u nth).below in
      go (seen_origin u.file i (language u.unit) [] r.first (rows_of_root units i) u.unit.below r.is d h) named
    where
      go : Origin u.file i (language u.unit) (rows_of_root units i) u.unit.below d → IsNamedBelow i Compile (rows_of_root units i) u.unit.below → SeenOf d n
      go (InTop t a b) named =
          (let there = (row_top units i t a).0 in
          let l = top_at t (old.tops_named t there) d b in
          record { top = t; there = there; seen_is = b; number = ap number_of (sym l.is ∙ at) })
      go (IsSpaceSeen names c a b) named = (let l = space_place i [] 0 (rows_of_root units i) named names c a in let e : SpaceAt i l.0 ≡ Within n path = sym (b ∙ l.1) ∙ at in absurd cc)
  below_of i u nth d h n path at (OfType signature main) kind =
      let named = subst (λ (w : Kind EntryName). IsNamedBelow i w (rows_of_root units i) u.unit.below) kind (old.units_named i u nth).below in
      let l = labelled_at (InType i) [] 0 u.unit.below d named h in
      let e : InType i l.path ≡ Within n path = sym l.is ∙ at in absurd cc
  below_of i u nth d h n path at Partial kind = absurd (subst (λ (w : Kind EntryName). IsNamedBelow i w (rows_of_root units i) u.unit.below) kind (old.units_named i u nth).below)

  seen_of : (d : Seen EntryName) → In d (all_seen (units_in units)) → (n : ℕ) (path : List ℕ) → d.at ≡ Within n path → SeenOf d n
  seen_of d h n path at = elim (in_cases d (seen_roots (units_in units)) (seen_below (units_in units)) h) [
    | inl a ↦
        let o = root_from (units_in units) d a in
        let u = unit_at 0 units o.unit o.there in
        let e : RootOf u.number ≡ Within n path = sym (old.units_named u.number u.unit u.nth).root ∙ ap (λ (w : DwUnit EntryName). w.root.at) u.is ∙ ap (λ (w : Seen EntryName). w.at) o.is
        ∙ at in absurd cc
    | inr b ↦
        let o = seen_from (units_in units) d b in
        let u = unit_at 0 units o.unit o.there in
        below_of u.number u.unit u.nth d (subst (λ (w : DwUnit EntryName). In d (seen w.below)) (sym u.is) o.is) n path at u.unit.unit.kind refl
  ]

  part_of : (n : ℕ) (part : PartialUnit) → Nth 0 m.parts n part → IsPart rule units part
  part_of n part nth = each_in (IsPart rule units) part m.parts (are_parts rule units files) (nth_in 0 m.parts n part nth)

  -- a top that is gone is in a partial unit of its home
  held_home : (t : Top) (there : In t (tops_of units)) (mv : moves rule units t.number ≡ true) → (held.held t there mv).part.home ≡ home rule units t.number
  held_home t there mv =
      let o = held.held t there mv in
      let in_part = ((part_is o.number o.part).tops_are (name_list t) o.top).0 (subst (Has (name_list t) (OfTop o.top)) (row_found rule units files o.number o.part o.nth) o.has) in
      let p = part_of o.number o.part o.nth in
      let b = (p.tops o.top).0 in_part.0 in
      let moved : moves rule units o.top.number ≡ true = ap is_home b.home ∙ p.moves in
      let head : f t.node.at ≡ f o.top.node.at = same_heads _ _ _ _ o.same in
      let stands : stand_in rule units t.number ≡ stand_in rule units o.top.number = ap number_of (sym (ap f (old.tops_named t there).0) ∙ head ∙ ap f (old.tops_named o.top b.there).0) in
      let reps : rep rule.alike units t.number ≡ o.top.number = sym (move_stand units rule t.number mv) ∙ stands ∙ move_stand units rule o.top.number moved ∙ b.rep in
      let fine : Fair units rule = record { per = alike_per scope units rule.alike is; choice = choice } in
      let l = leads units rule fine t there mv in
      let alike : rule.alike t.number o.top.number ≡ true = subst (λ (n : ℕ). rule.alike t.number n ≡ true) (l.number ∙ reps) l.alike_is in
      sym b.home ∙ sym (home_same units rule fine t.number o.top.number alike)
    where
      same_heads : (x y : Seen EntryName) (xs ys : List (Seen EntryName)) → (x ∷ xs) ≡ (y ∷ ys) → x.at ≡ y.at
      same_heads x y xs ys e = (let h : x ≡ y = cc in ap (λ (w : Seen EntryName). w.at) h)

  -- what has users in two files goes into the common file
  two_files : (n : ℕ) → moves rule units n ≡ true → (i j : ℕ) → In i (users rule.alike units n) → In j (users rule.alike units n) → file_of units i ≢ file_of units j → home rule units n ≡ Common
  two_files n mv i j p q ne = (moving units rule n mv).at_home ∙ by (candidate rule.alike units n) refl (home_is rule.alike units n) where
    by : (h : Home) → candidate rule.alike units n ≡ h → IsHome units (users rule.alike units n) h → h ≡ Common
    by Common e at = refl
    by (Local own) e at = absurd (ne (at.5 i p ∙ sym (at.5 j q)))
    by Stay e at = absurd (ne (ap (file_of units) (at i j p q)))

  abbrev Stands : EntryName → Type 0
  Stands q = (c : Seen EntryName) × In c (all_seen (common_units m)) × (c.at ≡ q)

  -- the image of an entry of a top that has users in two files is in the common file
  target_there : (k : ℕ) (path : List ℕ) → moves rule units k ≡ true → (i j : ℕ) → In i (users rule.alike units k) → In j (users rule.alike units k) → file_of units i ≢ file_of units j
      → (c : Seen EntryName) → In c (all_seen (units_in units)) → c.at ≡ Within k path → Stands (f (Within k path))
  unfolding common_units
  target_there k path mv i j p q ne c there at =
      let o = seen_of c there k path at in
      let moved : moves rule units o.top.number ≡ true = subst (λ (n : ℕ). moves rule units n ≡ true) (sym o.number) mv in
      let h = held.held o.top o.there moved in
      let at_home : h.part.home ≡ Common = held_home o.top o.there moved ∙ ap (λ (n : ℕ). home rule units n) o.number ∙ two_files k mv i j p q ne in
      let new = parts_to m Common 0 m.parts h.number h.part h.nth at_home in
      let mapped : In (seen_map f c) (seen_top f o.top) = subst (λ (w : List (Seen EntryName)). In (seen_map f c) w) (sym (seen_top_map f o.top)) (in_map (seen_map f) c (raw_top o.top) o.seen_is) in
      let inside = tree_seen f (m.rows h.number) End (name_list o.top) h.top h.has (seen_map f c) (subst (λ (w : List (Seen EntryName)). In (seen_map f c) w) h.same mapped) in
      (seen_map f c, entry_seen (partial_units m Common 0 m.parts) (partial_unit m h.number) (seen_map f c) new inside, ap f at)

  at_ref : (unit i j : ℕ) → file_of units i ≢ file_of units j → (q : EntryName) → RefTo (λ k. Inside units unit k × (moves rule units k ≡ true)) q → RefTo (λ k. In i (users rule.alike units k)) q
      → RefTo (λ k. In j (users rule.alike units k)) q
      → (c : Seen EntryName) → In c (all_seen (units_in units)) → c.at ≡ q → Stands (f q)
  at_ref unit i j ne (Within k path) mv a b c there at = target_there k path mv.1 i j a b ne c there at
  at_ref unit i j ne _ mv a b c there at = absurd mv

  top_refs : (n : ℕ) (part : PartialUnit) → Nth 0 m.parts n part → part.home ≡ Common → (s : Top) → In s part.tops → (d : Seen EntryName) → In d (raw_top s) → In d (all_seen (units_in units))
      → (a : Named EntryName) → In a d.attrs → (q : EntryName) → In q a.value.refs
      → Stands (f q)
  top_refs n part nth common s in_part d d_in there a attr q ref =
      let b = ((part_of n part nth).tops s).0 in_part in
      let at_home : home rule units s.number ≡ Common = b.home ∙ common in
      let mv : moves rule units s.number ≡ true = ap is_home at_home in
      let two = subst (IsHome units (users rule.alike units s.number)) (sym (moving units rule s.number mv).at_home ∙ at_home) (home_is rule.alike units s.number) in
      let target = old.closed d a q there attr ref in
      at_ref s.unit two.0 two.1 two.4 q
      (top_ref (λ k. Inside units s.unit k × (moves rule units k ≡ true)) s (targets_move scope units rule is choice s b.there mv) d d_in a attr q ref)
      (top_ref (λ k. In two.0 (users rule.alike units k)) s (targets_used scope units rule.alike is s b.there two.0 two.2) d d_in a attr q ref)
      (top_ref (λ k. In two.1 (users rule.alike units k)) s (targets_used scope units rule.alike is s b.there two.1 two.3) d d_in a attr q ref)
      target.0 target.1 target.2

  none_in : (attrs : List (Named EntryName)) → NameNone attrs → (a : Named EntryName) → In a attrs → (q : EntryName) → In q a.value.refs → ⊥
  none_in attrs none a attr q ref = subst (λ (w : List EntryName). In q w) (each_in (λ b. b.value.refs ≡ []) a attrs none attr) ref

  below_refs : (n : ℕ) (part : PartialUnit) → Nth 0 m.parts n part → part.home ≡ Common → (e : Seen EntryName) → In e (seen (tree f (m.rows n) End)) → (a : Named EntryName) (q : EntryName)
      → In a e.attrs
      → In q a.value.refs → Stands q
  below_refs n part nth common e h a q attr ref = go (tree_origin f (m.rows n) End (held.kinds n part nth) e h) where
    go : TreeOrigin f (m.rows n) End e → Stands q
    go (OfATop names t has x) =
        (let in_part = ((part_is n part).tops_are names t).0 (subst (Has names (OfTop t)) (row_found rule units files n part nth) has) in
        let there = held.tops n part nth names t has in
        let o = in_map_from (seen_map f) e (raw_top t) (subst (λ (w : List (Seen EntryName)). In e w) (seen_top_map f t) x) in
        let u = unit_of units t there in
        let r = unit_row units t.unit u.unit u.nth u.compile in
        let below = raw_seen u.unit.file t.unit (language u.unit.unit) [] r.first (rows_of_root units t.unit) u.unit.unit.below r.is t u.in_row o.source o.there in
        let old_in = entry_seen (units_in units) u.unit.unit o.source (in_units 0 units t.unit u.unit u.nth) below in
        let from = attr_from f o.source.attrs a q (subst (λ (w : Seen EntryName). In a w.attrs) (sym o.is) attr) ref in
        subst Stands from.image_is (top_refs n part nth common t in_part.0 o.source o.there old_in from.attr from.there from.place from.refs))
    go (OfASpace names d has attrs) = absurd (none_in (map named_value (map (attr_map f) d.attrs)) (none_mapped f d.attrs (held.plain n part nth names d has)) a
        (subst (λ (w : List (Named EntryName)). In a w) attrs attr) q ref)
    go (Behind x) = absurd (none_seen e x)

  pub common_refs : (e : Seen EntryName) (a : Named EntryName) (q : EntryName) → In e (all_seen (common_units m)) → In a e.attrs → In q a.value.refs → Stands q
  unfolding common_units
  common_refs e a q there attr ref = elim (in_cases e (seen_roots (partial_units m Common 0 m.parts)) (seen_below (partial_units m Common 0 m.parts)) there) [
    | inl x ↦
        let o = root_from (partial_units m Common 0 m.parts) e x in
        let p = parts_from m Common 0 m.parts o.unit o.there in
        absurd (none_in e.attrs (subst NameNone (ap (λ (w : DwUnit EntryName). map named_value w.root.attrs) p.is ∙ ap (λ (w : Seen EntryName). w.attrs) o.is) (held.roots p.number)) a attr q ref)
    | inr y ↦
        let o = seen_from (partial_units m Common 0 m.parts) e y in
        let p = parts_from m Common 0 m.parts o.unit o.there in
        below_refs p.number p.part p.nth p.home_is e (subst (λ (w : DwUnit EntryName). In e (seen w.below)) (sym p.is) o.is) a q attr ref
  ]

-- each reference of the common file names an entry of it
pub common_within : (scope : TopScope) (docs : List (Doc ℕ)) (rule : Rule) → Each (λ doc. ArePlaced doc.units) docs → IsAlike scope (units_of docs) rule.alike → IsChoice (units_of docs) rule
    → (input : Stored) → ClosedIn (tells_common (run_of rule docs input)) (common_units (run_of rule docs input).move)
common_within scope docs rule placed is choice input e a k there attr ref =
    let r = run_of rule docs input in
    let whole = replaced scope docs rule placed is choice in
    let o = common_refs scope (units_of docs) rule is choice r.files whole.old whole.held e a k there attr ref in
    inl (subst (In k) (sym (common_entries r)) (subst (λ (x : EntryName). In x (all_entry_keys (common_units r.move))) o.2 (all_seen_key (common_units r.move) o.0 o.1)))
