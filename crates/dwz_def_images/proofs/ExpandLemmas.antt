-- A kept unit has the spaces of the unit before, and, its imports expanded, the images of what stands in it.
use Rattle.std.proofs.Common.{◌≡◌, ◌↔◌, ℕ, ◌⊎◌, Bool, true, false, List, [], ◌∷◌, Some, None, map, refl, sym, ap, subst, ◌∙◌, inl, inr}
use Rattle.dwz_def_reading.specs.Documents.{Compile, DwUnit, Entries, Kind, Node, OfType, Partial, attr_map, entries_map, language, node_map, ref}
use Rattle.dwz_def_reading.specs.Lists.{In}
use Rattle.dwz_def_reading.specs.Trees.{End, Entry}
use Rattle.dwz_def_reading.proofs.ListFacts.{in_map}
use Rattle.dwz_def_tops.specs.Lists.{Nth}
use Rattle.dwz_def_tops.specs.Seen.{Expands, HasAt, HasImage, InCompile, InsideSame, IsChild, IsImport, IsShown, Named, Seen, TypesSame, UnitSame, UnitsSame, named_value, see, seen_map, seen_roots}
use Rattle.dwz_def_tops.specs.Spaces.{IsSpace, IsUnder, space_text}
use Rattle.dwz_def_tops.proofs.Members.{in_map_from, nth_one}
use Rattle.dwz_def_tops.proofs.SeenLemmas.{root_in, see_map}
use Rattle.dwz_def_tops.proofs.ShownLemmas.{EntryWith, entries_shown, entry_under, space_from, space_to}
use Rattle.dwz_def_tops.proofs.SpaceLemmas.{child_under, node_shown, some_none, text_map}
use Rattle.dwz_def_tops.specs.Spots.{EntryName, FileUnit, PartialRoot, Top, name_list, row_tops, rows_of_root, tops_of}
use Rattle.dwz_def_tops.proofs.RowLemmas.{unit_row}
use Rattle.dwz_def_tops.proofs.Tops.{row_top, unit_of}
use Rattle.dwz_def_plan.specs.IsPlan.{Has, Item, OfSpace, OfTop}
use Rattle.dwz_def_plan.specs.Moves.{Move, image_in}
use Rattle.dwz_def_plan.specs.Plan.{PartialUnit, import_of, imports, kept_row}
use Rattle.dwz_def_plan.proofs.KeptLemmas.{are_imports}
use Rattle.dwz_def_plan.proofs.RowParts.{kept_is}
use Rattle.dwz_def_images.specs.After.{AreAfter, AreAfterOf, AreOld}
use Rattle.dwz_def_images.specs.Held.{Kinded, Serves}
use Rattle.dwz_def_images.specs.Images.{units_in}
use Rattle.dwz_def_images.specs.Units.{changes, kept_unit, partial_unit, tree}
use Rattle.dwz_def_images.proofs.EntryLemmas.{all_of, kept_compile, kept_still, kept_type}
use Rattle.dwz_def_images.proofs.KindLemmas.{kept_kinded, top_plain}
use Rattle.dwz_def_images.proofs.OldLemmas.{in_units, no_import, partial_is_new, root_named, unit_at}
use Rattle.dwz_def_images.proofs.ServeLemmas.{top_with}
use Rattle.dwz_def_images.proofs.OldRows.{item_of, item_under, kind_in, node_of, row_kinded, top_names, tops_among, tops_somewhere}
use Rattle.dwz_def_images.proofs.TreeLemmas.{FromItem, child_last, child_row, row_under, tree_under, under_tree}

-- ---- imports

-- the import of a partial unit that has the unit among its users
pub record ImportFrom (unit : ℕ) (parts : List PartialUnit) (e : Node EntryName) : Type 0 where
  pub number : ℕ
  pub part : PartialUnit
  pub nth : Nth 0 parts number part
  pub user : In unit part.users
  pub is : import_of unit number ≡ e

import_from : (unit : ℕ) (parts : List PartialUnit) (names : List (List ℕ)) (e : Node EntryName) → IsUnder names e (imports unit 0 parts) → ImportFrom unit parts e
import_from unit parts names e h =
    let a = are_imports unit parts in
    let o = in_map_from (import_of unit) e a.parts_imported (row_under names e (map (import_of unit) a.parts_imported) (subst (IsUnder names e) a.entries_are h)).0 in
    let p = (a.are o.source).0 o.there in
    record { number = o.source; part = p.0; nth = p.1; user = p.2; is = o.is }

import_in : (unit : ℕ) (parts : List PartialUnit) (n : ℕ) (part : PartialUnit) → Nth 0 parts n part → In unit part.users → IsChild (import_of unit n) (imports unit 0 parts)
import_in unit parts n part nth user =
    let a = are_imports unit parts in
    subst (IsChild (import_of unit n)) (sym a.entries_are) (child_row (import_of unit n) (map (import_of unit) a.parts_imported)
    (in_map (import_of unit) n a.parts_imported ((a.are n).1 (part, nth, user))))

import_plain : (unit n : ℕ) → space_text (import_of unit n) ≡ None
unfolding space_text
import_plain unit n = refl

root_number : (unit m n : ℕ) → In (record { name = 0x18; value = ref (PartialRoot n) }) (map named_value (import_of unit m).attrs) → m ≡ n
root_number unit m n (inl x) = let e : (PartialRoot m ∷ []) ≡ (PartialRoot n ∷ []) = ap (λ (w : Named EntryName). w.value.refs) x in cc
root_number unit m n (inr r) = absurd r

-- ---- entries with their places replaced

under_mapped : (f : EntryName → EntryName) (names : List (List ℕ)) (g : Entries EntryName) (e : Node EntryName) → IsUnder names e (entries_map f g) → (d : Node EntryName) × IsUnder names d g
    × (node_map f d ≡ e)
unfolding entries_map
under_mapped f names End e h = absurd h
under_mapped f names (Entry a g k) e (inl x) = (a, inl (x.0, refl), x.1)
under_mapped f names (Entry a g k) e (inr (inl j)) = let o = under_mapped f j.1 g e j.4 in (o.0, inr (inl (j.0, j.1, sym (text_map f a) ∙ j.2, j.3, o.1)), o.2)
under_mapped f names (Entry a g k) e (inr (inr r)) = let o = under_mapped f names k e r in (o.0, inr (inr o.1), o.2)

mapped_under : (f : EntryName → EntryName) (names : List (List ℕ)) (g : Entries EntryName) (e : Node EntryName) → IsUnder names e g → IsUnder names (node_map f e) (entries_map f g)
unfolding entries_map
mapped_under f names End e h = absurd h
mapped_under f names (Entry a g k) e (inl x) = inl (x.0, ap (node_map f) x.1)
mapped_under f names (Entry a g k) e (inr (inl j)) = inr (inl (j.0, j.1, text_map f a ∙ j.2, j.3, mapped_under f j.1 g e j.4))
mapped_under f names (Entry a g k) e (inr (inr r)) = inr (inr (mapped_under f names k e r))

module _ (units : List (FileUnit EntryName)) (m : Move) (old : AreOld units) (held : Serves units m) (outs : List (DwUnit EntryName)) (Of : ℕ → Type 0) (after : AreAfterOf Of m units outs) where
  abbrev f : EntryName → EntryName
  f = image_in m

  abbrev new_tree : ℕ → Entries EntryName
  new_tree i = tree f (kept_row m.gone units i) (imports i 0 m.parts)

  -- the new unit at a number is imported by its import
  imports_new : (unit n : ℕ) (part : PartialUnit) → Nth 0 m.parts n part → In unit part.users → Of unit → IsImport outs (import_of unit n) (partial_unit m n)
  imports_new unit n part nth user mine = record { unit = after.new n part nth unit user mine; partial = tt; tag = refl; names = inl refl }

  -- a top that a partial unit holds for its users imports none
  held_import : (n : ℕ) (part : PartialUnit) → Nth 0 m.parts n part → (i : ℕ) → In i part.users → (names : List (List ℕ)) (s : Top) → Has names (OfTop s) (m.rows n) → (w : DwUnit EntryName)
      → IsImport outs (node_map f s.node) w → ⊥
  held_import n part nth i user names s has w is =
      let o = partial_is_new units old m outs after.from w is.unit is.partial in
      let r = root_named m.stand s.node.attrs o.number
      (subst (λ (x : DwUnit EntryName). In (record { name = 0x18; value = ref x.root.at }) (map named_value (map (attr_map f) s.node.attrs))) (sym o.is) is.names) in
      held.apart n part nth i user names s has (named_value r.0) o.number (in_map named_value r.0 s.node.attrs r.1) r.2

  -- ---- one compile unit

  module _ (i : ℕ) (u : FileUnit EntryName) (nth : Nth 0 units i u) (mine : Of i) (kind : u.unit.kind ≡ Compile) where
    kinded : Kinded (rows_of_root units i)
    kinded = let r = unit_row units i u nth kind in row_kinded u.file i (language u.unit) [] r.first (rows_of_root units i) u.unit.below r.is

    old_item : (names : List (List ℕ)) (x : Item) → Has names x (rows_of_root units i) → IsUnder names (node_of x) u.unit.below
    old_item names x h = let r = unit_row units i u nth kind in item_under u.file i (language u.unit) [] r.first (rows_of_root units i) u.unit.below r.is names x h

    -- where a top of the unit stands
    old_top : (t : Top) → In t (tops_of units) → t.unit ≡ i → Has (name_list t) (OfTop t) (rows_of_root units i)
    old_top t there e =
        let r = unit_row units i u nth kind in
        let in_row = subst (λ (w : ℕ). In t (row_tops (rows_of_root units w))) e (unit_of units t there).in_row in
        let s = tops_somewhere (rows_of_root units i) kinded t in_row in
        subst (λ (w : List (List ℕ)). Has w (OfTop t) (rows_of_root units i)) (sym (top_names u.file i (language u.unit) [] r.first (rows_of_root units i) u.unit.below r.is s.names t s.has)) s.has

    old_with : (names : List (List ℕ)) (e : Node EntryName) → IsUnder names e u.unit.below → EntryWith (units_in units) e.attrs
    old_with names e under = entry_under (units_in units) u.unit names e (in_units 0 units i u nth) under

    -- ---- where something of the file moves

    module _ (v : DwUnit EntryName) (below : v.below ≡ new_tree i) where
      in_tree : (names : List (List ℕ)) (e : Node EntryName) → IsUnder names e v.below → FromItem f (kept_row m.gone units i) names e ⊎ ImportFrom i m.parts e
      in_tree names e h = elim (tree_under f (kept_row m.gone units i) (imports i 0 m.parts) (kept_kinded m.gone units i kinded) names e (subst (IsUnder names e) below h)) [
        | inl a ↦ inl a
        | inr b ↦ inr (import_from i m.parts names e b)
      ]

      to_tree : (names : List (List ℕ)) (x : Item) → Has names x (kept_row m.gone units i) → IsUnder names (node_map f (node_of x)) v.below
      to_tree names x h = subst (IsUnder names (node_map f (node_of x))) (sym below) (under_tree f (kept_row m.gone units i) (imports i 0 m.parts) names x h)

      -- a child that imports a partial unit is an import, and that partial unit has the unit among its users
      pub record Imported (w : DwUnit EntryName) : Type 0 where
        pub number : ℕ
        pub part : PartialUnit
        pub there : Nth 0 m.parts number part
        pub user : In i part.users
        pub is_unit : partial_unit m number ≡ w

      imported_by : (e : Node EntryName) (w : DwUnit EntryName) → IsChild e v.below → IsImport outs e w → Imported w
      imported_by e w child im = elim (in_tree [] e (child_under e v.below child)) [
        | inl o ↦
            let has = ((kept_is m.gone units i [] o.item).0 o.has).0 in
            absurd (no_import units old m outs after.from (node_of o.item) (old_with [] (node_of o.item) (old_item [] o.item has)) w (subst (λ (x : Node EntryName). IsImport outs x w) (sym o.is) im))
        | inr o ↦
            let n = partial_is_new units old m outs after.from w im.unit im.partial in
            let names = subst (λ (x : DwUnit EntryName). In (record { name = 0x18; value = ref x.root.at }) (map named_value e.attrs)) (sym n.is) im.names in
            let number = root_number i o.number n.number (subst (λ (x : Node EntryName). In (record { name = 0x18; value = ref (PartialRoot n.number) }) (map named_value x.attrs)) (sym o.is) names) in
            let same : o.part ≡ n.part = nth_one 0 m.parts n.number o.part n.part (subst (λ (x : ℕ). Nth 0 m.parts x o.part) number o.nth) n.nth in
            record { number = n.number; part = n.part; there = n.nth; user = subst (λ (x : PartialUnit). In i x.users) same o.user; is_unit = n.is }
      ]

      spaces_to : (names : List (List ℕ)) (d : Node EntryName) → IsSpace names d u.unit.below → (e : Node EntryName) × IsSpace names e v.below × IsShown f d e
      spaces_to names d s =
          let r = unit_row units i u nth kind in
          let o = item_of u.file i (language u.unit) [] r.first (rows_of_root units i) u.unit.below r.is s.outer d s.under in
          go o.item o.has o.is
        where
          go : (x : Item) → Has s.outer x (rows_of_root units i) → node_of x ≡ d → (e : Node EntryName) × IsSpace names e v.below × IsShown f d e
          go (OfTop t) has e = some_none (space_text d) s.text s.own (ap space_text (sym e) ∙ kind_in (rows_of_root units i) kinded s.outer (OfTop t) has)
          go (OfSpace c) has e = (
            node_map f d,
            record {
              outer = s.outer;
              text = s.text;
              under = subst (λ (w : Node EntryName). IsUnder s.outer (node_map f w) v.below) e (to_tree s.outer (OfSpace c) ((kept_is m.gone units i s.outer (OfSpace c)).1 (has, tt)));
              own = text_map f d ∙ s.own;
              names_are = s.names_are;
            },
            node_shown f d,
          )

      spaces_from : (names : List (List ℕ)) (e : Node EntryName) → IsSpace names e v.below → (d : Node EntryName) × IsSpace names d u.unit.below × IsShown f d e
      spaces_from names e s = elim (in_tree s.outer e s.under) [
        | inl o ↦
            let has = ((kept_is m.gone units i s.outer o.item).0 o.has).0 in (
              node_of o.item,
              record { outer = s.outer; text = s.text; under = old_item s.outer o.item has; own = sym (text_map f (node_of o.item)) ∙ ap space_text o.is ∙ s.own; names_are = s.names_are },
              subst (IsShown f (node_of o.item)) o.is (node_shown f (node_of o.item)),
            )
        | inr o ↦ some_none (space_text e) s.text s.own (ap space_text (sym o.is) ∙ import_plain i o.number)
      ]

      -- an entry of a partial unit that is no space is a top's
      part_top : (n : ℕ) (part : PartialUnit) → Nth 0 m.parts n part → (names : List (List ℕ)) (q : EntryName) → HasAt outs names (partial_unit m n).below q
          → (s : Top) × Has names (OfTop s) (m.rows n) × (f s.node.at ≡ q)
      part_top n part there names q c = elim (tree_under f (m.rows n) End (held.kinds n part there) names c.entry c.under) [
        | inl o ↦ go o.item o.has o.is
        | inr r ↦ absurd r
      ]
        where
          go : (x : Item) → Has names x (m.rows n) → node_map f (node_of x) ≡ c.entry → (s : Top) × Has names (OfTop s) (m.rows n) × (f s.node.at ≡ q)
          go (OfTop s) has e = (s, has, ap (λ (w : Node EntryName). w.at) e ∙ c.at)
          go (OfSpace d) has e = let k = kind_in (m.rows n) (held.kinds n part there) names (OfSpace d) has in some_none (space_text d) k.0 k.1 (sym (text_map f d) ∙ ap space_text e ∙ c.no_space)

      children_to : (names : List (List ℕ)) (q : EntryName) → Expands outs v names q → HasImage f names u.unit.below q
      children_to names q (inl c) = elim (in_tree names c.entry c.under) [
        | inl o ↦
            let has = ((kept_is m.gone units i names o.item).0 o.has).0 in
            (node_of o.item, old_item names o.item has, sym (text_map f (node_of o.item)) ∙ ap space_text o.is ∙ c.no_space, ap (λ (w : Node EntryName). w.at) o.is ∙ c.at)
        | inr o ↦ absurd (c.no_import (partial_unit m o.number) (subst (λ (w : Node EntryName). IsImport outs w (partial_unit m o.number)) o.is (imports_new i o.number o.part o.nth o.user mine)))
      ]
      children_to names q (inr c) =
          let b = imported_by c.0 c.1 c.2 c.3 in
          let s = part_top b.number b.part b.there names q (subst (λ (w : DwUnit EntryName). HasAt outs names w.below q) (sym b.is_unit) c.4) in
          let t = held.used b.number b.part b.there i b.user names s.0 s.1 in
          let has = subst (λ (w : List (List ℕ)). Has w (OfTop t.top) (rows_of_root units i)) t.names_are (old_top t.top t.there t.unit_is) in
          (t.top.node, old_item names (OfTop t.top) has, top_plain units t.top t.there, t.at ∙ s.2)

      to_children : (names : List (List ℕ)) (q : EntryName) → HasImage f names u.unit.below q → Expands outs v names q
      to_children names q h =
          let r = unit_row units i u nth kind in
          let o = item_of u.file i (language u.unit) [] r.first (rows_of_root units i) u.unit.below r.is names h.0 h.1 in
          pick o.item o.has o.is
        where
          first_at : (a b : Seen EntryName) (x y : List (Seen EntryName)) → a ∷ x ≡ b ∷ y → a.at ≡ b.at
          first_at a b x y e = ap (λ (w : Seen EntryName). w.at) (let z : a ≡ b = cc in z)

          place : (t : Top) → Has names (OfTop t) (rows_of_root units i) → t.node ≡ h.0 → (b : Bool) → m.gone t.number ≡ b → Expands outs v names q
          place t has e true mv =
              let in_row = tops_among (rows_of_root units i) names t has in
              let there = row_top units i t in_row in
              let k = held.held t there.0 mv in
              let rr = unit_row units i u nth kind in
              let own_names : name_list t ≡ names = top_names u.file i (language u.unit) [] rr.first (rows_of_root units i) u.unit.below rr.is names t has in
              let has_there = subst (λ (w : List (List ℕ)). Has w (OfTop k.top) (m.rows k.number)) own_names k.has in
              let image_is : f k.top.node.at ≡ q = sym (first_at _ _ _ _ k.same) ∙ ap (λ (w : Node EntryName). f w.at) e ∙ h.3 in
              inr (
                import_of i k.number,
                partial_unit m k.number,
                subst (IsChild (import_of i k.number)) (sym below) (child_last f (kept_row m.gone units i) (imports i 0 m.parts) (import_of i k.number)
                    (import_in i m.parts k.number k.part k.nth (subst (λ (w : ℕ). In w k.part.users) there.1 k.user))),
                imports_new i k.number k.part k.nth (subst (λ (w : ℕ). In w k.part.users) there.1 k.user) mine,
                record {
                  entry = node_map f k.top.node;
                  under = under_tree f (m.rows k.number) End names (OfTop k.top) has_there;
                  no_space = text_map f k.top.node ∙ kind_in (m.rows k.number) (held.kinds k.number k.part k.nth) names (OfTop k.top) has_there;
                  no_import = held_import k.number k.part k.nth t.unit k.user names k.top has_there;
                  at = image_is;
                },
              )
          place t has e false mv =
              let in_row = tops_among (rows_of_root units i) names t has in
              let there = row_top units i t in_row in
              inl (record {
                entry = node_map f t.node;
                under = to_tree names (OfTop t) ((kept_is m.gone units i names (OfTop t)).1 (has, mv));
                no_space = text_map f t.node ∙ top_plain units t there.0;
                no_import = no_import units old m outs after.from t.node (top_with units t there.0);
                at = ap (λ (w : Node EntryName). f w.at) e ∙ h.3;
              })

          pick : (x : Item) → Has names x (rows_of_root units i) → node_of x ≡ h.0 → Expands outs v names q
          pick (OfTop t) has e = place t has e (m.gone t.number) refl
          pick (OfSpace d) has e = let k = kind_in (rows_of_root units i) kinded names (OfSpace d) has in some_none (space_text d) k.0 k.1 (ap space_text e ∙ h.2)

      imported_spaces : (e : Node EntryName) (w : DwUnit EntryName) → IsChild e v.below → IsImport outs e w → (names : List (List ℕ)) (b : Node EntryName) → IsSpace names b w.below
          → (d : Node EntryName) × IsSpace names d u.unit.below
      imported_spaces e w child im names b s =
          let a = imported_by e w child im in
          let under = subst (λ (x : DwUnit EntryName). IsUnder s.outer b x.below) (sym a.is_unit) s.under in
          find a (tree_under f (m.rows a.number) End (held.kinds a.number a.part a.there) s.outer b under)
        where
          go : (a : Imported w) (x : Item) → Has s.outer x (m.rows a.number) → node_map f (node_of x) ≡ b → (d : Node EntryName) × IsSpace names d u.unit.below
          go a (OfTop t) has e = some_none (space_text b) s.text s.own
              (ap space_text (sym e) ∙ text_map f t.node ∙ kind_in (m.rows a.number) (held.kinds a.number a.part a.there) s.outer (OfTop t) has)
          go a (OfSpace c) has e =
              let d = held.spaces a.number a.part a.there i a.user s.outer c has in
              let text : space_text c ≡ Some s.text = sym (text_map f c) ∙ ap space_text e ∙ s.own in
              (d.0, record { outer = s.outer; text = s.text; under = old_item s.outer (OfSpace d.0) d.1; own = d.2 ∙ text; names_are = s.names_are })

          find : (a : Imported w) → FromItem f (m.rows a.number) s.outer b ⊎ ⊥ → (d : Node EntryName) × IsSpace names d u.unit.below
          find a (inl o) = go a o.item o.has o.is
          find a (inr r) = absurd r

      changed_same : InsideSame f outs u.unit v
      changed_same = record { spaces = spaces_to; no_more = spaces_from; children = λ names q. (children_to names q, to_children names q); imported = imported_spaces }

    -- ---- where nothing does

    module _ (v : DwUnit EntryName) (below : v.below ≡ entries_map f u.unit.below) where
      still_import : (names : List (List ℕ)) (e : Node EntryName) → IsUnder names e v.below → (w : DwUnit EntryName) → IsImport outs e w → ⊥
      still_import names e under w im =
          let o = under_mapped f names u.unit.below e (subst (IsUnder names e) below under) in
          no_import units old m outs after.from o.0 (old_with names o.0 o.1) w (subst (λ (x : Node EntryName). IsImport outs x w) (sym o.2) im)

      still_children : (names : List (List ℕ)) (q : EntryName) → Expands outs v names q ↔ HasImage f names u.unit.below q
      still_children names q = (
        (λ x. elim x [
          | inl c ↦
              let o = under_mapped f names u.unit.below c.entry (subst (IsUnder names c.entry) below c.under) in
              (o.0, o.1, sym (text_map f o.0) ∙ ap space_text o.2 ∙ c.no_space, ap (λ (w : Node EntryName). w.at) o.2 ∙ c.at)
          | inr c ↦ absurd (still_import [] c.0 (child_under c.0 v.below c.2) c.1 c.3)
        ]),
        (λ h.
            let under = subst (IsUnder names (node_map f h.0)) (sym below) (mapped_under f names u.unit.below h.0 h.1) in
            inl (record { entry = node_map f h.0; under = under; no_space = text_map f h.0 ∙ h.2; no_import = still_import names (node_map f h.0) under; at = h.3 })),
      )

      still_same : InsideSame f outs u.unit v
      still_same = record {
        spaces = λ names d s. (let o = space_to f names u.unit.below (entries_map f u.unit.below) (entries_shown f u.unit.below) d s in
            (o.0, subst (λ (w : Entries EntryName). IsSpace names o.0 w) (sym below) o.1, o.2));
        no_more = λ names e s. space_from f names u.unit.below (entries_map f u.unit.below) (entries_shown f u.unit.below) e (subst (λ (w : Entries EntryName). IsSpace names e w) below s);
        children = still_children;
        imported = λ e w child im names b s. absurd (still_import [] e (child_under e v.below child) w im);
      }

    compile_same : InsideSame f outs u.unit (kept_unit m units i u)
    compile_same = go (changes m units u.file) refl where
      go : (b : Bool) → changes m units u.file ≡ b → InsideSame f outs u.unit (kept_unit m units i u)
      go true c = changed_same (kept_unit m units i u) (kept_compile m units i u kind c)
      go false c = still_same (kept_unit m units i u) (kept_still m units i u c)

  -- ---- all units

  inside_kept : (i : ℕ) (u : FileUnit EntryName) → Nth 0 units i u → Of i → (k : Kind EntryName) → u.unit.kind ≡ k → InCompile k (InsideSame f outs u.unit (kept_unit m units i u))
  inside_kept i u nth mine Compile kind = compile_same i u nth mine kind
  inside_kept i u nth mine (OfType signature main) kind = tt
  inside_kept i u nth mine Partial kind = tt

  pub kept_same : (i : ℕ) (u : FileUnit EntryName) → Nth 0 units i u → Of i → UnitSame f outs u.unit (kept_unit m units i u)
  kept_same i u nth mine = record { there = after.kept i u nth mine; kind = refl; root = node_shown f u.unit.root; inside = inside_kept i u nth mine u.unit.kind refl }

  -- the root of a type unit
  pub type_root : (i : ℕ) (u : FileUnit EntryName) → Nth 0 units i u → Of i → (signature : ℕ) (main : EntryName) → u.unit.kind ≡ OfType signature main
      → In (seen_map f (see u.unit.root u.unit.below)) (seen_roots outs)
  type_root i u nth mine signature main kind =
      let v = kept_unit m units i u in
      let below = kept_type m units i u signature main kind in
      let is : see v.root v.below ≡ seen_map f (see u.unit.root u.unit.below) = ap (λ (w : Entries EntryName). see v.root w) below ∙ see_map f u.unit.root u.unit.below in
      subst (λ (w : Seen EntryName). In w (seen_roots outs)) is (root_in outs v (after.kept i u nth mine))

-- ---- all units

module _ (units : List (FileUnit EntryName)) (m : Move) (old : AreOld units) (held : Serves units m) (outs : List (DwUnit EntryName)) (after : AreAfter m units outs) where
  abbrev all : AreAfterOf (λ i. Unit {0}) m units outs
  all = all_of m units outs after

  pub units_same : UnitsSame (image_in m) (units_in units) outs
  units_same = λ u there.
      let n = unit_at 0 units u there in (
        kept_unit m units n.number n.unit,
        subst (λ (w : DwUnit EntryName). UnitSame (image_in m) outs w (kept_unit m units n.number n.unit)) n.is
            (kept_same units m old held outs (λ i. Unit {0}) all n.number n.unit n.nth tt),
      )

  pub types_same : TypesSame (image_in m) (units_in units) outs
  types_same = λ u signature main there kind.
      let n = unit_at 0 units u there in
      subst (λ (w : DwUnit EntryName). In (seen_map (image_in m) (see w.root w.below)) (seen_roots outs)) n.is
      (type_root units m old held outs (λ i. Unit {0}) all n.number n.unit n.nth tt signature main (ap (λ (w : DwUnit EntryName). w.kind) n.is ∙ kind))
