-- Which entries stand after, and that type units are kept as they are.
use Rattle.std.proofs.Common.{◌≡◌, ℕ, ℤ, suc, ◌+◌, ◌⊎◌, Bool, true, false, List, [], ◌∷◌, ◌++◌, Option, map, refl, sym, ap, subst, ◌∙◌, inl, inr}
use Rattle.dwz_def_reading.specs.Documents.{Compile, DwUnit, Entries, Kind, Node, OfType, Partial, entries_map, kind_map, language, node_map, unit_map}
use Rattle.dwz_def_reading.specs.Lists.{In}
use Rattle.dwz_def_reading.specs.Trees.{End, Entry}
use Rattle.dwz_def_reading.proofs.ListFacts.{in_cases}
use Rattle.dwz_def_tops.specs.Lists.{Nth}
use Rattle.dwz_def_tops.specs.Spaces.{IsUnder, tops_under}
use Rattle.dwz_def_tops.proofs.Members.{in_map_from}
use Rattle.dwz_def_tops.specs.Spots.{ASpace, ATop, EntryName, FileUnit, Nothing, Row, SpaceName, Top, name_of, row_tops, rows_of_root, tops_of}
use Rattle.dwz_def_tops.proofs.RowLemmas.{RowIs, unit_row}
use Rattle.dwz_def_tops.proofs.Tops.{row_top, unit_of}
use Rattle.dwz_def_plan.specs.Moves.{Move, image_in}
use Rattle.dwz_def_plan.specs.IsPlan.{Has, OfSpace, OfTop, row}
use Rattle.dwz_def_plan.specs.Plan.{PartialUnit, import_of, imports, kept_row}
use Rattle.dwz_def_images.specs.Units.{changes, kept_below, kept_unit, partial_unit, tree}
use Rattle.dwz_def_plan.proofs.KeptLemmas.{are_imports}
use Rattle.dwz_def_plan.proofs.RowParts.{kept_is}
use Rattle.dwz_def_images.specs.After.{AreAfter, AreOld, ComesFrom, IsBelow, IsEntryOf, NewImport, NewRoot, NewSpace, OldEntry}
use Rattle.dwz_def_images.specs.Held.{IsHeld, Kinded}
use Rattle.dwz_def_images.proofs.EntryLemmas.{kept_type}
use Rattle.dwz_def_images.proofs.KindLemmas.{kept_kinded}
use Rattle.dwz_def_images.proofs.OldLemmas.{in_units}
use Rattle.dwz_def_images.proofs.OldRows.{item_under, row_kinded, tops_among}

-- ---- in trees

pub below_map : (f : EntryName → EntryName) (g : Entries EntryName) (e : Node EntryName) → IsBelow e (entries_map f g) → (d : Node EntryName) × IsBelow d g × (e ≡ node_map f d)
unfolding entries_map
below_map f End e h = absurd h
below_map f (Entry d g k) e (inl x) = (d, inl refl, sym x)
below_map f (Entry d g k) e (inr (inl a)) = let o = below_map f g e a in (o.0, inr (inl o.1), o.2)
below_map f (Entry d g k) e (inr (inr b)) = let o = below_map f k e b in (o.0, inr (inr o.1), o.2)

-- an entry of a top
abbrev pub EntryOfTop : Node EntryName → Top → Type 0
EntryOfTop d t = (t.node ≡ d) ⊎ IsBelow d t.below

-- an entry of a tree is one of a top, or a space, with its places replaced, or stands behind
pub data NodeFrom (f : EntryName → EntryName) (items : Row) (last : Entries EntryName) (e : Node EntryName) : Type 0 where
  FromTop : (names : List (List ℕ)) (t : Top) → Has names (OfTop t) items → (d : Node EntryName) → EntryOfTop d t → e ≡ node_map f d → NodeFrom f items last e
  FromSpace : (names : List (List ℕ)) (d : Node EntryName) → Has names (OfSpace d) items → e ≡ node_map f d → NodeFrom f items last e
  FromLast : IsBelow e last → NodeFrom f items last e

pub node_from : (f : EntryName → EntryName) (items : Row) (last : Entries EntryName) → Kinded items → (e : Node EntryName) → IsBelow e (tree f items last) → NodeFrom f items last e
unfolding tree
node_from f Nothing last k e h = FromLast h
node_from f (ATop t next) last k e (inl x) = FromTop [] t (inl (refl, refl)) t.node (inl refl) (sym x)
node_from f (ATop t next) last k e (inr (inl a)) = let o = below_map f t.below e a in FromTop [] t (inl (refl, refl)) o.0 (inr o.1) o.2
node_from f (ATop t next) last k e (inr (inr b)) = later (node_from f next last k.1 e b) where
  later : NodeFrom f next last e → NodeFrom f (ATop t next) last e
  later (FromTop names u a d x y) = FromTop names u (inr a) d x y
  later (FromSpace names d a x) = FromSpace names d (inr a) x
  later (FromLast a) = FromLast a
node_from f (ASpace d inner next) last k e (inl x) = FromSpace [] d (inl (refl, refl)) (sym x)
node_from f (ASpace d inner next) last k e (inr (inl a)) = inside (node_from f inner End k.1 e a) where
  inside : NodeFrom f inner End e → NodeFrom f (ASpace d inner next) last e
  inside (FromTop names u a c x y) = FromTop (k.0.0 ∷ names) u (inr (inl (k.0.0, names, k.0.1, refl, a))) c x y
  inside (FromSpace names c a x) = FromSpace (k.0.0 ∷ names) c (inr (inl (k.0.0, names, k.0.1, refl, a))) x
  inside (FromLast a) = absurd a
node_from f (ASpace d inner next) last k e (inr (inr b)) = later (node_from f next last k.2 e b) where
  later : NodeFrom f next last e → NodeFrom f (ASpace d inner next) last e
  later (FromTop names u a c x y) = FromTop names u (inr (inr a)) c x y
  later (FromSpace names c a x) = FromSpace names c (inr (inr a)) x
  later (FromLast a) = FromLast a

pub below_row : (nodes : List (Node EntryName)) (e : Node EntryName) → IsBelow e (row nodes) → In e nodes
below_row [] e h = h
below_row (d ∷ nodes) e (inl x) = inl x
below_row (d ∷ nodes) e (inr (inl a)) = absurd a
below_row (d ∷ nodes) e (inr (inr b)) = inr (below_row nodes e b)

pub under_below : (names : List (List ℕ)) (e : Node EntryName) (g : Entries EntryName) → IsUnder names e g → IsBelow e g
under_below names e End h = h
under_below names e (Entry d g k) (inl x) = inl x.1
under_below names e (Entry d g k) (inr (inl i)) = inr (inl (under_below i.1 e g i.4))
under_below names e (Entry d g k) (inr (inr r)) = inr (inr (under_below names e k r))

module _ (file unit : ℕ) (tongue : Option ℤ) where
  pub top_below : (spaces : List SpaceName) (n : ℕ) (items : Row) (g : Entries EntryName) → RowIs file unit tongue spaces n items g → (t : Top) → In t (row_tops items) → (d : Node EntryName)
      → EntryOfTop d t
      → IsBelow d g
  unfolding row_tops
  top_below spaces n Nothing g h t is d x = absurd is
  top_below spaces n (ATop u next) (Entry e f g) h t (inl y) d x = elim (subst (EntryOfTop d) (sym (h.1 ∙ y)) x) [ inl a ↦ inl a | inr b ↦ inr (inl b) ]
  top_below spaces n (ATop u next) (Entry e f g) h t (inr r) d x = inr (inr (top_below spaces (suc n) next g h.2 t r d x))
  top_below spaces n (ASpace c inner next) (Entry e f g) h t is d x =
      pick (top_below (spaces ++ name_of h.0 e ∷ []) n inner f h.3 t) (top_below spaces (n + tops_under f) next g h.4 t) (in_cases t (row_tops inner) (row_tops next) is)
    where
      pick : (In t (row_tops inner) → (d : Node EntryName) → EntryOfTop d t → IsBelow d f) → (In t (row_tops next) → (d : Node EntryName) → EntryOfTop d t → IsBelow d g)
          → In t (row_tops inner) ⊎ In t (row_tops next) → IsBelow d (Entry e f g)
      pick a b (inl y) = inr (inl (a y d x))
      pick a b (inr y) = inr (inr (b y d x))
  top_below spaces n (ATop u next) End h t is d x = absurd h
  top_below spaces n (ASpace c inner next) End h t is d x = absurd h

-- ---- in units

module _ (units : List (FileUnit EntryName)) (m : Move) (old : AreOld units) (held : IsHeld units m) (outs : List (DwUnit EntryName)) (after : AreAfter m units outs) where
  abbrev f : EntryName → EntryName
  f = image_in m

  abbrev parts : List PartialUnit
  parts = m.parts

  abbrev From : Node EntryName → Type 0
  From e = ComesFrom m units e

  from_top : (t : Top) → In t (tops_of units) → (d e : Node EntryName) → EntryOfTop d t → e ≡ node_map f d → From e
  from_top t there d e x y =
      let u = unit_of units t there in
      let r = unit_row units t.unit u.unit u.nth u.compile in
      OldEntry u.unit.unit (in_units 0 units t.unit u.unit u.nth) d (inr (top_below u.unit.file t.unit (language u.unit.unit) [] r.first (rows_of_root units t.unit) u.unit.unit.below r.is t u.in_row
      d x)) y

  from_import : (i : ℕ) (e : Node EntryName) → IsBelow e (imports i 0 parts) → From e
  from_import i e h =
      let a = are_imports i parts in
      let o = in_map_from (import_of i) e a.parts_imported (below_row (map (import_of i) a.parts_imported) e (subst (IsBelow e) a.entries_are h)) in
      NewImport i o.source (sym o.is)

  from_new : (n : ℕ) (part : PartialUnit) → Nth 0 parts n part → (e : Node EntryName) → IsEntryOf e (partial_unit m n) → From e
  from_new n part nth e (inl x) = NewRoot n (sym x)
  from_new n part nth e (inr r) = go (node_from f (m.rows n) End (held.kinds n part nth) e r) where
    go : NodeFrom f (m.rows n) End e → From e
    go (FromTop names t has d x y) = from_top t (held.tops n part nth names t has) d e x y
    go (FromSpace names d has x) = NewSpace n part names d nth has x
    go (FromLast z) = absurd z

  mapped : (i : ℕ) (u : FileUnit EntryName) → Nth 0 units i u → (e : Node EntryName) → IsBelow e (entries_map f u.unit.below) → From e
  mapped i u nth e h = let o = below_map f u.unit.below e h in OldEntry u.unit (in_units 0 units i u nth) o.0 (inr o.1) o.2

  from_below : (i : ℕ) (u : FileUnit EntryName) → Nth 0 units i u → (e : Node EntryName) → (k : Kind EntryName) → u.unit.kind ≡ k → (b : Bool) → IsBelow e (kept_below m units b i k u.unit.below)
      → From e
  from_below i u nth e Compile kind true h = go (node_from f (kept_row m.gone units i) (imports i 0 parts)
      (kept_kinded m.gone units i (row_kinded u.file i (language u.unit) [] (unit_row units i u nth kind).first (rows_of_root units i) u.unit.below (unit_row units i u nth kind).is)) e h) where
        go : NodeFrom f (kept_row m.gone units i) (imports i 0 parts) e → From e
        go (FromTop names t has d x y) = from_top t (row_top units i t (tops_among (rows_of_root units i) names t ((kept_is m.gone units i names (OfTop t)).0 has).0)).0 d e x y
        go (FromSpace names d has x) =
            let r = unit_row units i u nth kind in
            let under = item_under u.file i (language u.unit) [] r.first (rows_of_root units i) u.unit.below r.is names (OfSpace d) ((kept_is m.gone units i names (OfSpace d)).0 has).0 in
            OldEntry u.unit (in_units 0 units i u nth) d (inr (under_below names d u.unit.below under)) x
        go (FromLast z) = from_import i e z
  from_below i u nth e Compile kind false h = mapped i u nth e h
  from_below i u nth e (OfType signature main) kind true h = mapped i u nth e h
  from_below i u nth e (OfType signature main) kind false h = mapped i u nth e h
  from_below i u nth e Partial kind true h = mapped i u nth e h
  from_below i u nth e Partial kind false h = mapped i u nth e h

  from_kept : (i : ℕ) (u : FileUnit EntryName) → Nth 0 units i u → (e : Node EntryName) → IsEntryOf e (kept_unit m units i u) → From e
  from_kept i u nth e (inl x) = OldEntry u.unit (in_units 0 units i u nth) u.unit.root (inl refl) (sym x)
  from_kept i u nth e (inr r) = from_below i u nth e u.unit.kind refl (changes m units u.file) r

  -- each entry after comes from an old one, or is new
  pub comes_from : (v : DwUnit EntryName) → In v outs → (e : Node EntryName) → IsEntryOf e v → ComesFrom m units e
  comes_from v there e h = elim (after.from v there) [
    | inl a ↦ from_new a.number a.part a.nth e (subst (IsEntryOf e) (sym a.is) h)
    | inr b ↦ from_kept b.number b.unit b.nth e (subst (IsEntryOf e) (sym b.is) h)
  ]

unit_by : (a b : EntryName) (k : Kind EntryName) (root : Node EntryName) (x y : Entries EntryName) → a ≡ b → x ≡ y
    → (let u : DwUnit EntryName = record { at = a; kind = k; root = root; below = x } in let v : DwUnit EntryName = record { at = b; kind = k; root = root; below = y } in u ≡ v)
unit_by a b k root x y p q = cc

-- a type unit is kept with its places replaced
pub type_kept : (units : List (FileUnit EntryName)) (m : Move) → AreOld units → (i : ℕ) (u : FileUnit EntryName) → Nth 0 units i u → (signature : ℕ) (main : EntryName)
    → u.unit.kind ≡ OfType signature main
    → kept_unit m units i u ≡ unit_map (image_in m) u.unit
type_kept units m old i u nth signature main kind =
    let f = image_in m in
    let at : u.unit.at ≡ f u.unit.at = (old.units_named i u nth).unit ∙ ap f (sym (old.units_named i u nth).unit) in
    unit_by u.unit.at (f u.unit.at) (kind_map f u.unit.kind) (node_map f u.unit.root) (kept_unit m units i u).below (entries_map f u.unit.below) at (kept_type m units i u signature main kind)
