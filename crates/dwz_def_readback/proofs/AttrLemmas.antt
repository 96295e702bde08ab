-- The attributes of what is kept, and of what is new.
use Rattle.std.proofs.Common.{◌≡◌, ℕ, Bool, true, false, List, [], ◌∷◌, map, refl, sym, subst, inl, inr}
use Rattle.dwz_def_reading.specs.Lists.{Each, In}
use Rattle.dwz_def_reading.specs.Trees.{End, Entry}
use Rattle.dwz_def_reading.specs.Documents.{Attr, Compile, Entries, Kind, Node, OfType, Partial, attr_map, entries_map, language, node_map}
use Rattle.dwz_def_tops.specs.Lists.{Nth}
use Rattle.dwz_def_tops.proofs.Members.{in_map_from}
use Rattle.dwz_def_tops.specs.Spots.{EntryName, FileUnit, Top, rows_of_root}
use Rattle.dwz_def_tops.proofs.RowLemmas.{unit_row}
use Rattle.dwz_def_images.specs.IsPlan.{Has, OfSpace, OfTop}
use Rattle.dwz_def_images.specs.Moves.{Move, image_in}
use Rattle.dwz_def_images.specs.Plan.{import_attr, import_of, imports, kept_row}
use Rattle.dwz_def_images.proofs.KeptLemmas.{are_imports}
use Rattle.dwz_def_images.proofs.RowParts.{kept_is}
use Rattle.dwz_def_images.specs.After.{IsBelow}
use Rattle.dwz_def_images.specs.Held.{Kinded}
use Rattle.dwz_def_images.specs.Units.{changes, kept_below, kept_unit, tree}
use Rattle.dwz_def_images.proofs.KindLemmas.{kept_kinded}
use Rattle.dwz_def_images.proofs.NodeLemmas.{EntryOfTop, FromLast, FromSpace, FromTop, NodeFrom, below_map, below_row, node_from, top_below, under_below}
use Rattle.dwz_def_images.proofs.OldRows.{item_under, row_kinded, tops_among}
use Rattle.dwz_def_encoding.specs.Fitting.{EachAttr}

module _ (P : Attr EntryName → Type 0) where
  pub attrs_below : (g : Entries EntryName) → ((e : Node EntryName) → IsBelow e g → Each P e.attrs) → EachAttr P g
  attrs_below End are = tt
  attrs_below (Entry d g k) are = (are d (inl refl), attrs_below g (λ e h. are e (inr (inl h))), attrs_below k (λ e h. are e (inr (inr h))))

  pub attrs_in : (g : Entries EntryName) → EachAttr P g → (e : Node EntryName) → IsBelow e g → Each P e.attrs
  attrs_in End are e h = absurd h
  attrs_in (Entry d g k) are e (inl x) = subst (λ (w : Node EntryName). Each P w.attrs) x are.0
  attrs_in (Entry d g k) are e (inr (inl a)) = attrs_in g are.1 e a
  attrs_in (Entry d g k) are e (inr (inr b)) = attrs_in k are.2 e b

  pub attrs_mapped : (f : EntryName → EntryName) (attrs : List (Attr EntryName)) → ((a : Attr EntryName) → In a attrs → P (attr_map f a)) → Each P (map (attr_map f) attrs)
  attrs_mapped f [] are = tt
  attrs_mapped f (a ∷ attrs) are = (are a (inl refl), attrs_mapped f attrs (λ b is. are b (inr is)))

  node_mapped : (f : EntryName → EntryName) (e d : Node EntryName) → e ≡ node_map f d → ((a : Attr EntryName) → In a d.attrs → P (attr_map f a)) → Each P e.attrs
  node_mapped f e d same are = subst (λ (w : Node EntryName). Each P w.attrs) (sym same) (attrs_mapped f d.attrs are)

  -- those of a partial unit are attributes of tops and of spaces
  pub new_attrs : (m : Move) (n : ℕ) → Kinded (m.rows n)
      → ((names : List (List ℕ)) (t : Top) → Has names (OfTop t) (m.rows n) → (d : Node EntryName) → EntryOfTop d t → (a : Attr EntryName) → In a d.attrs → P (attr_map (image_in m) a))
      → ((names : List (List ℕ)) (d : Node EntryName) → Has names (OfSpace d) (m.rows n) → (a : Attr EntryName) → In a d.attrs → P (attr_map (image_in m) a))
      → EachAttr P (tree (image_in m) (m.rows n) End)
  new_attrs m n kinds tops spaces = attrs_below (tree (image_in m) (m.rows n) End) (λ e h. go e (node_from (image_in m) (m.rows n) End kinds e h)) where
    go : (e : Node EntryName) → NodeFrom (image_in m) (m.rows n) End e → Each P e.attrs
    go e (FromTop names t has d x y) = node_mapped (image_in m) e d y (tops names t has d x)
    go e (FromSpace names d has y) = node_mapped (image_in m) e d y (spaces names d has)
    go e (FromLast z) = absurd z

  -- those of a unit that is kept are its own, or imports
  module _ (units : List (FileUnit EntryName)) (m : Move) (i : ℕ) (u : FileUnit EntryName) (nth : Nth 0 units i u)
      (own : (d : Node EntryName) → IsBelow d u.unit.below → (a : Attr EntryName) → In a d.attrs → P (attr_map (image_in m) a)) (import : (n : ℕ) → P (import_attr n)) where
    import_attrs : (e : Node EntryName) → IsBelow e (imports i 0 m.parts) → Each P e.attrs
    import_attrs e h =
        let a = are_imports i m.parts in
        let o = in_map_from (import_of i) e a.parts_imported (below_row (map (import_of i) a.parts_imported) e (subst (IsBelow e) a.entries_are h)) in
        subst (λ (w : Node EntryName). Each P w.attrs) o.is (import o.source, tt)

    changed_attrs : u.unit.kind ≡ Compile → EachAttr P (tree (image_in m) (kept_row m.gone units i) (imports i 0 m.parts))
    changed_attrs kind =
        attrs_below (tree (image_in m) (kept_row m.gone units i) (imports i 0 m.parts)) (λ e h. go e (node_from (image_in m) (kept_row m.gone units i) (imports i 0 m.parts)
        (kept_kinded m.gone units i (row_kinded u.file i (language u.unit) [] (unit_row units i u nth kind).first (rows_of_root units i) u.unit.below (unit_row units i u nth kind).is)) e h))
      where
        go : (e : Node EntryName) → NodeFrom (image_in m) (kept_row m.gone units i) (imports i 0 m.parts) e → Each P e.attrs
        go e (FromTop names t has d x y) =
            (let r = unit_row units i u nth kind in
            let in_row = tops_among (rows_of_root units i) names t ((kept_is m.gone units i names (OfTop t)).0 has).0 in
            node_mapped (image_in m) e d y (own d (top_below u.file i (language u.unit) [] r.first (rows_of_root units i) u.unit.below r.is t in_row d x)))
        go e (FromSpace names d has y) =
            (let r = unit_row units i u nth kind in
            let under = item_under u.file i (language u.unit) [] r.first (rows_of_root units i) u.unit.below r.is names (OfSpace d) ((kept_is m.gone units i names (OfSpace d)).0 has).0 in
            node_mapped (image_in m) e d y (own d (under_below names d u.unit.below under)))
        go e (FromLast z) = import_attrs e z

    still_attrs : EachAttr P (entries_map (image_in m) u.unit.below)
    still_attrs = attrs_below (entries_map (image_in m) u.unit.below) (λ e h. (let o = below_map (image_in m) u.unit.below e h in node_mapped (image_in m) e o.0 o.2 (own o.0 o.1)))

    below_attrs : (k : Kind EntryName) → u.unit.kind ≡ k → (b : Bool) → EachAttr P (kept_below m units b i k u.unit.below)
    below_attrs Compile e true = changed_attrs e
    below_attrs Compile e false = still_attrs
    below_attrs (OfType signature main) e true = still_attrs
    below_attrs (OfType signature main) e false = still_attrs
    below_attrs Partial e true = still_attrs
    below_attrs Partial e false = still_attrs

    pub kept_attrs : EachAttr P (kept_unit m units i u).below
    kept_attrs = below_attrs u.unit.kind refl (changes m units u.file)
