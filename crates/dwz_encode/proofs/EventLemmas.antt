-- What the entries of a unit leave, one after the other: the unit's table, and the bytes of its tree.
use Rattle.std.proofs.Common.{◌≡◌, ℕ, List, [], ◌∷◌, ◌++◌, map, Option, refl, sym, ap, ◌∙◌, append_assoc, append-nil}
use Rattle.dwz_model.specs.declared.place.Pair.{Pair}
use Rattle.dwz_def_reading.specs.Documents.{Attr, DwUnit, Entries, Node}
use Rattle.dwz_def_reading.specs.Trees.{End, Entry}
use Rattle.dwz_def_reading.specs.Values.{value_bytes}
use Rattle.dwz_def_encoding.specs.Writing.{DeclarationShape, Numbering, any, attrs_bytes, code_bytes, code_in, declaration_shape, if_any, node_bytes, pair_of, shapes_in, spelled, stored, table_of}
use Rattle.dwz_def_encoding.specs.Writing.{tree_bytes, with_shape}
use Rattle.dwz_def_encoding.proofs.WriteCodes.{Grown, Grown-same, Grown-then, code_grows, shapes_cover, with_shape-has}
use Rattle.dwz_layout.specs.Stored.{StoredAttr, entry_bytes, shape_for, values_bytes}
use Rattle.dwz_encode.specs.Events.{Event, Tree, entry_event, events, if_children, run, stored_attr, tree, unit_events, unit_tree}

pub run-append : (xs ys : List Event) (w : Tree) → run (xs ++ ys) w ≡ run ys (run xs w)
unfolding run
run-append [] ys w = refl
run-append (x ∷ xs) ys w = run-append xs ys _

-- ---- an entry

module _ {K : Type 0} (n : Numbering K) (unit : ℕ) where
  pairs_of : (attrs : List (Attr K)) → map (λ (a : StoredAttr). a.pair) (map (stored_attr n unit) attrs) ≡ map pair_of attrs
  pairs_of [] = refl
  pairs_of (a ∷ attrs) = ap (λ (ps : List Pair). pair_of a ∷ ps) (pairs_of attrs)

  values_of : (attrs : List (Attr K)) → values_bytes (map (stored_attr n unit) attrs) ≡ attrs_bytes n unit attrs
  unfolding values_bytes attrs_bytes
  values_of [] = refl
  values_of (a ∷ attrs) = ap (λ (w : List ℕ). value_bytes a.form (stored n unit a) ++ w) (values_of attrs)

  -- its code is that in every table that grew from the one which it was added to
  entry_after : (e : Node K) (children : Entries K) (w : Tree) (table : List DeclarationShape) → Grown (with_shape w.shapes (declaration_shape e children)) table
      → run (entry_event n unit e children ∷ []) w ≡ tree (with_shape w.shapes (declaration_shape e children)) (w.body ++ node_bytes n unit table e children)
  unfolding run node_bytes
  entry_after e children w table grown =
      let s = declaration_shape e children in
      let attrs = map (stored_attr n unit) e.attrs in
      let same : shape_for e.tag (any children) attrs ≡ s = ap (λ (ps : List Pair). record { tag = e.tag; children = any children; pairs = ps }) (pairs_of e.attrs) in
      let has = (with_shape-has w.shapes s).0 in
      let code : code_in 1 (with_shape w.shapes s) s ≡ code_in 1 table s =
      has.is ∙ sym (ap (λ (t : List DeclarationShape). code_in 1 t s) grown.is ∙ code_grows 1 (with_shape w.shapes s) grown.more s has.code has.is) in
      ap (λ (t : DeclarationShape). tree (with_shape w.shapes t) (w.body ++ entry_bytes (with_shape w.shapes t) t attrs)) same
      ∙ ap (λ (o : Option ℕ). tree (with_shape w.shapes s) (w.body ++ (code_bytes o ++ values_bytes attrs))) code
      ∙ ap (λ (v : List ℕ). tree (with_shape w.shapes s) (w.body ++ (code_bytes (code_in 1 table s) ++ v))) (values_of e.attrs)

  -- ---- entries

  abbrev Writes : Entries K → Type 0
  Writes f = (w : Tree) (table : List DeclarationShape) → Grown (shapes_in w.shapes f) table → run (events n unit f) w ≡ tree (shapes_in w.shapes f) (w.body ++ spelled n unit table f)

  children_after : (children : Entries K) → Writes children → (w : Tree) (table : List DeclarationShape) → Grown (shapes_in w.shapes children) table
      → run (if_children children (events n unit children)) w ≡ tree (shapes_in w.shapes children) (w.body ++ if_any children (spelled n unit table children))
  unfolding run shapes_in
  children_after End writes w table grown = ap (tree w.shapes) (sym (append-nil w.body))
  children_after (Entry e children next) writes w table grown = writes w table grown

  entries_after : (f : Entries K) → Writes f
  unfolding run events shapes_in spelled
  entries_after End w table grown = refl
  entries_after (Entry e children next) w table grown =
      let s = declaration_shape e children in
      let one = with_shape w.shapes s in
      let two = shapes_in one children in
      let node = node_bytes n unit table e children in
      let inner = if_any children (spelled n unit table children) in
      let two_grown : Grown two table = Grown-then two (shapes_in two next) table (shapes_cover next two).1 grown in
      let one_grown : Grown one table = Grown-then one two table (shapes_cover children one).1 two_grown in
      let w1 = tree one (w.body ++ node) in
      let w2 = tree two (w.body ++ node ++ inner) in
      let bytes : w.body ++ node ++ inner ++ spelled n unit table next ≡ w.body ++ (node ++ (inner ++ spelled n unit table next)) =
      append_assoc (w.body ++ node) inner (spelled n unit table next) ∙ append_assoc w.body node (inner ++ spelled n unit table next) in
      ap (run (if_children children (events n unit children) ++ events n unit next)) (entry_after e children w table one_grown)
      ∙ run-append (if_children children (events n unit children)) (events n unit next) w1
      ∙ ap (run (events n unit next)) (children_after children (entries_after children) w1 table two_grown)
      ∙ entries_after next w2 table grown
      ∙ ap (tree (shapes_in two next)) bytes

  -- ---- a unit

  pub unit_after : (u : DwUnit K) → run (unit_events n unit u) (tree [] []) ≡ unit_tree n unit u
  unfolding run tree_bytes
  unit_after u =
      let table = table_of u in
      let s = declaration_shape u.root u.below in
      let one = with_shape [] s in
      let node = node_bytes n unit table u.root u.below in
      ap (run (if_children u.below (events n unit u.below))) (entry_after u.root u.below (tree [] []) table (shapes_cover u.below one).1)
      ∙ children_after u.below (entries_after u.below) (tree one node) table (Grown-same table)
