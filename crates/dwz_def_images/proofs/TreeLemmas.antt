-- The entries of rows whose places are replaced.
use Rattle.std.proofs.Common.{◌≡◌, ℕ, ◌⊎◌, List, [], ◌∷◌, ◌++◌, map, refl, sym, ap, subst, ◌∙◌, inl, inr}
use Rattle.dwz_def_reading.specs.Documents.{Entries, Node, node_map}
use Rattle.dwz_def_reading.specs.Lists.{In}
use Rattle.dwz_def_reading.specs.Trees.{End}
use Rattle.dwz_def_reading.proofs.ListFacts.{in_cases, in_left, in_right}
use Rattle.dwz_def_tops.specs.Seen.{IsChild, Seen, named_value, see, seen, seen_map}
use Rattle.dwz_def_tops.specs.Spaces.{IsUnder, space_text}
use Rattle.dwz_def_tops.proofs.SeenLemmas.{see_map, seen_entries}
use Rattle.dwz_def_tops.proofs.SpaceLemmas.{some_none, text_map}
use Rattle.dwz_def_tops.specs.Spots.{ASpace, ATop, EntryName, Nothing, Row, Top}
use Rattle.dwz_def_plan.specs.IsPlan.{Has, Item, OfSpace, OfTop, row}
use Rattle.dwz_def_images.specs.Held.{Kinded}
use Rattle.dwz_def_images.specs.Units.{tree}
use Rattle.dwz_def_plan.proofs.ImageLemmas.{seen_top}
use Rattle.dwz_def_images.proofs.OldRows.{node_of, raw_top}

pub seen_top_map : (f : EntryName → EntryName) (t : Top) → seen_top f t ≡ map (seen_map f) (raw_top t)
seen_top_map f t = rw (see_map f t.node t.below, seen_entries f t.below) refl

-- an item with its places replaced
pub record FromItem (f : EntryName → EntryName) (items : Row) (names : List (List ℕ)) (e : Node EntryName) : Type 0 where
  pub item : Item
  pub has : Has names item items
  pub is : node_map f (node_of item) ≡ e

module _ (f : EntryName → EntryName) where
  pub tree_under : (items : Row) (last : Entries EntryName) → Kinded items → (names : List (List ℕ)) (e : Node EntryName) → IsUnder names e (tree f items last) → FromItem f items names e
      ⊎ IsUnder names e last
  unfolding tree
  tree_under Nothing last k names e u = inr u
  tree_under (ATop t next) last k names e (inl y) = inl (record { item = OfTop t; has = inl (y.0, refl); is = y.1 })
  tree_under (ATop t next) last k names e (inr (inl i)) = some_none (space_text (node_map f t.node)) i.0 i.2 (text_map f t.node ∙ k.0)
  tree_under (ATop t next) last k names e (inr (inr y)) = elim (tree_under next last k.1 names e y) [ inl o ↦ inl (record { item = o.item; has = inr o.has; is = o.is }) | inr r ↦ inr r ]
  tree_under (ASpace d inner next) last k names e (inl y) = inl (record { item = OfSpace d; has = inl (y.0, refl); is = y.1 })
  tree_under (ASpace d inner next) last k names e (inr (inl i)) = elim (tree_under inner End k.1 i.1 e i.4) [
    | inl o ↦ inl (record { item = o.item; has = inr (inl (i.0, i.1, sym (text_map f d) ∙ i.2, i.3, o.has)); is = o.is })
    | inr r ↦ absurd r
  ]
  tree_under (ASpace d inner next) last k names e (inr (inr y)) = elim (tree_under next last k.2 names e y) [ inl o ↦ inl (record { item = o.item; has = inr (inr o.has); is = o.is }) | inr r ↦ inr r ]

  pub under_tree : (items : Row) (last : Entries EntryName) (names : List (List ℕ)) (x : Item) → Has names x items → IsUnder names (node_map f (node_of x)) (tree f items last)
  unfolding tree
  under_tree Nothing last names x h = absurd h
  under_tree (ATop t next) last names x (inl y) = inl (y.0, ap (λ (w : Item). node_map f (node_of w)) y.1)
  under_tree (ATop t next) last names x (inr y) = inr (inr (under_tree next last names x y))
  under_tree (ASpace d inner next) last names x (inl y) = inl (y.0, ap (λ (w : Item). node_map f (node_of w)) y.1)
  under_tree (ASpace d inner next) last names x (inr (inl i)) = inr (inl (i.0, i.1, text_map f d ∙ i.2, i.3, under_tree inner End i.1 x i.4))
  under_tree (ASpace d inner next) last names x (inr (inr y)) = inr (inr (under_tree next last names x y))

  pub child_last : (items : Row) (last : Entries EntryName) (e : Node EntryName) → IsChild e last → IsChild e (tree f items last)
  unfolding tree
  child_last Nothing last e h = h
  child_last (ATop t next) last e h = inr (child_last next last e h)
  child_last (ASpace d inner next) last e h = inr (child_last next last e h)

  -- ---- what is seen

  pub tree_seen : (items : Row) (last : Entries EntryName) (names : List (List ℕ)) (t : Top) → Has names (OfTop t) items → (e : Seen EntryName) → In e (seen_top f t) → In e (seen (tree f items last))
  unfolding tree seen
  tree_seen Nothing last names t h e is = absurd h
  tree_seen (ATop u next) last names t (inl y) e is = in_left e (seen_top f u) (seen (tree f next last)) (subst (λ (w : Item). In e (seen_top f (top_in t w))) (sym y.1) is) where
    top_in : Top → Item → Top
    top_in t (OfTop u) = u
    top_in t (OfSpace d) = t
  tree_seen (ATop u next) last names t (inr y) e is = in_right e (seen_top f u) (seen (tree f next last)) (tree_seen next last names t y e is)
  tree_seen (ASpace d inner next) last names t (inl y) e is = absurd (let z = y.1 in cc)
  tree_seen (ASpace d inner next) last names t (inr (inl i)) e is = inr (in_left e (seen (tree f inner End)) (seen (tree f next last)) (tree_seen inner End i.1 t i.4 e is))
  tree_seen (ASpace d inner next) last names t (inr (inr y)) e is = inr (in_right e (seen (tree f inner End)) (seen (tree f next last)) (tree_seen next last names t y e is))

  -- a space is seen at its image
  pub space_seen : (items : Row) (last : Entries EntryName) (names : List (List ℕ)) (d : Node EntryName) → Has names (OfSpace d) items → (e : Seen EntryName) × In e (seen (tree f items last))
      × (e.at ≡ f d.at)
  unfolding tree seen
  space_seen Nothing last names d h = absurd h
  space_seen (ATop t next) last names d (inl y) = absurd (let z = y.1 in cc)
  space_seen (ATop t next) last names d (inr y) = let o = space_seen next last names d y in (o.0, in_right o.0 (seen_top f t) (seen (tree f next last)) o.1, o.2)
  space_seen (ASpace c inner next) last names d (inl y) = (see (node_map f c) (tree f inner End), inl refl, (let same : c ≡ d = (let z = y.1 in cc) in ap (λ (w : Node EntryName). f w.at) same))
  space_seen (ASpace c inner next) last names d (inr (inl i)) = let o = space_seen inner End i.1 d i.4 in (o.0, inr (in_left o.0 (seen (tree f inner End)) (seen (tree f next last)) o.1), o.2)
  space_seen (ASpace c inner next) last names d (inr (inr y)) = let o = space_seen next last names d y in (o.0, inr (in_right o.0 (seen (tree f inner End)) (seen (tree f next last)) o.1), o.2)

  -- what is seen is seen of a top, or is a space, or stands behind
  pub data TreeOrigin (items : Row) (last : Entries EntryName) (e : Seen EntryName) : Type 0 where
    OfATop : (names : List (List ℕ)) (t : Top) → Has names (OfTop t) items → In e (seen_top f t) → TreeOrigin items last e
    OfASpace : (names : List (List ℕ)) (d : Node EntryName) → Has names (OfSpace d) items → e.attrs ≡ map named_value (node_map f d).attrs → TreeOrigin items last e
    Behind : In e (seen last) → TreeOrigin items last e

  pub tree_origin : (items : Row) (last : Entries EntryName) → Kinded items → (e : Seen EntryName) → In e (seen (tree f items last)) → TreeOrigin items last e
  unfolding tree seen
  tree_origin Nothing last k e h = Behind h
  tree_origin (ATop t next) last k e h = pick (tree_origin next last k.1 e) (in_cases e (seen_top f t) (seen (tree f next last)) h) where
    later : TreeOrigin next last e → TreeOrigin (ATop t next) last e
    later (OfATop names u a b) = OfATop names u (inr a) b
    later (OfASpace names d a b) = OfASpace names d (inr a) b
    later (Behind a) = Behind a

    pick : (In e (seen (tree f next last)) → TreeOrigin next last e) → In e (seen_top f t) ⊎ In e (seen (tree f next last)) → TreeOrigin (ATop t next) last e
    pick more (inl a) = OfATop [] t (inl (refl, refl)) a
    pick more (inr b) = later (more b)
  tree_origin (ASpace d inner next) last k e h = pick (tree_origin inner End k.1 e) (tree_origin next last k.2 e) h where
    inside : TreeOrigin inner End e → TreeOrigin (ASpace d inner next) last e
    inside (OfATop names u a b) = OfATop (k.0.0 ∷ names) u (inr (inl (k.0.0, names, k.0.1, refl, a))) b
    inside (OfASpace names c a b) = OfASpace (k.0.0 ∷ names) c (inr (inl (k.0.0, names, k.0.1, refl, a))) b
    inside (Behind a) = absurd a

    later : TreeOrigin next last e → TreeOrigin (ASpace d inner next) last e
    later (OfATop names u a b) = OfATop names u (inr (inr a)) b
    later (OfASpace names c a b) = OfASpace names c (inr (inr a)) b
    later (Behind a) = Behind a

    pick : (In e (seen (tree f inner End)) → TreeOrigin inner End e) → (In e (seen (tree f next last)) → TreeOrigin next last e)
        → In e (see (node_map f d) (tree f inner End) ∷ (seen (tree f inner End) ++ seen (tree f next last))) → TreeOrigin (ASpace d inner next) last e
    pick a b (inl x) = OfASpace [] d (inl (refl, refl)) (ap (λ (w : Seen EntryName). w.attrs) (sym x))
    pick a b (inr r) = elim (in_cases e (seen (tree f inner End)) (seen (tree f next last)) r) [ inl x ↦ inside (a x) | inr y ↦ later (b y) ]

-- ---- imports are no spaces

pub row_child : (e : Node EntryName) (nodes : List (Node EntryName)) → IsChild e (row nodes) → In e nodes
row_child e [] h = h
row_child e (d ∷ nodes) (inl x) = inl x
row_child e (d ∷ nodes) (inr r) = inr (row_child e nodes r)

pub child_row : (e : Node EntryName) (nodes : List (Node EntryName)) → In e nodes → IsChild e (row nodes)
child_row e [] h = h
child_row e (d ∷ nodes) (inl x) = inl x
child_row e (d ∷ nodes) (inr r) = inr (child_row e nodes r)

pub row_under : (names : List (List ℕ)) (e : Node EntryName) (nodes : List (Node EntryName)) → IsUnder names e (row nodes) → In e nodes × (names ≡ [])
row_under names e [] h = absurd h
row_under names e (d ∷ nodes) (inl y) = (inl y.1, y.0)
row_under names e (d ∷ nodes) (inr (inl i)) = absurd i.4
row_under names e (d ∷ nodes) (inr (inr y)) = let o = row_under names e nodes y in (inr o.0, o.1)
