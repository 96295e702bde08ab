-- Rows whose places are replaced, and trees whose places stay.
use Rattle.std.proofs.Common.{◌≡◌, ℕ, suc, List, [], ◌∷◌, map, refl, sym, ap, ◌∙◌, inl, inr}
use Rattle.dwz_def_reading.specs.Documents.{Attr, Entries, Node, attr_map, entries_map, node_map}
use Rattle.dwz_def_reading.specs.Lists.{Each}
use Rattle.dwz_def_reading.specs.Trees.{End, Entry}
use Rattle.dwz_def_tops.proofs.SpaceLemmas.{text_map}
use Rattle.dwz_def_tops.specs.Spots.{ASpace, ATop, Labelled, LabelledTop, Nothing, Row, EntryName, Top, Within}
use Rattle.dwz_def_tops.proofs.Targets.{RefTo, RefsOf, RefsOfAttr, RefsOfNode, RefsOfTop}
use Rattle.dwz_def_images.specs.IsPlan.{Has, Item, OfSpace, OfTop}
use Rattle.dwz_def_images.specs.Held.{Kinded}
use Rattle.dwz_def_taken.specs.Over.{row_map, top_map}

abbrev pub item_map : (EntryName → EntryName) → Item → Item
item_map g (OfTop t) = OfTop (top_map g t)
item_map g (OfSpace e) = OfSpace (node_map g e)

module _ (g : EntryName → EntryName) where
  pub kinded_map : (row : Row) → Kinded row → Kinded (row_map g row)
  unfolding row_map
  kinded_map Nothing k = tt
  kinded_map (ATop t next) k = (text_map g t.node ∙ k.0, kinded_map next k.1)
  kinded_map (ASpace e inner next) k = ((k.0.0, text_map g e ∙ k.0.1), kinded_map inner k.1, kinded_map next k.2)

  pub has_map : (row : Row) (names : List (List ℕ)) (x : Item) → Has names x row → Has names (item_map g x) (row_map g row)
  unfolding row_map
  has_map Nothing names x h = absurd h
  has_map (ATop t next) names x (inl y) = inl (y.0, ap (item_map g) y.1)
  has_map (ATop t next) names x (inr y) = inr (has_map next names x y)
  has_map (ASpace e inner next) names x (inl y) = inl (y.0, ap (item_map g) y.1)
  has_map (ASpace e inner next) names x (inr (inl i)) = inr (inl (i.0, i.1, text_map g e ∙ i.2, i.3, has_map inner i.1 x i.4))
  has_map (ASpace e inner next) names x (inr (inr y)) = inr (inr (has_map next names x y))

  -- what stands in the row with its places replaced
  pub record FromMap (names : List (List ℕ)) (x : Item) (row : Row) : Type 0 where
    pub item : Item
    pub has : Has names item row
    pub is : item_map g item ≡ x

  pub map_has : (row : Row) (names : List (List ℕ)) (x : Item) → Has names x (row_map g row) → FromMap names x row
  unfolding row_map
  map_has Nothing names x h = absurd h
  map_has (ATop t next) names x (inl y) = record { item = OfTop t; has = inl (y.0, refl); is = y.1 }
  map_has (ATop t next) names x (inr y) = let o = map_has next names x y in record { item = o.item; has = inr o.has; is = o.is }
  map_has (ASpace e inner next) names x (inl y) = record { item = OfSpace e; has = inl (y.0, refl); is = y.1 }
  map_has (ASpace e inner next) names x (inr (inl i)) =
      let o = map_has inner i.1 x i.4 in record { item = o.item; has = inr (inl (i.0, i.1, sym (text_map g e) ∙ i.2, i.3, o.has)); is = o.is }
  map_has (ASpace e inner next) names x (inr (inr y)) = let o = map_has next names x y in record { item = o.item; has = inr (inr o.has); is = o.is }

  -- ---- where entries of tops keep their names, so does a top whose references are all into tops

  module _ (fixes : (n : ℕ) (path : List ℕ) → g (Within n path) ≡ Within n path) where
    spot_fixed : (P : ℕ → Type 0) (s : EntryName) → RefTo P s → g s ≡ s
    spot_fixed P (Within n path) h = fixes n path
    spot_fixed P _ h = absurd h

    refs_fixed : (P : ℕ → Type 0) (refs : List EntryName) → Each (RefTo P) refs → map g refs ≡ refs
    refs_fixed P [] h = refl
    refs_fixed P (s ∷ refs) h = let x = spot_fixed P s h.0 in let y = refs_fixed P refs h.1 in cc

    attrs_fixed : (P : ℕ → Type 0) (attrs : List (Attr EntryName)) → Each (RefsOfAttr P) attrs → map (attr_map g) attrs ≡ attrs
    attrs_fixed P [] h = refl
    attrs_fixed P (a ∷ attrs) h =
        let first : attr_map g a ≡ a =
        ap (λ (w : List EntryName). record { name = a.name; form = a.form; raw = a.raw; value = record { plain = a.value.plain; refs = w; address = a.value.address } }) (refs_fixed P a.value.refs h.0) in
        let rest = attrs_fixed P attrs h.1 in
        cc

    node_fixed : (P : ℕ → Type 0) (e : Node EntryName) (n : ℕ) (path : List ℕ) → e.at ≡ Within n path → RefsOfNode P e → node_map g e ≡ e
    node_fixed P e n path at h =
        ap (λ (w : EntryName). record { at = w; tag = e.tag; attrs = map (attr_map g) e.attrs }) (ap g at ∙ fixes n path ∙ sym at)
        ∙ ap (λ (w : List (Attr EntryName)). record { at = e.at; tag = e.tag; attrs = w }) (attrs_fixed P e.attrs h)

    entries_fixed : (P : ℕ → Type 0) (n : ℕ) (path : List ℕ) (i : ℕ) (f : Entries EntryName) → Labelled (Within n) path i f → RefsOf P f → entries_map g f ≡ f
    unfolding entries_map
    entries_fixed P n path i End l h = refl
    entries_fixed P n path i (Entry e f k) l h =
        let x = node_fixed P e n (i ∷ path) l.0 h.0 in
        let y = entries_fixed P n (i ∷ path) 0 f l.1 h.1 in
        let z = entries_fixed P n path (suc i) k l.2 h.2 in
        cc

    pub top_fixed : (P : ℕ → Type 0) (t : Top) → LabelledTop t → RefsOfTop P t → top_map g t ≡ t
    top_fixed P t l h =
        ap (λ (w : Node EntryName). record { file = t.file; unit = t.unit; language = t.language; spaces = t.spaces; number = t.number; node = w; below = entries_map g t.below })
        (node_fixed P t.node t.number [] l.0 h.0)
        ∙ ap (λ (w : Entries EntryName). record { file = t.file; unit = t.unit; language = t.language; spaces = t.spaces; number = t.number; node = t.node; below = w })
        (entries_fixed P t.number [] 0 t.below l.1 h.1)
