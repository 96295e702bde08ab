-- Trees are seen equal, once each place is replaced by its image, where the targets of each two references have one stand-in.
use Rattle.std.proofs.Common.{◌≡◌, ℕ, suc, Bool, List, [], ◌∷◌, map, refl, sym, ap, ◌∙◌}
use Rattle.dwz_def_reading.specs.Documents.{Attr, Entries, Plain, attr_map, entries_map, node_map, value_map}
use Rattle.dwz_def_reading.specs.Trees.{End, Entry}
use Rattle.dwz_def_reading.specs.Lists.{Each}
use Rattle.dwz_def_tops.specs.Alike.{SameAttrs, SameEntries, SameRefs, SameTarget, SameTop}
use Rattle.dwz_def_plan.specs.Plan.{image_by}
use Rattle.dwz_def_tops.specs.Seen.{Named, Seen, heads, named_value, see, seen}
use Rattle.dwz_def_tops.specs.Spots.{EntryName, Labelled, LabelledTop, Top, Within}
use Rattle.dwz_def_tops.proofs.Targets.{NoAddress, NoAddressIn, NoAddressOf, RefTo, RefsOf, RefsOfAttr, RefsOfTop}

-- what is seen of a top once its places are replaced
abbrev pub seen_top : (EntryName → EntryName) → Top → List (Seen EntryName)
seen_top f t = see (node_map f t.node) (entries_map f t.below) ∷ seen (entries_map f t.below)

abbrev entry_of : EntryName → ℕ → List (Named EntryName) → List EntryName → Seen EntryName
entry_of a s x c = record { at = a; tag = s; attrs = x; children = c }

entry_by : (a b : EntryName) (s t : ℕ) (x y : List (Named EntryName)) (c d : List EntryName) → a ≡ b → s ≡ t → x ≡ y → c ≡ d → entry_of a s x c ≡ entry_of b t y d
entry_by a b s t x y c d p q r u = cc

module _ (stand : ℕ → ℕ) where
  abbrev OneStand : ℕ → ℕ → Type 0
  OneStand m n = stand m ≡ stand n

  target_same : (Q : ℕ → Type 0) (a b : EntryName) → RefTo Q b → SameTarget OneStand a b → image_by stand a ≡ image_by stand b
  target_same Q (Within s p) (Within t q) z h = ap (λ (w : List ℕ). Within (stand s) w) h.0 ∙ ap (λ (n : ℕ). Within n q) h.1
  target_same Q _ (Within t q) z h = absurd h
  target_same Q _ _ z h = absurd z

  refs_same : (Q : ℕ → Type 0) (xs ys : List EntryName) → Each (RefTo Q) ys → SameRefs OneStand xs ys → map (image_by stand) xs ≡ map (image_by stand) ys
  refs_same Q [] [] z h = refl
  refs_same Q (a ∷ xs) (b ∷ ys) z h = (let x = target_same Q a b z.0 h.0 in let y = refs_same Q xs ys z.1 h.1 in cc)
  refs_same Q _ _ z h = absurd h

  abbrev moved : Attr EntryName → Named EntryName
  moved a = named_value (attr_map (image_by stand) a)

  attr_same : (Q : ℕ → Type 0) (a b : Attr EntryName) → NoAddress a → NoAddress b → RefsOfAttr Q b → a.name ≡ b.name → a.value.plain ≡ b.value.plain → SameRefs OneStand a.value.refs b.value.refs
      → moved a ≡ moved b
  attr_same Q a b none no_other z n p r =
      ap (λ (w : ℕ). record { name = w; value = value_map (image_by stand) a.value }) n
      ∙ ap (λ (w : Plain). record { name = b.name; value = record { plain = w; refs = map (image_by stand) a.value.refs; address = a.value.address } }) p
      ∙ ap (λ (w : List EntryName). record { name = b.name; value = record { plain = b.value.plain; refs = w; address = a.value.address } }) (refs_same Q a.value.refs b.value.refs z r)
      ∙ ap (λ (w : Bool). record { name = b.name; value = record { plain = b.value.plain; refs = map (image_by stand) b.value.refs; address = w } }) (none ∙ sym no_other)

  attrs_same : (Q : ℕ → Type 0) (xs ys : List (Attr EntryName)) → Each NoAddress xs → Each NoAddress ys → Each (RefsOfAttr Q) ys → SameAttrs OneStand xs ys → map named_value (map (attr_map (image_by stand)) xs)
      ≡ map named_value (map (attr_map (image_by stand)) ys)
  attrs_same Q [] [] u v z h = refl
  attrs_same Q (a ∷ xs) (b ∷ ys) u v z h = (let x : moved a ≡ moved b = attr_same Q a b u.0 v.0 z.0 h.0 h.1.0 h.1.1 in let y = attrs_same Q xs ys u.1 v.1 z.1 h.2 in cc)
  attrs_same Q _ _ u v z h = absurd h

  at_same : (m n : ℕ) (a b : EntryName) (path : List ℕ) → stand m ≡ stand n → a ≡ Within m path → b ≡ Within n path → image_by stand a ≡ image_by stand b
  at_same m n a b path h x y = ap (image_by stand) x ∙ ap (λ (w : ℕ). Within w path) h ∙ sym (ap (image_by stand) y)

  heads_same : (m n : ℕ) (path : List ℕ) (i : ℕ) (f g : Entries EntryName) → stand m ≡ stand n → Labelled (Within m) path i f → Labelled (Within n) path i g → SameEntries OneStand f g
      → heads (entries_map (image_by stand) f) ≡ heads (entries_map (image_by stand) g)
  unfolding heads entries_map
  heads_same m n path i End End h x y s = refl
  heads_same m n path i (Entry d f g) (Entry e f' g') h x y s =
      let first : image_by stand d.at ≡ image_by stand e.at = at_same m n d.at e.at (i ∷ path) h x.0 y.0 in
      let others = heads_same m n path (suc i) g g' h x.2 y.2 s.2 in
      cc
  heads_same m n path i _ _ h x y s = absurd s

  seen_same : (Q : ℕ → Type 0) (m n : ℕ) (path : List ℕ) (i : ℕ) (f g : Entries EntryName) → stand m ≡ stand n → Labelled (Within m) path i f → Labelled (Within n) path i g
      → NoAddressIn f → NoAddressIn g → RefsOf Q g
      → SameEntries OneStand f g
      → seen (entries_map (image_by stand) f) ≡ seen (entries_map (image_by stand) g)
  unfolding seen entries_map
  seen_same Q m n path i End End h x y u v z s = refl
  seen_same Q m n path i (Entry d f g) (Entry e f' g') h x y u v z s =
      let a = at_same m n d.at e.at (i ∷ path) h x.0 y.0 in
      let attrs = attrs_same Q d.attrs e.attrs u.0 v.0 z.0 s.0.1 in
      let inner = heads_same m n (i ∷ path) 0 f f' h x.1 y.1 s.1 in
      let first : see (node_map (image_by stand) d) (entries_map (image_by stand) f) ≡ see (node_map (image_by stand) e) (entries_map (image_by stand) f') =
      entry_by _ _ _ _ _ _ _ _ a s.0.0 attrs inner in
      let below = seen_same Q m n (i ∷ path) 0 f f' h x.1 y.1 u.1 v.1 z.1 s.1 in
      let behind = seen_same Q m n path (suc i) g g' h x.2 y.2 u.2 v.2 z.2 s.2 in
      cc
  seen_same Q m n path i _ _ h x y u v z s = absurd s

  pub top_same : (Q : ℕ → Type 0) (a b : Top) → stand a.number ≡ stand b.number → LabelledTop a → LabelledTop b → NoAddressOf a → NoAddressOf b
      → RefsOfTop Q b → SameTop OneStand a b
      → seen_top (image_by stand) a ≡ seen_top (image_by stand) b
  top_same Q a b h x y u v z s =
      let at = at_same a.number b.number a.node.at b.node.at [] h x.0 y.0 in
      let attrs = attrs_same Q a.node.attrs b.node.attrs u.0 v.0 z.0 s.2.1 in
      let inner = heads_same a.number b.number [] 0 a.below b.below h x.1 y.1 s.3 in
      let first : see (node_map (image_by stand) a.node) (entries_map (image_by stand) a.below) ≡ see (node_map (image_by stand) b.node) (entries_map (image_by stand) b.below) =
      entry_by _ _ _ _ _ _ _ _ at s.2.0 attrs inner in
      let below = seen_same Q a.number b.number [] 0 a.below b.below h x.1 y.1 u.1 v.1 z.1 s.3 in
      cc
