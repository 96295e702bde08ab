-- Trees of two files are equal along a relation of tops exactly if they are, names in place of places, along one of their numbers.
use Rattle.std.proofs.Common.{ℕ, List, [], ◌∷◌, map, refl, sym, subst, inl, inr}
use Rattle.std.specs.Prelude.{reverse}
use Rattle.std.proofs.lemmas.List.{reverse-reverse}
use Rattle.dwz_def_reading.specs.Documents.{Attr, Entries, Node, attr_map, entries_map, node_map}
use Rattle.dwz_def_reading.specs.Lists.{In}
use Rattle.dwz_def_reading.specs.Trees.{End, Entry}
use Rattle.dwz_def_cross.specs.Tops.{CrossTop, StandsAlong}
use Rattle.dwz_def_cross.specs.CrossLook.{CrossAttrs, CrossEntries, CrossEqual, CrossNode, CrossRefs, CrossTarget, InTops, IsPartialSpace, IsRootOf, IsSpaceOf, PartialRoots, PartialSpaces, Roots, Spaces}
use Rattle.dwz_def_check.specs.CrossNames.{AreSides, AtPath, CrossName, IsNameOf, IsNthTop, PartRoot, PartSpace, Side, WholeRoot, WholeSpace}
use Rattle.dwz_def_check.specs.CrossLabels.{cross_top_map}
use Rattle.dwz_def_check.proofs.KnownNames.{AttrsKnown, BelowKnown, TopKnown}
use Rattle.dwz_def_check.proofs.NamedTrees.{AttrsBy, EntriesBy, NamesBy, NodeBy, SameName, TopBy}
use Rattle.dwz_def_check.proofs.Naming.{one_name}
use Rattle.dwz_def_check.proofs.TopLists.{numbered, numbered_top}

module _ {P Q : Type 0} (s : Side P) (t : Side Q) (sides : AreSides s t) (R : CrossTop P → CrossTop Q → Type 0) (S : ℕ → ℕ → Type 0) where
  -- ---- from tops to their numbers

  module _ (to : (m n : ℕ) (a : CrossTop P) (b : CrossTop Q) → IsNthTop s m a → IsNthTop t n b → R a b → S m n) where
    called_so : (p : P) (q : Q) (x y : CrossName) → IsNameOf s p (s.name p) → IsNameOf t q (t.name q) → IsNameOf s p x → IsNameOf t q y → SameName S x y → SameName S (s.name p) (t.name q)
    called_so p q x y h j u v same =
        subst (λ (w : CrossName × CrossName). SameName S w.0 w.1) (λ i. (one_name s sides.old p x (s.name p) u h i, one_name t sides.new q y (t.name q) v j i)) same

    target_to : (p : P) (q : Q) → IsNameOf s p (s.name p) → IsNameOf t q (t.name q) → CrossTarget R s.files t.files p q → SameName S (s.name p) (t.name q)
    target_to p q h j (InTops path a b is js x y r) =
        let m = numbered s a is in
        let n = numbered t b js in
        called_so p q (AtPath m.0 (reverse path)) (AtPath n.0 (reverse path)) h j
        (a, m.1, subst (λ (w : List ℕ). StandsAlong w a.node a.below p) (sym (reverse-reverse path)) x)
        (b, n.1, subst (λ (w : List ℕ). StandsAlong w b.node b.below q) (sym (reverse-reverse path)) y) (refl, to m.0 n.0 a b m.1 n.1 r)
    target_to p q h j (Roots n x y) = called_so p q (WholeRoot n) (WholeRoot n) h j x y refl
    target_to p q h j (Spaces n names x y) = called_so p q (WholeSpace n names) (WholeSpace n names) h j x y (refl, refl)
    target_to p q h j (PartialRoots x y) = called_so p q PartRoot PartRoot h j x y tt
    target_to p q h j (PartialSpaces names x y) = called_so p q (PartSpace names) (PartSpace names) h j x y refl

    refs_to : (ps : List P) (qs : List Q) → ((p : P) → In p ps → IsNameOf s p (s.name p)) → ((q : Q) → In q qs → IsNameOf t q (t.name q)) → CrossRefs R s.files t.files ps qs
        → NamesBy S (map s.name ps) (map t.name qs)
    refs_to [] [] h j k = tt
    refs_to (p ∷ ps) (q ∷ qs) h j k = (target_to p q (h p (inl refl)) (j q (inl refl)) k.0, refs_to ps qs (λ x i. h x (inr i)) (λ x i. j x (inr i)) k.1)
    refs_to _ _ h j k = absurd k

    attrs_to : (xs : List (Attr P)) (ys : List (Attr Q)) → AttrsKnown s xs → AttrsKnown t ys → CrossAttrs R s.files t.files xs ys → AttrsBy S (map (attr_map s.name) xs) (map (attr_map t.name) ys)
    attrs_to [] [] h j k = tt
    attrs_to (x ∷ xs) (y ∷ ys) h j k = (
      k.0,
      (k.1, refs_to x.value.refs y.value.refs (h _ (inl refl)) (j _ (inl refl)) k.2),
      attrs_to xs ys (λ a i. h a (inr i)) (λ a i. j a (inr i)) k.3,
    )
    attrs_to _ _ h j k = absurd k

    pub node_to : (d : Node P) (e : Node Q) → AttrsKnown s d.attrs → AttrsKnown t e.attrs → CrossNode R s.files t.files d e → NodeBy S (node_map s.name d) (node_map t.name e)
    node_to d e h j k = (k.tag, attrs_to d.attrs e.attrs h j k.attrs)

    entries_to : (f : Entries P) (g : Entries Q) → BelowKnown s f → BelowKnown t g → CrossEntries R s.files t.files f g → EntriesBy S (entries_map s.name f) (entries_map t.name g)
    unfolding entries_map
    entries_to End End h j k = tt
    entries_to (Entry d f f') (Entry e g g') h j k = (node_to d e h.0 j.0 k.0, entries_to f g h.1 j.1 k.1, entries_to f' g' h.2 j.2 k.2)
    entries_to _ _ h j k = absurd k

    pub top_to : (a : CrossTop P) (b : CrossTop Q) → TopKnown s a → TopKnown t b → CrossEqual R s.files t.files a b → TopBy S (cross_top_map s.name a) (cross_top_map t.name b)
    top_to a b h j k = (k.names, node_to a.node b.node h.node j.node k.node, entries_to a.below b.below h.below j.below k.below)

  -- ---- and back

  module _ (from : (m n : ℕ) (a : CrossTop P) (b : CrossTop Q) → IsNthTop s m a → IsNthTop t n b → S m n → R a b) where
    target_by : (p : P) (q : Q) (x y : CrossName) → IsNameOf s p x → IsNameOf t q y → SameName S x y → CrossTarget R s.files t.files p q
    target_by p q (AtPath m path) (AtPath n other) (a, is, x) (b, js, y) h =
        InTops (reverse path) a b (numbered_top s m a is) (numbered_top t n b js) x (subst (λ (w : List ℕ). StandsAlong (reverse w) b.node b.below q) (sym h.0) y) (from m n a b is js h.1)
    target_by p q (WholeRoot m) (WholeRoot n) x y h = Roots m x (subst (λ (k : ℕ). IsRootOf t.files k q) (sym h) y)
    target_by p q (WholeSpace m names) (WholeSpace n others) x y h =
        Spaces m names x (subst (λ (w : ℕ × List (List ℕ)). IsSpaceOf t.files w.0 w.1 q) (λ i. (sym h.0 i, sym h.1 i)) y)
    target_by p q PartRoot PartRoot x y h = PartialRoots x y
    target_by p q (PartSpace names) (PartSpace others) x y h = PartialSpaces names x (subst (λ (w : List (List ℕ)). IsPartialSpace t.files w q) (sym h) y)
    target_by p q _ _ x y h = absurd h

    refs_by : (ps : List P) (qs : List Q) → ((p : P) → In p ps → IsNameOf s p (s.name p)) → ((q : Q) → In q qs → IsNameOf t q (t.name q)) → NamesBy S (map s.name ps) (map t.name qs)
        → CrossRefs R s.files t.files ps qs
    refs_by [] [] h j k = tt
    refs_by (p ∷ ps) (q ∷ qs) h j k = (target_by p q (s.name p) (t.name q) (h p (inl refl)) (j q (inl refl)) k.0, refs_by ps qs (λ x i. h x (inr i)) (λ x i. j x (inr i)) k.1)
    refs_by _ _ h j k = absurd k

    attrs_by : (xs : List (Attr P)) (ys : List (Attr Q)) → AttrsKnown s xs → AttrsKnown t ys → AttrsBy S (map (attr_map s.name) xs) (map (attr_map t.name) ys) → CrossAttrs R s.files t.files xs ys
    attrs_by [] [] h j k = tt
    attrs_by (x ∷ xs) (y ∷ ys) h j k =
        (k.0, k.1.0, refs_by x.value.refs y.value.refs (h _ (inl refl)) (j _ (inl refl)) k.1.1, attrs_by xs ys (λ a i. h a (inr i)) (λ a i. j a (inr i)) k.2)
    attrs_by _ _ h j k = absurd k

    pub node_from : (d : Node P) (e : Node Q) → AttrsKnown s d.attrs → AttrsKnown t e.attrs → NodeBy S (node_map s.name d) (node_map t.name e) → CrossNode R s.files t.files d e
    node_from d e h j k = record { tag = k.0; attrs = attrs_by d.attrs e.attrs h j k.1 }

    entries_by : (f : Entries P) (g : Entries Q) → BelowKnown s f → BelowKnown t g → EntriesBy S (entries_map s.name f) (entries_map t.name g) → CrossEntries R s.files t.files f g
    unfolding entries_map
    entries_by End End h j k = tt
    entries_by (Entry d f f') (Entry e g g') h j k = (node_from d e h.0 j.0 k.0, entries_by f g h.1 j.1 k.1, entries_by f' g' h.2 j.2 k.2)
    entries_by _ _ h j k = absurd k

    pub top_from : (a : CrossTop P) (b : CrossTop Q) → TopKnown s a → TopKnown t b → TopBy S (cross_top_map s.name a) (cross_top_map t.name b) → CrossEqual R s.files t.files a b
    top_from a b h j k = record { names = k.0; node = node_from a.node b.node h.node j.node k.1; below = entries_by a.below b.below h.below j.below k.2 }
