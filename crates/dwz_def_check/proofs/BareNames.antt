-- Trees are the same along a relation of the tops of targets exactly if they are, whatever the tops are, and the relation holds of the
-- targets in order.
use Rattle.std.proofs.Common.{◌≡◌, ℕ, List, [], ◌∷◌, ◌++◌, length}
use Rattle.std.specs.List.{AllZip, flat_map}
use Rattle.std.proofs.lemmas.List.Elements.{length_all_zip}
use Rattle.dwz_def_reading.specs.Documents.{Attr, Entries, Node}
use Rattle.dwz_def_reading.specs.Trees.{End, Entry}
use Rattle.dwz_label.proofs.Pairs.{zip_join, zip_split}
use Rattle.dwz_def_cross.specs.Tops.{CrossTop}
use Rattle.dwz_def_check.specs.CrossNames.{AtPath, CrossName, PartRoot, PartSpace, WholeRoot, WholeSpace}
use Rattle.dwz_def_check.specs.CrossLabels.{cross_entries_targets, cross_targets, lone_targets, names_into}
use Rattle.dwz_def_check.proofs.NamedTrees.{AnyNumbers, AttrsBy, EntriesBy, NamesBy, NodeBy, SameName, TopBy}

abbrev attrs_targets : List (Attr CrossName) → List ℕ
attrs_targets attrs = flat_map (λ a. names_into a.value.refs) attrs

-- ---- what follows of a relation

module _ (R S : ℕ → ℕ → Type 0) (more : (m n : ℕ) → R m n → S m n) where
  name_more : (x y : CrossName) → SameName R x y → SameName S x y
  name_more (AtPath m p) (AtPath n q) h = (h.0, more m n h.1)
  name_more (WholeRoot m) (WholeRoot n) h = h
  name_more (WholeSpace m xs) (WholeSpace n ys) h = h
  name_more PartRoot PartRoot h = tt
  name_more (PartSpace xs) (PartSpace ys) h = h
  name_more _ _ h = absurd h

  names_more : (xs ys : List CrossName) → NamesBy R xs ys → NamesBy S xs ys
  names_more [] [] h = tt
  names_more (x ∷ xs) (y ∷ ys) h = (name_more x y h.0, names_more xs ys h.1)
  names_more _ _ h = absurd h

  attrs_more : (xs ys : List (Attr CrossName)) → AttrsBy R xs ys → AttrsBy S xs ys
  attrs_more [] [] h = tt
  attrs_more (x ∷ xs) (y ∷ ys) h = (h.0, (h.1.0, names_more x.value.refs y.value.refs h.1.1), attrs_more xs ys h.2)
  attrs_more _ _ h = absurd h

  pub node_more : (d e : Node CrossName) → NodeBy R d e → NodeBy S d e
  node_more d e h = (h.0, attrs_more d.attrs e.attrs h.1)

  entries_more : (f g : Entries CrossName) → EntriesBy R f g → EntriesBy S f g
  entries_more End End h = tt
  entries_more (Entry a f g) (Entry b f' g') h = (node_more a b h.0, entries_more f f' h.1, entries_more g g' h.2)
  entries_more _ _ h = absurd h

  pub top_more : (a b : CrossTop CrossName) → TopBy R a b → TopBy S a b
  top_more a b h = (h.0, node_more a.node b.node h.1, entries_more a.below b.below h.2)

-- ---- of equal trees: the relation holds of the targets

module _ (R : ℕ → ℕ → Type 0) where
  names_zip : (xs ys : List CrossName) → NamesBy R xs ys → AllZip R (names_into xs) (names_into ys)
  names_zip [] [] h = tt
  names_zip (AtPath m p ∷ xs) (AtPath n q ∷ ys) h = (h.0.1, names_zip xs ys h.1)
  names_zip (WholeRoot m ∷ xs) (WholeRoot n ∷ ys) h = names_zip xs ys h.1
  names_zip (WholeSpace m p ∷ xs) (WholeSpace n q ∷ ys) h = names_zip xs ys h.1
  names_zip (PartRoot ∷ xs) (PartRoot ∷ ys) h = names_zip xs ys h.1
  names_zip (PartSpace p ∷ xs) (PartSpace q ∷ ys) h = names_zip xs ys h.1
  names_zip (_ ∷ xs) (_ ∷ ys) h = absurd h.0
  names_zip _ _ h = absurd h

  attrs_zip : (xs ys : List (Attr CrossName)) → AttrsBy R xs ys → AllZip R (attrs_targets xs) (attrs_targets ys)
  attrs_zip [] [] h = tt
  attrs_zip (x ∷ xs) (y ∷ ys) h = zip_join R (names_into x.value.refs) (names_into y.value.refs) (attrs_targets xs) (attrs_targets ys) (names_zip x.value.refs y.value.refs h.1.1) (attrs_zip xs ys h.2)
  attrs_zip _ _ h = absurd h

  pub node_zip : (d e : Node CrossName) → NodeBy R d e → AllZip R (lone_targets d) (lone_targets e)
  node_zip d e h = attrs_zip d.attrs e.attrs h.1

  entries_zip : (f g : Entries CrossName) → EntriesBy R f g → AllZip R (cross_entries_targets f) (cross_entries_targets g)
  unfolding cross_entries_targets
  entries_zip End End h = tt
  entries_zip (Entry a f g) (Entry b f' g') h =
      zip_join R (lone_targets a) (lone_targets b) (cross_entries_targets f ++ cross_entries_targets g) (cross_entries_targets f' ++ cross_entries_targets g') (node_zip a b h.0)
      (zip_join R (cross_entries_targets f) (cross_entries_targets f') (cross_entries_targets g) (cross_entries_targets g') (entries_zip f f' h.1) (entries_zip g g' h.2))
  entries_zip _ _ h = absurd h

  pub top_zip : (a b : CrossTop CrossName) → TopBy R a b → AllZip R (cross_targets a) (cross_targets b)
  top_zip a b h =
      zip_join R (lone_targets a.node) (lone_targets b.node) (cross_entries_targets a.below) (cross_entries_targets b.below) (node_zip a.node b.node h.1) (entries_zip a.below b.below h.2)

-- so those of trees that are the same, whatever the tops are, are equally many
names_many : (xs ys : List CrossName) → NamesBy AnyNumbers xs ys → length (names_into xs) ≡ length (names_into ys)
names_many xs ys h = length_all_zip AnyNumbers (names_into xs) (names_into ys) (names_zip AnyNumbers xs ys h)

node_many : (d e : Node CrossName) → NodeBy AnyNumbers d e → length (lone_targets d) ≡ length (lone_targets e)
node_many d e h = length_all_zip AnyNumbers (lone_targets d) (lone_targets e) (node_zip AnyNumbers d e h)

entries_many : (f g : Entries CrossName) → EntriesBy AnyNumbers f g → length (cross_entries_targets f) ≡ length (cross_entries_targets g)
entries_many f g h = length_all_zip AnyNumbers (cross_entries_targets f) (cross_entries_targets g) (entries_zip AnyNumbers f g h)

-- ---- of such trees, with targets of which the relation holds

module _ (R : ℕ → ℕ → Type 0) where
  names_whole : (xs ys : List CrossName) → NamesBy AnyNumbers xs ys → AllZip R (names_into xs) (names_into ys) → NamesBy R xs ys
  names_whole [] [] h j = tt
  names_whole (AtPath m p ∷ xs) (AtPath n q ∷ ys) h j = ((h.0.0, j.0), names_whole xs ys h.1 j.1)
  names_whole (WholeRoot m ∷ xs) (WholeRoot n ∷ ys) h j = (h.0, names_whole xs ys h.1 j)
  names_whole (WholeSpace m p ∷ xs) (WholeSpace n q ∷ ys) h j = (h.0, names_whole xs ys h.1 j)
  names_whole (PartRoot ∷ xs) (PartRoot ∷ ys) h j = (h.0, names_whole xs ys h.1 j)
  names_whole (PartSpace p ∷ xs) (PartSpace q ∷ ys) h j = (h.0, names_whole xs ys h.1 j)
  names_whole (_ ∷ xs) (_ ∷ ys) h j = absurd h.0
  names_whole _ _ h j = absurd h

  attrs_whole : (xs ys : List (Attr CrossName)) → AttrsBy AnyNumbers xs ys → AllZip R (attrs_targets xs) (attrs_targets ys) → AttrsBy R xs ys
  attrs_whole [] [] h j = tt
  attrs_whole (x ∷ xs) (y ∷ ys) h j =
      let s = zip_split R (names_into x.value.refs) (names_into y.value.refs) (attrs_targets xs) (attrs_targets ys) (names_many x.value.refs y.value.refs h.1.1) j in
      (h.0, (h.1.0, names_whole x.value.refs y.value.refs h.1.1 s.0), attrs_whole xs ys h.2 s.1)
  attrs_whole _ _ h j = absurd h

  pub node_whole : (d e : Node CrossName) → NodeBy AnyNumbers d e → AllZip R (lone_targets d) (lone_targets e) → NodeBy R d e
  node_whole d e h j = (h.0, attrs_whole d.attrs e.attrs h.1 j)

  entries_whole : (f g : Entries CrossName) → EntriesBy AnyNumbers f g → AllZip R (cross_entries_targets f) (cross_entries_targets g) → EntriesBy R f g
  unfolding cross_entries_targets
  entries_whole End End h j = tt
  entries_whole (Entry a f g) (Entry b f' g') h j =
      let x = zip_split R (lone_targets a) (lone_targets b) (cross_entries_targets f ++ cross_entries_targets g) (cross_entries_targets f' ++ cross_entries_targets g') (node_many a b h.0) j in
      let y = zip_split R (cross_entries_targets f) (cross_entries_targets f') (cross_entries_targets g) (cross_entries_targets g') (entries_many f f' h.1) x.1 in
      (node_whole a b h.0 x.0, entries_whole f f' h.1 y.0, entries_whole g g' h.2 y.1)
  entries_whole _ _ h j = absurd h

  pub top_whole : (a b : CrossTop CrossName) → TopBy AnyNumbers a b → AllZip R (cross_targets a) (cross_targets b) → TopBy R a b
  top_whole a b h j =
      let x = zip_split R (lone_targets a.node) (lone_targets b.node) (cross_entries_targets a.below) (cross_entries_targets b.below) (node_many a.node b.node h.1) j in
      (h.0, node_whole a.node b.node h.1 x.0, entries_whole a.below b.below h.2 x.1)
