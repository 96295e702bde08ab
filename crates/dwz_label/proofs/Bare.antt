-- Trees are the same along a relation of the tops of targets exactly if the bare trees are and the relation holds of the targets in order.
use Rattle.std.proofs.Common.{◌≡◌, ℕ, List, [], ◌∷◌, ◌++◌, length}
use Rattle.std.specs.List.{AllZip}
use Rattle.std.proofs.lemmas.List.Elements.{length_all_zip}
use Rattle.dwz_def_reading.specs.Documents.{Attr, Entries}
use Rattle.dwz_def_reading.specs.Trees.{End, Entry}
use Rattle.dwz_def_reading.specs.Lists.{Each}
use Rattle.dwz_def_tops.proofs.Members.{each_append}
use Rattle.dwz_def_tops.specs.Alike.{SameAttrs, SameEntries, SameRefs, SameTop}
use Rattle.dwz_def_tops.specs.Spots.{EntryName, Import, InChain, InType, PartialOf, PartialRoot, RootOf, SpaceAt, Top, UnitOf, Within}
use Rattle.dwz_def_tops.specs.Targets.{attrs_into, entries_into, refs_into, targets_of}
use Rattle.dwz_def_tops.proofs.AlikeBound.{top_in_from}
use Rattle.dwz_def_tops.proofs.AlikeTops.{AttrsIn, EntriesIn, RefsIn, TargetIn, TopIn, top_gives, top_joins, top_self, top_turns}
use Rattle.dwz_label.specs.Nodes.{Any, SameBare}
use Rattle.dwz_label.proofs.Pairs.{zip_join, zip_split}

-- ---- of equal trees: the relation holds of the targets

module _ (R : ℕ → ℕ → Type 0) where
  refs_zip : (xs ys : List EntryName) → SameRefs R xs ys → AllZip R (refs_into xs) (refs_into ys)
  refs_zip [] [] h = tt
  refs_zip (Within s p ∷ xs) (Within t q ∷ ys) h = (h.0.1, refs_zip xs ys h.1)
  refs_zip (Within s p ∷ xs) (_ ∷ ys) h = absurd h.0
  refs_zip (_ ∷ xs) (Within t q ∷ ys) h = absurd h.0
  refs_zip (_ ∷ xs) (_ ∷ ys) h = refs_zip xs ys h.1
  refs_zip _ _ h = absurd h

  attrs_zip : (xs ys : List (Attr EntryName)) → SameAttrs R xs ys → AllZip R (attrs_into xs) (attrs_into ys)
  attrs_zip [] [] h = tt
  attrs_zip (x ∷ xs) (y ∷ ys) h = zip_join R (refs_into x.value.refs) (refs_into y.value.refs) (attrs_into xs) (attrs_into ys) (refs_zip x.value.refs y.value.refs h.1.1) (attrs_zip xs ys h.2)
  attrs_zip _ _ h = absurd h

  entries_zip : (f g : Entries EntryName) → SameEntries R f g → AllZip R (entries_into f) (entries_into g)
  unfolding entries_into
  entries_zip End End h = tt
  entries_zip (Entry a f g) (Entry b f' g') h =
      zip_join R (attrs_into a.attrs) (attrs_into b.attrs) _ _ (attrs_zip a.attrs b.attrs h.0.1)
      (zip_join R (entries_into f) (entries_into f') (entries_into g) (entries_into g') (entries_zip f f' h.1) (entries_zip g g' h.2))
  entries_zip _ _ h = absurd h

  pub top_zip : (a b : Top) → SameTop R a b → AllZip R (targets_of a) (targets_of b)
  top_zip a b h =
      zip_join R (attrs_into a.node.attrs) (attrs_into b.node.attrs) (entries_into a.below) (entries_into b.below) (attrs_zip a.node.attrs b.node.attrs h.2.1) (entries_zip a.below b.below h.3)

-- so those of equal bare trees are equally many
refs_many : (xs ys : List EntryName) → SameRefs Any xs ys → length (refs_into xs) ≡ length (refs_into ys)
refs_many xs ys h = length_all_zip Any (refs_into xs) (refs_into ys) (refs_zip Any xs ys h)

attrs_many : (xs ys : List (Attr EntryName)) → SameAttrs Any xs ys → length (attrs_into xs) ≡ length (attrs_into ys)
attrs_many xs ys h = length_all_zip Any (attrs_into xs) (attrs_into ys) (attrs_zip Any xs ys h)

entries_many : (f g : Entries EntryName) → SameEntries Any f g → length (entries_into f) ≡ length (entries_into g)
entries_many f g h = length_all_zip Any (entries_into f) (entries_into g) (entries_zip Any f g h)

-- ---- of equal bare trees, with targets of which the relation holds

module _ (R : ℕ → ℕ → Type 0) where
  refs_whole : (xs ys : List EntryName) → SameRefs Any xs ys → AllZip R (refs_into xs) (refs_into ys) → SameRefs R xs ys
  refs_whole [] [] h j = tt
  refs_whole (Within s p ∷ xs) (Within t q ∷ ys) h j = ((h.0.0, j.0), refs_whole xs ys h.1 j.1)
  refs_whole (Within s p ∷ xs) (_ ∷ ys) h j = absurd h.0
  refs_whole (_ ∷ xs) (Within t q ∷ ys) h j = absurd h.0
  refs_whole (_ ∷ xs) (_ ∷ ys) h j = (tt, refs_whole xs ys h.1 j)
  refs_whole _ _ h j = absurd h

  attrs_whole : (xs ys : List (Attr EntryName)) → SameAttrs Any xs ys → AllZip R (attrs_into xs) (attrs_into ys) → SameAttrs R xs ys
  attrs_whole [] [] h j = tt
  attrs_whole (x ∷ xs) (y ∷ ys) h j =
      let s = zip_split R (refs_into x.value.refs) (refs_into y.value.refs) (attrs_into xs) (attrs_into ys) (refs_many x.value.refs y.value.refs h.1.1) j in
      (h.0, (h.1.0, refs_whole x.value.refs y.value.refs h.1.1 s.0), attrs_whole xs ys h.2 s.1)
  attrs_whole _ _ h j = absurd h

  entries_whole : (f g : Entries EntryName) → SameEntries Any f g → AllZip R (entries_into f) (entries_into g) → SameEntries R f g
  unfolding entries_into
  entries_whole End End h j = tt
  entries_whole (Entry a f g) (Entry b f' g') h j =
      let x = zip_split R (attrs_into a.attrs) (attrs_into b.attrs) (entries_into f ++ entries_into g) (entries_into f' ++ entries_into g') (attrs_many a.attrs b.attrs h.0.1) j in
      let y = zip_split R (entries_into f) (entries_into f') (entries_into g) (entries_into g') (entries_many f f' h.1) x.1 in
      ((h.0.0, attrs_whole a.attrs b.attrs h.0.1 x.0), entries_whole f f' h.1 y.0, entries_whole g g' h.2 y.1)
  entries_whole _ _ h j = absurd h

  pub top_whole : (a b : Top) → SameBare a b → AllZip R (targets_of a) (targets_of b) → SameTop R a b
  top_whole a b h j =
      let x = zip_split R (attrs_into a.node.attrs) (attrs_into b.node.attrs) (entries_into a.below) (entries_into b.below) (attrs_many a.node.attrs b.node.attrs h.2.1) j in
      (h.0, h.1, (h.2.0, attrs_whole a.node.attrs b.node.attrs h.2.1 x.0), entries_whole a.below b.below h.3 x.1)

-- ---- equal bare trees are an equivalence

abbrev Anywhere : ℕ → Type 0
Anywhere n = Unit {0}

anywhere : (s : EntryName) → TargetIn Anywhere s
anywhere (Within t path) = tt
anywhere (UnitOf n) = tt
anywhere (RootOf n) = tt
anywhere (SpaceAt n path) = tt
anywhere (InType n path) = tt
anywhere (PartialOf n) = tt
anywhere (PartialRoot n) = tt
anywhere (InChain n i d) = tt
anywhere (Import n p) = tt

all_anywhere : (t : Top) → TopIn Anywhere t
all_anywhere t = top_in_from Anywhere t (λ s e a h. anywhere s)

pub bare_of : (R : ℕ → ℕ → Type 0) (a b : Top) → SameTop R a b → SameBare a b
bare_of R a b h = top_gives Anywhere R Any (λ m n p q r. tt) a b (all_anywhere a) (all_anywhere b) h

pub bare_self : (t : Top) → SameBare t t
bare_self t = top_self Anywhere Any (λ n u. tt) t (all_anywhere t)

pub bare_turns : (a b : Top) → SameBare a b → SameBare b a
bare_turns a b h = top_turns Any Any (λ m n h. tt) a b h

pub bare_joins : (a b c : Top) → SameBare a b → SameBare b c → SameBare a c
bare_joins a b c h j = top_joins Anywhere Any Any Any (λ l m n q h j. tt) a b c (all_anywhere b) h j

-- ---- where references go into some tops, targets are among these

module _ (Q : ℕ → Type 0) where
  refs_among : (refs : List EntryName) → RefsIn Q refs → Each Q (refs_into refs)
  refs_among [] h = tt
  refs_among (Within t path ∷ refs) h = (h.0, refs_among refs h.1)
  refs_among (_ ∷ refs) h = refs_among refs h.1

  attrs_among : (attrs : List (Attr EntryName)) → AttrsIn Q attrs → Each Q (attrs_into attrs)
  attrs_among [] h = tt
  attrs_among (a ∷ attrs) h = each_append Q (refs_into a.value.refs) (attrs_into attrs) (refs_among a.value.refs h.0) (attrs_among attrs h.1)

  entries_among : (f : Entries EntryName) → EntriesIn Q f → Each Q (entries_into f)
  unfolding entries_into
  entries_among End h = tt
  entries_among (Entry e f g) h = each_append Q (attrs_into e.attrs) _ (attrs_among e.attrs h.0) (each_append Q (entries_into f) (entries_into g) (entries_among f h.1) (entries_among g h.2))

  pub targets_among : (t : Top) → TopIn Q t → Each Q (targets_of t)
  targets_among t h = each_append Q (attrs_into t.node.attrs) (entries_into t.below) (attrs_among t.node.attrs h.0) (entries_among t.below h.1)
