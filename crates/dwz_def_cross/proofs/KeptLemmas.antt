-- What a relation keeps, looks of every depth find equal.
use Rattle.std.proofs.Common.{ℕ, zero, suc, List, [], ◌∷◌}
use Rattle.dwz_def_reading.specs.Documents.{Attr, Entries, Node}
use Rattle.dwz_def_reading.specs.Trees.{End, Entry}
use Rattle.dwz_def_cross.specs.Tops.{CrossTop, WithCommon}
use Rattle.dwz_def_cross.specs.CrossLook.{CrossAlike, CrossAttrs, CrossEntries, CrossEqual, CrossLook, CrossNode, CrossRefs, CrossTarget, InTops, PartialRoots, PartialSpaces, Roots, Spaces}
use Rattle.dwz_def_cross.specs.CrossLaws.{IsKept}

module _ {P Q : Type 0} (v : WithCommon P) (w : WithCommon Q) (R S : CrossTop P → CrossTop Q → Type 0) (more : (a : CrossTop P) (b : CrossTop Q) → R a b → S a b) where
  target_more : (p : P) (q : Q) → CrossTarget R v w p q → CrossTarget S v w p q
  target_more p q (InTops path a b i j x y r) = InTops path a b i j x y (more a b r)
  target_more p q (Roots n x y) = Roots n x y
  target_more p q (Spaces n names x y) = Spaces n names x y
  target_more p q (PartialRoots x y) = PartialRoots x y
  target_more p q (PartialSpaces names x y) = PartialSpaces names x y

  refs_more : (ps : List P) (qs : List Q) → CrossRefs R v w ps qs → CrossRefs S v w ps qs
  refs_more [] [] h = tt
  refs_more (p ∷ ps) (q ∷ qs) h = (target_more p q h.0, refs_more ps qs h.1)
  refs_more [] (q ∷ qs) h = absurd h
  refs_more (p ∷ ps) [] h = absurd h

  attrs_more : (xs : List (Attr P)) (ys : List (Attr Q)) → CrossAttrs R v w xs ys → CrossAttrs S v w xs ys
  attrs_more [] [] h = tt
  attrs_more (x ∷ xs) (y ∷ ys) h = (h.0, h.1, refs_more x.value.refs y.value.refs h.2, attrs_more xs ys h.3)
  attrs_more [] (y ∷ ys) h = absurd h
  attrs_more (x ∷ xs) [] h = absurd h

  node_more : (d : Node P) (e : Node Q) → CrossNode R v w d e → CrossNode S v w d e
  node_more d e h = record { tag = h.tag; attrs = attrs_more d.attrs e.attrs h.attrs }

  entries_more : (f : Entries P) (g : Entries Q) → CrossEntries R v w f g → CrossEntries S v w f g
  entries_more End End h = tt
  entries_more (Entry d f k) (Entry e g l) h = (node_more d e h.0, entries_more f g h.1, entries_more k l h.2)
  entries_more End (Entry e g l) h = absurd h
  entries_more (Entry d f k) End h = absurd h

  pub equal_more : (a : CrossTop P) (b : CrossTop Q) → CrossEqual R v w a b → CrossEqual S v w a b
  equal_more a b h = record { names = h.names; node = node_more a.node b.node h.node; below = entries_more a.below b.below h.below }

pub kept_looks : {P Q : Type 0} (R : CrossTop P → CrossTop Q → Type 0) (v : WithCommon P) (w : WithCommon Q) → IsKept R v w → (k : ℕ) (a : CrossTop P) (b : CrossTop Q) → R a b → CrossLook v w k a b
unfolding CrossLook
kept_looks R v w kept zero a b r = tt
kept_looks R v w kept (suc k) a b r = equal_more v w R (CrossLook v w k) (kept_looks R v w kept k) a b (kept a b r)

pub kept_alike : {P Q : Type 0} (R : CrossTop P → CrossTop Q → Type 0) (v : WithCommon P) (w : WithCommon Q) → IsKept R v w → (a : CrossTop P) (b : CrossTop Q) → R a b → CrossAlike v w a b
kept_alike R v w kept a b r = λ k. kept_looks R v w kept k a b r
