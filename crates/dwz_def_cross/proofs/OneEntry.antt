-- Where no place is that of two entries, what is seen at a place is one; so entries that are seen as others, places replaced, are shown.
use Rattle.std.proofs.Common.{◌≡◌, List, [], ◌∷◌, ◌++◌, map, refl, sym, ap, subst, ◌∙◌, inl, inr}
use Rattle.dwz_def_reading.specs.Documents.{DwUnit, Entries, Node}
use Rattle.dwz_def_reading.specs.Lists.{In}
use Rattle.dwz_def_reading.specs.Trees.{End, Entry}
use Rattle.dwz_def_reading.proofs.ListFacts.{in_cases, in_left, in_right}
use Rattle.dwz_def_tops.specs.Lists.{NoneTwice}
use Rattle.dwz_def_tops.specs.Seen.{IsShown, Seen, heads, see, seen, seen_below, seen_map, seen_roots}
use Rattle.dwz_def_tops.specs.Shown.{AreShown, keys, unit_keys, units_keys}
use Rattle.dwz_def_tops.proofs.OnceLemmas.{none_both, none_left, none_right}
use Rattle.dwz_def_tops.proofs.SeenLemmas.{root_from, seen_from}
use Rattle.dwz_def_tops.proofs.ShownLemmas.{seen_key, unit_key}

one_seen : {Q : Type 0} (f : Entries Q) → NoneTwice (keys f) → (d e : Seen Q) → In d (seen f) → In e (seen f) → d.at ≡ e.at → d ≡ e
unfolding keys seen
one_seen End h d e i j same = absurd i
one_seen (Entry x f g) h d e (inl a) (inl b) same = sym a ∙ b
one_seen {Q} (Entry x f g) h d e (inl a) (inr r) same =
    absurd (h.0 (subst (λ (w : Q). In w (keys f ++ keys g)) (sym same ∙ sym (ap (λ (w : Seen Q). w.at) a)) (both f g e r))) where
      both : (f g : Entries Q) (e : Seen Q) → In e (seen f ++ seen g) → In e.at (keys f ++ keys g)
      both f g e r = elim (in_cases e (seen f) (seen g) r) [ inl a ↦ in_left e.at (keys f) (keys g) (seen_key f e a) | inr b ↦ in_right e.at (keys f) (keys g) (seen_key g e b) ]
one_seen {Q} (Entry x f g) h d e (inr r) (inl b) same =
    absurd (h.0 (subst (λ (w : Q). In w (keys f ++ keys g)) (same ∙ sym (ap (λ (w : Seen Q). w.at) b)) (both f g d r))) where
      both : (f g : Entries Q) (e : Seen Q) → In e (seen f ++ seen g) → In e.at (keys f ++ keys g)
      both f g e r = elim (in_cases e (seen f) (seen g) r) [ inl a ↦ in_left e.at (keys f) (keys g) (seen_key f e a) | inr b ↦ in_right e.at (keys f) (keys g) (seen_key g e b) ]
one_seen {Q} (Entry x f g) h d e (inr r) (inr s) same =
    elim (in_cases d (seen f) (seen g) r) [
      | inl a ↦ elim (in_cases e (seen f) (seen g) s) [
        | inl b ↦ one_seen f (none_left (keys f) (keys g) h.1) d e a b same
        | inr b ↦ absurd (none_both (keys f) (keys g) h.1 d.at (seen_key f d a) (subst (λ (w : Q). In w (keys g)) (sym same) (seen_key g e b)))
      ]
      | inr a ↦ elim (in_cases e (seen f) (seen g) s) [
        | inl b ↦ absurd (none_both (keys f) (keys g) h.1 d.at (subst (λ (w : Q). In w (keys f)) (sym same) (seen_key f e b)) (seen_key g d a))
        | inr b ↦ one_seen g (none_right (keys f) (keys g) h.1) d e a b same
      ]
    ]

-- the key of an entry below is one of the unit's, and of all units
below_key : {Q : Type 0} (units : List (DwUnit Q)) (d : Seen Q) → In d (seen_below units) → In d.at (units_keys units)
unfolding unit_keys
below_key units d i = let o = seen_from units d i in unit_key units o.unit d.at o.there (inr (inr (seen_key o.unit.below d o.is)))

pub one_below : {Q : Type 0} (units : List (DwUnit Q)) → NoneTwice (units_keys units) → (d e : Seen Q) → In d (seen_below units) → In e (seen_below units) → d.at ≡ e.at → d ≡ e
unfolding seen_below units_keys unit_keys
one_below [] h d e i j same = absurd i
one_below {Q} (u ∷ units) h d e i j same =
    elim (in_cases d (seen u.below) (seen_below units) i) [
      | inl a ↦ elim (in_cases e (seen u.below) (seen_below units) j) [
        | inl b ↦ one_seen u.below (none_left (unit_keys u) (units_keys units) h).1.1 d e a b same
        | inr b ↦ absurd (none_both (unit_keys u) (units_keys units) h d.at (inr (inr (seen_key u.below d a))) (subst (λ (w : Q). In w (units_keys units)) (sym same) (below_key units e b)))
      ]
      | inr a ↦ elim (in_cases e (seen u.below) (seen_below units) j) [
        | inl b ↦ absurd (none_both (unit_keys u) (units_keys units) h e.at (inr (inr (seen_key u.below e b))) (subst (λ (w : Q). In w (units_keys units)) same (below_key units d a)))
        | inr b ↦ one_below units (none_right (unit_keys u) (units_keys units) h) d e a b same
      ]
    ]

root_key : {Q : Type 0} (units : List (DwUnit Q)) (d : Seen Q) → In d (seen_roots units) → In d.at (units_keys units)
unfolding unit_keys
root_key {Q} units d i = let o = root_from units d i in subst (λ (w : Seen Q). In w.at (units_keys units)) o.is (unit_key units o.unit o.unit.root.at o.there (inr (inl refl)))

pub one_root : {Q : Type 0} (units : List (DwUnit Q)) → NoneTwice (units_keys units) → (d e : Seen Q) → In d (seen_roots units) → In e (seen_roots units) → d.at ≡ e.at → d ≡ e
unfolding seen_roots units_keys unit_keys
one_root [] h d e i j same = absurd i
one_root (u ∷ units) h d e (inl a) (inl b) same = sym a ∙ b
one_root (u ∷ units) h d e (inr r) (inr s) same = one_root units (none_right (unit_keys u) (units_keys units) h) d e r s same
one_root {Q} (u ∷ units) h d e (inl a) (inr s) same =
    absurd (none_both (unit_keys u) (units_keys units) h u.root.at (inr (inl refl)) (subst (λ (w : Q). In w (units_keys units)) (sym same ∙ sym (ap (λ (w : Seen Q). w.at) a)) (root_key units e s)))
one_root {Q} (u ∷ units) h d e (inr r) (inl b) same =
    absurd (none_both (unit_keys u) (units_keys units) h u.root.at (inr (inl refl)) (subst (λ (w : Q). In w (units_keys units)) (same ∙ sym (ap (λ (w : Seen Q). w.at) b)) (root_key units d r)))

-- ---- trees

-- what is seen as an entry with its places replaced is shown by it, and so are the heads of what is below
pub seen_shown : {P Q : Type 0} (f : P → Q) (e : Node P) (g : Entries P) (d : Node Q) (h : Entries Q) → see d h ≡ seen_map f (see e g) → IsShown f e d × (heads h ≡ map f (heads g))
seen_shown {P} {Q} f e g d h s =
    (record { at = ap (λ (w : Seen Q). w.at) s; tag = ap (λ (w : Seen Q). w.tag) s; attrs = ap (λ (w : Seen Q). w.attrs) s }, ap (λ (w : Seen Q). w.children) s)

pub tree_shown : {P Q : Type 0} (f : P → Q) (units : List (DwUnit Q)) → NoneTwice (units_keys units) → (g : Entries P) (h : Entries Q) → heads h ≡ map f (heads g)
    → ((e : Seen P) → In e (seen g) → In (seen_map f e) (seen_below units)) → ((d : Seen Q) → In d (seen h) → In d (seen_below units)) → AreShown f g h
unfolding heads seen
tree_shown f units one End End same old new = tt
tree_shown f units one End (Entry d h k) same old new = absurd cc
tree_shown f units one (Entry e g m) End same old new = absurd cc
tree_shown {P} {Q} f units one (Entry e g m) (Entry d h k) same old new =
    let first : d.at ≡ f e.at = cc in
    let rest : heads k ≡ map f (heads m) = cc in
    let seen_same = one_below units one (see d h) (seen_map f (see e g)) (new (see d h) (inl refl)) (old (see e g) (inl refl)) first in
    let here = seen_shown f e g d h seen_same in (
      here.0,
      tree_shown f units one g h here.1 (λ x i. old x (inr (in_left x (seen g) (seen m) i))) (λ x i. new x (inr (in_left x (seen h) (seen k) i))),
      tree_shown f units one m k rest (λ x i. old x (inr (in_right x (seen g) (seen m) i))) (λ x i. new x (inr (in_right x (seen h) (seen k) i))),
    )
