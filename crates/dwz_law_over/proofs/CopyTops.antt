-- Tops of units, imports expanded, and what is seen of them.
use Rattle.std.proofs.Common.{◌≡◌, ℕ, suc, List, [], ◌∷◌, refl, sym, ap, subst, ◌∙◌, inl, inr}
use Rattle.dwz_def_reading.specs.Documents.{Compile, DwUnit, Entries, Kind, Node, OfType, Partial}
use Rattle.dwz_def_reading.specs.Lists.{In}
use Rattle.dwz_def_reading.specs.Trees.{End, Entry}
use Rattle.dwz_def_reading.proofs.ListFacts.{in_cases, in_left, in_right}
use Rattle.dwz_def_tops.specs.Seen.{Expands, IsPartial, Seen, all_seen, see, seen, seen_inner, seen_inside}
use Rattle.dwz_def_tops.specs.Shown.{keys}
use Rattle.dwz_def_tops.specs.Spaces.{IsUnder}
use Rattle.dwz_def_tops.proofs.SeenLemmas.{entry_seen, root_seen}
use Rattle.dwz_def_cross.specs.CrossSame.{EachTwo}
use Rattle.dwz_def_cross.specs.Tops.{CrossTop, IsCrossTop, IsExpanded, IsTopOf, StandsUnder, unless_partial, whole_units}
use Rattle.dwz_def_cross.proofs.CrossLemmas.{Paired}
use Rattle.dwz_def_cross.proofs.TopPlaces.{top_at, top_from, top_seen, top_under}

-- ---- lists

pub two_of : {X Y : Type 0} (R : X → Y → Type 0) (s : ℕ) (xs : List X) (ys : List Y) → EachTwo R xs ys → (x : X) → In x xs → Paired R s xs ys x
two_of R s [] ys h x is = absurd is
two_of {X} R s (z ∷ xs) (y ∷ ys) h x (inl e) = record { number = s; other = y; nth = inl (refl, e); other_nth = inl (refl, refl); related = subst (λ (w : X). R w y) e h.0 }
two_of R s (z ∷ xs) (y ∷ ys) h x (inr r) = let o = two_of R (suc s) xs ys h.1 x r in record { number = o.number; other = o.other; nth = inr o.nth; other_nth = inr o.other_nth; related = o.related }
two_of R s (z ∷ xs) [] h x is = absurd h

pub two_more : {X Y : Type 0} (R S : X → Y → Type 0) (xs : List X) (ys : List Y) → ((x : X) (y : Y) → In x xs → R x y → S x y) → EachTwo R xs ys → EachTwo S xs ys
two_more R S [] [] f h = tt
two_more R S (x ∷ xs) (y ∷ ys) f h = (f x y (inl refl) h.0, two_more R S xs ys (λ a b is r. f a b (inr is) r) h.1)
two_more R S [] (y ∷ ys) f h = absurd h
two_more R S (x ∷ xs) [] f h = absurd h

pub whole_same : {P : Type 0} (units : List (DwUnit P)) → ((u : DwUnit P) → In u units → IsPartial u.kind → ⊥) → whole_units units ≡ units
unfolding whole_units
whole_same [] h = refl
whole_same {P} (u ∷ units) h = go u.kind refl ∙ ap (λ (w : List (DwUnit P)). u ∷ w) (whole_same units (λ x is. h x (inr is))) where
  go : (k : Kind P) → u.kind ≡ k → unless_partial k u (whole_units units) ≡ u ∷ whole_units units
  go Compile e = refl
  go (OfType s m) e = refl
  go Partial e = absurd (h u (inl refl) (subst IsPartial (sym e) tt))

pub inner_in : {P : Type 0} (units : List (DwUnit P)) (u : DwUnit P) (e : Seen P) → In u units → In e (seen_inside u.kind u.below) → In e (seen_inner units)
unfolding seen_inner
inner_in [] u e is h = absurd is
inner_in {P} (x ∷ units) u e (inl same) h = in_left e (seen_inside x.kind x.below) (seen_inner units) (subst (λ (w : DwUnit P). In e (seen_inside w.kind w.below)) (sym same) h)
inner_in (x ∷ units) u e (inr r) h = in_right e (seen_inside x.kind x.below) (seen_inner units) (inner_in units u e r h)

-- ---- what is seen

-- an entry under names is seen with what is below it
pub under_known : {P : Type 0} (names : List (List ℕ)) (e : Node P) (f : Entries P) → IsUnder names e f → (g : Entries P) × In (see e g) (seen f)
unfolding seen
under_known names e End h = absurd h
under_known {P} names e (Entry d f g) (inl x) = (f, inl (ap (λ (w : Node P). see w f) x.1))
under_known names e (Entry d f g) (inr (inl i)) = let o = under_known i.1 e f i.4 in (o.0, inr (in_left (see e o.0) (seen f) (seen g) o.1))
under_known names e (Entry d f g) (inr (inr r)) = let o = under_known names e g r in (o.0, inr (in_right (see e o.0) (seen f) (seen g) o.1))

-- an entry below is seen
pub key_seen : {P : Type 0} (f : Entries P) (p : P) → In p (keys f) → (d : Seen P) × In d (seen f) × (d.at ≡ p)
unfolding keys seen
key_seen End p h = absurd h
key_seen (Entry e f g) p (inl a) = (see e f, inl refl, a)
key_seen (Entry e f g) p (inr r) = elim (in_cases p (keys f) (keys g) r) [
  | inl a ↦ (let o = key_seen f p a in (o.0, inr (in_left o.0 (seen f) (seen g) o.1), o.2))
  | inr b ↦ (let o = key_seen g p b in (o.0, inr (in_right o.0 (seen f) (seen g) o.1), o.2))
]

-- a top is seen with all below it
pub record TopSeen {Q : Type 0} (units : List (DwUnit Q)) (b : CrossTop Q) : Type 0 where
  pub here : In (see b.node b.below) (all_seen units)
  pub below : (d : Seen Q) → In d (seen b.below) → In d (all_seen units)

pub cross_seen : {Q : Type 0} (units : List (DwUnit Q)) (b : CrossTop Q) → IsCrossTop units b → TopSeen units b
cross_seen {Q} units b (x, there, is) = by x.kind is where
  under : StandsUnder b.names b x.below → TopSeen units b
  under stands =
      let s = top_seen b.names b x.below stands in
      record { here = entry_seen units x (see b.node b.below) there s.0; below = λ d i. entry_seen units x d there (s.1 d i) }

  by : (k : Kind Q) → IsTopOf k x b → TopSeen units b
  by Compile stands = under stands
  by Partial stands = under stands
  by (OfType s m) h = record {
    here = subst (λ (w : Entries Q). In (see b.node w) (all_seen units)) (sym h.2) (subst (λ (w : Node Q). In (see w x.below) (all_seen units)) (sym h.1) (root_seen units x there));
    below = λ d i. entry_seen units x d there (subst (λ (w : Entries Q). In d (seen w)) h.2 i);
  }

-- ---- imports expanded

partial_top : {P : Type 0} (k : Kind P) (u : DwUnit P) (b : CrossTop P) → IsPartial k → StandsUnder b.names b u.below → IsTopOf k u b
partial_top Partial u b p h = h
partial_top Compile u b p h = absurd p
partial_top (OfType s m) u b p h = absurd p

pub expanded_top : {Q : Type 0} (units : List (DwUnit Q)) (x : DwUnit Q) (b : CrossTop Q) → In x units → x.kind ≡ Compile → IsExpanded units x b → IsCrossTop units b
expanded_top {Q} units x b there kind (inl c) = (x, there, subst (λ (k : Kind Q). IsTopOf k x b) (sym kind) c.0)
expanded_top units x b there kind (inr (e, v, child, imp, c)) = (v, imp.unit, partial_top v.kind v b imp.partial c.0)

pub record Expanded {Q : Type 0} (units : List (DwUnit Q)) (x : DwUnit Q) (names : List (List ℕ)) (q : Q) : Type 0 where
  pub top : CrossTop Q
  pub is : IsExpanded units x top
  pub names_are : top.names ≡ names
  pub at : top.node.at ≡ q

pub expanded_of : {Q : Type 0} (units : List (DwUnit Q)) (x : DwUnit Q) (names : List (List ℕ)) (q : Q) → Expands units x names q → Expanded units x names q
expanded_of units x names q (inl c) =
    let o = top_from names c.entry x.below c.under c.no_space in
    record { top = top_at names c.entry o.0; is = inl (o.1 names, c.no_import); names_are = refl; at = c.at }
expanded_of units x names q (inr (e, v, child, imp, c)) =
    let o = top_from names c.entry v.below c.under c.no_space in
    record { top = top_at names c.entry o.0; is = inr (e, v, child, imp, (o.1 names, c.no_import)); names_are = refl; at = c.at }

pub expands_to : {Q : Type 0} (units : List (DwUnit Q)) (x : DwUnit Q) (b : CrossTop Q) → IsExpanded units x b → Expands units x b.names b.node.at
expands_to units x b (inl c) = let u = top_under b.names b x.below c.0 in inl (record { entry = b.node; under = u.0; no_space = u.1; no_import = c.1; at = refl })
expands_to units x b (inr (e, v, child, imp, c)) =
    let u = top_under b.names b v.below c.0 in
    inr (e, v, child, imp, record { entry = b.node; under = u.0; no_space = u.1; no_import = c.1; at = refl })
