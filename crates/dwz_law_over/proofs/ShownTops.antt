-- Tops of entries that are shown by others.
use Rattle.std.proofs.Common.{◌≡◌, ℕ, List, refl, sym, subst, ◌∙◌, inl, inr}
use Rattle.dwz_def_reading.specs.Documents.{Compile, DwUnit, Entries, Kind, Node, OfType, Partial, kind_map}
use Rattle.dwz_def_reading.specs.Trees.{End, Entry}
use Rattle.dwz_def_tops.specs.Seen.{IsShown}
use Rattle.dwz_def_tops.specs.Shown.{AreShown, IsShownUnit, UnitsShown}
use Rattle.dwz_def_tops.proofs.ShownLemmas.{shown_from, shown_in}
use Rattle.dwz_def_tops.proofs.SpaceLemmas.{shown_text}
use Rattle.dwz_def_cross.specs.Tops.{CrossTop, IsCrossTop, IsTopOf, StandsUnder}

module _ {P Q : Type 0} (g : P → Q) where
  -- a top, and one that it is shown by
  pub record TopShown (t : CrossTop P) (b : CrossTop Q) : Type 0 where
    pub names_are : b.names ≡ t.names
    pub node : IsShown g t.node b.node
    pub below : AreShown g t.below b.below

  pub stands_to : (names : List (List ℕ)) (t : CrossTop P) (f : Entries P) (h : Entries Q) → AreShown g f h → StandsUnder names t f → (b : CrossTop Q) × TopShown t b × StandsUnder names b h
  stands_to names t End End s u = absurd u
  stands_to names t (Entry d f k) (Entry d' f' k') s (inl x) = (
    record { names = t.names; node = d'; below = f' },
    record { names_are = refl; node = subst (λ (w : Node P). IsShown g w d') x.2 s.0; below = subst (λ (w : Entries P). AreShown g w f') x.3 s.1 },
    inl (x.0, shown_text g d d' s.0 ∙ x.1, refl, refl),
  )
  stands_to names t (Entry d f k) (Entry d' f' k') s (inr (inl i)) =
      let o = stands_to i.1 t f f' s.1 i.4 in (o.0, o.1, inr (inl (i.0, i.1, shown_text g d d' s.0 ∙ i.2, i.3, o.2)))
  stands_to names t (Entry d f k) (Entry d' f' k') s (inr (inr r)) = let o = stands_to names t k k' s.2 r in (o.0, o.1, inr (inr o.2))
  stands_to names t End (Entry d f k) s u = absurd s
  stands_to names t (Entry d f k) End s u = absurd s

  pub stands_from : (names : List (List ℕ)) (b : CrossTop Q) (f : Entries P) (h : Entries Q) → AreShown g f h → StandsUnder names b h → (t : CrossTop P) × TopShown t b × StandsUnder names t f
  stands_from names b End End s u = absurd u
  stands_from names b (Entry d f k) (Entry d' f' k') s (inl x) = (
    record { names = b.names; node = d; below = f },
    record { names_are = refl; node = subst (IsShown g d) x.2 s.0; below = subst (AreShown g f) x.3 s.1 },
    inl (x.0, sym (shown_text g d d' s.0) ∙ x.1, refl, refl),
  )
  stands_from names b (Entry d f k) (Entry d' f' k') s (inr (inl i)) =
      let o = stands_from i.1 b f f' s.1 i.4 in (o.0, o.1, inr (inl (i.0, i.1, sym (shown_text g d d' s.0) ∙ i.2, i.3, o.2)))
  stands_from names b (Entry d f k) (Entry d' f' k') s (inr (inr r)) = let o = stands_from names b k k' s.2 r in (o.0, o.1, inr (inr o.2))
  stands_from names b End (Entry d f k) s u = absurd s
  stands_from names b (Entry d f k) End s u = absurd s

  -- in units
  top_to : (t : CrossTop P) (u : DwUnit P) (x : DwUnit Q) → IsShownUnit g u x → (k : Kind P) → IsTopOf k u t → (b : CrossTop Q) × TopShown t b × IsTopOf (kind_map g k) x b
  top_to t u x s Compile is = let o = stands_to t.names t u.below x.below s.below is in (o.0, o.1, subst (λ (w : List (List ℕ)). StandsUnder w o.0 x.below) (sym o.1.names_are) o.2)
  top_to t u x s Partial is = let o = stands_to t.names t u.below x.below s.below is in (o.0, o.1, subst (λ (w : List (List ℕ)). StandsUnder w o.0 x.below) (sym o.1.names_are) o.2)
  top_to t u x s (OfType signature main) is = (
    record { names = t.names; node = x.root; below = x.below },
    record { names_are = refl; node = subst (λ (w : Node P). IsShown g w x.root) (sym is.1) s.root; below = subst (λ (w : Entries P). AreShown g w x.below) (sym is.2) s.below },
    (is.0, refl, refl),
  )

  pub cross_to : (units : List (DwUnit P)) (others : List (DwUnit Q)) → UnitsShown g units others → (t : CrossTop P) → IsCrossTop units t → (b : CrossTop Q) × TopShown t b × IsCrossTop others b
  cross_to units others shown t (u, there, is) =
      let x = shown_in g units others shown u there in
      let o = top_to t u x.unit x.shown u.kind is in
      let names : IsTopOf (kind_map g u.kind) x.unit o.0 = o.2 in
      (o.0, o.1, (x.unit, x.there, subst (λ (k : Kind Q). IsTopOf k x.unit o.0) (sym x.shown.kind) names))

  top_back : (b : CrossTop Q) (u : DwUnit P) (x : DwUnit Q) → IsShownUnit g u x → (k : Kind P) → IsTopOf (kind_map g k) x b → (t : CrossTop P) × TopShown t b × IsTopOf k u t
  top_back b u x s Compile is = let o = stands_from b.names b u.below x.below s.below is in (o.0, o.1, subst (λ (w : List (List ℕ)). StandsUnder w o.0 u.below) o.1.names_are o.2)
  top_back b u x s Partial is = let o = stands_from b.names b u.below x.below s.below is in (o.0, o.1, subst (λ (w : List (List ℕ)). StandsUnder w o.0 u.below) o.1.names_are o.2)
  top_back b u x s (OfType signature main) is = (
    record { names = b.names; node = u.root; below = u.below },
    record { names_are = refl; node = subst (IsShown g u.root) (sym is.1) s.root; below = subst (AreShown g u.below) (sym is.2) s.below },
    (is.0, refl, refl),
  )

  pub cross_from : (units : List (DwUnit P)) (others : List (DwUnit Q)) → UnitsShown g units others → (b : CrossTop Q) → IsCrossTop others b → (t : CrossTop P) × TopShown t b × IsCrossTop units t
  cross_from units others shown b (x, there, is) =
      let u = shown_from g units others shown x there in
      let o = top_back b u.unit x u.shown u.unit.kind (subst (λ (k : Kind Q). IsTopOf k x b) u.shown.kind is) in
      (o.0, o.1, (u.unit, u.there, o.2))
