-- Tops in order: each top of units stands in their list, and what stands there is one.
use Rattle.std.proofs.Common.{◌≡◌, ℕ, suc, ◌+◌, List, [], ◌∷◌, ◌++◌, length, Option, Some, None, refl, sym, ap, subst, ◌∙◌, inl, inr, arith}
use Rattle.std.specs.Prelude.{◌⊎◌}
use Rattle.std.proofs.lemmas.List.{append-nil, append_assoc, length-append}
use Rattle.dwz_def_reading.specs.Documents.{Compile, DwUnit, Entries, Kind, Node, OfType, Partial}
use Rattle.dwz_def_reading.specs.Lists.{In}
use Rattle.dwz_def_reading.specs.Trees.{End, Entry}
use Rattle.dwz_def_reading.proofs.ListFacts.{in_cases, in_left, in_right}
use Rattle.dwz_def_tops.specs.Lists.{Nth}
use Rattle.dwz_def_tops.specs.Spaces.{space_text, tops_under}
use Rattle.dwz_def_tops.proofs.Members.{in_nth, nth_in}
use Rattle.dwz_def_cross.specs.Tops.{CrossTop, IsCrossTop, IsTopOf, StandsUnder, units_with_common}
use Rattle.dwz_def_check.specs.CrossNames.{IsNthTop, Side, cross_tops, cross_tops_in, unit_tops}

-- ---- joined lists

pub nth_split : {X : Type 0} (s : ℕ) (xs ys : List X) (n : ℕ) (x : X) → Nth s (xs ++ ys) n x → Nth s xs n x ⊎ Nth (s + length xs) ys n x
nth_split {X} s [] ys n x h = let e : s ≡ s + 0 = omega arith in inr (subst (λ (k : ℕ). Nth k ys n x) e h)
nth_split s (z ∷ xs) ys n x (inl h) = inl (inl h)
nth_split {X} s (z ∷ xs) ys n x (inr h) = elim (nth_split (suc s) xs ys n x h) [
  | inl a ↦ inl (inr a)
  | inr b ↦ (let e : suc s + length xs ≡ s + suc (length xs) = omega arith in inr (subst (λ (k : ℕ). Nth k ys n x) e b))
]

-- ---- tops of entries

-- the tops of an entry and those behind it, by the entry's name as a space
abbrev pub tops_by : {P : Type 0} → List (List ℕ) → Node P → Entries P → Entries P → Option (List ℕ) → List (CrossTop P)
tops_by {P} names e f g o = elim o as (λ _. List (CrossTop P)) [
  | None ↦ record { names = names; node = e; below = f } ∷ cross_tops_in names g
  | Some text ↦ cross_tops_in (names ++ text ∷ []) f ++ cross_tops_in names g
]

later_top : {P : Type 0} (names : List (List ℕ)) (e : Node P) (f g : Entries P) (o : Option (List ℕ)) (t : CrossTop P) → In t (cross_tops_in names g) → In t (tops_by names e f g o)
later_top names e f g None t h = inr h
later_top names e f g (Some text) t h = in_right t (cross_tops_in (names ++ text ∷ []) f) (cross_tops_in names g) h

pub under_in : {P : Type 0} (outer names : List (List ℕ)) (t : CrossTop P) (f : Entries P) → StandsUnder names t f → t.names ≡ outer ++ names → In t (cross_tops_in outer f)
unfolding cross_tops_in
under_in outer names t End h e = absurd h
under_in {P} outer names t (Entry d f g) (inl x) e =
    let all : outer ≡ t.names = sym (append-nil outer) ∙ ap (λ (w : List (List ℕ)). outer ++ w) (sym x.0) ∙ sym e in
    let one : In t (tops_by outer d f g None) = inl (λ i. record { names = all i; node = x.2 i; below = x.3 i }) in
    subst (λ (o : Option (List ℕ)). In t (tops_by outer d f g o)) (sym x.1) one
under_in {P} outer names t (Entry d f g) (inr (inl i)) e =
    let all : t.names ≡ (outer ++ i.0 ∷ []) ++ i.1 = e ∙ ap (λ (w : List (List ℕ)). outer ++ w) i.3 ∙ sym (append_assoc outer (i.0 ∷ []) i.1) in
    let one : In t (tops_by outer d f g (Some i.0)) = in_left t (cross_tops_in (outer ++ i.0 ∷ []) f) (cross_tops_in outer g) (under_in (outer ++ i.0 ∷ []) i.1 t f i.4 all) in
    subst (λ (o : Option (List ℕ)). In t (tops_by outer d f g o)) (sym i.2) one
under_in outer names t (Entry d f g) (inr (inr r)) e = later_top outer d f g (space_text d) t (under_in outer names t g r e)

pub record Under {P : Type 0} (outer : List (List ℕ)) (t : CrossTop P) (f : Entries P) : Type 0 where
  pub names : List (List ℕ)
  pub are : t.names ≡ outer ++ names
  pub stands : StandsUnder names t f

later_under : {P : Type 0} (outer : List (List ℕ)) (t : CrossTop P) (d : Node P) (f g : Entries P) → Under outer t g → Under outer t (Entry d f g)
later_under outer t d f g u = record { names = u.names; are = u.are; stands = inr (inr u.stands) }

under_by : {P : Type 0} (outer : List (List ℕ)) (t : CrossTop P) (d : Node P) (f g : Entries P) → (In t (cross_tops_in outer g) → Under outer t g)
    → ((inner : List (List ℕ)) → In t (cross_tops_in inner f) → Under inner t f) → (o : Option (List ℕ)) → space_text d ≡ o → In t (tops_by outer d f g o)
    → Under outer t (Entry d f g)
under_by {P} outer t d f g behind inside None q (inl e) = record {
  names = [];
  are = sym (ap (λ (w : CrossTop P). w.names) e) ∙ sym (append-nil outer);
  stands = inl (refl, q, ap (λ (w : CrossTop P). w.node) e, ap (λ (w : CrossTop P). w.below) e);
}
under_by outer t d f g behind inside None q (inr r) = later_under outer t d f g (behind r)
under_by outer t d f g behind inside (Some text) q h = elim (in_cases t (cross_tops_in (outer ++ text ∷ []) f) (cross_tops_in outer g) h) [
  | inl a ↦
      let u = inside (outer ++ text ∷ []) a in
      record { names = text ∷ u.names; are = u.are ∙ append_assoc outer (text ∷ []) u.names; stands = inr (inl (text, u.names, q, refl, u.stands)) }
  | inr b ↦ later_under outer t d f g (behind b)
]

pub in_under : {P : Type 0} (outer : List (List ℕ)) (t : CrossTop P) (f : Entries P) → In t (cross_tops_in outer f) → Under outer t f
unfolding cross_tops_in
in_under outer t End h = absurd h
in_under outer t (Entry d f g) h = under_by outer t d f g (λ r. in_under outer t g r) (λ inner r. in_under inner t f r) (space_text d) refl h

count_by : {P : Type 0} (names : List (List ℕ)) (e : Node P) (f g : Entries P) → ((inner : List (List ℕ)) → length (cross_tops_in inner f) ≡ tops_under f) → length (cross_tops_in names g) ≡ tops_under g
    → (o : Option (List ℕ)) → length (tops_by names e f g o) ≡ elim o as (λ _. ℕ) [ None ↦ suc (tops_under g) | Some text ↦ tops_under f + tops_under g ]
count_by names e f g inside behind None = ap suc behind
count_by names e f g inside behind (Some text) =
    let a = inside (names ++ text ∷ []) in
    length-append (cross_tops_in (names ++ text ∷ []) f) (cross_tops_in names g) ∙ (λ i. a i + behind i)

pub tops_count : {P : Type 0} (names : List (List ℕ)) (f : Entries P) → length (cross_tops_in names f) ≡ tops_under f
unfolding cross_tops_in tops_under
tops_count names End = refl
tops_count names (Entry e f g) = count_by names e f g (λ inner. tops_count inner f) (tops_count names g) (space_text e)

-- ---- tops of units

pub unit_in : {P : Type 0} (k : Kind P) (u : DwUnit P) (t : CrossTop P) → IsTopOf k u t → In t (unit_tops k u)
unit_in Compile u t h = under_in [] t.names t u.below h refl
unit_in Partial u t h = under_in [] t.names t u.below h refl
unit_in (OfType s m) u t h = inl (λ i. record { names = sym h.0 i; node = sym h.1 i; below = sym h.2 i })

stands_by : {P : Type 0} (u : DwUnit P) (t : CrossTop P) → Under [] t u.below → StandsUnder t.names t u.below
stands_by u t h = subst (λ (names : List (List ℕ)). StandsUnder names t u.below) (sym h.are) h.stands

pub in_unit : {P : Type 0} (k : Kind P) (u : DwUnit P) (t : CrossTop P) → In t (unit_tops k u) → IsTopOf k u t
in_unit Compile u t h = stands_by u t (in_under [] t u.below h)
in_unit Partial u t h = stands_by u t (in_under [] t u.below h)
in_unit {P} (OfType s m) u t (inl e) = (sym (ap (λ (w : CrossTop P). w.names) e), sym (ap (λ (w : CrossTop P). w.node) e), sym (ap (λ (w : CrossTop P). w.below) e))
in_unit (OfType s m) u t (inr r) = absurd r

pub cross_in : {P : Type 0} (units : List (DwUnit P)) (u : DwUnit P) (t : CrossTop P) → In u units → IsTopOf u.kind u t → In t (cross_tops units)
unfolding cross_tops
cross_in [] u t is h = absurd is
cross_in {P} (x ∷ units) u t (inl same) h = in_left t (unit_tops x.kind x) (cross_tops units) (unit_in x.kind x t (subst (λ (w : DwUnit P). IsTopOf w.kind w t) (sym same) h))
cross_in (x ∷ units) u t (inr r) h = in_right t (unit_tops x.kind x) (cross_tops units) (cross_in units u t r h)

pub in_cross : {P : Type 0} (units : List (DwUnit P)) (t : CrossTop P) → In t (cross_tops units) → IsCrossTop units t
unfolding cross_tops
in_cross [] t h = absurd h
in_cross (x ∷ units) t h = elim (in_cases t (unit_tops x.kind x) (cross_tops units) h) [
  | inl a ↦ (x, inl refl, in_unit x.kind x t a)
  | inr b ↦ (let o = in_cross units t b in (o.0, inr o.1, o.2))
]

-- ---- numbered tops of one file and its common one

pub numbered : {P : Type 0} (s : Side P) (t : CrossTop P) → IsCrossTop (units_with_common s.files) t → (n : ℕ) × IsNthTop s n t
numbered s t h = elim (in_cases h.0 s.files.own s.files.common h.1) [
  | inl a ↦ (let f = in_nth s.own (cross_tops s.files.own) t (cross_in s.files.own h.0 t a h.2) in (f.number, inl f.nth))
  | inr b ↦ (let f = in_nth s.common (cross_tops s.files.common) t (cross_in s.files.common h.0 t b h.2) in (f.number, inr f.nth))
]

pub numbered_top : {P : Type 0} (s : Side P) (n : ℕ) (t : CrossTop P) → IsNthTop s n t → IsCrossTop (units_with_common s.files) t
numbered_top s n t (inl h) = let o = in_cross s.files.own t (nth_in s.own (cross_tops s.files.own) n t h) in (o.0, in_left o.0 s.files.own s.files.common o.1, o.2)
numbered_top s n t (inr h) = let o = in_cross s.files.common t (nth_in s.common (cross_tops s.files.common) n t h) in (o.0, in_right o.0 s.files.own s.files.common o.1, o.2)
