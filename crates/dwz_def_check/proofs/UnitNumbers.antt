-- Units with the numbers of their tops, roots and spaces: each has one number.
use Rattle.std.proofs.Common.{◌≡◌, ℕ, suc, ◌+◌, List, [], ◌∷◌, ◌++◌, length, map, Option, Some, None, refl, sym, ap, subst, ◌∙◌, inl, inr, arith}
use Rattle.std.specs.Prelude.{◌⊎◌, reverse}
use Rattle.std.proofs.lemmas.List.{append_assoc, reverse-reverse}
use Rattle.dwz_def_reading.specs.Documents.{Compile, DwUnit, Entries, Kind, Node, OfType, Partial}
use Rattle.dwz_def_reading.specs.Lists.{In}
use Rattle.dwz_def_reading.specs.Trees.{End, Entry}
use Rattle.dwz_def_reading.proofs.ListFacts.{in_left, in_map, in_right}
use Rattle.dwz_def_tops.specs.Lists.{NoneTwice, Nth}
use Rattle.dwz_def_tops.specs.Shown.{keys, unit_keys, units_keys}
use Rattle.dwz_def_tops.specs.Spaces.{space_text}
use Rattle.dwz_def_tops.proofs.Members.{nth_in}
use Rattle.dwz_def_tops.proofs.OnceLemmas.{none_both, none_left, none_right}
use Rattle.dwz_def_cross.specs.Tops.{CrossTop, StandsAlong, type_top}
use Rattle.dwz_def_cross.proofs.TopPlaces.{key_along, path_to}
use Rattle.dwz_def_check.specs.CrossLists.{NumberedUnit, numbered_units, own_units}
use Rattle.dwz_def_check.specs.CrossNames.{AtPath, IsNameOf, IsNthTop, IsWellRead, Side, cross_tops, unit_tops}
use Rattle.dwz_def_check.specs.CrossNodes.{IsNthLone, lone_entries, lone_of, spaces_in}
use Rattle.dwz_def_check.proofs.Naming.{one_name}

-- ---- the n-th of joined lists

pub nth_left : {X : Type 0} (s : ℕ) (xs ys : List X) (n : ℕ) (x : X) → Nth s xs n x → Nth s (xs ++ ys) n x
nth_left s [] ys n x h = absurd h
nth_left s (z ∷ xs) ys n x (inl h) = inl h
nth_left s (z ∷ xs) ys n x (inr h) = inr (nth_left (suc s) xs ys n x h)

pub nth_right : {X : Type 0} (s : ℕ) (xs ys : List X) (n : ℕ) (x : X) → Nth (s + length xs) ys n x → Nth s (xs ++ ys) n x
nth_right {X} s [] ys n x h = let e : s + 0 ≡ s = omega arith in subst (λ (k : ℕ). Nth k ys n x) e h
nth_right {X} s (z ∷ xs) ys n x h = let e : s + suc (length xs) ≡ suc s + length xs = omega arith in inr (nth_right (suc s) xs ys n x (subst (λ (k : ℕ). Nth k ys n x) e h))

-- one number, where none stands twice
nth_once : {X Y : Type 0} (f : X → Y) (s : ℕ) (xs : List X) (m n : ℕ) (x : X) → NoneTwice (map f xs) → Nth s xs m x → Nth s xs n x → m ≡ n
nth_once f s [] m n x h a b = absurd a
nth_once f s (z ∷ xs) m n x h (inl a) (inl b) = sym a.0 ∙ b.0
nth_once {X} {Y} f s (z ∷ xs) m n x h (inl a) (inr b) = absurd (h.0 (subst (λ (y : Y). In y (map f xs)) (ap f (sym a.1)) (in_map f x xs (nth_in (suc s) xs n x b))))
nth_once {X} {Y} f s (z ∷ xs) m n x h (inr a) (inl b) = absurd (h.0 (subst (λ (y : Y). In y (map f xs)) (ap f (sym b.1)) (in_map f x xs (nth_in (suc s) xs m x a))))
nth_once f s (z ∷ xs) m n x h (inr a) (inr b) = nth_once f (suc s) xs m n x h.1 a b

-- ---- numbers of units

pub unit_top : {P : Type 0} (top lone : ℕ) (units : List (DwUnit P)) (x : NumberedUnit P) (n : ℕ) (t : CrossTop P) → In x (numbered_units top lone units) → Nth x.top (unit_tops x.unit.kind x.unit) n t
    → Nth top (cross_tops units) n t
unfolding numbered_units cross_tops
unit_top top lone [] x n t is h = absurd is
unit_top {P} top lone (u ∷ units) x n t (inl e) h =
    nth_left top (unit_tops u.kind u) (cross_tops units) n t (subst (λ (y : NumberedUnit P). Nth y.top (unit_tops y.unit.kind y.unit) n t) (sym e) h)
unit_top top lone (u ∷ units) x n t (inr r) h =
    nth_right top (unit_tops u.kind u) (cross_tops units) n t (unit_top (top + length (unit_tops u.kind u)) (lone + length (lone_of u.kind u)) units x n t r h)

pub unit_lone : {P : Type 0} (top lone : ℕ) (units : List (DwUnit P)) (x : NumberedUnit P) (n : ℕ) (d : Node P) → In x (numbered_units top lone units) → Nth x.lone (lone_of x.unit.kind x.unit) n d
    → Nth lone (lone_entries units) n d
unfolding numbered_units lone_entries
unit_lone top lone [] x n d is h = absurd is
unit_lone {P} top lone (u ∷ units) x n d (inl e) h =
    nth_left lone (lone_of u.kind u) (lone_entries units) n d (subst (λ (y : NumberedUnit P). Nth y.lone (lone_of y.unit.kind y.unit) n d) (sym e) h)
unit_lone top lone (u ∷ units) x n d (inr r) h =
    nth_right lone (lone_of u.kind u) (lone_entries units) n d (unit_lone (top + length (unit_tops u.kind u)) (lone + length (lone_of u.kind u)) units x n d r h)

pub numbered_in : {P : Type 0} (top lone : ℕ) (units : List (DwUnit P)) (u : DwUnit P) → In u units → (x : NumberedUnit P) × In x (numbered_units top lone units) × (x.unit ≡ u)
unfolding numbered_units
numbered_in top lone [] u is = absurd is
numbered_in top lone (v ∷ units) u (inl e) = (record { unit = v; top = top; lone = lone }, inl refl, e)
numbered_in top lone (v ∷ units) u (inr r) = let o = numbered_in (top + length (unit_tops v.kind v)) (lone + length (lone_of v.kind v)) units u r in (o.0, inr o.1, o.2)

unit_there : {P : Type 0} (top lone : ℕ) (units : List (DwUnit P)) (x : NumberedUnit P) → In x (numbered_units top lone units) → In x.unit units
unfolding numbered_units
unit_there top lone [] x is = absurd is
unit_there {P} top lone (u ∷ units) x (inl e) = inl (ap (λ (y : NumberedUnit P). y.unit) e)
unit_there top lone (u ∷ units) x (inr r) = inr (unit_there (top + length (unit_tops u.kind u)) (lone + length (lone_of u.kind u)) units x r)

-- ---- no root or space stands twice

abbrev place : {P : Type 0} → Node P → P
place d = d.at

abbrev spaces_by : {P : Type 0} → Node P → Entries P → Entries P → Option (List ℕ) → List (Node P)
spaces_by {P} e f g o = elim o as (λ _. List (Node P)) [ None ↦ spaces_in g | Some text ↦ e ∷ spaces_in f ++ spaces_in g ]

from_map : {X Y : Type 0} (f : X → Y) (y : Y) (xs ys : List X) → In y (map f (xs ++ ys)) → In y (map f xs) ⊎ In y (map f ys)
from_map f y [] ys h = inr h
from_map f y (x ∷ xs) ys (inl e) = inl (inl e)
from_map f y (x ∷ xs) ys (inr r) = elim (from_map f y xs ys r) [ inl a ↦ inl (inr a) | inr b ↦ inr b ]

none_map_append : {X Y : Type 0} (f : X → Y) (xs ys : List X) → NoneTwice (map f xs) → NoneTwice (map f ys) → ((y : Y) → In y (map f xs) → In y (map f ys) → ⊥) → NoneTwice (map f (xs ++ ys))
none_map_append f [] ys h j k = j
none_map_append f (x ∷ xs) ys h j k = (
  λ i. elim (from_map f (f x) xs ys i) [ inl a ↦ h.0 a | inr b ↦ k (f x) (inl refl) b ],
  none_map_append f xs ys h.1 j (λ y a b. k y (inr a) b),
)

key_by : {P : Type 0} (e : Node P) (f g : Entries P) (p : P) → (In p (map place (spaces_in f)) → In p (keys f)) → (In p (map place (spaces_in g)) → In p (keys g)) → (o : Option (List ℕ))
    → In p (map place (spaces_by e f g o)) → (e.at ≡ p) ⊎ In p (keys f ++ keys g)
key_by e f g p inside behind None h = inr (in_right p (keys f) (keys g) (behind h))
key_by e f g p inside behind (Some text) (inl x) = inl x
key_by e f g p inside behind (Some text) (inr r) = elim (from_map place p (spaces_in f) (spaces_in g) r) [
  | inl a ↦ inr (in_left p (keys f) (keys g) (inside a))
  | inr b ↦ inr (in_right p (keys f) (keys g) (behind b))
]

space_key : {P : Type 0} (f : Entries P) (p : P) → In p (map place (spaces_in f)) → In p (keys f)
unfolding spaces_in keys
space_key End p h = absurd h
space_key (Entry e f g) p h = key_by e f g p (space_key f p) (space_key g p) (space_text e) h

once_by : {P : Type 0} (e : Node P) (f g : Entries P) → NoneTwice (e.at ∷ keys f ++ keys g) → NoneTwice (map place (spaces_in f)) → NoneTwice (map place (spaces_in g)) → (o : Option (List ℕ))
    → NoneTwice (map place (spaces_by e f g o))
once_by e f g h inside behind None = behind
once_by {P} e f g h inside behind (Some text) = (
  λ i. h.0 (elim (from_map place e.at (spaces_in f) (spaces_in g) i) [
    | inl a ↦ in_left e.at (keys f) (keys g) (space_key f e.at a)
    | inr b ↦ in_right e.at (keys f) (keys g) (space_key g e.at b)
  ]),
  none_map_append place (spaces_in f) (spaces_in g) inside behind (λ p a b. none_both (keys f) (keys g) h.1 p (space_key f p a) (space_key g p b)),
)

spaces_once : {P : Type 0} (f : Entries P) → NoneTwice (keys f) → NoneTwice (map place (spaces_in f))
unfolding spaces_in keys
spaces_once End h = tt
spaces_once (Entry e f g) h = once_by e f g h (spaces_once f (none_left (keys f) (keys g) h.1)) (spaces_once g (none_right (keys f) (keys g) h.1)) (space_text e)

lone_key : {P : Type 0} (k : Kind P) (u : DwUnit P) (p : P) → In p (map place (lone_of k u)) → In p (u.root.at ∷ keys u.below)
lone_key Compile u p (inl e) = inl e
lone_key Compile u p (inr r) = inr (space_key u.below p r)
lone_key (OfType signature main) u p h = absurd h
lone_key Partial u p h = absurd h

lone_once : {P : Type 0} (k : Kind P) (u : DwUnit P) → NoneTwice (u.root.at ∷ keys u.below) → NoneTwice (map place (lone_of k u))
lone_once Compile u h = ((λ i. h.0 (space_key u.below u.root.at i)), spaces_once u.below h.1)
lone_once (OfType signature main) u h = tt
lone_once Partial u h = tt

entries_key : {P : Type 0} (units : List (DwUnit P)) (p : P) → In p (map place (lone_entries units)) → In p (units_keys units)
unfolding lone_entries units_keys unit_keys
entries_key [] p h = absurd h
entries_key (u ∷ units) p h = elim (from_map place p (lone_of u.kind u) (lone_entries units) h) [
  | inl a ↦ in_left p (unit_keys u) (units_keys units) (inr (lone_key u.kind u p a))
  | inr b ↦ in_right p (unit_keys u) (units_keys units) (entries_key units p b)
]

entries_once : {P : Type 0} (units : List (DwUnit P)) → NoneTwice (units_keys units) → NoneTwice (map place (lone_entries units))
unfolding lone_entries units_keys unit_keys
entries_once [] h = tt
entries_once (u ∷ units) h =
    none_map_append place (lone_of u.kind u) (lone_entries units) (lone_once u.kind u (none_left (unit_keys u) (units_keys units) h).1) (entries_once units (none_right (unit_keys u) (units_keys units) h))
    (λ p a b. none_both (unit_keys u) (units_keys units) h p (inr (lone_key u.kind u p a)) (entries_key units p b))

pub keys_join : {P : Type 0} (us vs : List (DwUnit P)) → units_keys (us ++ vs) ≡ units_keys us ++ units_keys vs
unfolding units_keys
keys_join [] vs = refl
keys_join {P} (u ∷ us) vs = ap (λ (w : List P). unit_keys u ++ w) (keys_join us vs) ∙ sym (append_assoc (unit_keys u) (units_keys us) (units_keys vs))

-- ---- one number

module _ {P : Type 0} (s : Side P) (read : IsWellRead s.files) where
  pub one_top : (m n : ℕ) (t : CrossTop P) → IsNthTop s m t → IsNthTop s n t → m ≡ n
  one_top m n t h j = let same : AtPath m [] ≡ AtPath n [] = one_name s read t.node.at (AtPath m []) (AtPath n []) (t, h, refl) (t, j, refl) in cc

  pub one_lone : (m n : ℕ) (d : Node P) → IsNthLone s m d → IsNthLone s n d → m ≡ n
  one_lone m n d h j =
      let own : NoneTwice (units_keys s.files.own) = none_left (units_keys s.files.own) (units_keys s.files.common) (subst (λ (w : List P). NoneTwice w) (keys_join s.files.own s.files.common) read.apart) in
      nth_once place s.lone (lone_entries s.files.own) m n d (entries_once s.files.own own) h j

  -- ---- the type of a type unit

  pub type_path : (x : NumberedUnit P) → In x (own_units s) → (signature : ℕ) (main : P) → x.unit.kind ≡ OfType signature main
      → (path : List ℕ) × IsNameOf s main (AtPath x.top path) × StandsAlong (reverse path) x.unit.root x.unit.below main
  type_path x is signature main kind =
      let there = read.mains x.unit (unit_there s.own s.lone s.files.own x is) signature main kind in
      let way = path_to x.unit.root x.unit.below main (elim there [ inl r ↦ inl r | inr b ↦ inr (key_along x.unit.below main b) ]) in
      let turned = sym (reverse-reverse way.0) in
      let stands : StandsAlong (reverse (reverse way.0)) x.unit.root x.unit.below main = subst (λ (w : List ℕ). StandsAlong w x.unit.root x.unit.below main) turned way.1 in
      let numbered : IsNthTop s x.top (type_top x.unit) =
      inl (unit_top s.own s.lone s.files.own x x.top (type_top x.unit) is (subst (λ (k : Kind P). Nth x.top (unit_tops k x.unit) x.top (type_top x.unit)) (sym kind) (inl (refl, refl)))) in
      (reverse way.0, (type_top x.unit, numbered, stands), stands)
