-- What entries name is called by its name: the entries of tops, and roots and spaces.
use Rattle.std.proofs.Common.{◌≡◌, ℕ, List, [], ◌∷◌, ◌++◌, map, Option, Some, None, refl, sym, ap, subst, inl, inr}
use Rattle.dwz_def_reading.specs.Documents.{Attr, Compile, DwUnit, Entries, Kind, Node, OfType, Partial}
use Rattle.dwz_def_reading.specs.Lists.{In}
use Rattle.dwz_def_reading.specs.Trees.{End, Entry}
use Rattle.dwz_def_reading.proofs.ListFacts.{in_cases, in_left, in_right}
use Rattle.dwz_def_tops.specs.Seen.{Named, Seen, all_seen, named_value, see, seen}
use Rattle.dwz_def_tops.specs.Spaces.{space_text}
use Rattle.dwz_def_tops.proofs.Members.{nth_in}
use Rattle.dwz_def_tops.proofs.SeenLemmas.{entry_seen, root_seen}
use Rattle.dwz_def_cross.specs.Tops.{CrossTop, IsCrossTop, IsTopOf, units_with_common}
use Rattle.dwz_def_cross.proofs.TopPlaces.{top_seen}
use Rattle.dwz_def_check.specs.CrossNames.{IsNameOf, IsNamedSide, IsNthTop, IsWellRead, Side}
use Rattle.dwz_def_check.specs.CrossNodes.{IsNthLone, lone_entries, lone_of, spaces_in}
use Rattle.dwz_def_check.proofs.TopLists.{numbered_top}

-- what these attributes name
abbrev pub AttrsKnown : {P : Type 0} → Side P → List (Attr P) → Type 0
AttrsKnown {P} s attrs = (a : Named P) → In a (map named_value attrs) → (p : P) → In p a.value.refs → IsNameOf s p (s.name p)

-- so below a top
abbrev pub BelowKnown : {P : Type 0} → Side P → Entries P → Type 0
BelowKnown s End = Unit {0}
BelowKnown s (Entry e f g) = AttrsKnown s e.attrs × BelowKnown s f × BelowKnown s g

pub record TopKnown {P : Type 0} (s : Side P) (t : CrossTop P) : Type 0 where
  pub node : AttrsKnown s t.node.attrs
  pub below : BelowKnown s t.below

-- ---- entries that are seen

pub record SeenTop {P : Type 0} (units : List (DwUnit P)) (t : CrossTop P) : Type 0 where
  pub here : In (see t.node t.below) (all_seen units)
  pub below : (d : Seen P) → In d (seen t.below) → In d (all_seen units)

seen_by : {P : Type 0} (units : List (DwUnit P)) (u : DwUnit P) (t : CrossTop P) → In u units → (k : Kind P) → IsTopOf k u t → SeenTop units t
seen_by units u t there Compile h = let o = top_seen t.names t u.below h in record { here = entry_seen units u (see t.node t.below) there o.0; below = λ d i. entry_seen units u d there (o.1 d i) }
seen_by units u t there Partial h = let o = top_seen t.names t u.below h in record { here = entry_seen units u (see t.node t.below) there o.0; below = λ d i. entry_seen units u d there (o.1 d i) }
seen_by {P} units u t there (OfType signature main) h = record {
  here = subst (λ (w : Node P × Entries P). In (see w.0 w.1) (all_seen units)) (λ i. (sym h.1 i, sym h.2 i)) (root_seen units u there);
  below = λ d i. entry_seen units u d there (subst (λ (w : Entries P). In d (seen w)) h.2 i);
}

pub top_among : {P : Type 0} (units : List (DwUnit P)) (t : CrossTop P) → IsCrossTop units t → SeenTop units t
top_among units t h = seen_by units h.0 t h.1 h.0.kind h.2

-- a space is seen
abbrev spaces_by : {P : Type 0} → Node P → Entries P → Entries P → Option (List ℕ) → List (Node P)
spaces_by {P} e f g o = elim o as (λ _. List (Node P)) [ None ↦ spaces_in g | Some text ↦ e ∷ spaces_in f ++ spaces_in g ]

abbrev SeenSpace : {P : Type 0} → Node P → Entries P → Type 0
SeenSpace {P} d f = (below : Entries P) × In (see d below) (seen f)

seen_later : {P : Type 0} (e : Node P) (f g : Entries P) (d : Node P) → SeenSpace d g → SeenSpace d (Entry e f g)
unfolding seen
seen_later e f g d o = (o.0, inr (in_right (see d o.0) (seen f) (seen g) o.1))

seen_inner : {P : Type 0} (e : Node P) (f g : Entries P) (d : Node P) → SeenSpace d f → SeenSpace d (Entry e f g)
unfolding seen
seen_inner e f g d o = (o.0, inr (in_left (see d o.0) (seen f) (seen g) o.1))

seen_here : {P : Type 0} (e : Node P) (f g : Entries P) (d : Node P) → e ≡ d → SeenSpace d (Entry e f g)
unfolding seen
seen_here {P} e f g d same = (f, inl (ap (λ (w : Node P). see w f) same))

space_by : {P : Type 0} (e : Node P) (f g : Entries P) (d : Node P) → (In d (spaces_in f) → SeenSpace d f) → (In d (spaces_in g) → SeenSpace d g) → (o : Option (List ℕ)) → In d (spaces_by e f g o) → SeenSpace d (Entry e f g)
space_by e f g d inside behind None h = seen_later e f g d (behind h)
space_by e f g d inside behind (Some text) (inl same) = seen_here e f g d same
space_by e f g d inside behind (Some text) (inr r) = elim (in_cases d (spaces_in f) (spaces_in g) r) [ inl a ↦ seen_inner e f g d (inside a) | inr b ↦ seen_later e f g d (behind b) ]

space_seen : {P : Type 0} (f : Entries P) (d : Node P) → In d (spaces_in f) → SeenSpace d f
unfolding spaces_in
space_seen End d h = absurd h
space_seen (Entry e f g) d h = space_by e f g d (space_seen f d) (space_seen g d) (space_text e) h

-- so are roots and spaces
pub record SeenLone {P : Type 0} (units : List (DwUnit P)) (d : Node P) : Type 0 where
  pub below : Entries P
  pub here : In (see d below) (all_seen units)

lone_by : {P : Type 0} (units : List (DwUnit P)) (u : DwUnit P) (k : Kind P) (d : Node P) → In u units → In d (lone_of k u) → SeenLone units d
lone_by {P} units u Compile d there (inl same) = record { below = u.below; here = subst (λ (w : Node P). In (see w u.below) (all_seen units)) same (root_seen units u there) }
lone_by units u Compile d there (inr r) = let o = space_seen u.below d r in record { below = o.0; here = entry_seen units u (see d o.0) there o.1 }
lone_by units u (OfType signature main) d there h = absurd h
lone_by units u Partial d there h = absurd h

lone_seen : {P : Type 0} (all units : List (DwUnit P)) (d : Node P) → ((u : DwUnit P) → In u units → In u all) → In d (lone_entries units) → SeenLone all d
unfolding lone_entries
lone_seen all [] d more h = absurd h
lone_seen all (u ∷ units) d more h = elim (in_cases d (lone_of u.kind u) (lone_entries units) h) [
  | inl a ↦ lone_by all u u.kind d (more u (inl refl)) a
  | inr b ↦ lone_seen all units d (λ x i. more x (inr i)) b
]

pub lone_among : {P : Type 0} (s : Side P) (n : ℕ) (d : Node P) → IsNthLone s n d → SeenLone (units_with_common s.files) d
lone_among s n d h = lone_seen (units_with_common s.files) s.files.own d (λ u i. in_left u s.files.own s.files.common i) (nth_in s.lone (lone_entries s.files.own) n d h)

-- ---- what they name

module _ {P : Type 0} (s : Side P) (read : IsWellRead s.files) (named : IsNamedSide s) where
  pub entry_known : (e : Seen P) (attrs : List (Attr P)) → In e (all_seen (units_with_common s.files)) → e.attrs ≡ map named_value attrs → AttrsKnown s attrs
  entry_known e attrs there same a i p r =
      let o = read.closed e a p there (subst (λ (l : List (Named P)). In a l) (sym same) i) r in
      subst (λ (q : P). IsNameOf s q (s.name q)) o.2 (named o.0 o.1)

  pub lone_known : (n : ℕ) (d : Node P) → IsNthLone s n d → AttrsKnown s d.attrs
  lone_known n d h = let o = lone_among s n d h in entry_known (see d o.below) d.attrs o.here refl

  below_known : (f : Entries P) → ((d : Seen P) → In d (seen f) → In d (all_seen (units_with_common s.files))) → BelowKnown s f
  unfolding seen
  below_known End h = tt
  below_known (Entry e f g) h = (
    entry_known (see e f) e.attrs (h (see e f) (inl refl)) refl,
    below_known f (λ d i. h d (inr (in_left d (seen f) (seen g) i))),
    below_known g (λ d i. h d (inr (in_right d (seen f) (seen g) i))),
  )

  pub top_known : (n : ℕ) (t : CrossTop P) → IsNthTop s n t → TopKnown s t
  top_known n t h =
      let o = top_among (units_with_common s.files) t (numbered_top s n t h) in
      record { node = entry_known (see t.node t.below) t.node.attrs o.here refl; below = below_known t.below o.below }
