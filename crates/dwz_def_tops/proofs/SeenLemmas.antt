-- What is seen of entries whose places are replaced, and of the entries of units.
use Rattle.std.proofs.Common.{◌≡◌, ℕ, List, [], ◌∷◌, ◌++◌, Option, Some, None, map, refl, sym, ap, subst, inl, inr}
use Rattle.std.proofs.lemmas.List.{map-append}
use Rattle.dwz_def_reading.specs.Documents.{Attr, Compile, DwUnit, Entries, Kind, Node, OfType, Partial, attr_map, entries_map, node_map, value_map}
use Rattle.dwz_def_reading.specs.Lists.{In}
use Rattle.dwz_def_reading.specs.Trees.{End, Entry}
use Rattle.dwz_def_reading.proofs.ListFacts.{in_cases, in_left, in_right}
use Rattle.dwz_def_tops.specs.Seen.{IsChild, Named, Seen, all_seen, heads, named_map, named_value, see, seen, seen_below, seen_inner, seen_inside, seen_map, seen_roots, seen_tops}
use Rattle.dwz_def_tops.specs.Spaces.{space_text}

-- ---- replaced places

pub heads_map : {P Q : Type 0} (h : P → Q) (f : Entries P) → heads (entries_map h f) ≡ map h (heads f)
unfolding heads entries_map
heads_map h End = refl
heads_map h (Entry e f g) = ap (λ (w : List _). h e.at ∷ w) (heads_map h g)

pub names_map : {P Q : Type 0} (h : P → Q) (attrs : List (Attr P)) → map named_value (map (attr_map h) attrs) ≡ map (named_map h) (map named_value attrs)
names_map h [] = refl
names_map h (a ∷ attrs) = ap (λ (w : List (Named _)). record { name = a.name; value = value_map h a.value } ∷ w) (names_map h attrs)

pub see_map : {P Q : Type 0} (h : P → Q) (e : Node P) (f : Entries P) → see (node_map h e) (entries_map h f) ≡ seen_map h (see e f)
see_map h e f = rw (names_map h e.attrs, heads_map h f) refl

pub seen_entries : {P Q : Type 0} (h : P → Q) (f : Entries P) → seen (entries_map h f) ≡ map (seen_map h) (seen f)
unfolding seen entries_map
seen_entries h End = refl
seen_entries h (Entry e f g) = rw (map-append (seen_map h) (seen f) (seen g), see_map h e f, seen_entries h f, seen_entries h g) refl

-- ---- in units

pub seen_in : {P : Type 0} (units : List (DwUnit P)) (u : DwUnit P) (e : Seen P) → In u units → In e (seen u.below) → In e (seen_below units)
unfolding seen_below
seen_in [] u e is h = absurd is
seen_in {P} (v ∷ units) u e (inl x) h = in_left e (seen v.below) (seen_below units) (subst (λ (w : DwUnit P). In e (seen w.below)) (sym x) h)
seen_in (v ∷ units) u e (inr r) h = in_right e (seen v.below) (seen_below units) (seen_in units u e r h)

pub record SeenFrom {P : Type 0} (units : List (DwUnit P)) (e : Seen P) : Type 0 where
  pub unit : DwUnit P
  pub there : In unit units
  pub is : In e (seen unit.below)

pub seen_from : {P : Type 0} (units : List (DwUnit P)) (e : Seen P) → In e (seen_below units) → SeenFrom units e
unfolding seen_below
seen_from [] e h = absurd h
seen_from (u ∷ units) e h = elim (in_cases e (seen u.below) (seen_below units) h) [
  | inl a ↦ record { unit = u; there = inl refl; is = a }
  | inr b ↦ (let o = seen_from units e b in record { unit = o.unit; there = inr o.there; is = o.is })
]

pub root_in : {P : Type 0} (units : List (DwUnit P)) (u : DwUnit P) → In u units → In (see u.root u.below) (seen_roots units)
unfolding seen_roots
root_in [] u h = absurd h
root_in {P} (v ∷ units) u (inl x) = inl (ap (λ (w : DwUnit P). see w.root w.below) x)
root_in (v ∷ units) u (inr r) = inr (root_in units u r)

pub record RootFrom {P : Type 0} (units : List (DwUnit P)) (e : Seen P) : Type 0 where
  pub unit : DwUnit P
  pub there : In unit units
  pub is : see unit.root unit.below ≡ e

pub root_from : {P : Type 0} (units : List (DwUnit P)) (e : Seen P) → In e (seen_roots units) → RootFrom units e
unfolding seen_roots
root_from [] e h = absurd h
root_from (v ∷ units) e (inl x) = record { unit = v; there = inl refl; is = x }
root_from (v ∷ units) e (inr r) = let o = root_from units e r in record { unit = o.unit; there = inr o.there; is = o.is }

pub entry_seen : {P : Type 0} (units : List (DwUnit P)) (u : DwUnit P) (e : Seen P) → In u units → In e (seen u.below) → In e (all_seen units)
entry_seen units u e is h = in_right e (seen_roots units) (seen_below units) (seen_in units u e is h)

pub root_seen : {P : Type 0} (units : List (DwUnit P)) (u : DwUnit P) → In u units → In (see u.root u.below) (all_seen units)
root_seen units u is = in_left (see u.root u.below) (seen_roots units) (seen_below units) (root_in units u is)

-- ---- entries of tops

pub tops_seen : {P : Type 0} (f : Entries P) (e : Seen P) → In e (seen_tops f) → In e (seen f)
unfolding seen_tops seen
tops_seen End e h = h
tops_seen {P} (Entry d f g) e h = go (tops_seen f e) (tops_seen g e) (space_text d) h where
  go : (In e (seen_tops f) → In e (seen f)) → (In e (seen_tops g) → In e (seen g)) → (o : Option (List ℕ))
      → In e (elim o as (λ _. List (Seen P)) [ None ↦ see d f ∷ (seen f ++ seen_tops g) | Some s ↦ seen_tops f ++ seen_tops g ]) → In e (see d f ∷ (seen f ++ seen g))
  go inner rest None (inl x) = inl x
  go inner rest None (inr r) = inr (elim (in_cases e (seen f) (seen_tops g) r) [ inl a ↦ in_left e (seen f) (seen g) a | inr b ↦ in_right e (seen f) (seen g) (rest b) ])
  go inner rest (Some s) r = inr (elim (in_cases e (seen_tops f) (seen_tops g) r) [ inl a ↦ in_left e (seen f) (seen g) (inner a) | inr b ↦ in_right e (seen f) (seen g) (rest b) ])

pub inside_seen : {P : Type 0} (k : Kind P) (f : Entries P) (e : Seen P) → In e (seen_inside k f) → In e (seen f)
inside_seen Compile f e h = tops_seen f e h
inside_seen (OfType signature main) f e h = h
inside_seen Partial f e h = tops_seen f e h

pub record InnerFrom {P : Type 0} (units : List (DwUnit P)) (e : Seen P) : Type 0 where
  pub unit : DwUnit P
  pub there : In unit units
  pub is : In e (seen_inside unit.kind unit.below)

pub inner_from : {P : Type 0} (units : List (DwUnit P)) (e : Seen P) → In e (seen_inner units) → InnerFrom units e
unfolding seen_inner
inner_from [] e h = absurd h
inner_from (u ∷ units) e h = elim (in_cases e (seen_inside u.kind u.below) (seen_inner units) h) [
  | inl a ↦ record { unit = u; there = inl refl; is = a }
  | inr b ↦ (let o = inner_from units e b in record { unit = o.unit; there = inr o.there; is = o.is })
]

-- ---- children

-- a child is seen with its attributes
pub child_seen : {P : Type 0} (e : Node P) (g : Entries P) → IsChild e g → (d : Seen P) × In d (seen g) × (d.attrs ≡ map named_value e.attrs)
unfolding seen
child_seen e End h = absurd h
child_seen {P} e (Entry d f g) (inl x) = (see d f, inl refl, ap (λ (w : Node P). map named_value w.attrs) x)
child_seen e (Entry d f g) (inr r) = let o = child_seen e g r in (o.0, inr (in_right o.0 (seen f) (seen g) o.1), o.2)
