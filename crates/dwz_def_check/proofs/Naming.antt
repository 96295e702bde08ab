-- Each entry has one name.
use Rattle.std.proofs.Common.{◌≡◌, ℕ, suc, List, [], ◌∷◌, ◌++◌, refl, sym, ap, subst, ◌∙◌, inl, inr}
use Rattle.std.specs.Prelude.{reverse}
use Rattle.std.proofs.lemmas.List.{reverse-reverse}
use Rattle.dwz_def_reading.specs.Documents.{Compile, DwUnit, Entries, Kind, Node, OfType, Partial}
use Rattle.dwz_def_reading.specs.Trees.{End, Entry}
use Rattle.dwz_def_reading.specs.Lists.{In}
use Rattle.dwz_def_reading.proofs.ListFacts.{in_cases, in_left, in_right}
use Rattle.dwz_def_tops.specs.Lists.{Nth}
use Rattle.dwz_def_tops.specs.Seen.{IsPartial, Seen, all_seen, see, seen, seen_below, seen_roots}
use Rattle.dwz_def_tops.specs.Shown.{keys}
use Rattle.dwz_def_tops.specs.Spaces.{IsSpace}
use Rattle.dwz_def_tops.proofs.SeenLemmas.{entry_seen, root_from, root_seen, seen_from}
use Rattle.dwz_def_cross.specs.Tops.{CrossTop, IsTopOf, StandsAlong, type_top, unless_partial, units_with_common, whole_units}
use Rattle.dwz_def_cross.proofs.TopPlaces.{InSpace, InTop, along, top_at, where_in}
use Rattle.dwz_def_check.specs.CrossNames.{AtPath, CrossName, IsNameOf, IsNamedSide, IsWellRead, PartRoot, PartSpace, Side, WholeRoot, WholeSpace, cross_names, cross_names_from, cross_names_under, cross_unit_names}
use Rattle.dwz_def_check.proofs.NameLists.{compile_from, one_from, partial_from, place_unit, space_under, top_from}
use Rattle.dwz_def_check.proofs.TopLists.{numbered}

-- ---- a name stands in the list with its place

space_in : {P : Type 0} (k m : ℕ) (space : List (List ℕ) → CrossName) (names : List (List ℕ)) (e : Node P) (u : DwUnit P) (p : P) → IsSpace names e u.below → e.at ≡ p → (kind : Kind P)
    → ((x : P × CrossName) → In x (cross_names_under space [] m u.below) → In x (cross_unit_names k m kind u)) → In (p, space names) (cross_unit_names k m kind u)
space_in {P} k m space names e u p s at kind inside =
    subst (λ (w : P × List (List ℕ)). In (w.0, space w.1) (cross_unit_names k m kind u)) (λ i. (at i, sym s.names_are i))
    (inside (e.at, space (s.outer ++ s.text ∷ [])) (space_under space [] s.outer m s.text e u.below s.under s.own))

partial_in : {P : Type 0} (s : Side P) (u : DwUnit P) (x : P × CrossName) → In u (units_with_common s.files) → IsPartial u.kind → ((j m : ℕ) → In x (cross_unit_names j m Partial u)) → In x (cross_names s)
partial_in s u x there p here = elim (in_cases u s.files.own s.files.common there) [
  | inl a ↦ in_left x (cross_names_from 0 s.own s.files.own) (cross_names_from 0 s.common s.files.common) (partial_from 0 s.own s.files.own u x a p here)
  | inr b ↦ in_right x (cross_names_from 0 s.own s.files.own) (cross_names_from 0 s.common s.files.common) (partial_from 0 s.common s.files.common u x b p here)
]

turned : {P : Type 0} (p : P) (n : ℕ) (path : List ℕ) (all : List (P × CrossName)) → In (p, AtPath n (reverse (reverse path))) all → In (p, AtPath n path) all
turned p n path all h = subst (λ (w : List ℕ). In (p, AtPath n w) all) (reverse-reverse path) h

pub names_in : {P : Type 0} (s : Side P) (p : P) (x : CrossName) → IsNameOf s p x → In (p, x) (cross_names s)
names_in s p (AtPath n path) (t, inl nth, stands) =
    in_left (p, AtPath n path) (cross_names_from 0 s.own s.files.own) (cross_names_from 0 s.common s.files.common)
    (turned p n path (cross_names_from 0 s.own s.files.own) (top_from 0 s.own n s.files.own t (reverse path) p stands nth))
names_in s p (AtPath n path) (t, inr nth, stands) =
    in_right (p, AtPath n path) (cross_names_from 0 s.own s.files.own) (cross_names_from 0 s.common s.files.common)
    (turned p n path (cross_names_from 0 s.common s.files.common) (top_from 0 s.common n s.files.common t (reverse path) p stands nth))
names_in s p (WholeRoot n) h =
    in_left (p, WholeRoot n) (cross_names_from 0 s.own s.files.own) (cross_names_from 0 s.common s.files.common)
    (compile_from 0 s.own n s.files.own h.unit (p, WholeRoot n) h.kind (λ m. inl (λ i. (h.at i, WholeRoot n))) h.nth)
names_in s p (WholeSpace n names) h =
    in_left (p, WholeSpace n names) (cross_names_from 0 s.own s.files.own) (cross_names_from 0 s.common s.files.common)
    (compile_from 0 s.own n s.files.own h.unit (p, WholeSpace n names) h.kind (λ m. space_in n m (WholeSpace n) names h.entry h.unit p h.space h.at Compile (λ x i. inr i)) h.nth)
names_in s p PartRoot h = partial_in s h.unit (p, PartRoot) h.there h.kind (λ j m. inl (λ i. (h.at i, PartRoot)))
names_in s p (PartSpace names) h = partial_in s h.unit (p, PartSpace names) h.there h.kind (λ j m. space_in j m PartSpace names h.entry h.unit p h.space h.at Partial (λ x i. inr i))

pub one_name : {P : Type 0} (s : Side P) → IsWellRead s.files → (p : P) (x y : CrossName) → IsNameOf s p x → IsNameOf s p y → x ≡ y
one_name s read p x y h j = one_from 0 s.own 0 s.common s.files.own s.files.common read.apart p x y (names_in s p x h) (names_in s p y j)

-- ---- an entry has a name

pub record WholeAt {P : Type 0} (k : ℕ) (units : List (DwUnit P)) (u : DwUnit P) : Type 0 where
  pub number : ℕ
  pub nth : Nth k (whole_units units) number u

whole_by : {P : Type 0} (k : ℕ) (v : DwUnit P) (units : List (DwUnit P)) (u : DwUnit P) → In u units → ((j : ℕ) → WholeAt j units u) → (kind : Kind P)
    → (n : ℕ) × Nth k (unless_partial kind v (whole_units units)) n u
whole_by k v units u is behind Partial = let w = behind k in (w.number, w.nth)
whole_by k v units u is behind Compile = let w = behind (suc k) in (w.number, inr w.nth)
whole_by k v units u is behind (OfType signature main) = let w = behind (suc k) in (w.number, inr w.nth)

whole_here : {P : Type 0} (k : ℕ) (v : DwUnit P) (rest : List (DwUnit P)) (u : DwUnit P) (kind : Kind P) → v.kind ≡ kind → v ≡ u → u.kind ≡ Compile → Nth k (unless_partial kind v rest) k u
whole_here k v rest u Compile q e c = inl (refl, e)
whole_here k v rest u (OfType signature main) q e c = inl (refl, e)
whole_here {P} k v rest u Partial q e c = let same : Partial ≡ Compile = sym q ∙ ap (λ (w : DwUnit P). w.kind) e ∙ c in absurd cc

pub whole_at : {P : Type 0} (k : ℕ) (units : List (DwUnit P)) (u : DwUnit P) → In u units → u.kind ≡ Compile → WholeAt k units u
unfolding whole_units
whole_at k [] u is c = absurd is
whole_at k (v ∷ units) u (inl e) c = record { number = k; nth = whole_here k v (whole_units units) u v.kind refl e c }
whole_at k (v ∷ units) u (inr r) c = let o = whole_by k v units u r (λ j. whole_at j units u r c) v.kind in record { number = o.0; nth = o.1 }

abbrev NameFor : {P : Type 0} → Side P → P → Type 0
NameFor s p = (x : CrossName) × IsNameOf s p x

top_named : {P : Type 0} (s : Side P) (t : CrossTop P) (u : DwUnit P) (path : List ℕ) (p : P) → In u (units_with_common s.files) → IsTopOf u.kind u t → StandsAlong path t.node t.below p → NameFor s p
top_named s t u path p there is stands =
    let n = numbered s t (u, there, is) in
    (AtPath n.0 (reverse path), (t, n.1, subst (λ (w : List ℕ). StandsAlong w t.node t.below p) (sym (reverse-reverse path)) stands))

module _ {P : Type 0} (s : Side P) (read : IsWellRead s.files) where
  part_named : (u : DwUnit P) → In u (units_with_common s.files) → (kind : Kind P) → u.kind ≡ kind → IsPartial kind → NameFor s u.root.at
  part_named u there kind q p = (PartRoot, record { unit = u; there = there; kind = subst (λ (k : Kind P). IsPartial k) (sym q) p; at = refl })

  root_by : (u : DwUnit P) → In u (units_with_common s.files) → (kind : Kind P) → u.kind ≡ kind → NameFor s u.root.at
  root_by u there Partial q = part_named u there Partial q tt
  root_by u there (OfType signature main) q = top_named s (type_top u) u [] u.root.at there (subst (λ (k : Kind P). IsTopOf k u (type_top u)) (sym q) (refl, refl, refl)) refl
  root_by u there Compile q = elim (in_cases u s.files.own s.files.common there) [
    | inl a ↦ (let w = whole_at 0 s.files.own u a q in (WholeRoot w.number, record { unit = u; nth = w.nth; kind = q; at = refl }))
    | inr b ↦ absurd (subst (λ (k : Kind P). IsPartial k) q (read.partial u b))
  ]

  inner_by : (u : DwUnit P) → In u (units_with_common s.files) → (d : Seen P) → (kind : Kind P) → u.kind ≡ kind → In d (seen u.below) → NameFor s d.at
  inner_by u there d Partial q i = elim (where_in u.below d i) [
    | InSpace names e space at ↦ (PartSpace names, record { unit = u; there = there; kind = subst (λ (k : Kind P). IsPartial k) (sym q) tt; entry = e; space = space; at = at })
    | InTop names e below stands path along ↦ top_named s (top_at names e below) u path d.at there (subst (λ (k : Kind P). IsTopOf k u (top_at names e below)) (sym q) (stands names)) along
  ]
  inner_by u there d Compile q i = elim (where_in u.below d i) [
    | InSpace names e space at ↦ elim (in_cases u s.files.own s.files.common there) [
      | inl a ↦ (let w = whole_at 0 s.files.own u a q in (WholeSpace w.number names, record { unit = u; nth = w.nth; kind = q; entry = e; space = space; at = at }))
      | inr b ↦ absurd (subst (λ (k : Kind P). IsPartial k) q (read.partial u b))
    ]
    | InTop names e below stands path along ↦ top_named s (top_at names e below) u path d.at there (subst (λ (k : Kind P). IsTopOf k u (top_at names e below)) (sym q) (stands names)) along
  ]
  inner_by u there d (OfType signature main) q i =
      let o = along u.below d i in
      top_named s (type_top u) u (o.index ∷ o.path) d.at there (subst (λ (k : Kind P). IsTopOf k u (type_top u)) (sym q) (refl, refl, refl)) (o.node, o.below, o.nth, o.stands)

  pub each_name : (d : Seen P) → In d (all_seen (units_with_common s.files)) → NameFor s d.at
  each_name d i = elim (in_cases d (seen_roots (units_with_common s.files)) (seen_below (units_with_common s.files)) i) [
    | inl a ↦ (let o = root_from (units_with_common s.files) d a in subst (λ (w : Seen P). NameFor s w.at) o.is (root_by o.unit o.there o.unit.kind refl))
    | inr b ↦ (let o = seen_from (units_with_common s.files) d b in inner_by o.unit o.there d o.unit.kind refl o.is)
  ]

-- ---- the list has just these

key_seen : {P : Type 0} (f : Entries P) (p : P) → In p (keys f) → (d : Seen P) × In d (seen f) × (d.at ≡ p)
unfolding keys seen
key_seen End p h = absurd h
key_seen (Entry e f g) p (inl a) = (see e f, inl refl, a)
key_seen (Entry e f g) p (inr r) = elim (in_cases p (keys f) (keys g) r) [
  | inl a ↦ (let o = key_seen f p a in (o.0, inr (in_left o.0 (seen f) (seen g) o.1), o.2))
  | inr b ↦ (let o = key_seen g p b in (o.0, inr (in_right o.0 (seen f) (seen g) o.1), o.2))
]

place_seen : {P : Type 0} (units : List (DwUnit P)) (u : DwUnit P) (p : P) → In u units → In p (u.root.at ∷ keys u.below) → (d : Seen P) × In d (all_seen units) × (d.at ≡ p)
place_seen units u p there (inl a) = (see u.root u.below, root_seen units u there, a)
place_seen units u p there (inr r) = let o = key_seen u.below p r in (o.0, entry_seen units u o.0 there o.1, o.2)

pub in_names : {P : Type 0} (s : Side P) → IsWellRead s.files → (p : P) (x : CrossName) → In (p, x) (cross_names s) → IsNameOf s p x
in_names {P} s read p x h =
    let o = place_unit 0 s.own 0 s.common s.files.own s.files.common p x h in
    let d = place_seen (units_with_common s.files) o.unit p o.there o.is in
    let n = each_name s read d.0 d.1 in
    let named : IsNameOf s p n.0 = subst (λ (q : P). IsNameOf s q n.0) d.2 n.1 in
    subst (λ (y : CrossName). IsNameOf s p y) (one_from 0 s.own 0 s.common s.files.own s.files.common read.apart p n.0 x (names_in s p n.0 named) h) named

pub named_by : {P : Type 0} (s : Side P) → IsWellRead s.files → ((p : P) (x : CrossName) → In (p, x) (cross_names s) → s.name p ≡ x) → IsNamedSide s
named_by s read same d i =
    let n = each_name s read d i in
    subst (λ (x : CrossName). IsNameOf s d.at x) (sym (same d.at n.0 (names_in s d.at n.0 n.1))) n.1
