-- Nodes have one class exactly if they are alike; and each root, space and top of a unit has a number.
use Rattle.std.proofs.Common.{◌≡◌, ℕ, ◌<◌, ◌≤◌, List, [], ◌∷◌, ◌++◌, length, Option, Some, None, sym, ap, subst, ◌∙◌, inl, inr, arith}
use Rattle.std.specs.Prelude.{slice_index}
use Rattle.dwz_def_reading.specs.Documents.{Compile, DwUnit, Entries, Kind, Node as EntryNode, OfType, Partial}
use Rattle.dwz_def_reading.specs.Lists.{In}
use Rattle.dwz_def_reading.specs.Trees.{End, Entry}
use Rattle.dwz_def_reading.proofs.ListFacts.{in_left, in_right}
use Rattle.dwz_def_tops.specs.Seen.{IsPartial}
use Rattle.dwz_def_tops.specs.Spaces.{IsSpace, IsUnder, space_text}
use Rattle.dwz_def_tops.proofs.Members.{in_nth}
use Rattle.dwz_nodes.specs.Graph.{Node}
use Rattle.dwz_nodes.specs.Looks.{Alike, IsRefined, LookEqual}
use Rattle.dwz_nodes.proofs.Looks.{look-sym, look-trans}
use Rattle.dwz_def_cross.specs.Tops.{CrossTop, IsCrossTop, IsExpanded, IsTopOf, StandsUnder, units_with_common}
use Rattle.dwz_def_check.specs.CrossNames.{IsNthTop, Side}
use Rattle.dwz_def_check.specs.CrossNodes.{IsNthLone, lone_entries, lone_of, spaces_in}
use Rattle.dwz_def_check.proofs.TopLists.{numbered}

-- ---- classes

module _ (g : List Node) (classes : List ℕ) (refined : IsRefined g classes) where
  pub class_alike : (m n : ℕ) → m < length g → n < length g → slice_index classes m ≡ slice_index classes n → Alike g m n
  class_alike m n x y e k =
      let a = (refined.each m x).is k in
      let b = (refined.each n y).is k in
      look-trans g k m (slice_index classes m) n a (subst (λ (c : ℕ). LookEqual g k c n) (sym e) (look-sym g k n (slice_index classes n) b))

  class_least : (m n : ℕ) → m < length g → n < length g → Alike g m n → slice_index classes m ≤ slice_index classes n
  class_least m n x y h =
      let b = refined.each n y in
      (refined.each m x).least (slice_index classes n) b.inside (λ k. look-trans g k m n (slice_index classes n) (h k) (b.is k))

  pub alike_class : (m n : ℕ) → m < length g → n < length g → Alike g m n → slice_index classes m ≡ slice_index classes n
  alike_class m n x y h =
      let low = class_least m n x y h in
      let high = class_least n m y x (λ k. look-sym g k m n (h k)) in
      omega arith

-- ---- numbers of roots and spaces

abbrev spaces_by : {P : Type 0} → EntryNode P → Entries P → Entries P → Option (List ℕ) → List (EntryNode P)
spaces_by {P} e f g o = elim o as (λ _. List (EntryNode P)) [ None ↦ spaces_in g | Some text ↦ e ∷ spaces_in f ++ spaces_in g ]

later_space : {P : Type 0} (e : EntryNode P) (f g : Entries P) (d : EntryNode P) (o : Option (List ℕ)) → In d (spaces_in g) → In d (spaces_by e f g o)
later_space e f g d None h = h
later_space e f g d (Some text) h = inr (in_right d (spaces_in f) (spaces_in g) h)

space_among : {P : Type 0} (outer : List (List ℕ)) (text : List ℕ) (d : EntryNode P) (f : Entries P) → IsUnder outer d f → space_text d ≡ Some text → In d (spaces_in f)
unfolding spaces_in
space_among outer text d End h own = absurd h
space_among {P} outer text d (Entry e f g) (inl x) own =
    let named : space_text e ≡ Some text = ap (λ (w : EntryNode P). space_text w) x.1 ∙ own in
    let one : In d (spaces_by e f g (Some text)) = inl x.1 in
    subst (λ (o : Option (List ℕ)). In d (spaces_by e f g o)) (sym named) one
space_among {P} outer text d (Entry e f g) (inr (inl i)) own =
    let one : In d (spaces_by e f g (Some i.0)) = inr (in_left d (spaces_in f) (spaces_in g) (space_among i.1 text d f i.4 own)) in
    subst (λ (o : Option (List ℕ)). In d (spaces_by e f g o)) (sym i.2) one
space_among outer text d (Entry e f g) (inr (inr r)) own = later_space e f g d (space_text e) (space_among outer text d g r own)

lone_in : {P : Type 0} (units : List (DwUnit P)) (u : DwUnit P) (d : EntryNode P) → In u units → In d (lone_of u.kind u) → In d (lone_entries units)
unfolding lone_entries
lone_in [] u d is h = absurd is
lone_in {P} (v ∷ units) u d (inl same) h = in_left d (lone_of v.kind v) (lone_entries units) (subst (λ (w : DwUnit P). In d (lone_of w.kind w)) (sym same) h)
lone_in (v ∷ units) u d (inr r) h = in_right d (lone_of v.kind v) (lone_entries units) (lone_in units u d r h)

lone_number : {P : Type 0} (s : Side P) (u : DwUnit P) (d : EntryNode P) → In u s.files.own → u.kind ≡ Compile → In d (lone_of Compile u) → (n : ℕ) × IsNthLone s n d
lone_number {P} s u d is kind h =
    let f = in_nth s.lone (lone_entries s.files.own) d (lone_in s.files.own u d is (subst (λ (k : Kind P). In d (lone_of k u)) (sym kind) h)) in
    (f.number, f.nth)

pub space_number : {P : Type 0} (s : Side P) (u : DwUnit P) (names : List (List ℕ)) (d : EntryNode P) → In u s.files.own → u.kind ≡ Compile → IsSpace names d u.below → (n : ℕ) × IsNthLone s n d
space_number s u names d is kind h = lone_number s u d is kind (inr (space_among h.outer h.text d u.below h.under h.own))

-- ---- numbers of tops, imports expanded

partial_top : {P : Type 0} (k : Kind P) (u : DwUnit P) (t : CrossTop P) → IsPartial k → StandsUnder t.names t u.below → IsTopOf k u t
partial_top Partial u t p h = h
partial_top Compile u t p h = absurd p
partial_top (OfType signature main) u t p h = absurd p

expanded_top : {P : Type 0} (units : List (DwUnit P)) (u : DwUnit P) (t : CrossTop P) → In u units → u.kind ≡ Compile → IsExpanded units u t → IsCrossTop units t
expanded_top {P} units u t is kind (inl h) = (u, is, subst (λ (k : Kind P). IsTopOf k u t) (sym kind) h.0)
expanded_top units u t is kind (inr (e, v, child, import, plain)) = (v, import.unit, partial_top v.kind v t import.partial plain.0)

pub expanded_number : {P : Type 0} (s : Side P) (u : DwUnit P) (t : CrossTop P) → In u s.files.own → u.kind ≡ Compile → IsExpanded (units_with_common s.files) u t → (n : ℕ) × IsNthTop s n t
expanded_number s u t is kind h = numbered s t (expanded_top (units_with_common s.files) u t (in_left u s.files.own s.files.common is) kind h)
