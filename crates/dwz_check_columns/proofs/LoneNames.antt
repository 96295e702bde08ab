-- The name lists of roots and spaces are those in their names.
use Rattle.std.proofs.Common.{◌≡◌, ℕ, suc, ◌+◌, List, [], ◌∷◌, ◌++◌, length, Option, Some, None, slice_get, refl, sym, ap, subst, ◌∙◌, inl, inr, arith}
use Rattle.std.proofs.lemmas.List.{append-nil}
use Rattle.dwz_model.specs.Lists.{In, NoneTwice}
use Rattle.dwz_model.proofs.ListFacts.{got_below, got_in, got_there, in_left, in_right, same_got}
use Rattle.dwz_model.proofs.OnceLemmas.{none_left}
use Rattle.dwz_def_reading.specs.Documents.{Compile, DwUnit, Entries, Kind, Node, OfType, Partial}
use Rattle.dwz_def_reading.specs.Trees.{End, Entry}
use Rattle.dwz_def_tops.specs.Shown.{units_keys}
use Rattle.dwz_def_tops.specs.Spaces.{space_text, tops_under}
use Rattle.dwz_def_cross.specs.CrossSame.{EachTwo}
use Rattle.dwz_def_cross.specs.Tops.{WithCommon}
use Rattle.dwz_def_check.specs.CrossNames.{AtPath, CrossName, IsWellRead, WholeRoot, WholeSpace, cross_names_below, cross_names_from, cross_names_under, cross_unit_names, next_whole, unit_tops}
use Rattle.dwz_def_check.specs.CrossNodes.{lone_entries, lone_of, spaces_in}
use Rattle.dwz_def_check.proofs.NameLists.{one_from}
use Rattle.dwz_def_check.proofs.UnitNumbers.{keys_join}
use Rattle.dwz_check_index.specs.Index.{Called, CrossIndex, IsCrossIndex, ListedEntry, listed_units, names_in}
use Rattle.dwz_check_index.specs.declared.index.CrossStarts.{CrossStarts}
use Rattle.dwz_check_columns.specs.Drawn.{lists_below, lists_of, lone_lists}
use Rattle.dwz_check_columns.proofs.TwoLists.{two_append, two_at, two_long}

-- ---- entries and their name lists, one by one

-- the place of the entry has a name with these names in it
abbrev IsNamed : List Called → Node ℕ → List (List ℕ) → Type 0
IsNamed all d names = (c : CrossName) × In (d.at, c) all × (names_in c ≡ names)

abbrev AreThere : List Called → List Called → Type 0
AreThere all names = (x : Called) → In x names → In x all

abbrev names_by : ℕ → List (List ℕ) → ℕ → Node ℕ → Entries ℕ → Entries ℕ → Option (List ℕ) → List Called
names_by n names top e children next o = elim o as (λ _. List Called) [
  | None ↦ (e.at, AtPath top []) ∷ cross_names_below top [] 0 children ++ cross_names_under (WholeSpace n) names (suc top) next
  | Some text ↦ (e.at, WholeSpace n (names ++ text ∷ []))
      ∷ cross_names_under (WholeSpace n) (names ++ text ∷ []) top children ++ cross_names_under (WholeSpace n) names (top + tops_under children) next
]

abbrev spaces_by : Node ℕ → Entries ℕ → Entries ℕ → Option (List ℕ) → List (Node ℕ)
spaces_by e f g o = elim o as (λ _. List (Node ℕ)) [ None ↦ spaces_in g | Some text ↦ e ∷ spaces_in f ++ spaces_in g ]

abbrev lists_by : List (List ℕ) → Entries ℕ → Entries ℕ → Option (List ℕ) → List (List (List ℕ))
lists_by names f g o = elim o as (λ _. List (List (List ℕ))) [
  | None ↦ lists_below names g
  | Some text ↦ (names ++ text ∷ []) ∷ lists_below (names ++ text ∷ []) f ++ lists_below names g
]

module _ (all : List Called) where
  abbrev AreNamed : List (List ℕ) → Entries ℕ → Type 0
  AreNamed names f = EachTwo (IsNamed all) (spaces_in f) (lists_below names f)

  named_by : (n : ℕ) (names : List (List ℕ)) (top : ℕ) (e : Node ℕ) (f g : Entries ℕ)
      → ((inner : List (List ℕ)) (first : ℕ) → AreThere all (cross_names_under (WholeSpace n) inner first f) → AreNamed inner f)
      → ((first : ℕ) → AreThere all (cross_names_under (WholeSpace n) names first g) → AreNamed names g)
      → (o : Option (List ℕ)) → AreThere all (names_by n names top e f g o) → EachTwo (IsNamed all) (spaces_by e f g o) (lists_by names f g o)
  named_by n names top e f g inside behind None h =
      behind (suc top) (λ x i. h x (inr (in_right x (cross_names_below top [] 0 f) (cross_names_under (WholeSpace n) names (suc top) g) i)))
  named_by n names top e f g inside behind (Some text) h =
      let inner : List (List ℕ) = names ++ text ∷ [] in
      let first = cross_names_under (WholeSpace n) inner top f in
      let rest = cross_names_under (WholeSpace n) names (top + tops_under f) g in (
        (WholeSpace n inner, h (e.at, WholeSpace n inner) (inl refl), refl),
        two_append (IsNamed all) (spaces_in f) (spaces_in g) (lists_below inner f) (lists_below names g) (inside inner top (λ x i. h x (inr (in_left x first rest i))))
            (behind (top + tops_under f) (λ x i. h x (inr (in_right x first rest i)))),
      )

  spaces_named : (n : ℕ) (names : List (List ℕ)) (top : ℕ) (f : Entries ℕ) → AreThere all (cross_names_under (WholeSpace n) names top f) → AreNamed names f
  unfolding cross_names_under spaces_in lists_below
  spaces_named n names top End h = tt
  spaces_named n names top (Entry e f g) h =
      named_by n names top e f g (λ inner first. spaces_named n inner first f) (λ first. spaces_named n names first g) (space_text e) h

  unit_named : (n top : ℕ) (k : Kind ℕ) (u : DwUnit ℕ) → AreThere all (cross_unit_names n top k u) → EachTwo (IsNamed all) (lone_of k u) (lists_of k u)
  unit_named n top Compile u h = ((WholeRoot n, h (u.root.at, WholeRoot n) (inl refl), refl), spaces_named n [] top u.below (λ x i. h x (inr i)))
  unit_named n top (OfType signature main) u h = tt
  unit_named n top Partial u h = tt

  units_named : (n top : ℕ) (units : List (DwUnit ℕ)) → AreThere all (cross_names_from n top units) → EachTwo (IsNamed all) (lone_entries units) (lone_lists units)
  unfolding cross_names_from lone_entries lone_lists
  units_named n top [] h = tt
  units_named n top (u ∷ units) h =
      let first = cross_unit_names n top u.kind u in
      let rest = cross_names_from (next_whole u.kind n) (top + length (unit_tops u.kind u)) units in
      two_append (IsNamed all) (lone_of u.kind u) (lone_entries units) (lists_of u.kind u) (lone_lists units) (unit_named n top u.kind u (λ x i. h x (in_left x first rest i)))
      (units_named (next_whole u.kind n) (top + length (unit_tops u.kind u)) units (λ x i. h x (in_right x first rest i)))

-- ---- how many

-- there are as many lists as roots and spaces
pub lists_long : (units : List (DwUnit ℕ)) → length (lone_lists units) ≡ length (lone_entries units)
lists_long units = sym (two_long (IsNamed (cross_names_from 0 0 units)) (lone_entries units) (lone_lists units) (units_named (cross_names_from 0 0 units) 0 0 units (λ x i. i)))

-- and so in a unit
pub unit_lists_long : (u : DwUnit ℕ) → length (lists_of u.kind u) ≡ length (lone_of u.kind u)
unit_lists_long u =
    sym (two_long (IsNamed (cross_unit_names 0 0 u.kind u)) (lone_of u.kind u) (lists_of u.kind u) (unit_named (cross_unit_names 0 0 u.kind u) 0 0 u.kind u (λ x i. i)))

-- and below an entry
pub below_lists_long : (names : List (List ℕ)) (f : Entries ℕ) → length (lists_below names f) ≡ length (spaces_in f)
below_lists_long names f =
    sym (two_long (IsNamed (cross_names_under (WholeSpace 0) names 0 f)) (spaces_in f) (lists_below names f) (spaces_named (cross_names_under (WholeSpace 0) names 0 f) 0 names 0 f (λ x i. i)))

-- ---- of an index

-- the own units of files that are well read have no place twice
pub own_once : (w : WithCommon ℕ) → IsWellRead w → NoneTwice (units_keys w.own)
own_once w read = none_left (units_keys w.own) (units_keys w.common) (subst (λ (k : List ℕ). NoneTwice k) (keys_join w.own w.common) read.apart)

module _ (starts : CrossStarts) (said : List (DwUnit ℕ)) (x : CrossIndex) (is : IsCrossIndex starts said x) where
  pub lone_long : length (lone_lists said) ≡ length x.lone
  lone_long = lists_long said ∙ sym is.lone.len

  -- where no place stands twice, the entry of the k-th root or space has a name with the k-th list in it
  pub lone_names : NoneTwice (units_keys said) → (k i : ℕ) (names : List (List ℕ)) (called : Called) → slice_get x.lone k ≡ Some i → slice_get (lone_lists said) k ≡ Some names
      → slice_get (cross_names_from 0 starts.top said) i ≡ Some called → names_in called.1 ≡ names
  lone_names once k i names called lone list name =
      let all : List Called = cross_names_from 0 starts.top said in
      let low = got_below x.lone k i lone in
      let d = got_there (lone_entries said) k (let long = is.lone.len in omega (arith, low, long)) in
      let stands = is.lone.each k i d.0 lone d.1 in
      let here = got_below all i called name in
      let step = got_there x.steps i (let long = is.names.len in omega (arith, here, long)) in
      let shown = is.names.each i step.0 called step.1 name in
      let one : shown.entry ≡ (d.0, stands.0) = same_got (listed_units said) i shown.entry (d.0, stands.0) shown.found stands.1 in
      let at : d.0.at ≡ called.0 = sym (ap (λ (w : ListedEntry ℕ). w.0.at) one) ∙ shown.place in
      let named = two_at (IsNamed all) (lone_entries said) (lone_lists said) k d.0 names (units_named all 0 starts.top said (λ y j. j)) d.1 list in
      let there : In (called.0, named.0) all = subst (λ (p : ℕ). In (p, named.0) all) at named.1 in
      let apart : NoneTwice (units_keys (said ++ [])) = subst (λ (us : List (DwUnit ℕ)). NoneTwice (units_keys us)) (sym (append-nil said)) once in
      let others : List Called = cross_names_from 0 0 [] in
      let same : called.1 ≡ named.0 =
      one_from 0 starts.top 0 0 said [] apart called.0 called.1 named.0 (in_left called all others (got_in all i called name)) (in_left (called.0, named.0) all others there) in
      ap names_in same ∙ named.2
