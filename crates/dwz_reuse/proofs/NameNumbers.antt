-- What name list has a number, from edges to the numbers of lists.
use Rattle.std.proofs.Common.{◌≡◌, ◌⊎◌, ℕ, ◌<◌, ◌≤◌, ◌^◌, Bool, true, false, cond, List, [], ◌∷◌, ◌++◌, length, refl, sym, ap, subst, ◌∙◌, inl, inr, ⊎_elim, arith}
use Rattle.std.specs.Prelude.{◌==◌}
use Rattle.std.proofs.lemmas.Bool.{eq-eqb, eqb-true}
use Rattle.dwz_model.proofs.Members.{nth_below}
use Rattle.dwz_def_reading.specs.Lists.{In}
use Rattle.dwz_def_taken.specs.Takes.{HasSpace}
use Rattle.dwz_def_tops.specs.Lists.{Nth}
use Rattle.dwz_def_tops.specs.Spots.{EntryName, FileUnit}
use Rattle.dwz_check_sides.specs.Names.{AreApart, IsListNumber}
use Rattle.dwz_check_sides.specs.SideLaws.{ListNumberLaw}
use Rattle.dwz_check_sides.specs.declared.lists.NameLists.{NameLists}
use Rattle.dwz_groups.specs.declared.groups.Edge.{Edge}
use Rattle.dwz_groups.specs.Groups.{grouped}
use Rattle.dwz_groups.proofs.MarkLemmas.{edge_grouped, grouped_edge}
use Rattle.dwz_takes.specs.Takes.{list_at}
use Rattle.dwz_reuse.specs.FileSpaces.{AreUnitSpaces}
use Rattle.dwz_reuse.specs.SpaceNames.{ShowLists}
use Rattle.dwz_reuse.specs.Spaces.{IsNoType, space_edge}

not_empty : (outer : List (List ℕ)) (text : List ℕ) → outer ++ text ∷ [] ≡ [] → ⊥
not_empty [] text e = absurd cc
not_empty (x ∷ outer) text e = absurd cc

module _ (known : NameLists) where
  -- the edge leads to the number of some name list
  pub record Tells (e : Edge) : Type 0 where
    pub names : List (List ℕ)
    pub number : IsListNumber known names e.value

  abbrev pub AllTell : List Edge → Type 0
  AllTell edges = (e : Edge) → In e edges → Tells e

  unfoldable pub name_of : (edges : List Edge) → AllTell edges → ℕ → List (List ℕ)
  name_of [] tell n = []
  name_of (e ∷ edges) tell n = cond (e.value == n) (tell e (inl refl)).names (name_of edges (λ d i. tell d (inr i)) n)

  -- of a number that an edge leads to it is such a list
  of_edge : (edges : List Edge) (tell : AllTell edges) (e : Edge) → In e edges → IsListNumber known (name_of edges tell e.value) e.value
  unfolding name_of
  of_edge [] tell e i = absurd i
  of_edge (d ∷ edges) tell e i = by (λ j. of_edge edges (λ w k. tell w (inr k)) e j) (d.value == e.value) refl i where
    by : (In e edges → IsListNumber known (name_of edges (λ w k. tell w (inr k)) e.value) e.value) → (b : Bool) → (d.value == e.value) ≡ b → (d ≡ e) ⊎ In e edges
        → IsListNumber known (cond b (tell d (inl refl)).names (name_of edges (λ w k. tell w (inr k)) e.value)) e.value
    by later true q h = subst (λ (n : ℕ). IsListNumber known (tell d (inl refl)).names n) (eqb-true d.value e.value q) (tell d (inl refl)).number
    by later false q (inl same) = absurd (let yes = eq-eqb d.value e.value (ap (λ (w : Edge). w.value) same) in let no_way : true ≡ false = sym yes ∙ q in cc)
    by later false q (inr j) = later j

  -- each number has no names, or is that of its list
  one_of : (edges : List Edge) (tell : AllTell edges) (n : ℕ) → (name_of edges tell n ≡ []) ⊎ IsListNumber known (name_of edges tell n) n
  unfolding name_of
  one_of [] tell n = inl refl
  one_of (d ∷ edges) tell n = by (one_of edges (λ w k. tell w (inr k)) n) (d.value == n) refl where
    by : (name_of edges (λ w k. tell w (inr k)) n ≡ []) ⊎ IsListNumber known (name_of edges (λ w k. tell w (inr k)) n) n → (b : Bool) → (d.value == n) ≡ b
        → (cond b (tell d (inl refl)).names (name_of edges (λ w k. tell w (inr k)) n) ≡ []) ⊎ IsListNumber known (cond b (tell d (inl refl)).names (name_of edges (λ w k. tell w (inr k)) n)) n
    by later true q = inr (subst (λ (m : ℕ). IsListNumber known (tell d (inl refl)).names m) (eqb-true d.value n q) (tell d (inl refl)).number)
    by later false q = later

  module _ (law : ListNumberLaw) (bound : ℕ) (low : bound ≤ 2 ^ 32) (apart : AreApart known bound) (all : List Edge) (tell : AllTell all) where
    abbrev pub name : ℕ → List (List ℕ)
    name = name_of all tell

    some_names : (units : List (FileUnit EntryName)) (u : ℕ) (names : List (List ℕ)) → HasSpace units u names → names ≡ [] → ⊥
    some_names units u names h none = not_empty h.3.outer h.3.text (sym h.3.names_are ∙ none)

    module _ (units : List (FileUnit EntryName)) (edges : List Edge) (among : (e : Edge) → In e edges → In e all) (spaces : AreUnitSpaces known units (length units) edges) (count : ℕ) (room : length units ≤ count) where
      same_name : (e : Edge) → In e edges → (names : List (List ℕ)) → IsListNumber known names e.value → names ≡ name e.value
      same_name e i names number = (law known bound low apart names (name e.value) e.value e.value number (of_edge all tell e (among e i))).0 refl

      pub lists_shown : (lists : List (List ℕ)) → lists ≡ grouped count edges → ShowLists units name lists
      lists_shown lists is = record {
        only = λ u n i. (
            let e = grouped_edge count u n edges (subst (λ (w : List (List ℕ)). In n (list_at w u)) is i) in
            let s = spaces.from (space_edge u n) e in
            subst (HasSpace units u) (same_name (space_edge u n) e s.names s.number) s.space);
        found = λ u n f nth plain space. (
            let below = nth_below 0 units u f nth in
            let o = spaces.found u f (name n) (omega (arith, below)) nth plain space in
            let number : IsListNumber known (name n) n = ⊎_elim (λ (none : name n ≡ []). absurd (some_names units u (name n) space none)) (λ (x : IsListNumber known (name n) n). x) (one_of all tell n) in
            let same : o.0 ≡ n = (law known bound low apart (name n) (name n) o.0 n o.1 number).1 refl in
            subst (λ (w : List (List ℕ)). In n (list_at w u)) (sym is)
            (edge_grouped count u n edges (omega (arith, below, room)) (subst (λ (m : ℕ). In (space_edge u m) edges) same o.2)));
      }

      pub each_named : (u : ℕ) (f : FileUnit EntryName) (names : List (List ℕ)) → Nth 0 units u f → IsNoType f.unit.kind → HasSpace units u names → (n : ℕ) × (name n ≡ names)
      each_named u f names nth plain space =
          let below = nth_below 0 units u f nth in
          let o = spaces.found u f names (omega (arith, below)) nth plain space in
          (o.0, sym (same_name (space_edge u o.0) o.2 names o.1))

      pub keys_at : (e : Edge) → In e edges → e.key < count
      keys_at e i = (let s = spaces.from e i in let below = nth_below 0 units e.key s.space.0 s.space.2 in omega (arith, below, room))
