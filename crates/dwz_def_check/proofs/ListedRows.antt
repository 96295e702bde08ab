-- Rows that are made of lists are those of units.
use Rattle.std.proofs.Common.{◌≡◌, ℕ, suc, ◌+◌, Bool, true, false, List, [], ◌∷◌, ◌++◌, length, Option, Some, None, refl, sym, ap, subst, ◌∙◌, inl, inr}
use Rattle.std.specs.List.{flat_map}
use Rattle.std.specs.Prelude.{if◌then◌else◌, slice_index}
use Rattle.std.proofs.lemmas.List.{append_assoc}
use Rattle.dwz_def_reading.specs.Documents.{Compile, DwUnit, Entries, Kind, Node, OfType, Partial}
use Rattle.dwz_def_reading.specs.Lists.{In}
use Rattle.dwz_def_reading.specs.Trees.{End, Entry}
use Rattle.dwz_def_reading.proofs.ListFacts.{in_cases, in_left, in_right}
use Rattle.dwz_def_tops.specs.Lists.{Nth}
use Rattle.dwz_def_tops.specs.Seen.{IsImport, IsPartial}
use Rattle.dwz_def_tops.specs.Spaces.{IsUnder, space_text}
use Rattle.dwz_def_tops.proofs.Members.{in_nth, nth_in}
use Rattle.dwz_def_cross.specs.Tops.{CrossTop, StandsUnder, type_top, units_with_common}
use Rattle.dwz_def_check.specs.CrossLists.{AreImported, IsListedRow, KeepsPlain, NumberedUnit, classed_parts, classed_spaces, classed_tops, common_numbered, own_units}
use Rattle.dwz_def_check.specs.CrossNames.{IsNthTop, IsWellRead, Side, cross_tops_in, unit_tops}
use Rattle.dwz_def_check.specs.CrossNodes.{IsNthLone, lone_of, spaces_in}
use Rattle.dwz_def_check.specs.CrossRows.{AreJust, Classed, CompileRow, HasSpaceClass, HasTopClass, IsCrossRow, IsKindRow, SameMembers, TypeRow, UnitRow}
use Rattle.dwz_def_check.proofs.TopLists.{in_under, under_in}
use Rattle.dwz_def_check.proofs.UnitNumbers.{nth_left, nth_right, numbered_in, one_lone, one_top, unit_lone, unit_top}

-- ---- classes of tops

pub record KeptTop {P : Type 0} (classes : List ℕ) (keeps : ℕ → Bool) (k : ℕ) (tops : List (CrossTop P)) (x : Classed) : Type 0 where
  pub top : CrossTop P
  pub number : ℕ
  pub nth : Nth k tops number top
  pub kept : keeps number ≡ true
  pub names : top.names ≡ x.0
  pub class_is : slice_index classes number ≡ x.1

kept_later : {P : Type 0} (classes : List ℕ) (keeps : ℕ → Bool) (k : ℕ) (t : CrossTop P) (tops : List (CrossTop P)) (x : Classed) → KeptTop classes keeps (suc k) tops x → KeptTop classes keeps k (t ∷ tops) x
kept_later classes keeps k t tops x o = record { top = o.top; number = o.number; nth = inr o.nth; kept = o.kept; names = o.names; class_is = o.class_is }

kept_by : {P : Type 0} (classes : List ℕ) (keeps : ℕ → Bool) (k : ℕ) (t : CrossTop P) (tops : List (CrossTop P)) (x : Classed)
    → (In x (classed_tops classes keeps (suc k) tops) → KeptTop classes keeps (suc k) tops x) → (b : Bool) → keeps k ≡ b
    → In x ((if b then (t.names, slice_index classes k) ∷ [] else []) ++ classed_tops classes keeps (suc k) tops) → KeptTop classes keeps k (t ∷ tops) x
kept_by classes keeps k t tops x behind true e (inl h) =
    record { top = t; number = k; nth = inl (refl, refl); kept = e; names = ap (λ (w : Classed). w.0) h; class_is = ap (λ (w : Classed). w.1) h }
kept_by classes keeps k t tops x behind true e (inr r) = kept_later classes keeps k t tops x (behind r)
kept_by classes keeps k t tops x behind false e r = kept_later classes keeps k t tops x (behind r)

kept_from : {P : Type 0} (classes : List ℕ) (keeps : ℕ → Bool) (k : ℕ) (tops : List (CrossTop P)) (x : Classed) → In x (classed_tops classes keeps k tops) → KeptTop classes keeps k tops x
unfolding classed_tops
kept_from classes keeps k [] x h = absurd h
kept_from classes keeps k (t ∷ tops) x h = kept_by classes keeps k t tops x (kept_from classes keeps (suc k) tops x) (keeps k) refl h

kept_in : {P : Type 0} (classes : List ℕ) (keeps : ℕ → Bool) (k n : ℕ) (tops : List (CrossTop P)) (t : CrossTop P) → Nth k tops n t → keeps n ≡ true → In (t.names, slice_index classes n) (classed_tops classes keeps k tops)
unfolding classed_tops
kept_in classes keeps k n [] t h e = absurd h
kept_in {P} classes keeps k n (u ∷ tops) t (inl h) e =
    let yes : keeps k ≡ true = ap keeps h.0 ∙ e in
    let one : In (t.names, slice_index classes n) ((if true then (u.names, slice_index classes k) ∷ [] else []) ++ classed_tops classes keeps (suc k) tops) = inl (λ i. ((h.1 i).names, slice_index classes (h.0 i))) in
    subst (λ (b : Bool). In (t.names, slice_index classes n) ((if b then (u.names, slice_index classes k) ∷ [] else []) ++ classed_tops classes keeps (suc k) tops)) (sym yes) one
kept_in classes keeps k n (u ∷ tops) t (inr r) e =
    in_right (t.names, slice_index classes n) (if keeps k then (u.names, slice_index classes k) ∷ [] else []) (classed_tops classes keeps (suc k) tops) (kept_in classes keeps (suc k) n tops t r e)

flat_from : {X Y : Type 0} (f : X → List Y) (y : Y) (xs : List X) → In y (flat_map f xs) → (x : X) × In x xs × In y (f x)
flat_from f y [] h = absurd h
flat_from f y (x ∷ xs) h = elim (in_cases y (f x) (flat_map f xs) h) [ inl a ↦ (x, inl refl, a) | inr b ↦ (let o = flat_from f y xs b in (o.0, inr o.1, o.2)) ]

flat_in : {X Y : Type 0} (f : X → List Y) (y : Y) (xs : List X) (x : X) → In x xs → In y (f x) → In y (flat_map f xs)
flat_in f y [] x is h = absurd is
flat_in {X} f y (z ∷ xs) x (inl e) h = in_left y (f z) (flat_map f xs) (subst (λ (w : X). In y (f w)) (sym e) h)
flat_in f y (z ∷ xs) x (inr r) h = in_right y (f z) (flat_map f xs) (flat_in f y xs x r h)

-- ---- classes of spaces

pub record SpaceIn {P : Type 0} (classes : List ℕ) (names : List (List ℕ)) (k : ℕ) (f : Entries P) (x : Classed) : Type 0 where
  pub node : Node P
  pub number : ℕ
  pub outer : List (List ℕ)
  pub text : List ℕ
  pub under : IsUnder outer node f
  pub own : space_text node ≡ Some text
  pub nth : Nth k (spaces_in f) number node
  pub names_are : names ++ (outer ++ text ∷ []) ≡ x.0
  pub class_is : slice_index classes number ≡ x.1

abbrev classed_by : {P : Type 0} → List ℕ → List (List ℕ) → ℕ → Node P → Entries P → Entries P → Option (List ℕ) → List Classed
classed_by classes names n e f g o = elim o as (λ _. List Classed) [
  | None ↦ classed_spaces classes names n g
  | Some text ↦ (names ++ text ∷ [], slice_index classes n)
      ∷ classed_spaces classes (names ++ text ∷ []) (suc n) f ++ classed_spaces classes names (suc n + length (spaces_in f)) g
]

abbrev spaces_by : {P : Type 0} → Node P → Entries P → Entries P → Option (List ℕ) → List (Node P)
spaces_by {P} e f g o = elim o as (λ _. List (Node P)) [ None ↦ spaces_in g | Some text ↦ e ∷ spaces_in f ++ spaces_in g ]

abbrev NthBy : {P : Type 0} → ℕ → Node P → Entries P → Entries P → ℕ → Node P → Option (List ℕ) → Type 0
NthBy k e f g n d o = Nth k (spaces_by e f g o) n d

nth_whole : {P : Type 0} (k : ℕ) (e : Node P) (f g : Entries P) (n : ℕ) (d : Node P) (o : Option (List ℕ)) → space_text e ≡ o → NthBy k e f g n d o → Nth k (spaces_in (Entry e f g)) n d
unfolding spaces_in
nth_whole k e f g n d o q h = subst (λ (w : Option (List ℕ)). NthBy k e f g n d w) (sym q) h

space_by : {P : Type 0} (classes : List ℕ) (names : List (List ℕ)) (k : ℕ) (e : Node P) (f g : Entries P) (x : Classed)
    → ((m : ℕ) → In x (classed_spaces classes names m g) → SpaceIn classes names m g x) → ((all : List (List ℕ)) (m : ℕ) → In x (classed_spaces classes all m f) → SpaceIn classes all m f x)
    → (o : Option (List ℕ)) → space_text e ≡ o → In x (classed_by classes names k e f g o) → SpaceIn classes names k (Entry e f g) x
space_by classes names k e f g x behind inside None q h =
    let o = behind k h in
    record {
      node = o.node;
      number = o.number;
      outer = o.outer;
      text = o.text;
      under = inr (inr o.under);
      own = o.own;
      nth = nth_whole k e f g o.number o.node None q o.nth;
      names_are = o.names_are;
      class_is = o.class_is;
    }
space_by classes names k e f g x behind inside (Some text) q (inl h) = record {
  node = e;
  number = k;
  outer = [];
  text = text;
  under = inl (refl, refl);
  own = q;
  nth = nth_whole k e f g k e (Some text) q (inl (refl, refl));
  names_are = ap (λ (w : Classed). w.0) h;
  class_is = ap (λ (w : Classed). w.1) h;
}
space_by classes names k e f g x behind inside (Some text) q (inr r) = elim (in_cases x (classed_spaces classes (names ++ text ∷ []) (suc k) f) (classed_spaces classes names (suc k + length (spaces_in f)) g) r) [
  | inl a ↦
      let o = inside (names ++ text ∷ []) (suc k) a in
      record {
        node = o.node;
        number = o.number;
        outer = text ∷ o.outer;
        text = o.text;
        under = inr (inl (text, o.outer, q, refl, o.under));
        own = o.own;
        nth = nth_whole k e f g o.number o.node (Some text) q (inr (nth_left (suc k) (spaces_in f) (spaces_in g) o.number o.node o.nth));
        names_are = sym (append_assoc names (text ∷ []) (o.outer ++ o.text ∷ [])) ∙ o.names_are;
        class_is = o.class_is;
      }
  | inr b ↦
      let o = behind (suc k + length (spaces_in f)) b in
      record {
        node = o.node;
        number = o.number;
        outer = o.outer;
        text = o.text;
        under = inr (inr o.under);
        own = o.own;
        nth = nth_whole k e f g o.number o.node (Some text) q (inr (nth_right (suc k) (spaces_in f) (spaces_in g) o.number o.node o.nth));
        names_are = o.names_are;
        class_is = o.class_is;
      }
]

space_from : {P : Type 0} (classes : List ℕ) (names : List (List ℕ)) (k : ℕ) (f : Entries P) (x : Classed) → In x (classed_spaces classes names k f) → SpaceIn classes names k f x
unfolding classed_spaces
space_from classes names k End x h = absurd h
space_from classes names k (Entry e f g) x h = space_by classes names k e f g x (λ m. space_from classes names m g x) (λ all m. space_from classes all m f x) (space_text e) refl h

-- an entry that is a space has a number, and its class is there
abbrev Listed : {P : Type 0} → List ℕ → List (List ℕ) → ℕ → Entries P → List (List ℕ) → Node P → Type 0
Listed classes names k f all d = (n : ℕ) × Nth k (spaces_in f) n d × In (all, slice_index classes n) (classed_spaces classes names k f)

listed_later : {P : Type 0} (classes : List ℕ) (names : List (List ℕ)) (k : ℕ) (e : Node P) (f g : Entries P) (all : List (List ℕ)) (d : Node P) → ((m : ℕ) → Listed classes names m g all d) → (o : Option (List ℕ))
    → (n : ℕ) × NthBy k e f g n d o × In (all, slice_index classes n) (classed_by classes names k e f g o)
listed_later classes names k e f g all d h None = let o = h k in (o.0, o.1, o.2)
listed_later classes names k e f g all d h (Some text) =
    let o = h (suc k + length (spaces_in f)) in (
      o.0,
      inr (nth_right (suc k) (spaces_in f) (spaces_in g) o.0 d o.1),
      inr (in_right (all, slice_index classes o.0) (classed_spaces classes (names ++ text ∷ []) (suc k) f) (classed_spaces classes names (suc k + length (spaces_in f)) g) o.2),
    )

abbrev ListedBy : {P : Type 0} → List ℕ → List (List ℕ) → ℕ → Node P → Entries P → Entries P → List (List ℕ) → Node P → Option (List ℕ) → Type 0
ListedBy classes names k e f g all d o = (n : ℕ) × NthBy k e f g n d o × In (all, slice_index classes n) (classed_by classes names k e f g o)

space_listed : {P : Type 0} (classes : List ℕ) (names outer : List (List ℕ)) (k : ℕ) (text : List ℕ) (d : Node P) (f : Entries P) → IsUnder outer d f → space_text d ≡ Some text
    → Listed classes names k f (names ++ (outer ++ text ∷ [])) d
unfolding classed_spaces spaces_in
space_listed classes names outer k text d End h own = absurd h
space_listed {P} classes names outer k text d (Entry e f g) (inl x) own =
    let named : space_text e ≡ Some text = ap (λ (w : Node P). space_text w) x.1 ∙ own in
    let all : names ++ text ∷ [] ≡ names ++ (outer ++ text ∷ []) = ap (λ (w : List (List ℕ)). names ++ (w ++ text ∷ [])) (sym x.0) in
    let one : ListedBy classes names k e f g (names ++ (outer ++ text ∷ [])) d (Some text) = (k, inl (refl, x.1), inl (λ i. (all i, slice_index classes k))) in
    subst (λ (o : Option (List ℕ)). ListedBy classes names k e f g (names ++ (outer ++ text ∷ [])) d o) (sym named) one
space_listed {P} classes names outer k text d (Entry e f g) (inr (inl i)) own =
    let all : (names ++ i.0 ∷ []) ++ (i.1 ++ text ∷ []) ≡ names ++ (outer ++ text ∷ []) =
    append_assoc names (i.0 ∷ []) (i.1 ++ text ∷ []) ∙ ap (λ (w : List (List ℕ)). names ++ (w ++ text ∷ [])) (sym i.3) in
    let o = space_listed classes (names ++ i.0 ∷ []) i.1 (suc k) text d f i.4 own in
    let here : In (names ++ (outer ++ text ∷ []), slice_index classes o.0) (classed_spaces classes (names ++ i.0 ∷ []) (suc k) f) =
    subst (λ (w : List (List ℕ)). In (w, slice_index classes o.0) (classed_spaces classes (names ++ i.0 ∷ []) (suc k) f)) all o.2 in
    let one : ListedBy classes names k e f g (names ++ (outer ++ text ∷ [])) d (Some i.0) = (
      o.0,
      inr (nth_left (suc k) (spaces_in f) (spaces_in g) o.0 d o.1),
      inr (in_left (names ++ (outer ++ text ∷ []), slice_index classes o.0) (classed_spaces classes (names ++ i.0 ∷ []) (suc k) f) (classed_spaces classes names (suc k + length (spaces_in f)) g) here),
    ) in
    subst (λ (w : Option (List ℕ)). ListedBy classes names k e f g (names ++ (outer ++ text ∷ [])) d w) (sym i.2) one
space_listed classes names outer k text d (Entry e f g) (inr (inr r)) own =
    listed_later classes names k e f g (names ++ (outer ++ text ∷ [])) d (λ m. space_listed classes names outer m text d g r own) (space_text e)

-- ---- of a unit

partial_tops : {P : Type 0} (kind : Kind P) (u : DwUnit P) → IsPartial kind → cross_tops_in [] u.below ≡ unit_tops kind u
partial_tops Partial u p = refl
partial_tops Compile u p = absurd p
partial_tops (OfType signature main) u p = absurd p

module _ {P : Type 0} (s : Side P) (classes : List ℕ) (keeps : ℕ → Bool) (x : NumberedUnit P) (parts : List (NumberedUnit P)) (read : IsWellRead s.files) (is : In x (own_units s))
    (imported : AreImported s x.unit parts) (plain : KeepsPlain s keeps) where
  stands_by : (t : CrossTop P) (f : Entries P) → In t (cross_tops_in [] f) → StandsUnder t.names t f
  stands_by t f h = let o = in_under [] t f h in subst (λ (names : List (List ℕ)). StandsUnder names t f) (sym o.are) o.stands

  own_nth : (n : ℕ) (t : CrossTop P) → Nth x.top (unit_tops x.unit.kind x.unit) n t → IsNthTop s n t
  own_nth n t h = inl (unit_top s.own s.lone s.files.own x n t is h)

  part_nth : (y : NumberedUnit P) (n : ℕ) (t : CrossTop P) → In y (own_units s ++ common_numbered s) → Nth y.top (unit_tops y.unit.kind y.unit) n t → IsNthTop s n t
  part_nth y n t there h = elim (in_cases y (own_units s) (common_numbered s) there) [
    | inl a ↦ inl (unit_top s.own s.lone s.files.own y n t a h)
    | inr b ↦ inr (unit_top s.common 0 s.files.common y n t b h)
  ]

  lone_nth : (n : ℕ) (d : Node P) → Nth x.lone (lone_of x.unit.kind x.unit) n d → IsNthLone s n d
  lone_nth n d h = unit_lone s.own s.lone s.files.own x n d is h

  part_at : (u : DwUnit P) → In u (units_with_common s.files) → (y : NumberedUnit P) × In y (own_units s ++ common_numbered s) × (y.unit ≡ u)
  part_at u there = elim (in_cases u s.files.own s.files.common there) [
    | inl a ↦ (let o = numbered_in s.own s.lone s.files.own u a in (o.0, in_left o.0 (own_units s) (common_numbered s) o.1, o.2))
    | inr b ↦ (let o = numbered_in s.common 0 s.files.common u b in (o.0, in_right o.0 (own_units s) (common_numbered s) o.1, o.2))
  ]

  abbrev tops_of : NumberedUnit P → List Classed
  tops_of y = classed_tops classes keeps y.top (cross_tops_in [] y.unit.below)

  -- a top that stands in a unit with numbers, and whose class is there
  class_there : (y : NumberedUnit P) (a : CrossTop P) (n : ℕ) (z : Classed) → StandsUnder a.names a y.unit.below → ((v : DwUnit P) → IsImport (units_with_common s.files) a.node v → ⊥)
      → ((m : ℕ) → Nth y.top (cross_tops_in [] y.unit.below) m a → IsNthTop s m a) → IsNthTop s n a → a.names ≡ z.0 → slice_index classes n ≡ z.1 → In z (tops_of y)
  class_there y a n z stands none nth numbered names e =
      let m = in_nth y.top (cross_tops_in [] y.unit.below) a (under_in [] a.names a y.unit.below stands refl) in
      let same = one_top s read m.number n a (nth m.number m.nth) numbered in
      subst (λ (w : Classed). In w (tops_of y)) (λ i. (names i, (ap (λ (k : ℕ). slice_index classes k) same ∙ e) i))
      (kept_in classes keeps y.top m.number (cross_tops_in [] y.unit.below) a m.nth ((plain m.number a (nth m.number m.nth)).1 none))

  module _ (kind : x.unit.kind ≡ Compile) where
    own_tops : (n : ℕ) (t : CrossTop P) → Nth x.top (cross_tops_in [] x.unit.below) n t → IsNthTop s n t
    own_tops n t h = own_nth n t (subst (λ (k : Kind P). Nth x.top (unit_tops k x.unit) n t) (sym kind) h)

    part_tops : (y : NumberedUnit P) → In y (own_units s ++ common_numbered s) → IsPartial y.unit.kind → (n : ℕ) (t : CrossTop P) → Nth y.top (cross_tops_in [] y.unit.below) n t → IsNthTop s n t
    part_tops y there p n t h = part_nth y n t there (subst (λ (ts : List (CrossTop P)). Nth y.top ts n t) (partial_tops y.unit.kind y.unit p) h)

    tops_to : (z : Classed) → In z (classed_parts classes keeps (x ∷ parts)) → HasTopClass s classes x.unit z
    tops_to z h = elim (in_cases z (tops_of x) (flat_map tops_of parts) h) [
      | inl a ↦
          (let o = kept_from classes keeps x.top (cross_tops_in [] x.unit.below) z a in
          let numbered = own_tops o.number o.top o.nth in
          (o.top, o.number, inl (stands_by o.top x.unit.below (nth_in x.top (cross_tops_in [] x.unit.below) o.number o.top o.nth), (plain o.number o.top numbered).0 o.kept), o.names, numbered, o.class_is))
      | inr b ↦
          (let y = flat_from tops_of z parts b in
          let i = (imported y.0).0 y.1 in
          let o = kept_from classes keeps y.0.top (cross_tops_in [] y.0.unit.below) z y.2 in
          let numbered = part_tops y.0 i.0 i.1.2.partial o.number o.top o.nth in (
            o.top,
            o.number,
            inr (i.1.0, y.0.unit, i.1.1, i.1.2, (stands_by o.top y.0.unit.below (nth_in y.0.top (cross_tops_in [] y.0.unit.below) o.number o.top o.nth), (plain o.number o.top numbered).0 o.kept)),
            o.names,
            numbered,
            o.class_is,
          ))
    ]

    tops_from : (z : Classed) → HasTopClass s classes x.unit z → In z (classed_parts classes keeps (x ∷ parts))
    tops_from z (a, n, inl (stands, none), names, numbered, e) = in_left z (tops_of x) (flat_map tops_of parts) (class_there x a n z stands none (λ m. own_tops m a) numbered names e)
    tops_from z (a, n, inr (d, v, child, import, (stands, none)), names, numbered, e) =
        let y = part_at v import.unit in
        let same = sym y.2 in
        let there : In y.0 parts = (imported y.0).1 (y.1, (d, child, subst (λ (w : DwUnit P). IsImport (units_with_common s.files) d w) same import)) in
        in_right z (tops_of x) (flat_map tops_of parts)
        (flat_in tops_of z parts y.0 there
        (class_there y.0 a n z (subst (λ (w : DwUnit P). StandsUnder a.names a w.below) same stands) none
        (λ m. part_tops y.0 y.1 (subst (λ (w : DwUnit P). IsPartial w.kind) same import.partial) m a) numbered names e))

    inner_nth : (n : ℕ) (d : Node P) → Nth (suc x.lone) (spaces_in x.unit.below) n d → IsNthLone s n d
    inner_nth n d h = lone_nth n d (subst (λ (k : Kind P). Nth x.lone (lone_of k x.unit) n d) (sym kind) (inr h))

    spaces_to : (z : Classed) → In z (classed_spaces classes [] (suc x.lone) x.unit.below) → HasSpaceClass s classes x.unit z
    spaces_to z h =
        let o = space_from classes [] (suc x.lone) x.unit.below z h in
        (o.node, o.number, record { outer = o.outer; text = o.text; under = o.under; own = o.own; names_are = sym o.names_are }, inner_nth o.number o.node o.nth, o.class_is)

    spaces_from : (z : Classed) → HasSpaceClass s classes x.unit z → In z (classed_spaces classes [] (suc x.lone) x.unit.below)
    spaces_from z (d, n, space, numbered, e) =
        let o = space_listed classes [] space.outer (suc x.lone) space.text d x.unit.below space.under space.own in
        let same = one_lone s read o.0 n d (inner_nth o.0 d o.1) numbered in
        subst (λ (w : Classed). In w (classed_spaces classes [] (suc x.lone) x.unit.below)) (λ i. (sym space.names_are i, (ap (λ (k : ℕ). slice_index classes k) same ∙ e) i)) o.2

    root_nth : IsNthLone s x.lone x.unit.root
    root_nth = lone_nth x.lone x.unit.root (subst (λ (k : Kind P). Nth x.lone (lone_of k x.unit) x.lone x.unit.root) (sym kind) (inl (refl, refl)))

  just_by : (Is : Classed → Type 0) (xs ys : List Classed) → SameMembers xs ys → ((z : Classed) → In z ys → Is z) → ((z : Classed) → Is z → In z ys) → AreJust Is xs
  just_by Is xs ys same to from z = (λ h. to z ((same z).0 h), λ h. (same z).1 (from z h))

  row_by : (kind : Kind P) (row : UnitRow) → x.unit.kind ≡ kind → IsListedRow classes keeps x parts kind row → IsKindRow s classes x.unit kind row
  row_by Compile (CompileRow root spaces tops) e h = (
    (x.lone, root_nth e, sym h.0),
    just_by (HasSpaceClass s classes x.unit) spaces (classed_spaces classes [] (suc x.lone) x.unit.below) h.1 (spaces_to e) (spaces_from e),
    just_by (HasTopClass s classes x.unit) tops (classed_parts classes keeps (x ∷ parts)) h.2 (tops_to e) (tops_from e),
  )
  row_by (OfType signature main) (TypeRow number path top) e h = (
    h.0,
    h.1,
    (x.top, own_nth x.top (type_top x.unit) (subst (λ (k : Kind P). Nth x.top (unit_tops k x.unit) x.top (type_top x.unit)) (sym e) (inl (refl, refl))), sym h.2),
  )
  row_by Compile (TypeRow number path top) e h = absurd h
  row_by (OfType signature main) (CompileRow root spaces tops) e h = absurd h
  row_by Partial row e h = absurd h

  pub listed_row : (row : UnitRow) → IsListedRow classes keeps x parts x.unit.kind row → IsCrossRow s classes x.unit row
  listed_row row h = row_by x.unit.kind row refl h
