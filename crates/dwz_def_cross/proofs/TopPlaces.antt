-- Where the entries of a compile unit stand: each is a space, or in a top along a path; and what is shown stands along the same path.
use Rattle.std.proofs.Common.{◌≡◌, ℕ, zero, suc, List, [], ◌∷◌, ◌++◌, Option, Some, None, refl, sym, ap, subst, ◌∙◌, inl, inr}
use Rattle.std.specs.Prelude.{◌⊎◌}
use Rattle.dwz_def_reading.specs.Documents.{Entries, Node}
use Rattle.dwz_def_reading.specs.Lists.{In}
use Rattle.dwz_def_reading.specs.Trees.{End, Entry}
use Rattle.dwz_def_reading.proofs.ListFacts.{in_cases, in_left, in_right}
use Rattle.dwz_def_tops.specs.Seen.{IsShown, Seen, see, seen, seen_tops}
use Rattle.dwz_def_tops.specs.Shown.{AreShown, keys}
use Rattle.dwz_def_tops.specs.Spaces.{IsSpace, IsUnder, space_text}
use Rattle.dwz_def_cross.specs.Tops.{CrossTop, IsNthChild, StandsAlong, StandsUnder}

abbrev pub top_at : {P : Type 0} → List (List ℕ) → Node P → Entries P → CrossTop P
top_at names e below = record { names = names; node = e; below = below }

-- ---- in a top

pub record Along {P : Type 0} (f : Entries P) (p : P) : Type 0 where
  pub index : ℕ
  pub node : Node P
  pub below : Entries P
  pub nth : IsNthChild index node below f
  pub path : List ℕ
  pub stands : StandsAlong path node below p

along_inner : {P : Type 0} (e : Node P) (f g : Entries P) (p : P) → Along f p → Along (Entry e f g) p
along_inner e f g p o = record { index = zero; node = e; below = f; nth = (refl, refl); path = o.index ∷ o.path; stands = (o.node, o.below, o.nth, o.stands) }

along_later : {P : Type 0} (e : Node P) (f g : Entries P) (p : P) → Along g p → Along (Entry e f g) p
along_later e f g p o = record { index = suc o.index; node = o.node; below = o.below; nth = o.nth; path = o.path; stands = o.stands }

pub along : {P : Type 0} (f : Entries P) (d : Seen P) → In d (seen f) → Along f d.at
unfolding seen
along End d h = absurd h
along {P} (Entry e f g) d (inl a) = record { index = zero; node = e; below = f; nth = (refl, refl); path = []; stands = ap (λ (w : Seen P). w.at) a }
along (Entry e f g) d (inr r) = elim (in_cases d (seen f) (seen g) r) [ inl a ↦ along_inner e f g d.at (along f d a) | inr b ↦ along_later e f g d.at (along g d b) ]

-- an entry of a tree: its top one, or one below
pub path_to : {P : Type 0} (e : Node P) (f : Entries P) (p : P) → (e.at ≡ p) ⊎ Along f p → (path : List ℕ) × StandsAlong path e f p
path_to e f p (inl h) = ([], h)
path_to e f p (inr o) = (o.index ∷ o.path, (o.node, o.below, o.nth, o.stands))

pub key_along : {P : Type 0} (f : Entries P) (p : P) → In p (keys f) → Along f p
unfolding keys
key_along End p h = absurd h
key_along (Entry e f g) p (inl a) = record { index = zero; node = e; below = f; nth = (refl, refl); path = []; stands = a }
key_along (Entry e f g) p (inr r) = elim (in_cases p (keys f) (keys g) r) [ inl a ↦ along_inner e f g p (key_along f p a) | inr b ↦ along_later e f g p (key_along g p b) ]

-- ---- shown along the same path

pub record NthShown {P Q : Type 0} (g : P → Q) (i : ℕ) (e : Node P) (f : Entries P) (h : Entries Q) : Type 0 where
  pub node : Node Q
  pub below : Entries Q
  pub nth : IsNthChild i node below h
  pub node_shown : IsShown g e node
  pub below_shown : AreShown g f below

nth_shown : {P Q : Type 0} (g : P → Q) (i : ℕ) (e : Node P) (f : Entries P) (k : Entries P) (h : Entries Q) → AreShown g k h → IsNthChild i e f k → NthShown g i e f h
nth_shown g i e f End h s n = absurd n
nth_shown {P} {Q} g zero e f (Entry d c m) (Entry d' c' m') s n =
    record { node = d'; below = c'; nth = (refl, refl); node_shown = subst (λ (w : Node P). IsShown g w d') n.0 s.0; below_shown = subst (λ (w : Entries P). AreShown g w c') n.1 s.1 }
nth_shown g (suc i) e f (Entry d c m) (Entry d' c' m') s n =
    let o = nth_shown g i e f m m' s.2 n in
    record { node = o.node; below = o.below; nth = o.nth; node_shown = o.node_shown; below_shown = o.below_shown }
nth_shown g i e f (Entry d c m) End s n = absurd s

pub along_shown : {P Q : Type 0} (g : P → Q) (path : List ℕ) (e : Node P) (f : Entries P) (d : Node Q) (h : Entries Q) (p : P) → IsShown g e d → AreShown g f h → StandsAlong path e f p → StandsAlong path d h (g p)
along_shown {P} {Q} g [] e f d h p s t stands = s.at ∙ ap g stands
along_shown g (i ∷ path) e f d h p s t stands =
    let o = nth_shown g i stands.0 stands.1 f h t stands.2 in
    (o.node, o.below, o.nth, along_shown g path stands.0 stands.1 o.node o.below p o.node_shown o.below_shown stands.3)

-- ---- tops among entries

-- an entry that is no space is a top
pub record IsTopAt {P : Type 0} (names : List (List ℕ)) (e : Node P) (f : Entries P) : Type 0 where
  pub below : Entries P
  pub stands : StandsUnder names (top_at names e below) f

pub top_from : {P : Type 0} (names : List (List ℕ)) (e : Node P) (f : Entries P) → IsUnder names e f → space_text e ≡ None → (below : Entries P) × ((all : List (List ℕ)) → StandsUnder names (top_at all e below) f)
top_from names e End h none = absurd h
top_from {P} names e (Entry d f g) (inl x) none = (f, λ all. inl (x.0, subst (λ (w : Node P). space_text w ≡ None) (sym x.1) none, x.1, refl))
top_from names e (Entry d f g) (inr (inl i)) none = let o = top_from i.1 e f i.4 none in (o.0, λ all. inr (inl (i.0, i.1, i.2, i.3, o.1 all)))
top_from names e (Entry d f g) (inr (inr r)) none = let o = top_from names e g r none in (o.0, λ all. inr (inr (o.1 all)))

pub top_under : {P : Type 0} (names : List (List ℕ)) (t : CrossTop P) (f : Entries P) → StandsUnder names t f → IsUnder names t.node f × (space_text t.node ≡ None)
top_under names t End h = absurd h
top_under {P} names t (Entry d f g) (inl x) = (inl (x.0, x.2), subst (λ (w : Node P). space_text w ≡ None) x.2 x.1)
top_under names t (Entry d f g) (inr (inl i)) = let o = top_under i.1 t f i.4 in (inr (inl (i.0, i.1, i.2, i.3, o.0)), o.1)
top_under names t (Entry d f g) (inr (inr r)) = let o = top_under names t g r in (inr (inr o.0), o.1)

-- it is seen, and so is all below it
pub top_seen : {P : Type 0} (names : List (List ℕ)) (t : CrossTop P) (f : Entries P) → StandsUnder names t f → In (see t.node t.below) (seen f) × ((d : Seen P) → In d (seen t.below) → In d (seen f))
unfolding seen
top_seen names t End h = absurd h
top_seen {P} names t (Entry d f g) (inl x) = (
  inl (ap (λ (w : Node P). see w f) x.2 ∙ ap (λ (w : Entries P). see t.node w) x.3),
  λ e i. inr (in_left e (seen f) (seen g) (subst (λ (w : Entries P). In e (seen w)) (sym x.3) i)),
)
top_seen names t (Entry d f g) (inr (inl i)) = let o = top_seen i.1 t f i.4 in (inr (in_left (see t.node t.below) (seen f) (seen g) o.0), λ e j. inr (in_left e (seen f) (seen g) (o.1 e j)))
top_seen names t (Entry d f g) (inr (inr r)) = let o = top_seen names t g r in (inr (in_right (see t.node t.below) (seen f) (seen g) o.0), λ e j. inr (in_right e (seen f) (seen g) (o.1 e j)))

-- among the entries of tops
abbrev tops_by : {P : Type 0} → Node P → Entries P → Entries P → Option (List ℕ) → List (Seen P)
tops_by {P} d f g o = elim o as (λ _. List (Seen P)) [ None ↦ see d f ∷ (seen f ++ seen_tops g) | Some s ↦ seen_tops f ++ seen_tops g ]

abbrev AreAmong : {P : Type 0} → CrossTop P → List (Seen P) → Type 0
AreAmong {P} t all = In (see t.node t.below) all × ((d : Seen P) → In d (seen t.below) → In d all)

among_here : {P : Type 0} (d : Node P) (f g : Entries P) (o : Option (List ℕ)) → o ≡ None → (t : CrossTop P) → d ≡ t.node → f ≡ t.below → AreAmong t (tops_by d f g o)
among_here {P} d f g None q t x y = (
  inl (ap (λ (w : Node P). see w f) x ∙ ap (λ (w : Entries P). see t.node w) y),
  λ e i. inr (in_left e (seen f) (seen_tops g) (subst (λ (w : Entries P). In e (seen w)) (sym y) i)),
)
among_here d f g (Some s) q t x y = absurd cc

among_inner : {P : Type 0} (d : Node P) (f g : Entries P) (o : Option (List ℕ)) (s : List ℕ) → o ≡ Some s → (t : CrossTop P) → AreAmong t (seen_tops f) → AreAmong t (tops_by d f g o)
among_inner d f g None s q t h = absurd cc
among_inner d f g (Some r) s q t h = (in_left (see t.node t.below) (seen_tops f) (seen_tops g) h.0, λ e j. in_left e (seen_tops f) (seen_tops g) (h.1 e j))

later_in : {P : Type 0} (d : Node P) (f g : Entries P) (o : Option (List ℕ)) (e : Seen P) → In e (seen_tops g) → In e (tops_by d f g o)
later_in d f g None e i = inr (in_right e (seen f) (seen_tops g) i)
later_in d f g (Some s) e i = in_right e (seen_tops f) (seen_tops g) i

among_later : {P : Type 0} (d : Node P) (f g : Entries P) (o : Option (List ℕ)) (t : CrossTop P) → AreAmong t (seen_tops g) → AreAmong t (tops_by d f g o)
among_later d f g o t h = (later_in d f g o (see t.node t.below) h.0, λ e j. later_in d f g o e (h.1 e j))

pub top_among : {P : Type 0} (names : List (List ℕ)) (t : CrossTop P) (f : Entries P) → StandsUnder names t f
    → In (see t.node t.below) (seen_tops f) × ((d : Seen P) → In d (seen t.below) → In d (seen_tops f))
unfolding seen_tops
top_among names t End h = absurd h
top_among names t (Entry d f g) (inl x) = among_here d f g (space_text d) x.1 t x.2 x.3
top_among names t (Entry d f g) (inr (inl i)) = among_inner d f g (space_text d) i.0 i.2 t (top_among i.1 t f i.4)
top_among names t (Entry d f g) (inr (inr r)) = among_later d f g (space_text d) t (top_among names t g r)

-- ---- each entry

pub data PlaceIn {P : Type 0} (f : Entries P) (p : P) : Type 0 where
  InSpace : (names : List (List ℕ)) (e : Node P) → IsSpace names e f → e.at ≡ p → PlaceIn f p
  InTop : (names : List (List ℕ)) (e : Node P) (below : Entries P) → ((all : List (List ℕ)) → StandsUnder names (top_at all e below) f) → (path : List ℕ) → StandsAlong path e below p → PlaceIn f p

later_place : {P : Type 0} (d : Node P) (f g : Entries P) (p : P) → PlaceIn g p → PlaceIn (Entry d f g) p
later_place d f g p (InSpace names e s at) = InSpace names e (record { outer = s.outer; text = s.text; under = inr (inr s.under); own = s.own; names_are = s.names_are }) at
later_place d f g p (InTop names e below stands path at) = InTop names e below (λ all. inr (inr (stands all))) path at

inner_place : {P : Type 0} (d : Node P) (f g : Entries P) (p : P) (text : List ℕ) → space_text d ≡ Some text → PlaceIn f p → PlaceIn (Entry d f g) p
inner_place d f g p text own (InSpace names e s at) =
    InSpace (text ∷ names) e
    (record { outer = text ∷ s.outer; text = s.text; under = inr (inl (text, s.outer, own, refl, s.under)); own = s.own; names_are = ap (λ (w : List (List ℕ)). text ∷ w) s.names_are }) at
inner_place d f g p text own (InTop names e below stands path at) = InTop (text ∷ names) e below (λ all. inr (inl (text, names, own, refl, stands all))) path at

place_below : {P : Type 0} (e : Node P) (f g : Entries P) (d : Seen P) (o : Option (List ℕ)) → space_text e ≡ o → Along f d.at → PlaceIn f d.at → PlaceIn (Entry e f g) d.at
place_below e f g d None none a h = InTop [] e f (λ all. inl (refl, none, refl, refl)) (a.index ∷ a.path) (a.node, a.below, a.nth, a.stands)
place_below e f g d (Some text) own a h = inner_place e f g d.at text own h

pub where_in : {P : Type 0} (f : Entries P) (d : Seen P) → In d (seen f) → PlaceIn f d.at
unfolding seen
where_in End d h = absurd h
where_in {P} (Entry e f g) d (inl a) = go (space_text e) refl where
  at : e.at ≡ d.at
  at = ap (λ (w : Seen P). w.at) a

  go : (o : Option (List ℕ)) → space_text e ≡ o → PlaceIn (Entry e f g) d.at
  go None none = InTop [] e f (λ all. inl (refl, none, refl, refl)) [] at
  go (Some text) own = InSpace (text ∷ []) e (record { outer = []; text = text; under = inl (refl, refl); own = own; names_are = refl }) at
where_in (Entry e f g) d (inr r) = elim (in_cases d (seen f) (seen g) r) [
  | inl a ↦ place_below e f g d (space_text e) refl (along f d a) (where_in f d a)
  | inr b ↦ later_place e f g d.at (where_in g d b)
]
