-- What holds of units by names holds of them by places, where no two names have one place.
use Rattle.std.proofs.Common.{◌≡◌, ℕ, List, [], ◌∷◌, ◌++◌, Option, Some, None, map, refl, sym, ap, subst, ◌∙◌, inl, inr}
use Rattle.std.proofs.lemmas.List.{map-append}
use Rattle.dwz_def_reading.specs.Documents.{Attr, Compile, DwUnit, Entries, Kind, Node, OfType, Partial, entries_map, kind_map, ref, unit_map}
use Rattle.dwz_def_reading.specs.Lists.{In}
use Rattle.dwz_def_reading.specs.Trees.{End, Entry}
use Rattle.dwz_def_reading.proofs.ListFacts.{in_cases, in_left, in_map, in_right}
use Rattle.dwz_def_tops.specs.Seen.{Closed, EntriesSame, IsChild, IsShown, Named, Seen, TypesSame, all_seen, heads}
use Rattle.dwz_def_tops.specs.Seen.{named_map, named_value, see, seen, seen_below, seen_inner, seen_inside, seen_map, seen_roots, seen_tops}
use Rattle.dwz_def_tops.specs.Shown.{AreShown, IsShownUnit, UnitsShown, keys, unit_keys, units_keys}
use Rattle.dwz_def_tops.specs.Spaces.{IsSpace, IsUnder, space_text}
use Rattle.dwz_def_reading.proofs.Members.{in_map_from}
use Rattle.dwz_def_tops.proofs.SeenLemmas.{entry_seen, root_from, seen_from}
use Rattle.dwz_def_tops.proofs.SpaceLemmas.{node_shown, shown_text, under_seen}

-- ---- references of replaced entries

-- a reference among mapped attributes comes from one
pub record AttrFrom {P Q : Type 0} (f : P → Q) (attrs : List (Named P)) (a : Named Q) (q : Q) : Type 0 where
  pub attr : Named P
  pub there : In attr attrs
  pub is : named_map f attr ≡ a
  pub place : P
  pub refs : In place attr.value.refs
  pub image_is : f place ≡ q

pub attr_from : {P Q : Type 0} (f : P → Q) (attrs : List (Named P)) (a : Named Q) (q : Q) → In a (map (named_map f) attrs) → In q a.value.refs → AttrFrom f attrs a q
attr_from {P} {Q} f attrs a q h is =
    let o = in_map_from (named_map f) a attrs h in
    let r = in_map_from f q o.source.value.refs (subst (λ (w : Named Q). In q w.value.refs) (sym o.is) is) in
    record { attr = o.source; there = o.there; is = o.is; place = r.source; refs = r.there; image_is = r.is }

-- an entry has these attributes
pub record EntryWith {P : Type 0} (units : List (DwUnit P)) (attrs : List (Attr P)) : Type 0 where
  pub entry : Seen P
  pub there : In entry (all_seen units)
  pub attrs_are : entry.attrs ≡ map named_value attrs

pub entry_under : {P : Type 0} (units : List (DwUnit P)) (u : DwUnit P) (names : List (List ℕ)) (e : Node P) → In u units → IsUnder names e u.below → EntryWith units e.attrs
entry_under units u names e is under =
    let d = under_seen names e u.below under in
    record { entry = d.0; there = entry_seen units u d.0 is d.1; attrs_are = d.2 }

-- ---- what is seen

entry_by : {P : Type 0} (a b : P) (s t : ℕ) (x y : List (Named P)) (c d : List P) → a ≡ b → s ≡ t → x ≡ y → c ≡ d
    → (let e : Seen P = record { at = a; tag = s; attrs = x; children = c } in let k : Seen P = record { at = b; tag = t; attrs = y; children = d } in e ≡ k)
entry_by a b s t x y c d p q r u = cc

module _ {P Q : Type 0} (g : P → Q) where
  pub heads_shown : (f : Entries P) (f' : Entries Q) → AreShown g f f' → heads f' ≡ map g (heads f)
  unfolding heads
  heads_shown End End h = refl
  heads_shown (Entry e f k) (Entry d f' k') h = ap (λ (w : Q). w ∷ heads k') h.0.at ∙ ap (λ (w : List Q). g e.at ∷ w) (heads_shown k k' h.2)
  heads_shown _ _ h = absurd h

  pub see_shown : (e : Node P) (d : Node Q) (f : Entries P) (f' : Entries Q) → IsShown g e d → AreShown g f f' → see d f' ≡ seen_map g (see e f)
  see_shown e d f f' h k = entry_by _ _ _ _ _ _ _ _ h.at h.tag h.attrs (heads_shown f f' k)

  seen_shown : (f : Entries P) (f' : Entries Q) → AreShown g f f' → seen f' ≡ map (seen_map g) (seen f)
  unfolding seen
  seen_shown End End h = refl
  seen_shown (Entry e f k) (Entry d f' k') h =
      let first = see_shown e d f f' h.0 h.1 in
      let inner = seen_shown f f' h.1 in
      let rest = seen_shown k k' h.2 in
      rw (map-append (seen_map g) (seen f) (seen k), first, inner, rest) refl
  seen_shown _ _ h = absurd h

  pub below_shown : (units : List (DwUnit P)) (others : List (DwUnit Q)) → UnitsShown g units others → seen_below others ≡ map (seen_map g) (seen_below units)
  unfolding seen_below
  below_shown [] [] h = refl
  below_shown (u ∷ units) (v ∷ others) h = rw (map-append (seen_map g) (seen u.below) (seen_below units), seen_shown u.below v.below h.0.below, below_shown units others h.1) refl
  below_shown _ _ h = absurd h

  pub roots_shown : (units : List (DwUnit P)) (others : List (DwUnit Q)) → UnitsShown g units others → seen_roots others ≡ map (seen_map g) (seen_roots units)
  unfolding seen_roots
  roots_shown [] [] h = refl
  roots_shown (u ∷ units) (v ∷ others) h = rw (see_shown u.root v.root u.below v.below h.0.root h.0.below, roots_shown units others h.1) refl
  roots_shown _ _ h = absurd h

  pub all_shown : (units : List (DwUnit P)) (others : List (DwUnit Q)) → UnitsShown g units others → all_seen others ≡ map (seen_map g) (all_seen units)
  all_shown units others h = rw (map-append (seen_map g) (seen_roots units) (seen_below units), below_shown units others h, roots_shown units others h) refl

  tops_shown : (f : Entries P) (f' : Entries Q) → AreShown g f f' → seen_tops f' ≡ map (seen_map g) (seen_tops f)
  unfolding seen_tops
  tops_shown End End h = refl
  tops_shown (Entry e f k) (Entry d f' k') h = go (see_shown e d f f' h.0 h.1) (seen_shown f f' h.1) (tops_shown f f' h.1) (tops_shown k k' h.2) (space_text d) (space_text e)
      (shown_text g e d h.0) where
        go : see d f' ≡ seen_map g (see e f) → seen f' ≡ map (seen_map g) (seen f) → seen_tops f' ≡ map (seen_map g) (seen_tops f) → seen_tops k' ≡ map (seen_map g) (seen_tops k)
            → (o p : Option (List ℕ))
            → o ≡ p
            → (elim o as (λ _. List (Seen Q)) [ None ↦ see d f' ∷ (seen f' ++ seen_tops k') | Some t ↦ seen_tops f' ++ seen_tops k' ])
            ≡ map (seen_map g) (elim p as (λ _. List (Seen P)) [ None ↦ see e f ∷ (seen f ++ seen_tops k) | Some t ↦ seen_tops f ++ seen_tops k ])
        go x y z w None None s = rw (map-append (seen_map g) (seen f) (seen_tops k), x, y, w) refl
        go x y z w (Some t) (Some t') s = rw (map-append (seen_map g) (seen_tops f) (seen_tops k), z, w) refl
        go x y z w None (Some t') s = absurd cc
        go x y z w (Some t) None s = absurd cc
  tops_shown _ _ h = absurd h

  inside_shown : (k : Kind P) (f : Entries P) (f' : Entries Q) → AreShown g f f' → seen_inside (kind_map g k) f' ≡ map (seen_map g) (seen_inside k f)
  inside_shown Compile f f' h = tops_shown f f' h
  inside_shown (OfType signature main) f f' h = seen_shown f f' h
  inside_shown Partial f f' h = tops_shown f f' h

  pub inner_shown : (units : List (DwUnit P)) (others : List (DwUnit Q)) → UnitsShown g units others → seen_inner others ≡ map (seen_map g) (seen_inner units)
  unfolding seen_inner
  inner_shown [] [] h = refl
  inner_shown (u ∷ units) (v ∷ others) h =
      let x : seen_inside v.kind v.below ≡ map (seen_map g) (seen_inside u.kind u.below) = ap (λ (w : Kind Q). seen_inside w v.below) h.0.kind ∙ inside_shown u.kind u.below v.below h.0.below in
      rw (map-append (seen_map g) (seen_inside u.kind u.below) (seen_inner units), x, inner_shown units others h.1) refl
  inner_shown _ _ h = absurd h

  -- ---- which units, which children

  pub record ShownIn (others : List (DwUnit Q)) (u : DwUnit P) : Type 0 where
    pub unit : DwUnit Q
    pub there : In unit others
    pub shown : IsShownUnit g u unit

  pub shown_in : (units : List (DwUnit P)) (others : List (DwUnit Q)) → UnitsShown g units others → (u : DwUnit P) → In u units → ShownIn others u
  shown_in [] [] h u is = absurd is
  shown_in (w ∷ units) (v ∷ others) h u (inl x) = record { unit = v; there = inl refl; shown = subst (λ (y : DwUnit P). IsShownUnit g y v) x h.0 }
  shown_in (w ∷ units) (v ∷ others) h u (inr r) = let o = shown_in units others h.1 u r in record { unit = o.unit; there = inr o.there; shown = o.shown }
  shown_in _ _ h u is = absurd h

  pub record ShownFrom (units : List (DwUnit P)) (v : DwUnit Q) : Type 0 where
    pub unit : DwUnit P
    pub there : In unit units
    pub shown : IsShownUnit g unit v

  pub shown_from : (units : List (DwUnit P)) (others : List (DwUnit Q)) → UnitsShown g units others → (v : DwUnit Q) → In v others → ShownFrom units v
  shown_from [] [] h v is = absurd is
  shown_from (u ∷ units) (w ∷ others) h v (inl x) = record { unit = u; there = inl refl; shown = subst (IsShownUnit g u) x h.0 }
  shown_from (u ∷ units) (w ∷ others) h v (inr r) = let o = shown_from units others h.1 v r in record { unit = o.unit; there = inr o.there; shown = o.shown }
  shown_from _ _ h v is = absurd h

  pub child_to : (f : Entries P) (f' : Entries Q) → AreShown g f f' → (e : Node P) → IsChild e f → (d : Node Q) × IsChild d f' × IsShown g e d
  child_to End End h e is = absurd is
  child_to (Entry a f k) (Entry b f' k') h e (inl x) = (b, inl refl, subst (λ (y : Node P). IsShown g y b) x h.0)
  child_to (Entry a f k) (Entry b f' k') h e (inr r) = let o = child_to k k' h.2 e r in (o.0, inr o.1, o.2)
  child_to _ _ h e is = absurd h

  pub child_from : (f : Entries P) (f' : Entries Q) → AreShown g f f' → (d : Node Q) → IsChild d f' → (e : Node P) × IsChild e f × IsShown g e d
  child_from End End h d is = absurd is
  child_from (Entry a f k) (Entry b f' k') h d (inl x) = (a, inl refl, subst (IsShown g a) x h.0)
  child_from (Entry a f k) (Entry b f' k') h d (inr r) = let o = child_from k k' h.2 d r in (o.0, inr o.1, o.2)
  child_from _ _ h d is = absurd h

  -- in spaces with the same names
  pub under_to : (names : List (List ℕ)) (f : Entries P) (f' : Entries Q) → AreShown g f f' → (e : Node P) → IsUnder names e f → (d : Node Q) × IsUnder names d f' × IsShown g e d
  under_to names End End h e is = absurd is
  under_to names (Entry a f k) (Entry b f' k') h e (inl x) = (b, inl (x.0, refl), subst (λ (y : Node P). IsShown g y b) x.1 h.0)
  under_to names (Entry a f k) (Entry b f' k') h e (inr (inl i)) = let o = under_to i.1 f f' h.1 e i.4 in (o.0, inr (inl (i.0, i.1, shown_text g a b h.0 ∙ i.2, i.3, o.1)), o.2)
  under_to names (Entry a f k) (Entry b f' k') h e (inr (inr r)) = let o = under_to names k k' h.2 e r in (o.0, inr (inr o.1), o.2)
  under_to names _ _ h e is = absurd h

  pub under_from : (names : List (List ℕ)) (f : Entries P) (f' : Entries Q) → AreShown g f f' → (d : Node Q) → IsUnder names d f' → (e : Node P) × IsUnder names e f × IsShown g e d
  under_from names End End h d is = absurd is
  under_from names (Entry a f k) (Entry b f' k') h d (inl x) = (a, inl (x.0, refl), subst (IsShown g a) x.1 h.0)
  under_from names (Entry a f k) (Entry b f' k') h d (inr (inl i)) = let o = under_from i.1 f f' h.1 d i.4 in (o.0, inr (inl (i.0, i.1, sym (shown_text g a b h.0) ∙ i.2, i.3, o.1)), o.2)
  under_from names (Entry a f k) (Entry b f' k') h d (inr (inr r)) = let o = under_from names k k' h.2 d r in (o.0, inr (inr o.1), o.2)
  under_from names _ _ h d is = absurd h

  pub space_to : (names : List (List ℕ)) (f : Entries P) (f' : Entries Q) → AreShown g f f' → (e : Node P) → IsSpace names e f → (d : Node Q) × IsSpace names d f' × IsShown g e d
  space_to names f f' h e s =
      let o = under_to s.outer f f' h e s.under in
      (o.0, record { outer = s.outer; text = s.text; under = o.1; own = shown_text g e o.0 o.2 ∙ s.own; names_are = s.names_are }, o.2)

  pub space_from : (names : List (List ℕ)) (f : Entries P) (f' : Entries Q) → AreShown g f f' → (d : Node Q) → IsSpace names d f' → (e : Node P) × IsSpace names e f × IsShown g e d
  space_from names f f' h d s =
      let o = under_from s.outer f f' h d s.under in
      (o.0, record { outer = s.outer; text = s.text; under = o.1; own = sym (shown_text g o.0 d o.2) ∙ s.own; names_are = s.names_are }, o.2)

  -- ---- references

  closed_from : (units : List (DwUnit P)) (others : List (DwUnit Q)) → all_seen others ≡ map (seen_map g) (all_seen units) → Closed units → (d : Seen P) → In d (all_seen units) → (a : Named P)
      → In a d.attrs → (p : P) → In p a.value.refs → (q : Q) → g p ≡ q
      → (e : Seen Q) × In e (all_seen others) × (e.at ≡ q)
  closed_from units others all closed d there a attr p ref q same =
      let t = closed d a p there attr ref in
      (seen_map g t.0, subst (In (seen_map g t.0)) (sym all) (in_map (seen_map g) t.0 (all_seen units) t.1), ap g t.2 ∙ same)

  pub closed_shown : (units : List (DwUnit P)) (others : List (DwUnit Q)) → UnitsShown g units others → Closed units → Closed others
  closed_shown units others h closed = λ e a q is attr ref.
      let all = all_shown units others h in
      let d = in_map_from (seen_map g) e (all_seen units) (subst (In e) all is) in
      let o = attr_from g d.source.attrs a q (subst (λ (w : Seen Q). In a w.attrs) (sym d.is) attr) ref in
      closed_from units others all closed d.source d.there o.attr o.there o.place o.refs q o.image_is

-- ---- the keys of entries

pub seen_key : {K : Type 0} (f : Entries K) (d : Seen K) → In d (seen f) → In d.at (keys f)
unfolding seen keys
seen_key End d h = absurd h
seen_key {K} (Entry e f g) d (inl x) = inl (ap (λ (w : Seen K). w.at) x)
seen_key (Entry e f g) d (inr r) = elim (in_cases d (seen f) (seen g) r) [
  | inl a ↦ inr (in_left d.at (keys f) (keys g) (seen_key f d a))
  | inr b ↦ inr (in_right d.at (keys f) (keys g) (seen_key g d b))
]

pub unit_key : {K : Type 0} (units : List (DwUnit K)) (u : DwUnit K) (k : K) → In u units → In k (unit_keys u) → In k (units_keys units)
unfolding units_keys
unit_key [] u k h is = absurd h
unit_key {K} (v ∷ units) u k (inl x) is = in_left k (unit_keys v) (units_keys units) (subst (λ (w : DwUnit K). In k (unit_keys w)) (sym x) is)
unit_key (v ∷ units) u k (inr r) is = in_right k (unit_keys v) (units_keys units) (unit_key units u k r is)

pub root_key : {K : Type 0} (units : List (DwUnit K)) (u : DwUnit K) → In u units → In u.root.at (units_keys units)
unfolding unit_keys
root_key units u h = unit_key units u u.root.at h (inr (inl refl))

pub entry_key : {K : Type 0} (units : List (DwUnit K)) (d : Seen K) → In d (all_seen units) → In d.at (units_keys units)
unfolding unit_keys
entry_key {K} units d h = elim (in_cases d (seen_roots units) (seen_below units) h) [
  | inl a ↦ (let o = root_from units d a in subst (λ (w : Seen K). In w.at (units_keys units)) o.is (root_key units o.unit o.there))
  | inr b ↦ (let o = seen_from units d b in unit_key units o.unit d.at o.there (inr (inr (seen_key o.unit.below d o.is))))
]

-- what a reference names has a key
pub ref_key : {K : Type 0} (units : List (DwUnit K)) → Closed units → (d : Seen K) → In d (all_seen units) → (a : Named K) → In a d.attrs → (p : K) → In p a.value.refs → In p (units_keys units)
ref_key {K} units closed d there a attr p ref =
    let t = closed d a p there attr ref in
    subst (λ (x : K). In x (units_keys units)) t.2 (entry_key units t.0 t.1)

-- ---- one after the other

pub map_then : {A B C : Type 0} (f : A → B) (g : B → C) (xs : List A) → map g (map f xs) ≡ map (λ x. g (f x)) xs
map_then f g [] = refl
map_then {A} {B} {C} f g (x ∷ xs) = ap (λ (w : List C). g (f x) ∷ w) (map_then f g xs)

pub names_then : {A B C : Type 0} (f : A → B) (g : B → C) (attrs : List (Named A)) → map (named_map g) (map (named_map f) attrs) ≡ map (named_map (λ x. g (f x))) attrs
names_then f g [] = refl
names_then f g (a ∷ attrs) = rw (map_then f g a.value.refs, names_then f g attrs) refl

pub seen_then : {A B C : Type 0} (f : A → B) (g : B → C) (e : Seen A) → seen_map g (seen_map f e) ≡ seen_map (λ x. g (f x)) e
seen_then f g e = rw (names_then f g e.attrs, map_then f g e.children) refl

pub kind_then : {A B C : Type 0} (f : A → B) (g : B → C) (k : Kind A) → kind_map g (kind_map f k) ≡ kind_map (λ x. g (f x)) k
kind_then f g Compile = refl
kind_then f g (OfType signature main) = refl
kind_then f g Partial = refl

-- entries that are the same along names are so along places
pub entries_placed : {A K P : Type 0} (g : K → P) (f : A → K) (before : List (DwUnit A)) (after : List (DwUnit K)) (placed : List (DwUnit P)) → UnitsShown g after placed → EntriesSame f before after
    → EntriesSame (λ x. g (f x)) before placed
entries_placed {A} {K} {P} g f before after placed shown h = λ e is.
    subst (In (seen_map (λ x. g (f x)) e)) (sym (below_shown g after placed shown))
    (subst (λ (w : Seen P). In w (map (seen_map g) (seen_below after))) (seen_then f g e) (in_map (seen_map g) (seen_map f e) (seen_below after) (h e is)))

-- and so are the roots of type units
pub types_placed : {A K P : Type 0} (g : K → P) (f : A → K) (before : List (DwUnit A)) (after : List (DwUnit K)) (placed : List (DwUnit P)) → UnitsShown g after placed → TypesSame f before after
    → TypesSame (λ x. g (f x)) before placed
types_placed {A} {K} {P} g f before after placed shown h = λ u signature main is kind.
    let e = see u.root u.below in
    subst (In (seen_map (λ x. g (f x)) e)) (sym (roots_shown g after placed shown))
    (subst (λ (w : Seen P). In w (map (seen_map g) (seen_roots after))) (seen_then f g e) (in_map (seen_map g) (seen_map f e) (seen_roots after) (h u signature main is kind)))

-- ---- the same with other places is shown

pub entries_shown : {P Q : Type 0} (g : P → Q) (f : Entries P) → AreShown g f (entries_map g f)
unfolding entries_map
entries_shown g End = tt
entries_shown g (Entry e f k) = (node_shown g e, entries_shown g f, entries_shown g k)

pub map_shown : {P Q : Type 0} (g : P → Q) (units : List (DwUnit P)) → UnitsShown g units (map (unit_map g) units)
map_shown g [] = tt
map_shown g (u ∷ units) = (record { kind = refl; root = node_shown g u.root; below = entries_shown g u.below }, map_shown g units)

-- ---- one after the other

pub shown_node : {A B C : Type 0} (f : A → B) (g : B → C) (d : Node A) (e : Node B) (k : Node C) → IsShown f d e → IsShown g e k → IsShown (λ x. g (f x)) d k
shown_node f g d e k x y = record {
  at = y.at ∙ ap g x.at;
  tag = y.tag ∙ x.tag;
  attrs = y.attrs ∙ ap (map (named_map g)) x.attrs ∙ names_then f g (map named_value d.attrs);
}

shown_entries : {A B C : Type 0} (f : A → B) (g : B → C) (a : Entries A) (b : Entries B) (c : Entries C) → AreShown f a b → AreShown g b c → AreShown (λ x. g (f x)) a c
shown_entries f g End End End x y = tt
shown_entries f g (Entry d a a') (Entry e b b') (Entry k c c') x y = (shown_node f g d e k x.0 y.0, shown_entries f g a b c x.1 y.1, shown_entries f g a' b' c' x.2 y.2)
shown_entries f g End End (Entry k c c') x y = absurd y
shown_entries f g (Entry d a a') (Entry e b b') End x y = absurd y
shown_entries f g _ _ _ x y = absurd x

pub shown_then : {A B C : Type 0} (f : A → B) (g : B → C) (us : List (DwUnit A)) (vs : List (DwUnit B)) (ws : List (DwUnit C)) → UnitsShown f us vs → UnitsShown g vs ws
    → UnitsShown (λ x. g (f x)) us ws
shown_then f g [] [] [] x y = tt
shown_then f g (u ∷ us) (v ∷ vs) (w ∷ ws) x y = (
  record {
    kind = y.0.kind ∙ ap (kind_map g) x.0.kind ∙ kind_then f g u.kind;
    root = shown_node f g u.root v.root w.root x.0.root y.0.root;
    below = shown_entries f g u.below v.below w.below x.0.below y.0.below;
  },
  shown_then f g us vs ws x.1 y.1,
)
shown_then f g [] [] (w ∷ ws) x y = absurd y
shown_then f g (u ∷ us) (v ∷ vs) [] x y = absurd y
shown_then f g _ _ _ x y = absurd x
