-- Names in preorder: what a place is called stands in the list with it, and no place stands there twice.
use Rattle.std.proofs.Common.{◌≡◌, ℕ, zero, suc, ◌+◌, List, [], ◌∷◌, ◌++◌, length, map, Option, Some, None, refl, sym, ap, subst, ◌∙◌, inl, inr, arith}
use Rattle.std.specs.Prelude.{reverse}
use Rattle.std.proofs.lemmas.List.{append-nil, append_assoc, map-append}
use Rattle.std.proofs.lemmas.Grind.{reverse_onto}
use Rattle.dwz_def_reading.specs.Documents.{Compile, DwUnit, Entries, Kind, Node, OfType, Partial}
use Rattle.dwz_def_reading.specs.Lists.{In}
use Rattle.dwz_def_reading.specs.Trees.{End, Entry}
use Rattle.dwz_def_reading.proofs.ListFacts.{in_cases, in_left, in_map, in_right}
use Rattle.dwz_def_tops.specs.Lists.{NoneTwice, Nth}
use Rattle.dwz_def_tops.specs.Seen.{IsPartial}
use Rattle.dwz_def_tops.specs.Shown.{keys, unit_keys, units_keys}
use Rattle.dwz_def_tops.specs.Spaces.{IsUnder, space_text, tops_under}
use Rattle.dwz_def_tops.proofs.OnceLemmas.{none_append, none_both, none_left, none_right}
use Rattle.dwz_def_cross.specs.Tops.{CrossTop, IsNthChild, StandsAlong, unless_partial, whole_units}
use Rattle.dwz_def_check.specs.CrossNames.{AtPath, CrossName, PartSpace, WholeSpace, cross_names_below, cross_names_from, cross_names_under, cross_tops, cross_tops_in, cross_unit_names, next_whole, unit_tops}
use Rattle.dwz_def_check.proofs.TopLists.{nth_split, tops_by, tops_count}

abbrev Called : Type 0 → Type 0
Called P = P × CrossName

-- ---- in a top

child_in : {P : Type 0} (x : P × CrossName) (top : ℕ) (path : List ℕ) (k j i : ℕ) (d : Node P) (below f : Entries P) → k ≡ j + i → IsNthChild i d below f
    → In x ((d.at, AtPath top (k ∷ path)) ∷ cross_names_below top (k ∷ path) 0 below) → In x (cross_names_below top path j f)
unfolding cross_names_below
child_in x top path k j i d below End e n h = absurd n
child_in {P} x top path k j zero d below (Entry c g next) e n h =
    let same : k ≡ j = omega (arith, e) in
    let here : In x ((c.at, AtPath top (j ∷ path)) ∷ cross_names_below top (j ∷ path) 0 g) =
    subst (λ (w : Node P × (Entries P × ℕ)). In x ((w.0.at, AtPath top (w.1.1 ∷ path)) ∷ cross_names_below top (w.1.1 ∷ path) 0 w.1.0)) (λ l. (sym n.0 l, (sym n.1 l, same l))) h in
    in_left x ((c.at, AtPath top (j ∷ path)) ∷ cross_names_below top (j ∷ path) 0 g) (cross_names_below top path (suc j) next) here
child_in x top path k j (suc i) d below (Entry c g next) e n h =
    in_right x ((c.at, AtPath top (j ∷ path)) ∷ cross_names_below top (j ∷ path) 0 g) (cross_names_below top path (suc j) next) (child_in x top path k (suc j) i d below next (omega (arith, e)) n h)

pub below_in : {P : Type 0} (top : ℕ) (above down : List ℕ) (e : Node P) (f : Entries P) (p : P) → StandsAlong down e f p
    → In (p, AtPath top (reverse down ++ above)) ((e.at, AtPath top above) ∷ cross_names_below top above 0 f)
below_in top above [] e f p h = inl (λ i. (h i, AtPath top above))
below_in {P} top above (i ∷ down) e f p h =
    let turned : reverse (i ∷ down) ++ above ≡ reverse down ++ (i ∷ above) = ap (λ (w : List ℕ). w ++ above) (reverse_onto down i []) ∙ append_assoc (reverse down) (i ∷ []) above in
    let one : In (p, AtPath top (reverse down ++ (i ∷ above))) (cross_names_below top above 0 f) = child_in (p, AtPath top (reverse down ++ (i ∷ above))) top above i 0 i h.0 h.1 f (omega arith) h.2 (below_in top (i ∷ above) down h.0 h.1 p h.3) in
    inr (subst (λ (w : List ℕ). In (p, AtPath top w) (cross_names_below top above 0 f)) (sym turned) one)

top_in : {P : Type 0} (top : ℕ) (down : List ℕ) (e : Node P) (f : Entries P) (p : P) → StandsAlong down e f p → In (p, AtPath top (reverse down)) ((e.at, AtPath top []) ∷ cross_names_below top [] 0 f)
top_in top down e f p h = subst (λ (w : List ℕ). In (p, AtPath top w) ((e.at, AtPath top []) ∷ cross_names_below top [] 0 f)) (append-nil (reverse down)) (below_in top [] down e f p h)

-- ---- in a root or a space

abbrev names_by : {P : Type 0} → (List (List ℕ) → CrossName) → List (List ℕ) → ℕ → Node P → Entries P → Entries P → Option (List ℕ) → List (P × CrossName)
names_by {P} space names top e children next o = elim o as (λ _. List (P × CrossName)) [
  | None ↦ (e.at, AtPath top []) ∷ cross_names_below top [] 0 children ++ cross_names_under space names (suc top) next
  | Some text ↦ (e.at, space (names ++ text ∷ []))
      ∷ cross_names_under space (names ++ text ∷ []) top children ++ cross_names_under space names (top + tops_under children) next
]

nth_by : {P : Type 0} (space : List (List ℕ) → CrossName) (names outer : List (List ℕ)) (s n : ℕ) (e : Node P) (f g : Entries P) (t : CrossTop P) (down : List ℕ) (p : P)
    → StandsAlong down t.node t.below p
    → ((k : ℕ) → Nth k (cross_tops_in outer g) n t → In (p, AtPath n (reverse down)) (cross_names_under space names k g))
    → ((all inner : List (List ℕ)) → Nth s (cross_tops_in inner f) n t → In (p, AtPath n (reverse down)) (cross_names_under space all s f))
    → (o : Option (List ℕ)) → Nth s (tops_by outer e f g o) n t → In (p, AtPath n (reverse down)) (names_by space names s e f g o)
nth_by {P} space names outer s n e f g t down p h behind inside None (inl x) =
    let stands : StandsAlong down e f p = subst (λ (w : CrossTop P). StandsAlong down w.node w.below p) (sym x.1) h in
    let one : In (p, AtPath n (reverse down)) ((e.at, AtPath s []) ∷ cross_names_below s [] 0 f) =
    subst (λ (k : ℕ). In (p, AtPath k (reverse down)) ((e.at, AtPath s []) ∷ cross_names_below s [] 0 f)) x.0 (top_in s down e f p stands) in
    in_left (p, AtPath n (reverse down)) ((e.at, AtPath s []) ∷ cross_names_below s [] 0 f) (cross_names_under space names (suc s) g) one
nth_by space names outer s n e f g t down p h behind inside None (inr r) =
    in_right (p, AtPath n (reverse down)) ((e.at, AtPath s []) ∷ cross_names_below s [] 0 f) (cross_names_under space names (suc s) g) (behind (suc s) r)
nth_by {P} space names outer s n e f g t down p h behind inside (Some text) r =
    let x : P × CrossName = (p, AtPath n (reverse down)) in
    let first = cross_names_under space (names ++ text ∷ []) s f in
    let rest = cross_names_under space names (s + tops_under f) g in
    inr (elim (nth_split s (cross_tops_in (outer ++ text ∷ []) f) (cross_tops_in outer g) n t r) [
      | inl a ↦ in_left x first rest (inside (names ++ text ∷ []) (outer ++ text ∷ []) a)
      | inr b ↦
          let count = tops_count (outer ++ text ∷ []) f in
          in_right x first rest (behind (s + tops_under f) (subst (λ (k : ℕ). Nth (s + k) (cross_tops_in outer g) n t) count b))
    ])

pub nth_under : {P : Type 0} (space : List (List ℕ) → CrossName) (names outer : List (List ℕ)) (s n : ℕ) (f : Entries P) (t : CrossTop P) (down : List ℕ) (p : P) → StandsAlong down t.node t.below p
    → Nth s (cross_tops_in outer f) n t → In (p, AtPath n (reverse down)) (cross_names_under space names s f)
unfolding cross_tops_in cross_names_under
nth_under space names outer s n End t down p h r = absurd r
nth_under space names outer s n (Entry e f g) t down p h r =
    nth_by space names outer s n e f g t down p h (λ k. nth_under space names outer k n g t down p h) (λ all inner. nth_under space all inner s n f t down p h) (space_text e) r

later_by : {P : Type 0} (space : List (List ℕ) → CrossName) (names : List (List ℕ)) (s : ℕ) (e : Node P) (f g : Entries P) (x : P × CrossName) → ((k : ℕ) → In x (cross_names_under space names k g))
    → (o : Option (List ℕ)) → In x (names_by space names s e f g o)
later_by space names s e f g x h None = inr (in_right x (cross_names_below s [] 0 f) (cross_names_under space names (suc s) g) (h (suc s)))
later_by space names s e f g x h (Some text) = inr (in_right x (cross_names_under space (names ++ text ∷ []) s f) (cross_names_under space names (s + tops_under f) g) (h (s + tops_under f)))

pub space_under : {P : Type 0} (space : List (List ℕ) → CrossName) (names outer : List (List ℕ)) (s : ℕ) (text : List ℕ) (e : Node P) (f : Entries P) → IsUnder outer e f → space_text e ≡ Some text
    → In (e.at, space (names ++ (outer ++ text ∷ []))) (cross_names_under space names s f)
unfolding cross_names_under
space_under space names outer s text e End h own = absurd h
space_under {P} space names outer s text e (Entry d f g) (inl x) own =
    let named : space_text d ≡ Some text = ap (λ (w : Node P). space_text w) x.1 ∙ own in
    let all : names ++ text ∷ [] ≡ names ++ (outer ++ text ∷ []) = ap (λ (w : List (List ℕ)). names ++ (w ++ text ∷ [])) (sym x.0) in
    let one : In (e.at, space (names ++ (outer ++ text ∷ []))) (names_by space names s d f g (Some text)) = inl (λ i. ((x.1 i).at, space (all i))) in
    subst (λ (o : Option (List ℕ)). In (e.at, space (names ++ (outer ++ text ∷ []))) (names_by space names s d f g o)) (sym named) one
space_under {P} space names outer s text e (Entry d f g) (inr (inl i)) own =
    let all : (names ++ i.0 ∷ []) ++ (i.1 ++ text ∷ []) ≡ names ++ (outer ++ text ∷ []) =
    append_assoc names (i.0 ∷ []) (i.1 ++ text ∷ []) ∙ ap (λ (w : List (List ℕ)). names ++ (w ++ text ∷ [])) (sym i.3) in
    let x : P × CrossName = (e.at, space ((names ++ i.0 ∷ []) ++ (i.1 ++ text ∷ []))) in
    let one : In x (names_by space names s d f g (Some i.0)) = inr (in_left x (cross_names_under space (names ++ i.0 ∷ []) s f) (cross_names_under space names (s + tops_under f) g) (space_under space (names ++ i.0 ∷ []) i.1 s text e f i.4 own)) in
    subst (λ (w : Option (List ℕ) × List (List ℕ)). In (e.at, space w.1) (names_by space names s d f g w.0)) (λ l. (sym i.2 l, all l)) one
space_under space names outer s text e (Entry d f g) (inr (inr r)) own =
    later_by space names s d f g (e.at, space (names ++ (outer ++ text ∷ []))) (λ k. space_under space names outer k text e g r own) (space_text d)

-- ---- of units

unit_top : {P : Type 0} (k s n : ℕ) (kind : Kind P) (u : DwUnit P) (t : CrossTop P) (down : List ℕ) (p : P) → StandsAlong down t.node t.below p → Nth s (unit_tops kind u) n t → In (p, AtPath n (reverse down)) (cross_unit_names k s kind u)
unit_top k s n Compile u t down p h r = inr (nth_under (WholeSpace k) [] [] s n u.below t down p h r)
unit_top k s n Partial u t down p h r = inr (nth_under PartSpace [] [] s n u.below t down p h r)
unit_top {P} k s n (OfType signature main) u t down p h (inl x) =
    let stands : StandsAlong down u.root u.below p = subst (λ (w : CrossTop P). StandsAlong down w.node w.below p) (sym x.1) h in
    subst (λ (m : ℕ). In (p, AtPath m (reverse down)) ((u.root.at, AtPath s []) ∷ cross_names_below s [] 0 u.below)) x.0 (top_in s down u.root u.below p stands)
unit_top k s n (OfType signature main) u t down p h (inr r) = absurd r

pub top_from : {P : Type 0} (k s n : ℕ) (units : List (DwUnit P)) (t : CrossTop P) (down : List ℕ) (p : P) → StandsAlong down t.node t.below p → Nth s (cross_tops units) n t → In (p, AtPath n (reverse down)) (cross_names_from k s units)
unfolding cross_tops cross_names_from
top_from k s n [] t down p h r = absurd r
top_from {P} k s n (u ∷ units) t down p h r =
    let x : P × CrossName = (p, AtPath n (reverse down)) in
    let first = cross_unit_names k s u.kind u in
    let rest = cross_names_from (next_whole u.kind k) (s + length (unit_tops u.kind u)) units in
    elim (nth_split s (unit_tops u.kind u) (cross_tops units) n t r) [
      | inl a ↦ in_left x first rest (unit_top k s n u.kind u t down p h a)
      | inr b ↦ in_right x first rest (top_from (next_whole u.kind k) (s + length (unit_tops u.kind u)) n units t down p h b)
    ]

-- the names of a unit and of those behind it, by its kind
abbrev from_by : {P : Type 0} → ℕ → ℕ → DwUnit P → List (DwUnit P) → Kind P → List (P × CrossName)
from_by k s u units kind = cross_unit_names k s kind u ++ cross_names_from (next_whole kind k) (s + length (unit_tops kind u)) units

compile_by : {P : Type 0} (k s n : ℕ) (v : DwUnit P) (units : List (DwUnit P)) (u : DwUnit P) (x : P × CrossName) → u.kind ≡ Compile → ((m : ℕ) → In x (cross_unit_names n m Compile u))
    → ((j m : ℕ) → Nth j (whole_units units) n u → In x (cross_names_from j m units)) → (kind : Kind P) → v.kind ≡ kind → Nth k (unless_partial kind v (whole_units units)) n u → In x (from_by k s v units kind)
compile_by k s n v units u x compile here behind Partial q r =
    in_right x (cross_unit_names k s Partial v) (cross_names_from k (s + length (unit_tops Partial v)) units) (behind k (s + length (unit_tops Partial v)) r)
compile_by {P} k s n v units u x compile here behind Compile q (inl y) =
    let one : In x (cross_unit_names k s Compile v) = subst (λ (w : ℕ × DwUnit P). In x (cross_unit_names w.0 s Compile w.1)) (λ i. (sym y.0 i, sym y.1 i)) (here s) in
    in_left x (cross_unit_names k s Compile v) (cross_names_from (suc k) (s + length (unit_tops Compile v)) units) one
compile_by k s n v units u x compile here behind Compile q (inr r) =
    in_right x (cross_unit_names k s Compile v) (cross_names_from (suc k) (s + length (unit_tops Compile v)) units) (behind (suc k) (s + length (unit_tops Compile v)) r)
compile_by {P} k s n v units u x compile here behind (OfType signature main) q (inl y) =
    let same : OfType signature main ≡ Compile = sym q ∙ ap (λ (w : DwUnit P). w.kind) y.1 ∙ compile in
    absurd cc
compile_by k s n v units u x compile here behind (OfType signature main) q (inr r) =
    in_right x (cross_unit_names k s (OfType signature main) v) (cross_names_from (suc k) (s + length (unit_tops (OfType signature main) v)) units) (behind (suc k) (s + length (unit_tops (OfType signature main) v)) r)

pub compile_from : {P : Type 0} (k s n : ℕ) (units : List (DwUnit P)) (u : DwUnit P) (x : P × CrossName) → u.kind ≡ Compile → ((m : ℕ) → In x (cross_unit_names n m Compile u)) → Nth k (whole_units units) n u → In x (cross_names_from k s units)
unfolding cross_names_from whole_units
compile_from k s n [] u x compile here r = absurd r
compile_from k s n (v ∷ units) u x compile here r = compile_by k s n v units u x compile here (λ j m. compile_from j m n units u x compile here) v.kind refl r

partial_names : {P : Type 0} (k s : ℕ) (u : DwUnit P) (x : P × CrossName) (kind : Kind P) → IsPartial kind → In x (cross_unit_names k s Partial u) → In x (cross_unit_names k s kind u)
partial_names k s u x Partial p h = h
partial_names k s u x Compile p h = absurd p
partial_names k s u x (OfType signature main) p h = absurd p

pub partial_from : {P : Type 0} (k s : ℕ) (units : List (DwUnit P)) (u : DwUnit P) (x : P × CrossName) → In u units → IsPartial u.kind → ((j m : ℕ) → In x (cross_unit_names j m Partial u)) → In x (cross_names_from k s units)
unfolding cross_names_from
partial_from k s [] u x is p here = absurd is
partial_from {P} k s (v ∷ units) u x (inl same) p here =
    in_left x (cross_unit_names k s v.kind v) (cross_names_from (next_whole v.kind k) (s + length (unit_tops v.kind v)) units)
    (subst (λ (w : DwUnit P). In x (cross_unit_names k s w.kind w)) (sym same) (partial_names k s u x u.kind p (here k s)))
partial_from k s (v ∷ units) u x (inr r) p here =
    in_right x (cross_unit_names k s v.kind v) (cross_names_from (next_whole v.kind k) (s + length (unit_tops v.kind v)) units) (partial_from (next_whole v.kind k) (s + length (unit_tops v.kind v)) units u x r p here)

-- ---- no place twice

abbrev place : {P : Type 0} → P × CrossName → P
place x = x.0

below_places : {P : Type 0} (top : ℕ) (path : List ℕ) (i : ℕ) (f : Entries P) → map place (cross_names_below top path i f) ≡ keys f
unfolding cross_names_below keys
below_places top path i End = refl
below_places {P} top path i (Entry e f g) =
    let a = below_places top (i ∷ path) 0 f in
    let b = below_places top path (suc i) g in
    ap (λ (w : List P). e.at ∷ w) (map-append place (cross_names_below top (i ∷ path) 0 f) (cross_names_below top path (suc i) g) ∙ (λ l. a l ++ b l))

under_by : {P : Type 0} (space : List (List ℕ) → CrossName) (names : List (List ℕ)) (s : ℕ) (e : Node P) (f g : Entries P) → ((all : List (List ℕ)) (k : ℕ) → map place (cross_names_under space all k f) ≡ keys f)
    → ((k : ℕ) → map place (cross_names_under space names k g) ≡ keys g) → (o : Option (List ℕ)) → map place (names_by space names s e f g o) ≡ e.at ∷ keys f ++ keys g
under_by {P} space names s e f g inside behind None =
    let a = below_places s [] 0 f in
    let b = behind (suc s) in
    ap (λ (w : List P). e.at ∷ w) (map-append place (cross_names_below s [] 0 f) (cross_names_under space names (suc s) g) ∙ (λ l. a l ++ b l))
under_by {P} space names s e f g inside behind (Some text) =
    let a = inside (names ++ text ∷ []) s in
    let b = behind (s + tops_under f) in
    ap (λ (w : List P). e.at ∷ w) (map-append place (cross_names_under space (names ++ text ∷ []) s f) (cross_names_under space names (s + tops_under f) g) ∙ (λ l. a l ++ b l))

under_places : {P : Type 0} (space : List (List ℕ) → CrossName) (names : List (List ℕ)) (s : ℕ) (f : Entries P) → map place (cross_names_under space names s f) ≡ keys f
unfolding cross_names_under keys
under_places space names s End = refl
under_places space names s (Entry e f g) = under_by space names s e f g (λ all k. under_places space all k f) (λ k. under_places space names k g) (space_text e)

unit_places : {P : Type 0} (k s : ℕ) (kind : Kind P) (u : DwUnit P) → map place (cross_unit_names k s kind u) ≡ u.root.at ∷ keys u.below
unit_places {P} k s Compile u = ap (λ (w : List P). u.root.at ∷ w) (under_places (WholeSpace k) [] s u.below)
unit_places {P} k s Partial u = ap (λ (w : List P). u.root.at ∷ w) (under_places PartSpace [] s u.below)
unit_places {P} k s (OfType signature main) u = ap (λ (w : List P). u.root.at ∷ w) (below_places s [] 0 u.below)

-- the places of all entries
places : {P : Type 0} → List (DwUnit P) → List P
places [] = []
places (u ∷ units) = (u.root.at ∷ keys u.below) ++ places units

from_places : {P : Type 0} (k s : ℕ) (units : List (DwUnit P)) → map place (cross_names_from k s units) ≡ places units
unfolding cross_names_from places
from_places k s [] = refl
from_places k s (u ∷ units) =
    let a = unit_places k s u.kind u in
    let b = from_places (next_whole u.kind k) (s + length (unit_tops u.kind u)) units in
    map-append place (cross_unit_names k s u.kind u) (cross_names_from (next_whole u.kind k) (s + length (unit_tops u.kind u)) units) ∙ (λ l. a l ++ b l)

places_join : {P : Type 0} (us vs : List (DwUnit P)) → places (us ++ vs) ≡ places us ++ places vs
unfolding places
places_join [] vs = refl
places_join {P} (u ∷ us) vs = ap (λ (w : List P). (u.root.at ∷ keys u.below) ++ w) (places_join us vs) ∙ sym (append_assoc (u.root.at ∷ keys u.below) (places us) (places vs))

places_key : {P : Type 0} (units : List (DwUnit P)) (p : P) → In p (places units) → In p (units_keys units)
unfolding places units_keys unit_keys
places_key [] p h = absurd h
places_key (u ∷ units) p h = elim (in_cases p (u.root.at ∷ keys u.below) (places units) h) [
  | inl a ↦ in_left p (unit_keys u) (units_keys units) (inr a)
  | inr b ↦ in_right p (unit_keys u) (units_keys units) (places_key units p b)
]

places_once : {P : Type 0} (units : List (DwUnit P)) → NoneTwice (units_keys units) → NoneTwice (places units)
unfolding places units_keys unit_keys
places_once [] h = tt
places_once (u ∷ units) h =
    none_append (u.root.at ∷ keys u.below) (places units) (none_left (unit_keys u) (units_keys units) h).1 (places_once units (none_right (unit_keys u) (units_keys units) h))
    (λ p i j. none_both (unit_keys u) (units_keys units) h p (inr i) (places_key units p j))

one_called : {P : Type 0} (all : List (P × CrossName)) → NoneTwice (map place all) → (p : P) (x y : CrossName) → In (p, x) all → In (p, y) all → x ≡ y
one_called [] h p x y i j = absurd i
one_called {P} (z ∷ all) h p x y (inl a) (inl b) = ap (λ (w : P × CrossName). w.1) (sym a ∙ b)
one_called {P} (z ∷ all) h p x y (inl a) (inr s) = absurd (h.0 (subst (λ (w : P). In w (map place all)) (sym (ap (λ (w : P × CrossName). w.0) a)) (in_map place (p, y) all s)))
one_called {P} (z ∷ all) h p x y (inr r) (inl b) = absurd (h.0 (subst (λ (w : P). In w (map place all)) (sym (ap (λ (w : P × CrossName). w.0) b)) (in_map place (p, x) all r)))
one_called (z ∷ all) h p x y (inr r) (inr s) = one_called all h.1 p x y r s

all_places : {P : Type 0} (j s k t : ℕ) (own common : List (DwUnit P)) → map place (cross_names_from j s own ++ cross_names_from k t common) ≡ places (own ++ common)
all_places j s k t own common =
    let a = from_places j s own in
    let b = from_places k t common in
    map-append place (cross_names_from j s own) (cross_names_from k t common) ∙ (λ l. a l ++ b l) ∙ sym (places_join own common)

pub one_from : {P : Type 0} (j s k t : ℕ) (own common : List (DwUnit P)) → NoneTwice (units_keys (own ++ common)) → (p : P) (x y : CrossName)
    → In (p, x) (cross_names_from j s own ++ cross_names_from k t common) → In (p, y) (cross_names_from j s own ++ cross_names_from k t common) → x ≡ y
one_from {P} j s k t own common h =
    one_called (cross_names_from j s own ++ cross_names_from k t common) (subst (λ (w : List P). NoneTwice w) (sym (all_places j s k t own common)) (places_once (own ++ common) h))

-- ---- a place that stands there is an entry's

pub record PlaceFrom {P : Type 0} (units : List (DwUnit P)) (p : P) : Type 0 where
  pub unit : DwUnit P
  pub there : In unit units
  pub is : In p (unit.root.at ∷ keys unit.below)

place_from : {P : Type 0} (units : List (DwUnit P)) (p : P) → In p (places units) → PlaceFrom units p
unfolding places
place_from [] p h = absurd h
place_from (u ∷ units) p h = elim (in_cases p (u.root.at ∷ keys u.below) (places units) h) [
  | inl a ↦ record { unit = u; there = inl refl; is = a }
  | inr b ↦ (let o = place_from units p b in record { unit = o.unit; there = inr o.there; is = o.is })
]

pub place_unit : {P : Type 0} (j s k t : ℕ) (own common : List (DwUnit P)) (p : P) (x : CrossName) → In (p, x) (cross_names_from j s own ++ cross_names_from k t common) → PlaceFrom (own ++ common) p
place_unit {P} j s k t own common p x h =
    place_from (own ++ common) p
    (subst (λ (w : List P). In p w) (all_places j s k t own common) (in_map place (p, x) (cross_names_from j s own ++ cross_names_from k t common) h))
