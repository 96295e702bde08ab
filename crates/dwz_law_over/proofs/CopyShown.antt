-- Trees of two files, whose places have names, where one name may stand for several entries: they are seen the same by their names.
use Rattle.std.proofs.Common.{◌≡◌, ℕ, zero, suc, List, [], ◌∷◌, map, refl, sym, ap, subst, ◌∙◌, inl, inr}
use Rattle.dwz_def_reading.specs.Documents.{Entries, Kind, Node, OfType, Compile, Partial, kind_map}
use Rattle.dwz_def_reading.specs.Lists.{In}
use Rattle.dwz_def_reading.specs.Trees.{End, Entry}
use Rattle.dwz_def_reading.proofs.ListFacts.{in_left, in_right}
use Rattle.dwz_def_tops.specs.Seen.{IsShown, Seen, heads, named_map, named_value, see, seen, seen_map}
use Rattle.dwz_def_cross.specs.Tops.{IsNthChild, StandsAlong}

-- the same entry by names
pub record NodesMeet {P Q K : Type 0} (f : P → K) (e : Q → K) (n : Node P) (d : Node Q) : Type 0 where
  pub at : e d.at ≡ f n.at
  pub tag : d.tag ≡ n.tag
  pub attrs : map (named_map e) (map named_value d.attrs) ≡ map (named_map f) (map named_value n.attrs)

-- so with all entries, in order
abbrev pub EntriesMeet : {P Q K : Type 0} → (P → K) → (Q → K) → Entries P → Entries Q → Type 0
EntriesMeet f e End End = Unit {0}
EntriesMeet f e (Entry n g k) (Entry d h l) = NodesMeet f e n d × EntriesMeet f e g h × EntriesMeet f e k l
EntriesMeet f e _ _ = ⊥

module _ {P Q K : Type 0} (f : P → K) (e : Q → K) where
  -- both are shown by one entry
  pub meet_by : (n : Node P) (d : Node Q) (k : Node K) → IsShown f n k → IsShown e d k → NodesMeet f e n d
  meet_by n d k a b = record { at = sym b.at ∙ a.at; tag = sym b.tag ∙ a.tag; attrs = sym b.attrs ∙ a.attrs }

  pub seen_meet : (n : Node P) (g : Entries P) (d : Node Q) (h : Entries Q) → seen_map e (see d h) ≡ seen_map f (see n g) → NodesMeet f e n d × (map e (heads h) ≡ map f (heads g))
  seen_meet n g d h s =
      (record { at = ap (λ (w : Seen K). w.at) s; tag = ap (λ (w : Seen K). w.tag) s; attrs = ap (λ (w : Seen K). w.attrs) s }, ap (λ (w : Seen K). w.children) s)

  -- where names are those of one entry each
  pub tree_meet : (all : List (Seen K)) → ((a b : Seen K) → In a all → In b all → a.at ≡ b.at → a ≡ b) → (g : Entries P) (h : Entries Q) → map e (heads h) ≡ map f (heads g)
      → ((x : Seen P) → In x (seen g) → In (seen_map f x) all) → ((y : Seen Q) → In y (seen h) → In (seen_map e y) all) → EntriesMeet f e g h
  unfolding heads seen
  tree_meet all once End End same old new = tt
  tree_meet all once End (Entry d h k) same old new = absurd cc
  tree_meet all once (Entry n g m) End same old new = absurd cc
  tree_meet all once (Entry n g m) (Entry d h k) same old new =
      let first : e d.at ≡ f n.at = cc in
      let rest : map e (heads k) ≡ map f (heads m) = cc in
      let here = seen_meet n g d h (once (seen_map e (see d h)) (seen_map f (see n g)) (new (see d h) (inl refl)) (old (see n g) (inl refl)) first) in (
        here.0,
        tree_meet all once g h here.1 (λ x i. old x (inr (in_left x (seen g) (seen m) i))) (λ y i. new y (inr (in_left y (seen h) (seen k) i))),
        tree_meet all once m k rest (λ x i. old x (inr (in_right x (seen g) (seen m) i))) (λ y i. new y (inr (in_right y (seen h) (seen k) i))),
      )

  -- ---- along the same path

  record NthMeet (i : ℕ) (n : Node P) (g : Entries P) (h : Entries Q) : Type 0 where
    node : Node Q
    below : Entries Q
    nth : IsNthChild i node below h
    node_meets : NodesMeet f e n node
    below_meets : EntriesMeet f e g below

  nth_meet : (i : ℕ) (n : Node P) (g : Entries P) (k : Entries P) (h : Entries Q) → EntriesMeet f e k h → IsNthChild i n g k → NthMeet i n g h
  nth_meet i n g End h s is = absurd is
  nth_meet zero n g (Entry d c m) (Entry d' c' m') s is =
      record { node = d'; below = c'; nth = (refl, refl); node_meets = subst (λ (w : Node P). NodesMeet f e w d') is.0 s.0; below_meets = subst (λ (w : Entries P). EntriesMeet f e w c') is.1 s.1 }
  nth_meet (suc i) n g (Entry d c m) (Entry d' c' m') s is =
      let o = nth_meet i n g m m' s.2 is in
      record { node = o.node; below = o.below; nth = o.nth; node_meets = o.node_meets; below_meets = o.below_meets }
  nth_meet zero n g (Entry d c m) End s is = absurd s
  nth_meet (suc i) n g (Entry d c m) End s is = absurd s

  pub along_meet : (path : List ℕ) (n : Node P) (g : Entries P) (d : Node Q) (h : Entries Q) (p : P) → NodesMeet f e n d → EntriesMeet f e g h → StandsAlong path n g p
      → (q : Q) × StandsAlong path d h q × (e q ≡ f p)
  along_meet [] n g d h p s t stands = (d.at, refl, s.at ∙ ap f stands)
  along_meet (i ∷ path) n g d h p s t stands =
      let o = nth_meet i stands.0 stands.1 g h t stands.2 in
      let r = along_meet path stands.0 stands.1 o.node o.below p o.node_meets o.below_meets stands.3 in
      (r.0, (o.node, o.below, o.nth, r.1), r.2)

-- ---- what stands along a path is seen

nth_seen : {Q : Type 0} (i : ℕ) (n : Node Q) (g f : Entries Q) → IsNthChild i n g f → In (see n g) (seen f) × ((d : Seen Q) → In d (seen g) → In d (seen f))
unfolding seen
nth_seen i n g End h = absurd h
nth_seen {Q} zero n g (Entry d c m) h = (
  inl (ap (λ (w : Node Q). see w c) h.0 ∙ ap (λ (w : Entries Q). see n w) h.1),
  λ x i. inr (in_left x (seen c) (seen m) (subst (λ (w : Entries Q). In x (seen w)) (sym h.1) i)),
)
nth_seen (suc i) n g (Entry d c m) h =
    let o = nth_seen i n g m h in
    (inr (in_right (see n g) (seen c) (seen m) o.0), λ x j. inr (in_right x (seen c) (seen m) (o.1 x j)))

pub along_known : {Q : Type 0} (all : List (Seen Q)) (path : List ℕ) (n : Node Q) (g : Entries Q) (q : Q) → In (see n g) all → ((d : Seen Q) → In d (seen g) → In d all) → StandsAlong path n g q
    → (d : Seen Q) × In d all × (d.at ≡ q)
along_known all [] n g q here below h = (see n g, here, h)
along_known all (i ∷ path) n g q here below h =
    let o = nth_seen i h.0 h.1 g h.2 in
    along_known all path h.0 h.1 q (below (see h.0 h.1) o.0) (λ d j. below d (o.1 d j)) h.3

-- ---- kinds

pub compile_was : {P Q : Type 0} (g : P → Q) (k : Kind P) → kind_map g k ≡ Compile → k ≡ Compile
compile_was g Compile h = refl
compile_was g (OfType s m) h = absurd cc
compile_was g Partial h = absurd cc

pub type_was : {P Q : Type 0} (g : P → Q) (k : Kind P) (s : ℕ) (m : Q) → kind_map g k ≡ OfType s m → (n : P) × (k ≡ OfType s n) × (g n ≡ m)
type_was g Compile s m h = absurd cc
type_was {P} g (OfType t n) s m h = (let same : t ≡ s = cc in let at : g n ≡ m = cc in (n, ap (λ (w : ℕ). OfType w n) same, at))
type_was g Partial s m h = absurd cc
