-- No two entries have one name.
use Rattle.std.proofs.Common.{◌≡◌, ℕ, zero, suc, ◌+◌, ◌<◌, ◌≤◌, List, [], ◌∷◌, ◌++◌, length, map, Option, Some, None, slice_get, refl, sym, ap, subst, ◌∙◌, inl, inr, arith}
use Rattle.std.proofs.lemmas.List.{append_assoc, length-append}
use Rattle.dwz_def_reading.specs.Lists.{In}
use Rattle.dwz_def_reading.specs.Trees.{End, Entry}
use Rattle.dwz_def_reading.proofs.ListFacts.{got_in, in_cases}
use Rattle.dwz_def_reading.specs.Documents.{Compile, Doc, DwUnit, Entries, Kind, OfType, Partial}
use Rattle.dwz_def_tops.specs.Lists.{NoneTwice}
use Rattle.dwz_def_tops.specs.Spaces.{space_text, tops_under}
use Rattle.dwz_def_tops.proofs.Members.{in_map_from}
use Rattle.dwz_def_tops.proofs.OnceLemmas.{none_append, none_map}
use Rattle.dwz_def_tops.specs.Spots.{EntryName, Import, InChain, InType, PartialOf, PartialRoot, RootOf, SpaceAt, UnitOf, Within, top_count, top_spots, tops_among}
use Rattle.dwz_graph.specs.Names.{names_from}
use Rattle.dwz_graph.proofs.TopLemmas.{below_names}
use Rattle.dwz_def_images.proofs.ApartTrees.{Behind, here_inner, here_rest, inner_rest, type_path, within_path}
use Rattle.dwz_graph.specs.AllNames.{all_names, names_of_files}
use Rattle.dwz_layout_numbers.proofs.FileRuns.{tops_in_all}
use Rattle.dwz_layout_numbers.proofs.Paths.{names_paths, paths_in, paths_of, spot_of}
use Rattle.dwz_layout_numbers.proofs.Runs.{space_names, top_names, under_space, under_top}

-- ---- paths

abbrev path_name : List ℕ → EntryName
path_name path = SpaceAt 0 path

one_path : (p q : List ℕ) → SpaceAt 0 p ≡ SpaceAt 0 q → p ≡ q
one_path p q e = cc

-- a path of an entry below a path, at an index or behind it
abbrev Under : List ℕ → ℕ → List ℕ → Type 0
Under path i p = Behind path_name path i (SpaceAt 0 p)

under : {P : Type 0} (path : List ℕ) (i : ℕ) (f : Entries P) (p : List ℕ) → In p (paths_in path i f) → Under path i p
unfolding paths_in
under path i End p is = absurd is
under path i (Entry e f g) p (inl x) = record { first = []; index = i; from = omega arith; is = ap path_name (sym x) }
under path i (Entry e f g) p (inr r) = elim (in_cases p (paths_in (i ∷ path) 0 f) (paths_in path (suc i) g) r) [
  | inl a ↦ (let b = under (i ∷ path) 0 f p a in record {
    first = b.first ++ (b.index ∷ []);
    index = i;
    from = omega arith;
    is = b.is ∙ ap path_name
        (sym (append_assoc b.first (b.index ∷ []) (i ∷ path)));
  })
  | inr b ↦ (let c = under path (suc i) g p b in record { first = c.first; index = c.index; from = omega (arith, c.from); is = c.is })
]

once_in : {P : Type 0} (path : List ℕ) (i : ℕ) (f : Entries P) → NoneTwice (paths_in path i f)
unfolding paths_in
once_in path i End = tt
once_in path i (Entry e f g) = (
  (λ is. elim (in_cases (i ∷ path) (paths_in (i ∷ path) 0 f) (paths_in path (suc i) g) is) [
    | inl a ↦ here_inner path_name one_path path i (under (i ∷ path) 0 f (i ∷ path) a)
    | inr b ↦ here_rest path_name one_path path i (under path (suc i) g (i ∷ path) b)
  ]),
  none_append (paths_in (i ∷ path) 0 f) (paths_in path (suc i) g) (once_in (i ∷ path) 0 f) (once_in path (suc i) g)
      (λ p a b. inner_rest path_name one_path path i (SpaceAt 0 p) (under (i ∷ path) 0 f p a) (under path (suc i) g p b)),
)

once_of : {P : Type 0} (f : Entries P) → NoneTwice (paths_of f)
once_of f = ((λ is. let b = under [] 0 f [] is in omega (arith, ap (λ (w : List ℕ). length w) (one_path [] (b.first ++ (b.index ∷ [])) b.is), length-append b.first (b.index ∷ []))), once_in [] 0 f)

-- ---- below the root of a compile unit

-- a top's number is in a range, or the path of a space is below that path
abbrev Mixed : (unit : ℕ) → List ℕ → ℕ → (low high : ℕ) → EntryName → Type 0
Mixed unit path i low high (Within n p) = (low ≤ n) × (n < high)
Mixed unit path i low high (SpaceAt u p) = (u ≡ unit) × Under path i p
Mixed unit path i low high _ = ⊥

abbrev MixedIn : (unit : ℕ) → List ℕ → ℕ → (low high : ℕ) → List EntryName → Type 0
MixedIn unit path i low high names = (s : EntryName) → In s names → Mixed unit path i low high s

mixed : (unit : ℕ) (path : List ℕ) (i n : ℕ) (f : Entries ℕ) → MixedIn unit path i n (n + tops_under f) (map spot_of (top_spots unit path i n f))
unfolding top_spots
mixed unit path i n End s is = absurd is
mixed unit path i n (Entry e f g) s is = by (λ low h. mixed unit path (suc i) low g s h) (λ h. mixed unit (i ∷ path) 0 n f s h) (space_text e) refl where
  later : (low : ℕ) → n ≤ low → low + tops_under g ≤ n + tops_under (Entry e f g) → (t : EntryName) → Mixed unit path (suc i) low (low + tops_under g) t
      → Mixed unit path i n (n + tops_under (Entry e f g)) t
  later low le ge (Within m p) h = (let a = h.0 in let b = h.1 in (omega arith, omega arith))
  later low le ge (SpaceAt u p) h = (h.0, record { first = h.1.first; index = h.1.index; from = (let x = h.1.from in omega arith); is = h.1.is })
  later low le ge (UnitOf m) h = h
  later low le ge (RootOf m) h = h
  later low le ge (InType m p) h = h
  later low le ge (PartialOf m) h = h
  later low le ge (PartialRoot m) h = h
  later low le ge (InChain m c d) h = h
  later low le ge (Import m c) h = h

  inside : n + tops_under f ≤ n + tops_under (Entry e f g) → (t : EntryName) → Mixed unit (i ∷ path) 0 n (n + tops_under f) t → Mixed unit path i n (n + tops_under (Entry e f g)) t
  inside ge (Within m p) h = (let a = h.0 in let b = h.1 in (omega arith, omega arith))
  inside ge (SpaceAt u p) h = (
    h.0,
    record {
      first = h.1.first ++ (h.1.index ∷ []);
      index = i;
      from = omega arith;
      is = h.1.is ∙ ap path_name
          (sym (append_assoc h.1.first (h.1.index ∷ []) (i ∷ path)));
    },
  )
  inside ge (UnitOf m) h = h
  inside ge (RootOf m) h = h
  inside ge (InType m p) h = h
  inside ge (PartialOf m) h = h
  inside ge (PartialRoot m) h = h
  inside ge (InChain m c d) h = h
  inside ge (Import m c) h = h

  by : ((low : ℕ) → In s (map spot_of (top_spots unit path (suc i) low g)) → Mixed unit path (suc i) low (low + tops_under g) s)
      → (In s (map spot_of (top_spots unit (i ∷ path) 0 n f)) → Mixed unit (i ∷ path) 0 n (n + tops_under f) s)
      → (o : Option (List ℕ)) → space_text e ≡ o → Mixed unit path i n (n + tops_under (Entry e f g)) s
  by behind below None h =
      let many = under_top e f g h in
      let own = map (Within n) (paths_of f) in
      let rest = map spot_of (top_spots unit path (suc i) (suc n) g) in
      elim (in_cases s own rest (subst (In s) (top_names unit path i n e f g h) is)) [
        | inl a ↦ (let o = in_map_from (Within n) s (paths_of f) a in subst (Mixed unit path i n (n + tops_under (Entry e f g))) o.is (omega arith, omega (arith, many)))
        | inr b ↦ later (suc n) (omega arith) (omega (arith, many)) s (behind (suc n) b)
      ]
  by behind below (Some text) h =
      let many = under_space e f g text h in
      let a = map spot_of (top_spots unit (i ∷ path) 0 n f) in
      let b = map spot_of (top_spots unit path (suc i) (n + tops_under f) g) in
      elim (subst (In s) (space_names unit path i n e f g text h) is) [
        | inl x ↦ subst (Mixed unit path i n (n + tops_under (Entry e f g))) x (refl, record { first = []; index = i; from = omega arith; is = refl })
        | inr y ↦ (elim (in_cases s a b y) [
          | inl z ↦ inside (omega (arith, many)) s (below z)
          | inr z ↦ later (n + tops_under f) (omega arith) (omega (arith, many)) s (behind (n + tops_under f) z)
        ])
      ]

-- what is mixed of both isn't there
apart : (unit : ℕ) (path : List ℕ) (i low mid high : ℕ) (s : EntryName) → Mixed unit (i ∷ path) 0 low mid s → Mixed unit path (suc i) mid high s → ⊥
apart unit path i low mid high (Within n p) a b = (let x = a.1 in let y = b.0 in omega (arith, x, y))
apart unit path i low mid high (SpaceAt u p) a b = inner_rest path_name one_path path i (SpaceAt 0 p) a.1 b.1
apart unit path i low mid high (UnitOf m) a b = a
apart unit path i low mid high (RootOf m) a b = a
apart unit path i low mid high (InType m p) a b = a
apart unit path i low mid high (PartialOf m) a b = a
apart unit path i low mid high (PartialRoot m) a b = a
apart unit path i low mid high (InChain m c d) a b = a
apart unit path i low mid high (Import m c) a b = a

tops_once : (unit : ℕ) (path : List ℕ) (i n : ℕ) (f : Entries ℕ) → NoneTwice (map spot_of (top_spots unit path i n f))
unfolding top_spots
tops_once unit path i n End = tt
tops_once unit path i n (Entry e f g) = by (λ low. tops_once unit path (suc i) low g) (tops_once unit (i ∷ path) 0 n f) (space_text e) refl where
  by : ((low : ℕ) → NoneTwice (map spot_of (top_spots unit path (suc i) low g))) → NoneTwice (map spot_of (top_spots unit (i ∷ path) 0 n f)) → (o : Option (List ℕ)) → space_text e ≡ o
      → NoneTwice (map spot_of (top_spots unit path i n (Entry e f g)))
  by later inside None h =
      let own = map (Within n) (paths_of f) in
      let rest = map spot_of (top_spots unit path (suc i) (suc n) g) in
      subst NoneTwice (sym (top_names unit path i n e f g h))
      (none_append own rest (none_map (Within n) (within_path n) (paths_of f) (once_of f)) (later (suc n))
      (λ s a b. (let o = in_map_from (Within n) s (paths_of f) a in let m = subst (Mixed unit path (suc i) (suc n) (suc n + tops_under g)) (sym o.is)
      (mixed unit path (suc i) (suc n) g s b) in let le = m.0 in omega (arith, le))))
  by later inside (Some text) h =
      let a = map spot_of (top_spots unit (i ∷ path) 0 n f) in
      let b = map spot_of (top_spots unit path (suc i) (n + tops_under f) g) in
      subst NoneTwice (sym (space_names unit path i n e f g text h)) (
        (λ is. elim (in_cases (SpaceAt unit (i ∷ path)) a b is) [
          | inl x ↦ here_inner path_name one_path path i (mixed unit (i ∷ path) 0 n f (SpaceAt unit (i ∷ path)) x).1
          | inr y ↦ here_rest path_name one_path path i (mixed unit path (suc i) (n + tops_under f) g (SpaceAt unit (i ∷ path)) y).1
        ]),
        none_append a b inside (later (n + tops_under f))
            (λ s x y. apart unit path i n (n + tops_under f) (n + tops_under f + tops_under g) s (mixed unit (i ∷ path) 0 n f s x) (mixed unit path (suc i) (n + tops_under f) g s y)),
      )

-- ---- unit by unit

-- a top's number, or a unit's, is in a range
abbrev Ranged : (first end low high : ℕ) → EntryName → Type 0
Ranged first end low high (Within n p) = (low ≤ n) × (n < high)
Ranged first end low high (RootOf i) = (first ≤ i) × (i < end)
Ranged first end low high (SpaceAt i p) = (first ≤ i) × (i < end)
Ranged first end low high (InType i p) = (first ≤ i) × (i < end)
Ranged first end low high _ = ⊥

abbrev AllRanged : (first end low high : ℕ) → List EntryName → Type 0
AllRanged first end low high names = (s : EntryName) → In s names → Ranged first end low high s

widen : (a b low high a' b' low' high' : ℕ) → a' ≤ a → b ≤ b' → low' ≤ low → high ≤ high' → (s : EntryName) → Ranged a b low high s → Ranged a' b' low' high' s
widen a b low high a' b' low' high' p q r t (Within n x) h = (let l = h.0 in let m = h.1 in (omega arith, omega arith))
widen a b low high a' b' low' high' p q r t (RootOf n) h = (let l = h.0 in let m = h.1 in (omega arith, omega arith))
widen a b low high a' b' low' high' p q r t (SpaceAt n x) h = (let l = h.0 in let m = h.1 in (omega arith, omega arith))
widen a b low high a' b' low' high' p q r t (InType n x) h = (let l = h.0 in let m = h.1 in (omega arith, omega arith))
widen a b low high a' b' low' high' p q r t (UnitOf n) h = h
widen a b low high a' b' low' high' p q r t (PartialOf n) h = h
widen a b low high a' b' low' high' p q r t (PartialRoot n) h = h
widen a b low high a' b' low' high' p q r t (InChain n c d) h = h
widen a b low high a' b' low' high' p q r t (Import n c) h = h

disjoint : (a b c low mid high : ℕ) (s : EntryName) → Ranged a b low mid s → Ranged b c mid high s → ⊥
disjoint a b c low mid high (Within n x) h k = (let l = h.1 in let m = k.0 in omega (arith, l, m))
disjoint a b c low mid high (RootOf n) h k = (let l = h.1 in let m = k.0 in omega (arith, l, m))
disjoint a b c low mid high (SpaceAt n x) h k = (let l = h.1 in let m = k.0 in omega (arith, l, m))
disjoint a b c low mid high (InType n x) h k = (let l = h.1 in let m = k.0 in omega (arith, l, m))
disjoint a b c low mid high (UnitOf n) h k = h
disjoint a b c low mid high (PartialOf n) h k = h
disjoint a b c low mid high (PartialRoot n) h k = h
disjoint a b c low mid high (InChain n x y) h k = h
disjoint a b c low mid high (Import n x) h k = h

from_mixed : (unit : ℕ) (low high : ℕ) (s : EntryName) → Mixed unit [] 0 low high s → Ranged unit (suc unit) low high s
from_mixed unit low high (Within n p) h = h
from_mixed unit low high (SpaceAt u p) h = (let e = h.0 in (omega arith, omega arith))
from_mixed unit low high (UnitOf m) h = h
from_mixed unit low high (RootOf m) h = absurd h
from_mixed unit low high (InType m p) h = absurd h
from_mixed unit low high (PartialOf m) h = h
from_mixed unit low high (PartialRoot m) h = h
from_mixed unit low high (InChain m c d) h = h
from_mixed unit low high (Import m c) h = h

below_ranged : (unit top : ℕ) (kind : Kind ℕ) (f : Entries ℕ) → AllRanged unit (suc unit) top (top + top_count kind f) (below_names unit top kind f)
below_ranged unit top Compile f s is = from_mixed unit top (top + tops_under f) s (mixed unit [] 0 top f s is)
below_ranged unit top (OfType signature main) f s is =
    let o = in_map_from (InType unit) s (paths_in [] 0 f) (subst (In s) (names_paths (InType unit) [] 0 f) is) in
    subst (Ranged unit (suc unit) top (top + 0)) o.is (omega arith, omega arith)
below_ranged unit top Partial f s is = absurd is

below_once : (unit top : ℕ) (kind : Kind ℕ) (f : Entries ℕ) → NoneTwice (below_names unit top kind f)
below_once unit top Compile f = tops_once unit [] 0 top f
below_once unit top (OfType signature main) f = subst NoneTwice (sym (names_paths (InType unit) [] 0 f)) (none_map (InType unit) (type_path unit) (paths_in [] 0 f) (once_in [] 0 f))
below_once unit top Partial f = tt

no_root : (unit top : ℕ) (kind : Kind ℕ) (f : Entries ℕ) → In (RootOf unit) (below_names unit top kind f) → ⊥
no_root unit top Compile f is = mixed unit [] 0 top f (RootOf unit) is
no_root unit top (OfType signature main) f is =
    (let o = in_map_from (InType unit) (RootOf unit) (paths_in [] 0 f) (subst (In (RootOf unit)) (names_paths (InType unit) [] 0 f) is) in let e = o.is in cc)
no_root unit top Partial f is = is

units_ranged : (unit top : ℕ) (units : List (DwUnit ℕ)) → AllRanged unit (unit + length units) top (top + tops_among units) (names_from unit top units)
unfolding names_from tops_among
units_ranged unit top [] s is = absurd is
units_ranged unit top (v ∷ units) s (inl x) = subst (Ranged unit (unit + suc (length units)) top (top + (top_count v.kind v.below + tops_among units))) x (omega arith, omega arith)
units_ranged unit top (v ∷ units) s (inr r) = elim (in_cases s (below_names unit top v.kind v.below) (names_from (suc unit) (top + top_count v.kind v.below) units) r) [
  | inl a ↦ widen unit (suc unit) top (top + top_count v.kind v.below) unit (unit + suc (length units)) top (top + (top_count v.kind v.below + tops_among units)) (omega arith) (omega arith)
      (omega arith) (omega arith) s (below_ranged unit top v.kind v.below s a)
  | inr b ↦ widen (suc unit) (suc unit + length units) (top + top_count v.kind v.below) (top + top_count v.kind v.below + tops_among units) unit (unit + suc (length units)) top
      (top + (top_count v.kind v.below + tops_among units)) (omega arith) (omega arith) (omega arith) (omega arith) s
      (units_ranged (suc unit) (top + top_count v.kind v.below) units s b)
]

units_once : (unit top : ℕ) (units : List (DwUnit ℕ)) → NoneTwice (names_from unit top units)
unfolding names_from
units_once unit top [] = tt
units_once unit top (v ∷ units) =
    let own = below_names unit top v.kind v.below in
    let rest = names_from (suc unit) (top + top_count v.kind v.below) units in
    let ranged = units_ranged (suc unit) (top + top_count v.kind v.below) units in (
      (λ is. elim (in_cases (RootOf unit) own rest is) [
        | inl a ↦ no_root unit top v.kind v.below a
        | inr b ↦ (let h = ranged (RootOf unit) b in let le = h.0 in omega (arith, le))
      ]),
      none_append own rest (below_once unit top v.kind v.below) (units_once (suc unit) (top + top_count v.kind v.below) units)
          (λ s a b. disjoint unit (suc unit) (suc unit + length units) top (top + top_count v.kind v.below) (top + top_count v.kind v.below + tops_among units) s
          (below_ranged unit top v.kind v.below s a) (ranged s b)),
    )

-- ---- file by file

unit_count : List (Doc ℕ) → ℕ
unit_count [] = 0
unit_count (doc ∷ docs) = length doc.units + unit_count docs

files_ranged : (unit top : ℕ) (docs : List (Doc ℕ)) → AllRanged unit (unit + unit_count docs) top (top + tops_in_all docs) (names_of_files unit top docs)
unfolding names_of_files tops_in_all unit_count
files_ranged unit top [] s is = absurd is
files_ranged unit top (doc ∷ docs) s is = elim (in_cases s (names_from unit top doc.units) (names_of_files (unit + length doc.units) (top + tops_among doc.units) docs) is) [
  | inl a ↦ widen unit (unit + length doc.units) top (top + tops_among doc.units) unit (unit + (length doc.units + unit_count docs)) top (top + (tops_among doc.units + tops_in_all docs))
      (omega arith) (omega arith) (omega arith) (omega arith) s (units_ranged unit top doc.units s a)
  | inr b ↦ widen (unit + length doc.units) (unit + length doc.units + unit_count docs) (top + tops_among doc.units) (top + tops_among doc.units + tops_in_all docs) unit
      (unit + (length doc.units + unit_count docs)) top (top + (tops_among doc.units + tops_in_all docs)) (omega arith) (omega arith) (omega arith) (omega arith) s
      (files_ranged (unit + length doc.units) (top + tops_among doc.units) docs s b)
]

files_once : (unit top : ℕ) (docs : List (Doc ℕ)) → NoneTwice (names_of_files unit top docs)
unfolding names_of_files
files_once unit top [] = tt
files_once unit top (doc ∷ docs) =
    let own = names_from unit top doc.units in
    let rest = names_of_files (unit + length doc.units) (top + tops_among doc.units) docs in
    none_append own rest (units_once unit top doc.units) (files_once (unit + length doc.units) (top + tops_among doc.units) docs)
    (λ s a b. disjoint unit (unit + length doc.units) (unit + length doc.units + unit_count docs) top (top + tops_among doc.units) (top + tops_among doc.units + tops_in_all docs) s
    (units_ranged unit top doc.units s a) (files_ranged (unit + length doc.units) (top + tops_among doc.units) docs s b))

one_at : {X : Type 0} (xs : List X) → NoneTwice xs → (m n : ℕ) (x : X) → slice_get xs m ≡ Some x → slice_get xs n ≡ Some x → m ≡ n
one_at [] once m n x e f = absurd cc
one_at (y ∷ xs) once zero zero x e f = refl
one_at {X} (y ∷ xs) once zero (suc n) x e f = (let same : y ≡ x = cc in absurd (once.0 (subst (λ (w : X). In w xs) (sym same) (got_in xs n x f))))
one_at {X} (y ∷ xs) once (suc m) zero x e f = (let same : y ≡ x = cc in absurd (once.0 (subst (λ (w : X). In w xs) (sym same) (got_in xs m x e))))
one_at (y ∷ xs) once (suc m) (suc n) x e f = ap suc (one_at xs once.1 m n x e f)

-- a name is of one entry
pub one_entry : (docs : List (Doc ℕ)) (s : EntryName) (m n : ℕ) → slice_get (all_names docs) m ≡ Some s → slice_get (all_names docs) n ≡ Some s → m ≡ n
one_entry docs s m n e f = one_at (all_names docs) (files_once 0 0 docs) m n s e f

-- and never that of a unit
pub no_unit : (docs : List (Doc ℕ)) (i : ℕ) → In (UnitOf i) (all_names docs) → ⊥
no_unit docs i is = files_ranged 0 0 docs (UnitOf i) is
