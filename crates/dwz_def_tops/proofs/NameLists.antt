-- The places that have names, and the name of a place.
use Rattle.std.proofs.Common.{◌≡◌, ℕ, suc, ◌+◌, ◌==◌, Bool, true, false, List, [], ◌∷◌, ◌++◌, Option, Some, None, refl, sym, ap, subst, ◌∙◌, inl, inr, eqb-true, eq-eqb}
use Rattle.dwz_def_reading.specs.Documents.{Compile, DwUnit, Entries, Kind, Node, OfType, Partial, entries_map, kind_map}
use Rattle.dwz_def_reading.specs.Lists.{In, NoneTwice}
use Rattle.dwz_def_reading.specs.Trees.{End, Entry}
use Rattle.dwz_def_tops.specs.Seen.{IsPartial}
use Rattle.dwz_def_tops.specs.Shown.{keys, unit_keys, units_keys}
use Rattle.dwz_def_tops.specs.Spaces.{space_text, tops_under}
use Rattle.dwz_def_tops.proofs.SpaceLemmas.{under_count}
use Rattle.dwz_def_tops.specs.Spots.{EntryName, InType, SpaceAt, Within, below_spots, entry_spots, number_tops, spot_in, spots_from, top_count, top_spots}

-- ---- the name of a place

unfoldable pub firsts : List (ℕ × EntryName) → List ℕ
firsts [] = []
firsts (x ∷ xs) = x.0 ∷ firsts xs

pub firsts_append : (xs ys : List (ℕ × EntryName)) → firsts (xs ++ ys) ≡ firsts xs ++ firsts ys
unfolding firsts
firsts_append [] ys = refl
firsts_append (x ∷ xs) ys = ap (λ (w : List ℕ). x.0 ∷ w) (firsts_append xs ys)

pub in_firsts : (x : ℕ × EntryName) (xs : List (ℕ × EntryName)) → In x xs → In x.0 (firsts xs)
unfolding firsts
in_firsts x [] h = absurd h
in_firsts x (y ∷ xs) (inl e) = inl (ap (λ (w : ℕ × EntryName). w.0) e)
in_firsts x (y ∷ xs) (inr r) = inr (in_firsts x xs r)

pub spot_is : (xs : List (ℕ × EntryName)) → NoneTwice (firsts xs) → (p : ℕ) (s : EntryName) → In (p, s) xs → spot_in xs p ≡ s
unfolding firsts spot_in
spot_is [] once p s h = absurd h
spot_is (x ∷ xs) once p s h = go (spot_is xs once.1 p s) h (x.0 == p) refl where
  go : (In (p, s) xs → spot_in xs p ≡ s) → In (p, s) (x ∷ xs) → (b : Bool) → (x.0 == p) ≡ b → (elim b as (λ _. EntryName) [ true ↦ x.1 | false ↦ spot_in xs p ]) ≡ s
  go more (inl e) true q = ap (λ (w : ℕ × EntryName). w.1) e
  go more (inr r) true q = absurd (once.0 (subst (λ (n : ℕ). In n (firsts xs)) (sym (eqb-true x.0 p q)) (in_firsts (p, s) xs r)))
  go more (inl e) false q = absurd (let z : (x.0 == p) ≡ true = eq-eqb x.0 p (ap (λ (w : ℕ × EntryName). w.0) e) in cc)
  go more (inr r) false q = more r

-- a place that is there is found, with a name of its own
pub found_there : (xs : List (ℕ × EntryName)) (p : ℕ) → In p (firsts xs) → In (p, spot_in xs p) xs
unfolding firsts spot_in
found_there [] p h = absurd h
found_there (x ∷ xs) p h = go (found_there xs p) h (x.0 == p) refl where
  go : (In p (firsts xs) → In (p, spot_in xs p) xs) → In p (firsts (x ∷ xs)) → (b : Bool) → (x.0 == p) ≡ b
      → In (p, (elim b as (λ _. EntryName) [ true ↦ x.1 | false ↦ spot_in xs p ])) (x ∷ xs)
  go more h true q = inl (ap (λ (w : ℕ). (w, x.1)) (eqb-true x.0 p q))
  go more (inl e) false q = absurd (let z : (x.0 == p) ≡ true = eq-eqb x.0 p e in cc)
  go more (inr r) false q = inr (more r)

-- ---- which places have names

pub spots_top : (unit : ℕ) (path : List ℕ) (i n : ℕ) (e : Node ℕ) (f g : Entries ℕ) → space_text e ≡ None → top_spots unit path i n (Entry e f g) ≡ (e.at, Within n []) ∷ entry_spots (Within n) [] 0 f
    ++ top_spots unit path (suc i) (suc n) g
unfolding top_spots
spots_top unit path i n e f g h = rw (h, number_tops) refl

pub spots_space : (unit : ℕ) (path : List ℕ) (i n : ℕ) (e : Node ℕ) (f g : Entries ℕ) (text : List ℕ) → space_text e ≡ Some text
    → top_spots unit path i n (Entry e f g) ≡ (e.at, SpaceAt unit (i ∷ path)) ∷ top_spots unit (i ∷ path) 0 n f ++ top_spots unit path (suc i) (n + tops_under f) g
unfolding top_spots
spots_space unit path i n e f g text h = rw (h, number_tops) refl

entry_firsts : (name : List ℕ → EntryName) (path : List ℕ) (i : ℕ) (f : Entries ℕ) → firsts (entry_spots name path i f) ≡ keys f
unfolding firsts entry_spots keys
entry_firsts name path i End = refl
entry_firsts name path i (Entry e f g) = ap (λ (w : List ℕ). e.at ∷ w)
    (firsts_append (entry_spots name (i ∷ path) 0 f) (entry_spots name path (suc i) g) ∙ ap (λ (w : List ℕ). w ++ firsts (entry_spots name path (suc i) g)) (entry_firsts name (i ∷ path) 0 f)
    ∙ ap (λ (w : List ℕ). keys f ++ w) (entry_firsts name path (suc i) g))

top_firsts : (unit : ℕ) (path : List ℕ) (i n : ℕ) (f : Entries ℕ) → firsts (top_spots unit path i n f) ≡ keys f
unfolding firsts top_spots keys
top_firsts unit path i n End = refl
top_firsts unit path i n (Entry e f g) =
    go (top_firsts unit path (suc i) (suc n) g) (top_firsts unit (i ∷ path) 0 n f) (top_firsts unit path (suc i) (n + tops_under f) g) (entry_firsts (Within n) [] 0 f) (space_text e)
  where
    joined : (xs ys : List (ℕ × EntryName)) → firsts xs ≡ keys f → firsts ys ≡ keys g → e.at ∷ firsts (xs ++ ys) ≡ e.at ∷ keys f ++ keys g
    joined xs ys p q = ap (λ (w : List ℕ). e.at ∷ w) (firsts_append xs ys ∙ ap (λ (w : List ℕ). w ++ firsts ys) p ∙ ap (λ (w : List ℕ). keys f ++ w) q)

    go : firsts (top_spots unit path (suc i) (suc n) g) ≡ keys g → firsts (top_spots unit (i ∷ path) 0 n f) ≡ keys f → firsts (top_spots unit path (suc i) (n + tops_under f) g) ≡ keys g
        → firsts (entry_spots (Within n) [] 0 f) ≡ keys f → (o : Option (List ℕ))
        → firsts (elim o as (λ _. List (ℕ × EntryName)) [
          | None ↦ (e.at, Within n []) ∷ entry_spots (Within n) [] 0 f ++ top_spots unit path (suc i) (suc n) g
          | Some text ↦ (e.at, SpaceAt unit (i ∷ path)) ∷ top_spots unit (i ∷ path) 0 n f ++ top_spots unit path (suc i) (n + tops_under f) g
        ]) ≡ e.at ∷ keys f ++ keys g
    go x y z w None = joined (entry_spots (Within n) [] 0 f) (top_spots unit path (suc i) (suc n) g) w x
    go x y z w (Some text) = joined (top_spots unit (i ∷ path) 0 n f) (top_spots unit path (suc i) (n + tops_under f) g) y z

pub below_firsts : (unit top : ℕ) (k : Kind ℕ) (f : Entries ℕ) → (IsPartial k → ⊥) → firsts (below_spots unit top k f) ≡ keys f
below_firsts unit top Compile f h = top_firsts unit [] 0 top f
below_firsts unit top (OfType signature main) f h = entry_firsts (InType unit) [] 0 f
below_firsts unit top Partial f h = absurd (h tt)

abbrev pub NotPartial : DwUnit ℕ → Type 0
NotPartial u = IsPartial u.kind → ⊥

pub spots_firsts : (unit top : ℕ) (units : List (DwUnit ℕ)) → ((u : DwUnit ℕ) → In u units → NotPartial u) → firsts (spots_from unit top units) ≡ units_keys units
unfolding firsts spots_from units_keys unit_keys
spots_firsts unit top [] h = refl
spots_firsts unit top (u ∷ units) h =
    let rest = spots_from (suc unit) (top + top_count u.kind u.below) units in
    ap (λ (w : List ℕ). u.at ∷ u.root.at ∷ w)
    (firsts_append (below_spots unit top u.kind u.below) rest
    ∙ ap (λ (w : List ℕ). w ++ firsts rest) (below_firsts unit top u.kind u.below (h u (inl refl)))
    ∙ ap (λ (w : List ℕ). keys u.below ++ w) (spots_firsts (suc unit) (top + top_count u.kind u.below) units (λ v is. h v (inr is))))

-- ---- counts

pub count_map : {P Q : Type 0} (g : P → Q) (k : Kind P) (f : Entries P) → top_count (kind_map g k) (entries_map g f) ≡ top_count k f
count_map g Compile f = under_count g f
count_map g (OfType signature main) f = refl
count_map g Partial f = refl
