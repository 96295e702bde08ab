-- Keys that differ stand where their numbers say, and there is one such numbering.
use Rattle.std.proofs.Common.{◌≡◌, ℕ, ◌+◌, Bool, true, false, List, [], ◌∷◌, ◌++◌, length, map, refl, sym, ap, subst, ◌∙◌}
use Rattle.std.proofs.Math.Logic.{inl, inr}
use Rattle.std.proofs.lemmas.List.{map-append}
use Rattle.dwz_def_reading.specs.Documents.{DwUnit, Entries}
use Rattle.dwz_def_reading.specs.Lists.{Each, In}
use Rattle.dwz_def_reading.specs.Trees.{End, Entry}
use Rattle.dwz_def_encoding.specs.Placing.{FileOut, Stands, UnitsStand, files_keys, files_placed, number_of_key, numbering, placed, units_placed, zeros}
use Rattle.dwz_def_tops.specs.Shown.{keys, unit_keys, units_keys}
use Rattle.dwz_def_tops.specs.Lists.{NoneTwice}
use Rattle.dwz_def_encoding.specs.Writing.{DeclarationShape, Numbering, if_any, node_bytes, spelled, table_of, written_header_size, written_unit_size}
use Rattle.dwz_def_encoding.proofs.WriteLengths.{FixedEntries, FixedUnit, if_len, node_len, size_len, spelled_len}
use Rattle.dwz_def_tops.proofs.Members.{each_append, each_split}

-- ---- numbers that agree with a list of places

abbrev pub Agrees : {K : Type 0} → Numbering K → List (K × ℕ) → Type 0
Agrees n ps = Each (λ p. n.place p.0 ≡ p.1) ps

module _ {K : Type 0} (n : Numbering K) where
  agrees_split : (xs ys : List (K × ℕ)) → Agrees n (xs ++ ys) → Agrees n xs × Agrees n ys
  agrees_split xs ys h = each_split (λ p. n.place p.0 ≡ p.1) xs ys h

  agrees_append : (xs ys : List (K × ℕ)) → Agrees n xs → Agrees n ys → Agrees n (xs ++ ys)
  agrees_append xs ys h k = each_append (λ p. n.place p.0 ≡ p.1) xs ys h k

  module _ (unit : ℕ) (table : List DeclarationShape) where
    placed_stands : (f : Entries K) (at : ℕ) → FixedEntries f → Agrees n (placed table at f) → Stands n unit table at f
    unfolding placed
    placed_stands End at fixed h = tt
    placed_stands (Entry e children next) at fixed h =
        let front : length (node_bytes zeros 0 table e children) ≡ length (node_bytes n unit table e children) = node_len zeros n 0 unit table e children fixed.0 in
        let inner : length (if_any children (spelled zeros 0 table children)) ≡ length (if_any children (spelled n unit table children)) =
        if_len children _ _ (spelled_len zeros n 0 unit table children fixed.1) in
        let parts = agrees_split (placed table (at + length (node_bytes zeros 0 table e children)) children) _ h.1 in
        let first : Agrees n (placed table (at + length (node_bytes n unit table e children)) children) = rw front at parts.0 in
        let second = rw (front, inner) at parts.1 in
        (h.0, placed_stands children _ fixed.1 first, placed_stands next _ fixed.2 second)

    stands_placed : (f : Entries K) (at : ℕ) → FixedEntries f → Stands n unit table at f → Agrees n (placed table at f)
    unfolding placed
    stands_placed End at fixed h = tt
    stands_placed (Entry e children next) at fixed h =
        let front : length (node_bytes n unit table e children) ≡ length (node_bytes zeros 0 table e children) = node_len n zeros unit 0 table e children fixed.0 in
        let inner : length (if_any children (spelled n unit table children)) ≡ length (if_any children (spelled zeros 0 table children)) =
        if_len children _ _ (spelled_len n zeros unit 0 table children fixed.1) in
        let first : Agrees n (placed table (at + length (node_bytes zeros 0 table e children)) children) = rw front at (stands_placed children _ fixed.1 h.1) in
        let second = rw (front, inner) at (stands_placed next _ fixed.2 h.2) in
        (h.0, agrees_append _ _ first second)

  pub units_stand : (units : List (DwUnit K)) (at : ℕ) → Each FixedUnit units → Agrees n (units_placed at units) → UnitsStand n units at
  unfolding units_placed
  units_stand [] at fixed h = tt
  units_stand (u ∷ units) at fixed h =
      let front : length (node_bytes zeros 0 (table_of u) u.root u.below) ≡ length (node_bytes n at (table_of u) u.root u.below) = node_len zeros n 0 at (table_of u) u.root u.below fixed.0.0 in
      let all : written_unit_size zeros 0 u ≡ written_unit_size n at u = size_len zeros n 0 at u fixed.0 in
      let parts = agrees_split (placed (table_of u) (at + written_header_size u.kind + length (node_bytes zeros 0 (table_of u) u.root u.below)) u.below) _ h.1.1 in
      let below : Agrees n (placed (table_of u) (at + written_header_size u.kind + length (node_bytes n at (table_of u) u.root u.below)) u.below) = rw front at parts.0 in
      let others : Agrees n (units_placed (at + written_unit_size n at u) units) = subst (λ (s : ℕ). Agrees n (units_placed (at + s) units)) all parts.1 in
      (record { unit = h.0; root = h.1.0; below = placed_stands at (table_of u) u.below _ fixed.0.1 below }, units_stand units _ fixed.1 others)

  pub stands_units : (units : List (DwUnit K)) (at : ℕ) → Each FixedUnit units → UnitsStand n units at → Agrees n (units_placed at units)
  unfolding units_placed
  stands_units [] at fixed h = tt
  stands_units (u ∷ units) at fixed h =
      let front : length (node_bytes n at (table_of u) u.root u.below) ≡ length (node_bytes zeros 0 (table_of u) u.root u.below) = node_len n zeros at 0 (table_of u) u.root u.below fixed.0.0 in
      let all : written_unit_size n at u ≡ written_unit_size zeros 0 u = size_len n zeros at 0 u fixed.0 in
      let below : Agrees n (placed (table_of u) (at + written_header_size u.kind + length (node_bytes zeros 0 (table_of u) u.root u.below)) u.below) =
      rw front at (stands_placed at (table_of u) u.below _ fixed.0.1 h.0.below) in
      let others : Agrees n (units_placed (at + written_unit_size zeros 0 u) units) = subst (λ (s : ℕ). Agrees n (units_placed (at + s) units)) all (stands_units units _ fixed.1 h.1) in
      (h.0.unit, (h.0.root, agrees_append _ _ below others))

-- ---- keys that differ

-- a test that decides whether keys are equal
pub record IsSame {K : Type 0} (same : K → K → Bool) : Type 0 where
  pub true_is : (x y : K) → same x y ≡ true → x ≡ y
  pub refl_is : (x : K) → same x x ≡ true

abbrev pub firsts : {K : Type 0} → List (K × ℕ) → List K
firsts ps = map (λ p. p.0) ps

abbrev by_place : {K : Type 0} → (K → K → Bool) → List (K × ℕ) → Numbering K
by_place same ps = record { place = number_of_key same ps }

module _ {K : Type 0} (same : K → K → Bool) (is : IsSame same) where
  -- the number of a key of which this isn't the place
  past : (p : K × ℕ) (ps : List (K × ℕ)) (k : K) → (p.0 ≡ k → ⊥) → number_of_key same (p ∷ ps) k ≡ number_of_key same ps k
  unfolding number_of_key
  past p ps k other = by (same p.0 k) refl where
    by : (t : Bool) → same p.0 k ≡ t → (elim t as (λ _. ℕ) [ true ↦ p.1 | false ↦ number_of_key same ps k ]) ≡ number_of_key same ps k
    by true e = absurd (other (is.true_is p.0 k e))
    by false e = refl

  all_past : (p : K × ℕ) (ps qs : List (K × ℕ)) → (In p.0 (firsts qs) → ⊥) → Agrees (by_place same ps) qs → Agrees (by_place same (p ∷ ps)) qs
  all_past p ps [] none h = tt
  all_past p ps (q ∷ qs) none h = (past p ps q.0 (λ e. none (inl (sym e))) ∙ h.0, all_past p ps qs (λ i. none (inr i)) h.1)

  first : (p : K × ℕ) (ps : List (K × ℕ)) → number_of_key same (p ∷ ps) p.0 ≡ p.1
  unfolding number_of_key
  first p ps = rw (is.refl_is p.0, number_of_key) refl

  -- numbers from a list of places agree with it, if no key stands twice
  pub number_agrees : (ps : List (K × ℕ)) → NoneTwice (firsts ps) → Agrees (by_place same ps) ps
  number_agrees [] once = tt
  number_agrees (p ∷ ps) once = (first p ps, all_past p ps ps once.0 (number_agrees ps once.1))

  -- numbers that agree with a list of places are those from the list
  pub agrees_number : (n : Numbering K) (ps : List (K × ℕ)) (k : K) → Agrees n ps → In k (firsts ps) → n.place k ≡ number_of_key same ps k
  unfolding number_of_key
  agrees_number n [] k h in_ps = absurd in_ps
  agrees_number n (p ∷ ps) k h in_ps = by (λ r. agrees_number n ps k h.1 r) (same p.0 k) refl where
    by : (In k (firsts ps) → n.place k ≡ number_of_key same ps k) → (t : Bool) → same p.0 k ≡ t → n.place k ≡ (elim t as (λ _. ℕ) [ true ↦ p.1 | false ↦ number_of_key same ps k ])
    by rest true e = ap n.place (sym (is.true_is p.0 k e)) ∙ h.0
    by rest false e = elim in_ps [ inl i ↦ absurd (let t : same p.0 k ≡ true = subst (λ (x : K). same p.0 x ≡ true) i (is.refl_is p.0) in cc) | inr r ↦ rest r ]

-- ---- the keys that are placed are those of the units

placed_keys : {K : Type 0} (table : List DeclarationShape) (f : Entries K) (at : ℕ) → firsts (placed table at f) ≡ keys f
unfolding placed keys
placed_keys table End at = refl
placed_keys table (Entry e children next) at =
    let inner = at + length (node_bytes zeros 0 table e children) in
    let xs = placed table inner children in
    let ys = placed table (inner + length (if_any children (spelled zeros 0 table children))) next in
    rw (map-append (λ p. p.0) xs ys, placed_keys table children inner, placed_keys table next (inner + length (if_any children (spelled zeros 0 table children)))) refl

pub units_placed_keys : {K : Type 0} (units : List (DwUnit K)) (at : ℕ) → firsts (units_placed at units) ≡ units_keys units
unfolding units_placed units_keys unit_keys
units_placed_keys [] at = refl
units_placed_keys (u ∷ units) at =
    let inner = at + written_header_size u.kind + length (node_bytes zeros 0 (table_of u) u.root u.below) in
    let xs = placed (table_of u) inner u.below in
    let ys = units_placed (at + written_unit_size zeros 0 u) units in
    rw (map-append (λ p. p.0) xs ys, placed_keys (table_of u) u.below inner, units_placed_keys units (at + written_unit_size zeros 0 u)) refl

pub files_placed_keys : {K : Type 0} (files : List (FileOut K)) → firsts (files_placed files) ≡ files_keys files
unfolding files_placed files_keys
files_placed_keys [] = refl
files_placed_keys (f ∷ files) = rw (map-append (λ p. p.0) (units_placed 0 f.units) (files_placed files), units_placed_keys f.units 0, files_placed_keys files) refl

file_agrees : {K : Type 0} (n : Numbering K) (files : List (FileOut K)) → Agrees n (files_placed files) → (f : FileOut K) → In f files → Agrees n (units_placed 0 f.units)
unfolding files_placed
file_agrees n [] h f is = absurd is
file_agrees {K} n (x ∷ files) h f (inl e) = subst (λ (y : FileOut K). Agrees n (units_placed 0 y.units)) e (agrees_split n (units_placed 0 x.units) (files_placed files) h).0
file_agrees n (x ∷ files) h f (inr r) = file_agrees n files (agrees_split n (units_placed 0 x.units) (files_placed files) h).1 f r

agrees_all : {K : Type 0} (n : Numbering K) (files : List (FileOut K)) → ((f : FileOut K) → In f files → Agrees n (units_placed 0 f.units)) → Agrees n (files_placed files)
unfolding files_placed
agrees_all n [] h = tt
agrees_all n (x ∷ files) h = agrees_append n (units_placed 0 x.units) (files_placed files) (h x (inl refl)) (agrees_all n files (λ f is. h f (inr is)))

module _ {K : Type 0} (same : K → K → Bool) (is : IsSame same) (files : List (FileOut K)) where
  -- in each file keys stand where their numbers say
  pub numbering_stands : NoneTwice (files_keys files) → (f : FileOut K) → In f files → Each FixedUnit f.units → UnitsStand (numbering same files) f.units 0
  numbering_stands once f there fixed =
      let all = number_agrees same is (files_placed files) (subst NoneTwice (sym (files_placed_keys files)) once) in
      units_stand (numbering same files) f.units 0 fixed (file_agrees (numbering same files) files all f there)

  -- and no other numbers do
  pub stands_numbering : (n : Numbering K) → ((f : FileOut K) → In f files → Each FixedUnit f.units × UnitsStand n f.units 0) → (k : K) → In k (files_keys files)
      → n.place k ≡ (numbering same files).place k
  stands_numbering n stand k is_key =
      agrees_number same is n (files_placed files) k (agrees_all n files (λ f there. stands_units n f.units 0 (stand f there).0 (stand f there).1))
      (subst (In k) (sym (files_placed_keys files)) is_key)
