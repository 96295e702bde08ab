-- The partial units of numbers, as they are stored and in documents.
use Rattle.std.proofs.Common.{◌≡◌, ℕ, zero, suc, ◌+◌, ◌<◌, ◌^◌, ◌==◌, ◌&&◌, Bool, true, false, List, [], ◌∷◌, ◌++◌, map, length, cond, Some, slice_get, refl, sym}
use Rattle.std.proofs.Common.{ap, subst, ◌∙◌, inl, inr, arith, eq-eqb, eqb-true, if◌then◌else◌}
use Rattle.std.specs.Prelude.{filter, not}
use Rattle.std.specs.List.{flat_map, list_any}
use Rattle.std.proofs.lemmas.Bool.{false≢true}
use Rattle.std.proofs.lemmas.List.Elements.{filter-append}
use Rattle.dwz_codes.specs.Rows.{has}
use Rattle.dwz_model.specs.Lists.{In}
use Rattle.dwz_def_reading.specs.Documents.{Compile, DwUnit, Kind, Node, OfType, Partial, kind_map, unit_map}
use Rattle.dwz_def_reading.specs.Entries.{RawEntry}
use Rattle.dwz_def_reading.specs.Meanings.{Around, Common, MeanUnits, MeaningContext, MeansKind, MeansNode, scope_of}
use Rattle.dwz_def_reading.specs.Units.{CompileUnit, PartialUnit, RawKind, RawUnit, TypeUnit}
use Rattle.dwz_def_expand.specs.Source.{imported_by, is_import, is_import_attr, is_partial, once}
use Rattle.dwz_graph.specs.Surroundings.{behind_own}
use Rattle.dwz_imports.specs.Imports.{AreUnits, is_some_unit, same}
use Rattle.dwz_imports.specs.Stored.{common_named, entry_parts, is_part_at, is_partial_kind, is_some_number, named_parts, numbers_where, once_each, own_named}
use Rattle.dwz_imports.proofs.Grouped.{not_equal}
use Rattle.dwz_imports.proofs.Means.{common_import, own_import}
use Rattle.dwz_imports.proofs.Numbers.{where_same}

-- ---- units of numbers

pub units_append : {P : Type 0} (units : List (DwUnit P)) (ns ms : List ℕ) (vs ws : List (DwUnit P)) → AreUnits units ns vs → AreUnits units ms ws → AreUnits units (ns ++ ms) (vs ++ ws)
units_append units [] ms [] ws h k = k
units_append units [] ms (v ∷ vs) ws h k = absurd h
units_append units (n ∷ ns) ms [] ws h k = absurd h
units_append units (n ∷ ns) ms (v ∷ vs) ws h k = (h.0, units_append units ns ms vs ws h.1 k)

pub units_some : {P : Type 0} (units : List (DwUnit P)) (ns : List ℕ) (vs : List (DwUnit P)) → AreUnits units ns vs → is_some_number ns ≡ is_some_unit vs
units_some units [] [] h = refl
units_some units [] (v ∷ vs) h = absurd h
units_some units (n ∷ ns) [] h = absurd h
units_some units (n ∷ ns) (v ∷ vs) h = refl

-- the units of a list that pass a test
pub where_units : {P : Type 0} (p : DwUnit P → Bool) (units : List (DwUnit P)) (s : ℕ) (vs : List (DwUnit P)) → ((k : ℕ) (v : DwUnit P) → slice_get vs k ≡ Some v → slice_get units (s + k) ≡ Some v)
    → AreUnits units (numbers_where p s vs) (filter p vs)
unfolding numbers_where
where_units p units s [] h = tt
where_units {P} p units s (v ∷ vs) h =
    by (p v) (where_units p units (suc s) vs (λ k w e. (let z : s + suc k ≡ suc s + k = omega arith in ap (slice_get units) (sym z) ∙ h (suc k) w e)))
  where
    by : (b : Bool) → AreUnits units (numbers_where p (suc s) vs) (filter p vs)
        → AreUnits units (elim b as (λ _. List ℕ) [ true ↦ s ∷ numbers_where p (suc s) vs | false ↦ numbers_where p (suc s) vs ]) (cond b (v ∷ filter p vs) (filter p vs))
    by true more = ((let z : s + 0 ≡ s = omega arith in ap (slice_get units) (sym z) ∙ h 0 v refl), more)
    by false more = more

pub filter_none : {X : Type 0} (p : X → Bool) (xs : List X) → ((x : X) → p x ≡ false) → filter p xs ≡ []
filter_none p [] h = refl
filter_none {X} p (x ∷ xs) h = ap (λ (b : Bool). cond b (x ∷ filter p xs) (filter p xs)) (h x) ∙ filter_none p xs h

-- ---- each once

-- units with one place have one number
abbrev pub Apart : List (DwUnit ℕ) → Type 0
Apart units = (k l : ℕ) (v w : DwUnit ℕ) → slice_get units k ≡ Some v → slice_get units l ≡ Some w → v.at ≡ w.at → k ≡ l

module _ (units : List (DwUnit ℕ)) (apart : Apart units) where
  same_test : (m n : ℕ) (v w : DwUnit ℕ) → slice_get units m ≡ Some w → slice_get units n ≡ Some v → (m == n) ≡ (w.at == v.at)
  same_test m n v w e f = by (m == n) refl where
    by : (b : Bool) → (m == n) ≡ b → (m == n) ≡ (w.at == v.at)
    by true is =
        let one = eqb-true m n is in
        let two : Some w ≡ Some v = sym e ∙ ap (slice_get units) one ∙ f in
        let unit : w ≡ v = cc in
        is ∙ sym (eq-eqb w.at v.at (ap (λ (x : DwUnit ℕ). x.at) unit))
    by false is = is ∙ sym (not_equal w.at v.at (λ x. false≢true (sym is ∙ eq-eqb m n (apart m n w v e f x))))

  others : (n : ℕ) (v : DwUnit ℕ) → slice_get units n ≡ Some v → (ns : List ℕ) (vs : List (DwUnit ℕ)) → AreUnits units ns vs
      → AreUnits units (filter (λ m. not (m == n)) ns) (filter (λ w. not (same w.at v.at)) vs)
  others n v e [] [] h = tt
  others n v e [] (w ∷ vs) h = absurd h
  others n v e (m ∷ ns) [] h = absurd h
  others n v e (m ∷ ns) (w ∷ vs) h =
      by (m == n) (w.at == v.at) (same_test m n v w h.0 e) (others n v e ns vs h.1)
    where
      by : (b c : Bool) → b ≡ c → AreUnits units (filter (λ k. not (k == n)) ns) (filter (λ x. not (same x.at v.at)) vs)
          → AreUnits units (cond (not b) (m ∷ filter (λ k. not (k == n)) ns) (filter (λ k. not (k == n)) ns)) (cond (not c) (w ∷ filter (λ x. not (same x.at v.at)) vs) (filter (λ x. not
          (same x.at v.at)) vs))
      by true true q more = more
      by false false q more = (h.0, more)
      by true false q more = absurd cc
      by false true q more = absurd cc

  pub once_units : (ns : List ℕ) (vs : List (DwUnit ℕ)) → AreUnits units ns vs → AreUnits units (once_each ns) (once same vs)
  unfolding once_each once
  once_units [] [] h = tt
  once_units [] (v ∷ vs) h = absurd h
  once_units (n ∷ ns) [] h = absurd h
  once_units (n ∷ ns) (v ∷ vs) h = (h.0, others n v h.0 (once_each ns) (once same vs) (once_units ns vs h.1))

-- ---- an entry

kind_partial : (s : MeaningContext ℕ) (k : RawKind) (kind : Kind ℕ) → MeansKind s k kind → is_partial_kind k ≡ is_partial kind
kind_partial s CompileUnit kind h = ap is_partial (sym h)
kind_partial s PartialUnit kind h = ap is_partial (sym h)
kind_partial s (TypeUnit signature type_offset) kind h = ap is_partial (sym h.1)

map_partial : (f : ℕ → ℕ) (k : Kind ℕ) → is_partial (kind_map f k) ≡ is_partial k
map_partial f Compile = refl
map_partial f (OfType s m) = refl
map_partial f Partial = refl

abbrev pub imports_it : Node ℕ → DwUnit ℕ → Bool
imports_it d v = is_partial v.kind && is_import same v.root.at d

-- the roots of units are below 2^32
abbrev pub RootsLow : List RawUnit → Type 0
RootsLow raw = (u : RawUnit) → In u raw → u.root.at < 2 ^ 32

module _ (s : MeaningContext ℕ) (place : s.around.place ≡ (λ n. n)) (common_place : (c : Common ℕ) → s.around.common ≡ Some c → c.place ≡ behind_own) (own_low : (n : ℕ) → In n s.own → n < 2 ^ 32)
    (all_low : (n : ℕ) → In n s.around.all → n < 2 ^ 32) (e : RawEntry) (d : Node ℕ) (m : MeansNode s e d) where
  and_then : (a b c t h : Bool) → a ≡ b → c ≡ (t && h) → t ≡ true → (a && h) ≡ (b && c)
  and_then a b c true h x y z = (λ i. x i && sym y i)
  and_then a b c false h x y z = absurd cc

  own_tests : (around : Around ℕ) → around.place ≡ (λ n. n) → (us : List RawUnit) (vs : List (DwUnit ℕ)) → MeanUnits around us vs → RootsLow us → (e.tag == 0x3d) ≡ true
      → map (is_part_at (flat_map (own_named s.unit) e.attrs)) us ≡ map (imports_it d) vs
  own_tests around at [] [] h low tag = refl
  own_tests around at [] (v ∷ vs) h low tag = absurd h
  own_tests around at (u ∷ us) [] h low tag = absurd h
  own_tests around at (u ∷ us) (v ∷ vs) h low tag =
      let root : v.root.at ≡ u.root.at = h.0.root.place ∙ ap (λ (f : ℕ → ℕ). f u.root.at) at in
      let test = own_import s place common_place own_low all_low e d m u.root.at (low u (inl refl)) in
      let one : is_part_at (flat_map (own_named s.unit) e.attrs) u ≡ imports_it d v =
      and_then (is_partial_kind u.kind) (is_partial v.kind) (is_import same v.root.at d) (e.tag == 0x3d) (has u.root.at (flat_map (own_named s.unit) e.attrs))
      (kind_partial (scope_of around u) u.kind v.kind h.0.kind) (ap (λ (n : ℕ). is_import same n d) root ∙ test) tag in
      (λ i. one i ∷ own_tests around at us vs h.1 (λ w is. low w (inr is)) tag i)

  common_tests : (around : Around ℕ) → around.place ≡ (λ n. n) → (us : List RawUnit) (vs : List (DwUnit ℕ)) → MeanUnits around us vs → (e.tag == 0x3d) ≡ true
      → map (is_part_at (flat_map common_named e.attrs)) us ≡ map (imports_it d) (map (unit_map behind_own) vs)
  common_tests around at [] [] h tag = refl
  common_tests around at [] (v ∷ vs) h tag = absurd h
  common_tests around at (u ∷ us) [] h tag = absurd h
  common_tests around at (u ∷ us) (v ∷ vs) h tag =
      let root : v.root.at ≡ u.root.at = h.0.root.place ∙ ap (λ (f : ℕ → ℕ). f u.root.at) at in
      let test = common_import s place common_place own_low all_low e d m u.root.at in
      let one : is_part_at (flat_map common_named e.attrs) u ≡ imports_it d (unit_map behind_own v) =
      and_then (is_partial_kind u.kind) (is_partial (kind_map behind_own v.kind)) (is_import same (behind_own v.root.at) d) (e.tag == 0x3d) (has u.root.at (flat_map common_named e.attrs))
      (kind_partial (scope_of around u) u.kind v.kind h.0.kind ∙ sym (map_partial behind_own v.kind)) (ap (λ (n : ℕ). is_import same (behind_own n) d) root ∙ test) tag in
      (λ i. one i ∷ common_tests around at us vs h.1 tag i)

  module _ (around beside : Around ℕ) (at : around.place ≡ (λ n. n)) (beside_at : beside.place ≡ (λ n. n)) (own common : List RawUnit) (vs ws : List (DwUnit ℕ)) (means : MeanUnits around own vs)
      (common_means : MeanUnits beside common ws) (low : RootsLow own) (many : length own ≡ length vs) where
    abbrev all : List (DwUnit ℕ)
    all = vs ++ map (unit_map behind_own) ws

    pub entry_units : AreUnits all (entry_parts own common s.unit e) (imported_by same all d)
    unfolding imported_by
    entry_units = by (e.tag == 0x3d) refl where
      front : (xs ys : List (DwUnit ℕ)) (k : ℕ) (v : DwUnit ℕ) → slice_get xs k ≡ Some v → slice_get (xs ++ ys) (0 + k) ≡ Some v
      front xs ys k v is = let z : k ≡ 0 + k = omega arith in ap (slice_get (xs ++ ys)) (sym z) ∙ left xs k is where
        left : (xs : List (DwUnit ℕ)) (k : ℕ) → slice_get xs k ≡ Some v → slice_get (xs ++ ys) k ≡ Some v
        left [] k is = absurd cc
        left (x ∷ xs) zero is = is
        left (x ∷ xs) (suc k) is = left xs k is

      back : (xs ys : List (DwUnit ℕ)) (n : ℕ) → n ≡ length xs → (k : ℕ) (v : DwUnit ℕ) → slice_get ys k ≡ Some v → slice_get (xs ++ ys) (n + k) ≡ Some v
      back [] ys n e k v is = let z : n + k ≡ k = omega (arith, e) in ap (slice_get ys) z ∙ is
      back (x ∷ xs) ys n e k v is =
          let z : n + k ≡ suc (length xs + k) = omega (arith, e) in
          ap (slice_get (x ∷ xs ++ ys)) z ∙ back xs ys (length xs) refl k v is

      never : (v : DwUnit ℕ) → (d.tag == 0x3d) ≡ false → imports_it d v ≡ false
      never v t = ap (λ (b : Bool). is_partial v.kind && (b && list_any (is_import_attr same v.root.at) d.attrs)) t ∙ and_none (is_partial v.kind) where
        and_none : (b : Bool) → (b && false) ≡ false
        and_none true = refl
        and_none false = refl

      by : (b : Bool) → (e.tag == 0x3d) ≡ b → AreUnits all (if b then named_parts own common s.unit e.attrs else []) (filter (imports_it d) all)
      by true tag =
          let one = where_same (is_part_at (flat_map (own_named s.unit) e.attrs)) (imports_it d) 0 own vs (own_tests around at own vs means low tag) in
          let two = where_same (is_part_at (flat_map common_named e.attrs)) (imports_it d) (length own) common (map (unit_map behind_own) ws)
          (common_tests beside beside_at common ws common_means tag) in
          subst (λ (ns : List ℕ). AreUnits all ns (filter (imports_it d) all)) (λ i. sym one i ++ sym two i)
          (subst (λ (us : List (DwUnit ℕ)). AreUnits all (numbers_where (imports_it d) 0 vs ++ numbers_where (imports_it d) (length own) (map (unit_map behind_own) ws)) us)
          (sym (filter-append (imports_it d) vs (map (unit_map behind_own) ws)))
          (units_append all (numbers_where (imports_it d) 0 vs) (numbers_where (imports_it d) (length own) (map (unit_map behind_own) ws)) (filter (imports_it d) vs)
          (filter (imports_it d) (map (unit_map behind_own) ws))
          (where_units (imports_it d) all 0 vs (front vs (map (unit_map behind_own) ws)))
          (where_units (imports_it d) all (length own) (map (unit_map behind_own) ws) (back vs (map (unit_map behind_own) ws) (length own) many))))
      by false tag =
          subst (λ (us : List (DwUnit ℕ)). AreUnits all [] us)
          (sym (filter_none (imports_it d) all (λ v. (let t : (d.tag == 0x3d) ≡ false = ap (λ (n : ℕ). n == 0x3d) m.tag ∙ tag in never v t)))) tt
