-- All units: the lists that are made are those of the partial units that units import.
use Rattle.std.proofs.Common.{◌≡◌, ℕ, zero, suc, ◌+◌, ◌<◌, ◌^◌, Bool, List, [], ◌∷◌, ◌++◌, map, length, get_or, Option, Some, None, slice_get, refl, sym, ap, subst, ◌∙◌, inl, inr, arith}
use Rattle.std.specs.Prelude.{slice_index_or}
use Rattle.std.specs.List.{flat_map}
use Rattle.std.proofs.lemmas.List.{length-map}
use Rattle.dwz_model.specs.Lists.{In}
use Rattle.dwz_model.proofs.ListFacts.{got_below, got_in, got_index_or, got_map, got_there, in_left, in_right}
use Rattle.dwz_def_reading.specs.Documents.{DwUnit, unit_map}
use Rattle.dwz_def_reading.specs.Meanings.{Around, MeanUnits, MeansUnit, all_places, places_of}
use Rattle.dwz_def_reading.specs.Units.{RawUnit}
use Rattle.dwz_def_reading.proofs.MeaningUnits.{units_agree}
use Rattle.dwz_def_cross.specs.Tops.{WithCommon, units_with_common}
use Rattle.dwz_def_expand.specs.Source.{imported_in, once}
use Rattle.dwz_graph.proofs.RowUnits.{unit_within}
use Rattle.dwz_graph.proofs.PlaceLemmas.{unit_and_entries}
use Rattle.dwz_graph.proofs.SearchLemmas.{Rise}
use Rattle.dwz_graph.specs.Surroundings.{behind_own}
use Rattle.dwz_groups.specs.Groups.{grouped}
use Rattle.dwz_unit.specs.Rows.{EntryRow, Source, rows_of, units_of}
use Rattle.dwz_imports.specs.Imports.{AreImportLists, AreUnits, importing_flags, imports_any, same, unit_nodes}
use Rattle.dwz_imports.specs.Said.{SaysBeside, raw_beside}
use Rattle.dwz_imports.specs.Stored.{edges_of, once_each, parts_in, row_edges, row_imports, unit_place}
use Rattle.dwz_imports.proofs.Children.{all_edges, all_import, children_units, import_lists}
use Rattle.dwz_imports.proofs.Grouped.{grouped_back}
use Rattle.dwz_imports.proofs.PartLists.{Apart, once_units}
use Rattle.dwz_imports.proofs.RootPlaces.{all_below, begins, begins_rise, rise_one}
use Rattle.dwz_graph.proofs.IndexRoom.{units_same}

-- ---- places of units among all places

unit_in : (raw : List RawUnit) (u : RawUnit) → In u raw → (n : ℕ) → In n (u.at ∷ places_of u) → In n (unit_and_entries raw)
unfolding unit_and_entries
unit_in [] u h n is = absurd h
unit_in (w ∷ raw) u (inl e) n is = in_left n (w.at ∷ places_of w) (unit_and_entries raw) (subst (λ (x : RawUnit). In n (x.at ∷ places_of x)) (sym e) is)
unit_in (w ∷ raw) u (inr r) n is = in_right n (w.at ∷ places_of w) (unit_and_entries raw) (unit_in raw u r n is)

entry_in : (raw : List RawUnit) (n : ℕ) → In n (all_places raw) → In n (unit_and_entries raw)
unfolding unit_and_entries all_places
entry_in [] n is = absurd is
entry_in (u ∷ raw) n is = by is (entry_in raw n) where
  split : (xs ys : List ℕ) → In n (xs ++ ys) → (In n xs → In n ((u.at ∷ places_of u) ++ unit_and_entries raw)) → (In n ys → In n ((u.at ∷ places_of u) ++ unit_and_entries raw)) → In n
      ((u.at ∷ places_of u) ++ unit_and_entries raw)
  split [] ys h one two = two h
  split (x ∷ xs) ys (inl e) one two = one (inl e)
  split (x ∷ xs) ys (inr r) one two = split xs ys r (λ h. one (inr h)) two

  by : In n (places_of u ++ all_places raw) → (In n (all_places raw) → In n (unit_and_entries raw)) → In n ((u.at ∷ places_of u) ++ unit_and_entries raw)
  by h more = split (places_of u) (all_places raw) h (λ a. in_left n (u.at ∷ places_of u) (unit_and_entries raw) (inr a)) (λ b. in_right n (u.at ∷ places_of u) (unit_and_entries raw) (more b))

pub beside_rise : (o : Option Source) → Rise (begins (raw_beside o))
beside_rise None i j l m = absurd (omega (arith, m))
beside_rise (Some s) i j l m = begins_rise s i j l m

-- ---- units of a document, by the units that mean them

pub record Meant (around : Around ℕ) (us : List RawUnit) (k : ℕ) (v : DwUnit ℕ) : Type 0 where
  pub unit : RawUnit
  pub got : slice_get us k ≡ Some unit
  pub means : MeansUnit around unit v

pub meant_at : (around : Around ℕ) (us : List RawUnit) (vs : List (DwUnit ℕ)) → MeanUnits around us vs → (k : ℕ) (v : DwUnit ℕ) → slice_get vs k ≡ Some v → Meant around us k v
meant_at around [] [] h k v e = absurd cc
meant_at around [] (w ∷ vs) h k v e = absurd h
meant_at around (u ∷ us) [] h k v e = absurd h
meant_at around (u ∷ us) (w ∷ vs) h zero v e = let one : w ≡ v = cc in record { unit = u; got = refl; means = subst (MeansUnit around u) one h.0 }
meant_at around (u ∷ us) (w ∷ vs) h (suc k) v e = let o = meant_at around us vs h.1 k v e in record { unit = o.unit; got = o.got; means = o.means }

begins_at : (raw : List RawUnit) (k : ℕ) (u : RawUnit) → slice_get raw k ≡ Some u → get_or (begins raw) k 0 ≡ u.at
begins_at raw k u e = got_index_or (begins raw) k u.at 0 (got_map (λ (w : RawUnit). w.at) raw k u e)

begins_long : (raw : List RawUnit) → length (begins raw) ≡ length raw
begins_long raw = length-map raw (λ (w : RawUnit). w.at)

-- an item of two lists one behind the other
data Of {X : Type 0} (xs ys : List X) (k : ℕ) (x : X) : Type 0 where
  first : slice_get xs k ≡ Some x → Of xs ys k x
  second : (j : ℕ) → k ≡ length xs + j → slice_get ys j ≡ Some x → Of xs ys k x

of_two : {X : Type 0} (xs ys : List X) (k : ℕ) (x : X) → slice_get (xs ++ ys) k ≡ Some x → Of xs ys k x
of_two [] ys k x e = second k (omega arith) e
of_two (w ∷ xs) ys zero x e = first e
of_two {X} (w ∷ xs) ys (suc k) x e = elim (of_two xs ys k x e) [ first f ↦ first f | second j q g ↦ second j (omega (arith, q)) g ]

module _ (s : Source) (o : Option Source) (short : length s.info < 2 ^ 32) (w : WithCommon ℕ) (says : SaysBeside (units_of s) (raw_beside o) w) where
  abbrev own : List RawUnit
  own = units_of s

  abbrev common : List RawUnit
  common = raw_beside o

  abbrev all : List (DwUnit ℕ)
  all = w.own ++ map (unit_map behind_own) says.said

  same_all : units_with_common w ≡ all
  same_all = ap (λ (us : List (DwUnit ℕ)). w.own ++ us) says.common_are

  means : MeanUnits says.around own w.own
  means = ((units_agree says.around own).ok w.own).0 says.means

  common_means : MeanUnits says.beside common says.said
  common_means = ((units_agree says.beside common).ok says.said).0 says.common_means

  place_low : (u : RawUnit) → In u own → (n : ℕ) → In n (u.at ∷ places_of u) → n < 2 ^ 32
  place_low u is n h = let lt = all_below s n (unit_in own u is n h) in omega (arith, lt, short)

  all_low : (n : ℕ) → In n says.around.all → n < 2 ^ 32
  all_low n h = let lt = all_below s n (entry_in own n (subst (λ (ns : List ℕ). In n ns) says.all h)) in omega (arith, lt, short)

  own_at : (k : ℕ) (v : DwUnit ℕ) → slice_get w.own k ≡ Some v → (v.at ≡ get_or (begins own) k 0) × (k < length own) × (v.at < 2 ^ 32)
  own_at k v e =
      let m = meant_at says.around own w.own means k v e in
      let at : v.at ≡ m.unit.at = m.means.place ∙ ap (λ (f : ℕ → ℕ). f m.unit.at) says.place in
      let low = place_low m.unit (got_in own k m.unit m.got) m.unit.at (inl refl) in
      (at ∙ sym (begins_at own k m.unit m.got), got_below own k m.unit m.got, omega (arith, at, low))

  common_at : (k : ℕ) (v : DwUnit ℕ) → slice_get (map (unit_map behind_own) says.said) k ≡ Some v → (v.at ≡ behind_own (get_or (begins common) k 0)) × (k < length common)
  common_at k v e =
      let lt : k < length says.said = (let l = got_below (map (unit_map behind_own) says.said) k v e in let n = length-map says.said (unit_map behind_own) in omega (arith, l, n)) in
      let x = got_there says.said k lt in
      let two : Some (unit_map behind_own x.0) ≡ Some v = sym (got_map (unit_map behind_own) says.said k x.0 x.1) ∙ e in
      let is : unit_map behind_own x.0 ≡ v = cc in
      let m = meant_at says.beside common says.said common_means k x.0 x.1 in
      let at : x.0.at ≡ m.unit.at = m.means.place ∙ ap (λ (f : ℕ → ℕ). f m.unit.at) says.beside_place in
      (ap (λ (y : DwUnit ℕ). y.at) (sym is) ∙ ap behind_own (at ∙ sym (begins_at common k m.unit m.got)), got_below common k m.unit m.got)

  long : length own ≡ length w.own
  long = units_same says.around own w.own means

  apart : Apart all
  apart k l v x e f same = by (of_two w.own (map (unit_map behind_own) says.said) k v e) (of_two w.own (map (unit_map behind_own) says.said) l x f) where
    by : Of w.own (map (unit_map behind_own) says.said) k v → Of w.own (map (unit_map behind_own) says.said) l x → k ≡ l
    by (first a) (first b) =
        let p = own_at k v a in let q = own_at l x b in
        let n = begins_long own in
        rise_one (begins own) k l (begins_rise s) (let lt = p.1 in omega (arith, n, lt)) (let lt = q.1 in omega (arith, n, lt)) (sym p.0 ∙ same ∙ q.0)
    by (first a) (second j z b) =
        let p = own_at k v a in let q = common_at j x b in
        let low = p.2 in let high = q.0 in absurd (omega (arith, low, high, same))
    by (second i y a) (first b) =
        let p = common_at i v a in let q = own_at l x b in
        let low = q.2 in let high = p.0 in absurd (omega (arith, low, high, same))
    by (second i y a) (second j z b) =
        let p = common_at i v a in let q = common_at j x b in
        let n = begins_long common in
        let both : behind_own (get_or (begins common) i 0) ≡ behind_own (get_or (begins common) j 0) = sym p.0 ∙ same ∙ q.0 in
        let one = rise_one (begins common) i j (beside_rise o) (let lt = p.1 in omega (arith, n, lt)) (let lt = q.1 in omega (arith, n, lt)) (omega (arith, both)) in
        omega (arith, y, z, one)

  units_placed : (j : ℕ) (u : RawUnit) → slice_get own j ≡ Some u → unit_place own (0 + j) ≡ u.at
  units_placed j u e = let z : 0 + j ≡ j = omega arith in ap (unit_place own) z ∙ begins_at own j u e

  pub lists_are : (lists : List (List ℕ)) → lists ≡ map once_each (grouped (length own) (flat_map (row_edges own common) (rows_of own))) → AreImportLists w lists
  lists_are lists e =
      let made : grouped (length own) (flat_map (row_edges own common) (rows_of own)) ≡ import_lists own common own =
      ap (grouped (length own)) (all_edges own common own 0 0 units_placed)
      ∙ ap (λ (n : ℕ). grouped n (edges_of 0 (import_lists own common own))) (sym (length-map own (λ (u : RawUnit). parts_in own common u.at u.below)))
      ∙ grouped_back (import_lists own common own) in
      let is : lists ≡ map once_each (import_lists own common own) = e ∙ ap (map once_each) made in
      record {
        len = ap (λ (ls : List (List ℕ)). length ls) is ∙ length-map (import_lists own common own) once_each ∙ length-map own (λ (u : RawUnit). parts_in own common u.at u.below) ∙ long;
        each = λ n v got. (
            let m = meant_at says.around own w.own means n v got in
            let there = got_in own n m.unit m.got in
            let list : slice_index_or lists n [] ≡ once_each (parts_in own common m.unit.at m.unit.below) =
            ap (λ (ls : List (List ℕ)). slice_index_or ls n []) is
            ∙ got_index_or (map once_each (import_lists own common own)) n (once_each (parts_in own common m.unit.at m.unit.below)) []
            (got_map once_each (import_lists own common own) n (parts_in own common m.unit.at m.unit.below) (got_map (λ (u : RawUnit). parts_in own common u.at u.below) own n m.unit m.got)) in
            let units = once_units all apart (parts_in own common m.unit.at m.unit.below) (imported_in same all v.below)
            (children_units own common says.around says.beside says.place says.beside_place says.common_place w.own says.said means common_means (λ u h. place_low u h u.root.at (inr
            (inl refl))) long all_low m.unit
            (λ k h. place_low m.unit there k (inr h)) m.unit.below v.below m.means.below) in
            subst (λ (us : List (DwUnit ℕ)). AreUnits us (slice_index_or lists n []) (once same (imported_in same us v.below))) (sym same_all)
            (subst (λ (ns : List ℕ). AreUnits all ns (once same (imported_in same all v.below))) (sym list) units));
      }

  pub flags_are : (flags : List Bool) → flags ≡ map (row_imports own common) (rows_of own) → flags ≡ importing_flags w
  flags_are flags e =
      e ∙ all_import own common says.around says.beside says.place says.beside_place says.common_place w.own says.said means common_means (λ u h. place_low u h u.root.at (inr
      (inl refl))) long all_low own w.own 0 0
      (λ u h n k. place_low u h n (inr k)) means units_placed
      ∙ ap (λ (us : List (DwUnit ℕ)). map (imports_any us) (unit_nodes w.own)) (sym same_all)

-- ---- rows of units

in_got : {X : Type 0} (xs : List X) (x : X) → In x xs → (k : ℕ) × (slice_get xs k ≡ Some x)
in_got [] x is = absurd is
in_got (y ∷ xs) x (inl e) = (0, ap (λ (w : _). Some w) e)
in_got (y ∷ xs) x (inr r) = let o = in_got xs x r in (suc o.0, o.1)

pub rows_within : (raw : List RawUnit) (row : EntryRow) → In row (rows_of raw) → row.unit < length raw
rows_within raw row is = let o = in_got (rows_of raw) row is in unit_within raw o.0 row o.1
