-- Places named by their units.
use Rattle.std.proofs.Common.{◌≡◌, ℕ, zero, suc, ◌+◌, ◌==◌, Bool, true, false, List, [], ◌∷◌, ◌++◌, map, drop, Some, slice_get, refl, sym, ap, subst, ◌∙◌, inl, inr, ⊎_elim, arith, if◌then◌else◌}
use Rattle.std.specs.List.{list_any}
use Rattle.std.proofs.lemmas.Bool.{eq-eqb, eqb-true, false≢true, or_cases}
use Rattle.std.proofs.lemmas.List.{append-nil}
use Rattle.dwz_model.proofs.ListFacts.{got_below, got_in, in_left, in_map, in_right}
use Rattle.dwz_model.proofs.OnceLemmas.{none_both, none_right}
use Rattle.dwz_def_reading.specs.Documents.{DwUnit}
use Rattle.dwz_def_reading.specs.Entries.{root_position}
use Rattle.dwz_def_reading.specs.Lists.{In}
use Rattle.dwz_def_reading.specs.Meanings.{Around, MeanUnits, MeansUnit, places_of}
use Rattle.dwz_def_reading.specs.Trees.{End, Entry}
use Rattle.dwz_def_reading.specs.Units.{RawUnit, entry_count}
use Rattle.dwz_def_reading.proofs.PlacesRise.{all_raw_keys, raw_keys}
use Rattle.dwz_def_check.proofs.ReadRefs.{means_keys}
use Rattle.dwz_def_tops.proofs.Targets.{or_first, or_second}
use Rattle.dwz_def_tops.specs.Lists.{NoneTwice}
use Rattle.dwz_def_tops.specs.Shown.{keys, unit_keys, units_keys}
use Rattle.dwz_def_tops.specs.Spots.{EntryName, Within}
use Rattle.dwz_graph.proofs.RowUnits.{rows_unit}
use Rattle.dwz_graph.proofs.TopLemmas.{get_cases}
use Rattle.dwz_graph.proofs.PlaceLemmas.{in_places}
use Rattle.dwz_unit.specs.Rows.{EntryRow, rows_from, rows_in}

-- the places of the entries of a unit
abbrev pub entries_at : DwUnit ℕ → List ℕ
entries_at u = u.root.at ∷ keys u.below

abbrev pub is_at : ℕ → DwUnit ℕ → Bool
is_at p u = list_any (λ q. q == p) (entries_at u)

-- the first unit of which an entry stands at the place
unfoldable pub unit_at : ℕ → List (DwUnit ℕ) → ℕ → ℕ
unit_at n [] p = n
unit_at n (u ∷ units) p = if is_at p u then n else unit_at (suc n) units p

abbrev pub unit_name : List (DwUnit ℕ) → ℕ → EntryName
unit_name units p = Within (unit_at 0 units p) []

any_in : (p : ℕ) (xs : List ℕ) → In p xs → list_any (λ q. q == p) xs ≡ true
any_in p [] h = absurd h
any_in p (x ∷ xs) (inl e) = or_first (x == p) (list_any (λ q. q == p) xs) (eq-eqb x p e)
any_in p (x ∷ xs) (inr r) = or_second (x == p) (list_any (λ q. q == p) xs) (any_in p xs r)

in_any : (p : ℕ) (xs : List ℕ) → list_any (λ q. q == p) xs ≡ true → In p xs
in_any p [] h = absurd (false≢true h)
in_any p (x ∷ xs) h = ⊎_elim (λ e. inl (eqb-true x p e)) (λ r. inr (in_any p xs r)) (or_cases (x == p) (list_any (λ q. q == p) xs) h)

key_in : (n : ℕ) (units : List (DwUnit ℕ)) (u : DwUnit ℕ) (p : ℕ) → slice_get units n ≡ Some u → In p (entries_at u) → In p (units_keys units)
unfolding units_keys unit_keys
key_in n [] u p e h = absurd (let low = got_below [] n u e in omega (arith, low))
key_in zero (v ∷ units) u p e h = let same : v ≡ u = cc in inr (in_left p (entries_at v) (units_keys units) (subst (λ (w : DwUnit ℕ). In p (entries_at w)) (sym same) h))
key_in (suc n) (v ∷ units) u p e h = in_right p (unit_keys v) (units_keys units) (key_in n units u p e h)

pub at_unit : (k : ℕ) (units : List (DwUnit ℕ)) (n : ℕ) (u : DwUnit ℕ) (p : ℕ) → NoneTwice (units_keys units) → slice_get units n ≡ Some u → In p (entries_at u) → unit_at k units p ≡ k + n
unfolding unit_at units_keys unit_keys
at_unit k [] n u p once e h = absurd (let low = got_below [] n u e in omega (arith, low))
at_unit k (v ∷ units) zero u p once e h =
    let same : v ≡ u = cc in
    let is : is_at p v ≡ true = any_in p (entries_at v) (subst (λ (w : DwUnit ℕ). In p (entries_at w)) (sym same) h) in
    ap (λ (b : Bool). if b then k else unit_at (suc k) units p) is ∙ (let z : k ≡ k + 0 = omega arith in z)
at_unit k (v ∷ units) (suc n) u p once e h =
    by (is_at p v) refl (at_unit (suc k) units n u p (none_right (unit_keys v) (units_keys units) once) e h) where
      by : (b : Bool) → is_at p v ≡ b → unit_at (suc k) units p ≡ suc k + n → (if b then k else unit_at (suc k) units p) ≡ k + suc n
      by true is more = absurd (none_both (unit_keys v) (units_keys units) once p (inr (in_any p (entries_at v) is)) (key_in n units u p e h))
      by false is more = more ∙ (let z : suc k + n ≡ k + suc n = omega arith in z)

-- ---- the unit of a row

unit_places : (around : Around ℕ) → ((n : ℕ) → around.place n ≡ n) → (r : RawUnit) (v : DwUnit ℕ) → MeansUnit around r v → (p : ℕ) → In p (places_of r) → In p (entries_at v)
unfolding units_keys unit_keys all_raw_keys
unit_places around own r v h p i =
    let both = means_keys around (r ∷ []) (v ∷ []) (h, tt) in
    let named : In (around.place p) (map around.place (drop 1 (raw_keys r ++ []))) = in_map around.place p (drop 1 (raw_keys r ++ [])) (in_left p (places_of r) [] i) in
    let there : In p (map around.place (drop 1 (raw_keys r ++ []))) = subst (λ (w : ℕ). In w (map around.place (drop 1 (raw_keys r ++ [])))) (own p) named in
    let same : entries_at v ++ [] ≡ map around.place (drop 1 (raw_keys r ++ [])) = ap (drop 1) both in
    subst (λ (w : List ℕ). In p w) (append-nil (entries_at v)) (subst (λ (w : List ℕ). In p w) (sym same) there)

pub record RowUnit (said : List (DwUnit ℕ)) (n : ℕ) (row : EntryRow) : Type 0 where
  pub k : ℕ
  pub number : n + k ≡ row.unit
  pub unit : DwUnit ℕ
  pub got : slice_get said k ≡ Some unit
  pub there : In row.entry.at (entries_at unit)

pub row_unit : (around : Around ℕ) → ((n : ℕ) → around.place n ≡ n) → (raw : List RawUnit) (said : List (DwUnit ℕ)) → MeanUnits around raw said → (n before i : ℕ) (row : EntryRow)
    → slice_get (rows_from raw n before) i ≡ Some row → RowUnit said n row
unfolding rows_from
row_unit around own [] [] h n before i row at = absurd (let low = got_below [] i row at in omega (arith, low))
row_unit around own [] (v ∷ said) h n before i row at = absurd h
row_unit around own (r ∷ raw) [] h n before i row at = absurd h
row_unit around own (r ∷ raw) (v ∷ said) h n before i row at =
    elim (get_cases (rows_in r n before) (rows_from raw (n + 1) (before + entry_count r)) i row at) [
      | inl here ↦ record {
        k = 0;
        number = (let e : row.unit ≡ n = rows_unit (Entry r.root r.below End) n (root_position before) i row here in omega (arith, e));
        unit = v;
        got = refl;
        there = unit_places around own r v h.0 row.entry.at
            (subst (λ (w : List ℕ). In row.entry.at w) (in_places r n before) (in_map (λ (x : EntryRow). x.entry.at) row (rows_in r n before) (got_in (rows_in r n before) i row here)));
      }
      | inr rest ↦
          let o = row_unit around own raw said h.1 (n + 1) (before + entry_count r) rest.0 row rest.2 in
          record { k = suc o.k; number = (let e = o.number in omega (arith, e)); unit = o.unit; got = o.got; there = o.there }
    ]
