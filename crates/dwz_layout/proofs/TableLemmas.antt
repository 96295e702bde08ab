-- Tables and their offsets: each stands where those before it end, and what the map finds is what looking from the front finds.
use Rattle.std.proofs.Common.{◌≡◌, ℕ, ◌+◌, ◌≤◌, Bool, true, false, List, [], ◌∷◌, ◌++◌, drop, length, take, Option, Some, None, refl, sym, ap, ◌∙◌, append_assoc, append-nil, arith}
use Rattle.std.specs.Prelude.{Err, IfOk, Ok, Result, sum}
use Rattle.std.specs.BTreeMap.{BTreeMap}
use Rattle.std.specs.Global.{Vec}
use Rattle.std.specs.Map.{update}
use Rattle.std.specs.Str.{bytes_eq}
use Rattle.std.proofs.lemmas.List.{drop-append-le, length-append, length-drop, nil_from_length, take-append-le, take_all}
use Rattle.std.proofs.lemmas.List.Sums.{sum_by-cons, sum_by_push}
use Rattle.std.proofs.lemmas.Slice.Eq.{bytes_eq-Decides}
use Rattle.dwz_def_tops.specs.Spots.{same_numbers}
use Rattle.dwz_def_encoding.specs.Writing.{add_table, joined, or_zero, table_in, with_table}
use Rattle.dwz_def_tops.proofs.SpotLemmas.{numbers_same, numbers_true}
use Rattle.dwz_layout.specs.Maps.{FindsNone, Puts, look}
use Rattle.dwz_layout.specs.Tables.{HasTables, parts}

pub no_tables : (offsets : BTreeMap (Vec ℕ) ℕ) → FindsNone offsets → HasTables [] [] offsets
unfolding joined table_in
no_tables offsets none = record { long = refl; joined = refl; found = none }

-- ---- one table more

parts_more : (lengths section table : List ℕ) → sum lengths ≡ length section → parts (lengths ++ length table ∷ []) (section ++ table) ≡ parts lengths section ++ table ∷ []
parts_more [] section table long =
    let none : section ≡ [] = nil_from_length section (omega (arith, long)) in
    ap (λ (w : List ℕ). take (length table) (w ++ table) ∷ []) none ∙ ap (λ (w : List ℕ). w ∷ []) (take_all (length table) table (omega arith))
parts_more (n ∷ lengths) section table long =
    let first_and_rest = sum_by-cons (λ (m : ℕ). m) n lengths in
    let within : n ≤ length section = omega (arith, long, first_and_rest) in
    let rest : sum lengths ≡ length (drop n section) = omega (arith, long, length-drop n section, first_and_rest) in
    let first = take-append-le n section table within in
    let others = ap (parts (lengths ++ length table ∷ [])) (drop-append-le n section table within) ∙ parts_more lengths (drop n section) table rest in
    (λ i. first i ∷ others i)

joined_more : (tables : List (List ℕ)) (t : List ℕ) → joined (tables ++ t ∷ []) ≡ joined tables ++ t
unfolding joined
joined_more [] t = append-nil t
joined_more (u ∷ tables) t = ap (λ (w : List ℕ). u ++ w) (joined_more tables t) ∙ sym (append_assoc u (joined tables) t)

abbrev step : Bool → ℕ → Option ℕ → Option ℕ
step test at o = elim test as (λ _. Option ℕ) [ true ↦ Some at | false ↦ o ]

last_place : (tables : List (List ℕ)) (at : ℕ) (t : List ℕ) → table_in at tables t ≡ None → table_in at (tables ++ t ∷ []) t ≡ Some (at + length (joined tables))
unfolding table_in joined
last_place [] at t is = ap (λ (b : Bool). step b at None) (numbers_same t) ∙ ap (λ (n : ℕ). Some n) (omega arith)
last_place (u ∷ tables) at t is = go (same_numbers u t) is (last_place tables (at + length u) t) where
  go : (b : Bool) → step b at (table_in (at + length u) tables t) ≡ None
      → (table_in (at + length u) tables t ≡ None → table_in (at + length u) (tables ++ t ∷ []) t ≡ Some (at + length u + length (joined tables)))
      → step b at (table_in (at + length u) (tables ++ t ∷ []) t) ≡ Some (at + length (u ++ joined tables))
  go true is below = absurd cc
  go false is below = below is ∙ ap (λ (n : ℕ). Some n) (omega (arith, length-append u (joined tables)))

-- the place of another table stays
place_other : (at : ℕ) (tables : List (List ℕ)) (t u : List ℕ) → (t ≡ u → ⊥) → table_in at (tables ++ t ∷ []) u ≡ table_in at tables u
unfolding table_in
place_other at [] t u other = go (same_numbers t u) refl where
  go : (test : Bool) → same_numbers t u ≡ test → step test at None ≡ None
  go true e = absurd (other (numbers_true t u e))
  go false e = refl
place_other at (v ∷ tables) t u other = ap (step (same_numbers v u) at) (place_other (at + length v) tables t u other)

module _ (section lengths : List ℕ) (offsets : BTreeMap (Vec ℕ) ℕ) (has : HasTables section lengths offsets) (table : List ℕ) where
  pub tables_more : parts (lengths ++ length table ∷ []) (section ++ table) ≡ parts lengths section ++ table ∷ []
  tables_more = parts_more lengths section table has.long

  pub has_more : table_in 0 (parts lengths section) table ≡ None → (new : BTreeMap (Vec ℕ) ℕ) → Puts offsets new table (Some (length section))
      → HasTables (section ++ table) (lengths ++ length table ∷ []) new
  has_more none new puts = record {
    long = omega (arith, sum_by_push (λ (m : ℕ). m) lengths (length table), length-append section table, has.long);
    joined = ap (λ (w : List ℕ). w ++ table) has.joined ∙ sym (ap joined tables_more ∙ joined_more (parts lengths section) table);
    found = λ t. puts t ∙ go t (bytes_eq table t) refl ∙ sym (ap (λ (ts : List (List ℕ)). table_in 0 ts t) tables_more);
  } where
    go : (t : List ℕ) (test : Bool) → bytes_eq table t ≡ test → update bytes_eq (look offsets) table (Some (length section)) t ≡ table_in 0 (parts lengths section ++ table ∷ []) t
    go t true e =
        let same : table ≡ t = (bytes_eq-Decides table t).0 e in
        let place : 0 + length (joined (parts lengths section)) ≡ length section = omega (arith, ap length has.joined) in
        (rw e refl) ∙ sym (ap (λ (u : List ℕ). table_in 0 (parts lengths section ++ table ∷ []) u) (sym same) ∙ last_place (parts lengths section) 0 table none ∙ ap (λ (n : ℕ). Some n) place)
    go t false e =
        let other : table ≡ t → ⊥ = λ same. absurd (let is : bytes_eq table t ≡ true = (bytes_eq-Decides table t).1 same in cc) in
        (rw e refl) ∙ has.found t ∙ sym (place_other 0 (parts lengths section) table t other)

-- ---- a table that is kept

with_known : (tables : List (List ℕ)) (t : List ℕ) (n : ℕ) → table_in 0 tables t ≡ Some n → with_table tables t ≡ tables
unfolding with_table
with_known tables t n is = ap (λ (o : Option ℕ). add_table o tables t) is

with_new : (tables : List (List ℕ)) (t : List ℕ) → table_in 0 tables t ≡ None → with_table tables t ≡ tables ++ t ∷ []
unfolding with_table
with_new tables t is = ap (λ (o : Option ℕ). add_table o tables t) is

module _ (tables : List (List ℕ)) (t : List ℕ) where
  -- one that is among them
  pub table_known : (n : ℕ) → Some n ≡ table_in 0 tables t → tables ≡ with_table tables t
  table_known n is = sym (with_known tables t n (sym is))

  pub place_known : (n : ℕ) → Some n ≡ table_in 0 tables t → n ≡ or_zero (table_in 0 (with_table tables t) t)
  place_known n is = sym (ap (λ (ts : List (List ℕ)). or_zero (table_in 0 ts t)) (with_known tables t n (sym is)) ∙ ap or_zero (sym is))

  -- and one that isn't
  pub table_new : None ≡ table_in 0 tables t → tables ++ t ∷ [] ≡ with_table tables t
  table_new is = sym (with_new tables t (sym is))

  pub place_new : None ≡ table_in 0 tables t → length (joined tables) ≡ or_zero (table_in 0 (with_table tables t) t)
  place_new is =
      let place : 0 + length (joined tables) ≡ length (joined tables) = omega arith in
      sym (ap (λ (ts : List (List ℕ)). or_zero (table_in 0 ts t)) (with_new tables t (sym is)) ∙ ap or_zero (last_place tables 0 t (sym is)) ∙ place)

  pub placed_new : {E : Type 0} → None ≡ table_in 0 tables t → (r : Result ℕ E) → IfOk r (λ offset. offset ≡ length (joined tables))
      → IfOk r (λ offset. offset ≡ or_zero (table_in 0 (with_table tables t) t))
  placed_new is (Ok n) e = e ∙ place_new is
  placed_new is (Err e) h = tt
