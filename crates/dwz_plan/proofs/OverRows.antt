-- The rows of the files are the first ones, and their free tops are alike where the test of free tops says so.
use Rattle.std.proofs.Common.{◌≡◌, ℕ, zero, suc, ◌+◌, ◌<◌, ◌≤◌, ◌&&◌, inl, inr, not, cond, true, false, List, [], ◌∷◌, ◌++◌, length, map, take, refl, sym, ap, subst}
use Rattle.std.proofs.Common.{◌∙◌, arith, length-append}
use Rattle.std.specs.Prelude.{nat_le}
use Rattle.std.specs.List.{prefix_len}
use Rattle.std.proofs.Math.Seq.{take-append_seam}
use Rattle.std.proofs.lemmas.Bool.{and_from, and_parts, le-leb}
use Rattle.std.proofs.lemmas.Bool.Decides.{leb_tells}
use Rattle.std.proofs.lemmas.List.{length-map}
use Rattle.dwz_def_reading.specs.Lists.{In}
use Rattle.dwz_def_reading.proofs.ListFacts.{in_map}
use Rattle.dwz_def_tops.specs.Alike.{Apart}
use Rattle.dwz_def_tops.specs.Deciding.{alike_test}
use Rattle.dwz_def_tops.specs.Spots.{EntryName, FileUnit, Top, tops_of}
use Rattle.dwz_def_tops.proofs.Members.{in_map_from, nth_below}
use Rattle.dwz_def_tops.proofs.RowLemmas.{top_of}
use Rattle.dwz_def_tops.proofs.TopOrder.{later_unit}
use Rattle.dwz_def_plan.specs.Gain.{top_weight}
use Rattle.dwz_def_taken.specs.declared.fixed.Fixed.{Fixed}
use Rattle.dwz_def_taken.specs.Beside.{Reused, own_tops}
use Rattle.dwz_def_taken.specs.Takes.{free_rule, free_test, is_free}
use Rattle.dwz_groups.specs.declared.tops.TopRow.{TopRow}
use Rattle.dwz_groups.specs.declared.tops.Tops.{Tops}
use Rattle.dwz_plan.specs.declared.plan.Scope.TheVariants.{Each}
use Rattle.dwz_plan.specs.Gained.{IsPlanOf}
use Rattle.dwz_plan.specs.Gaining.{weight_at, weights_of}
use Rattle.dwz_plan.specs.Groups.{IsWeight}
use Rattle.dwz_plan.specs.Over.{count_own, free_rows, free_tops, given_free, own_count, own_units}
use Rattle.dwz_plan.specs.OverLaws.{ShowsOver, common_tops}
use Rattle.dwz_plan.specs.Planned.{Planned}
use Rattle.dwz_plan.specs.Rows.{Given, TopFacts, given, row_of, rows_from}
use Rattle.dwz_plan.specs.Shows.{HaveLeast, Joins, ShowsPlan, ShowsRows, ShowsTops, may_move}
use Rattle.dwz_plan.proofs.GainedLemmas.{plan_gained}
use Rattle.dwz_plan.proofs.RowLemmas.{length-rows_from}

-- ---- rows before those of other units

count_append : (u : ℕ) (xs ys : List TopRow) → ((x : TopRow) → In x xs → x.unit < u) → ((y : TopRow) → In y ys → u ≤ y.unit) → count_own u (xs ++ ys) ≡ length xs
count_append u [] [] h k = refl
count_append u [] (y ∷ ys) h k = ap (λ b. cond (not b) (1 + prefix_len (λ (row : TopRow). not (nat_le u row.unit)) ys) 0) (le-leb u y.unit (k y (inl refl)))
count_append u (x ∷ xs) ys h k =
    let more : count_own u (xs ++ ys) ≡ length xs = count_append u xs ys (λ z is. h z (inr is)) k in
    let before : nat_le u x.unit ≡ false = elim (leb_tells u x.unit) [
      | inl p ↦ absurd (let l = h x (inl refl) in let m = p.1 in omega arith)
      | inr p ↦ p.0
    ] in
    ap (λ b. cond (not b) (1 + count_own u (xs ++ ys)) 0) before ∙ (let one : 1 + count_own u (xs ++ ys) ≡ suc (length xs) = omega (arith, more) in one)

-- the top that a row shows
row_top : (units : List (FileUnit EntryName)) (rows : List TopRow) (tops : List Top) → ShowsRows units rows tops → (row : TopRow) → In row rows → (t : Top) × In t tops × (row.unit ≡ t.unit)
row_top units [] tops h row is = absurd is
row_top units (r ∷ rows) [] h row is = absurd h
row_top units (r ∷ rows) (t ∷ tops) h row (inl e) = (t, inl refl, ap (λ (w : TopRow). w.unit) (sym e) ∙ h.0.unit)
row_top units (r ∷ rows) (t ∷ tops) h row (inr is) = let o = row_top units rows tops h.1 row is in (o.0, inr o.1, o.2)

rows_many : (units : List (FileUnit EntryName)) (rows : List TopRow) (tops : List Top) → ShowsRows units rows tops → length rows ≡ length tops
rows_many units [] [] h = refl
rows_many units [] (t ∷ tops) h = absurd h
rows_many units (r ∷ rows) [] h = absurd h
rows_many units (r ∷ rows) (t ∷ tops) h = ap suc (rows_many units rows tops h.1)

pub units_same : (units : List (FileUnit EntryName)) (rows : List TopRow) (tops : List Top) → ShowsRows units rows tops → map (λ (row : TopRow). row.unit) rows ≡ map (λ (t : Top). t.unit) tops
units_same units [] [] h = refl
units_same units [] (t ∷ tops) h = absurd h
units_same units (r ∷ rows) [] h = absurd h
units_same units (r ∷ rows) (t ∷ tops) h = (λ i. h.0.unit i ∷ units_same units rows tops h.1 i)

-- ---- free rows

free_shown : (fixed : Fixed) (units : List (FileUnit EntryName)) (n : ℕ) (rows : List TopRow) (tops : List Top) → ShowsRows units rows tops → ShowsRows units (free_rows fixed n rows) tops
unfolding free_rows
free_shown fixed units n [] [] h = tt
free_shown fixed units n [] (t ∷ tops) h = absurd h
free_shown fixed units n (r ∷ rows) [] h = absurd h
free_shown fixed units n (r ∷ rows) (t ∷ tops) h = (record { unit = h.0.unit; pinned = h.0.pinned }, free_shown fixed units (suc n) rows tops h.1)

free_weights : (fixed : Fixed) (n : ℕ) (rows : List TopRow) → weights_of (free_rows fixed n rows) ≡ weights_of rows
unfolding free_rows
free_weights fixed n [] = refl
free_weights fixed n (r ∷ rows) = ap (λ (ws : List ℕ). r.weight ∷ ws) (free_weights fixed (suc n) rows)

pub length-free_rows : (fixed : Fixed) (n : ℕ) (rows : List TopRow) → length (free_rows fixed n rows) ≡ length rows
unfolding free_rows
length-free_rows fixed n [] = refl
length-free_rows fixed n (r ∷ rows) = ap suc (length-free_rows fixed (suc n) rows)

free_may : (fixed : Fixed) (n : ℕ) (rows : List TopRow) (k : ℕ) → may_move (free_rows fixed n rows) k ≡ true → may_move rows k ≡ true
unfolding free_rows
free_may fixed n [] k e = e
free_may fixed n (r ∷ rows) zero e = (and_parts r.movable (is_free fixed n) e).0
free_may fixed n (r ∷ rows) (suc k) e = free_may fixed (suc n) rows k e

-- the row of all that is one of the free ones
record OfRow (fixed : Fixed) (rows : List TopFacts) (a : TopFacts) : Type 0 where
  pub row : TopFacts
  pub there : In row rows
  pub number : row.number ≡ a.number
  pub file : row.file ≡ a.file
  pub least : row.least ≡ a.least
  pub movable : a.movable ≡ (row.movable && is_free fixed a.number)

of_row : (fixed : Fixed) (files : List ℕ) (n : ℕ) (rows : List TopRow) (least : List ℕ) (a : TopFacts) → In a (rows_from files n (free_rows fixed n rows) least) → OfRow fixed (rows_from files n rows least) a
unfolding free_rows rows_from
of_row fixed files n [] least a is = absurd is
of_row fixed files n (r ∷ rows) [] a is = absurd is
of_row fixed files n (r ∷ rows) (l ∷ least) a (inl e) = record {
  row = row_of files n r l;
  there = inl refl;
  number = ap (λ (w : TopFacts). w.number) e;
  file = ap (λ (w : TopFacts). w.file) e;
  least = ap (λ (w : TopFacts). w.least) e;
  movable = ap (λ (w : TopFacts). w.movable) (sym e) ∙ ap (λ k. r.movable && is_free fixed k) (ap (λ (w : TopFacts). w.number) e);
}
of_row fixed files n (r ∷ rows) (l ∷ least) a (inr is) =
    let o = of_row fixed files (suc n) rows least a is in
    record { row = o.row; there = inr o.there; number = o.number; file = o.file; least = o.least; movable = o.movable }

module _ (r : Reused) (fixed : Fixed) (tops : Tops) (least : List ℕ) (sh : ShowsOver r fixed tops least) where
  abbrev own : Tops
  own = sh.own

  pub many_rows : length own.rows ≡ length (tops_of r.units)
  many_rows = rows_many r.units own.rows (tops_of r.units) sh.shows.rows

  many_units : length own.files_of_units ≡ length r.units
  many_units = ap (λ (ns : List ℕ). length ns) sh.shows.files_of_units ∙ length-map r.units (λ (f : FileUnit EntryName). f.file)

  pub all_units : length tops.files_of_units ≡ length r.units + length r.commons
  all_units = omega (arith, ap (λ (ns : List ℕ). length ns) sh.files_of_units, length-append own.files_of_units sh.files_behind, many_units, sh.many_behind)

  pub own_units_is : own_units tops fixed ≡ length r.units
  own_units_is = omega (arith, all_units, sh.roots)

  own_low : (row : TopRow) → In row own.rows → row.unit < own_units tops fixed
  own_low row is =
      let o = row_top r.units own.rows (tops_of r.units) sh.shows.rows row is in
      let u = top_of 0 0 r.units o.0 o.1 in
      let low = nth_below 0 r.units o.0.unit u.unit u.nth in
      omega (arith, low, o.2, own_units_is)

  behind_high : (row : TopRow) → In row sh.rows_behind → own_units tops fixed ≤ row.unit
  behind_high row is =
      let o = in_map_from (λ (t : Top). t.unit) row.unit (common_tops r) (subst (λ (ns : List ℕ). In row.unit ns) sh.units_behind (in_map (λ (w : TopRow). w.unit) row sh.rows_behind is)) in
      let low = later_unit (length r.units) (own_tops r) r.commons o.source o.there in
      omega (arith, low, o.is, own_units_is)

  pub own_count_is : own_count tops fixed ≡ length own.rows
  own_count_is = ap (count_own (own_units tops fixed)) sh.rows ∙ count_append (own_units tops fixed) own.rows sh.rows_behind own_low behind_high

  -- ---- the free tops

  abbrev free : Tops
  free = record { rows = free_rows fixed 0 own.rows; targets = own.targets; files_of_units = own.files_of_units; files = own.files }

  rows_are : take (own_count tops fixed) tops.rows ≡ own.rows
  rows_are = (λ i. take (own_count_is i) (sh.rows i)) ∙ take-append_seam own.rows sh.rows_behind

  targets_are : take (own_count tops fixed) tops.targets ≡ own.targets
  targets_are =
      let e : own_count tops fixed ≡ length own.targets = own_count_is ∙ (many_rows ∙ sym sh.shows.len) in
      (λ i. take (e i) (sh.targets i)) ∙ take-append_seam own.targets sh.targets_behind

  files_are : take (own_units tops fixed) tops.files_of_units ≡ own.files_of_units
  files_are =
      let e : own_units tops fixed ≡ length own.files_of_units = own_units_is ∙ sym many_units in
      (λ i. take (e i) (sh.files_of_units i)) ∙ take-append_seam own.files_of_units sh.files_behind

  least_are : take (own_count tops fixed) least ≡ sh.own_least
  least_are =
      let e : own_count tops fixed ≡ length sh.own_least = own_count_is ∙ sym sh.decides.len in
      (λ i. take (e i) (sh.least_is i)) ∙ take-append_seam sh.own_least sh.least_behind

  free_is : free_tops tops fixed ≡ free
  free_is = (λ i. record { rows = free_rows fixed 0 (rows_are i); targets = targets_are i; files_of_units = files_are i; files = sh.files i })

  given_is : given_free tops least fixed ≡ given Each free sh.own_least
  given_is = (λ i. given Each (free_is i) (least_are i))

  shows_free : ShowsTops r.units free
  shows_free = record {
    rows = free_shown fixed r.units 0 own.rows (tops_of r.units) sh.shows.rows;
    weights = λ t there. subst (λ (ws : List ℕ). IsWeight (weight_at ws t.number) (top_weight t)) (sym (free_weights fixed 0 own.rows)) (sh.shows.weights t there);
    len = sh.shows.len;
    targets = λ t there may. sh.shows.targets t there (free_may fixed 0 own.rows t.number may);
    files_of_units = sh.shows.files_of_units;
    files = sh.shows.files;
  }

  abbrev all : List TopFacts
  all = rows_from own.files_of_units 0 own.rows sh.own_least

  decides_free : HaveLeast Each free sh.own_least (free_test r fixed)
  decides_free = record {
    len = sh.decides.len ∙ sym (length-free_rows fixed 0 own.rows);
    decides = λ a b is there. (
        let x = of_row fixed own.files_of_units 0 own.rows sh.own_least a is in
        let y = of_row fixed own.files_of_units 0 own.rows sh.own_least b there in (to a b x y, from a b x y));
  }
    where
      to : (a b : TopFacts) → OfRow fixed all a → OfRow fixed all b → free_test r fixed a.number b.number ≡ true → Joins Each a b
      to a b x y e =
          let two = and_parts (alike_test Apart r.units a.number b.number) (is_free fixed a.number && is_free fixed b.number) e in
          let each = and_parts (is_free fixed a.number) (is_free fixed b.number) two.1 in
          let j = (sh.decides.decides x.row y.row x.there y.there).0 ((λ i. alike_test Apart r.units (x.number i) (y.number i)) ∙ two.0) in
          record {
            first = x.movable ∙ and_from x.row.movable (is_free fixed a.number) j.first each.0;
            second = y.movable ∙ and_from y.row.movable (is_free fixed b.number) j.second each.1;
            scoped = sym x.file ∙ (j.scoped ∙ y.file);
            least = sym x.least ∙ (j.least ∙ y.least);
          }

      from : (a b : TopFacts) → OfRow fixed all a → OfRow fixed all b → Joins Each a b → free_test r fixed a.number b.number ≡ true
      from a b x y j =
          let first = and_parts x.row.movable (is_free fixed a.number) (sym x.movable ∙ j.first) in
          let second = and_parts y.row.movable (is_free fixed b.number) (sym y.movable ∙ j.second) in
          let alike = (sh.decides.decides x.row y.row x.there y.there).1 record {
            first = first.0;
            second = second.0;
            scoped = x.file ∙ (j.scoped ∙ sym y.file);
            least = x.least ∙ (j.least ∙ sym y.least);
          } in
          and_from (alike_test Apart r.units a.number b.number) (is_free fixed a.number && is_free fixed b.number) ((λ i. alike_test Apart r.units (sym x.number i) (sym y.number i)) ∙ alike)
          (and_from (is_free fixed a.number) (is_free fixed b.number) first.1 second.1)

  -- the plan of the free tops is that of the units by gain
  pub free_shows : (planned : Planned) → IsPlanOf (given_free tops least fixed) planned → ShowsPlan (free_rule r fixed) r.units own.files planned
  free_shows planned is =
      let of : IsPlanOf (given Each free sh.own_least) planned = subst (λ (g : Given). IsPlanOf g planned) given_is is in
      plan_gained r.units (free_test r fixed) Each free sh.own_least shows_free decides_free of.0 of.1 planned of.2

  pub free_many : length (given_free tops least fixed).rows ≡ length own.rows
  free_many = ap (λ (g : Given). length g.rows) given_is
      ∙ (length-rows_from own.files_of_units 0 (free_rows fixed 0 own.rows) sh.own_least decides_free.len ∙ length-free_rows fixed 0 own.rows)
