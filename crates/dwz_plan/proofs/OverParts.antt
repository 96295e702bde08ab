-- The partial units of a common file, by rows and by its units.
use Rattle.std.proofs.Common.{◌≡◌, ℕ, suc, ◌+◌, ◌<◌, ◌≤◌, ◌==◌, inl, inr, cond, Bool, true, false, List, [], ◌∷◌, ◌++◌, length, map, filter, take, drop, get_or, refl, sym, ap}
use Rattle.std.proofs.Common.{◌∙◌, arith, eq-eqb, length-append}
use Rattle.std.specs.List.{range_with_len}
use Rattle.std.proofs.lemmas.Bool.{cases_eq, ne_eqb}
use Rattle.std.proofs.lemmas.List.{append-nil, map-append}
use Rattle.std.proofs.lemmas.List.Elements.{filter-append}
use Rattle.dwz_def_reading.specs.Lists.{In}
use Rattle.dwz_def_reading.specs.Rows.{has}
use Rattle.dwz_def_tops.specs.Spots.{ASpace, ATop, EntryName, FileUnit, Nothing, Row, Top, row_below, row_from, row_tops, rows_of_root, top_count, tops_from, tops_of}
use Rattle.dwz_def_tops.proofs.RowLemmas.{below_unit, row_here, row_later}
use Rattle.dwz_def_tops.proofs.TopNumbers.{Numbered, tops_numbers}
use Rattle.dwz_def_tops.proofs.TopOrder.{later_unit}
use Rattle.dwz_def_plan.specs.Homes.{numbers_from}
use Rattle.dwz_def_tops.proofs.FiledTops.{counted, tops_length, tops_append}
use Rattle.dwz_def_taken.specs.declared.fixed.Fixed.{Fixed}
use Rattle.dwz_def_taken.specs.Beside.{Reused, own_tops, together}
use Rattle.dwz_def_taken.specs.Over.{as_part, common_part, common_parts, common_row, row_map, takers}
use Rattle.dwz_def_taken.specs.Takes.{IsFixed, takes_of}
use Rattle.dwz_groups.specs.declared.tops.TopRow.{TopRow}
use Rattle.dwz_groups.specs.declared.tops.Tops.{Tops}
use Rattle.dwz_plan.specs.Over.{own_units, standing_part, standing_parts, takers_from, tops_in}
use Rattle.dwz_plan.specs.OverLaws.{ShowsOver, common_tops}
use Rattle.dwz_plan.specs.Shows.{shown_part}
use Rattle.dwz_plan.proofs.ListFacts.{filter_no}
use Rattle.dwz_plan.proofs.OverRows.{own_units_is, units_same}

filter_yes : {X : Type 0} (p : X → Bool) (xs : List X) → ((x : X) → In x xs → p x ≡ true) → filter p xs ≡ xs
filter_yes p [] h = refl
filter_yes {X} p (x ∷ xs) h = (λ i. cond (h x (inl refl) i) (x ∷ filter p xs) (filter p xs)) ∙ ap (λ (ys : List X). x ∷ ys) (filter_yes p xs (λ y is. h y (inr is)))

-- ---- the tops of a unit

no_row : (s n i : ℕ) → row_tops (row_from s n [] i) ≡ []
unfolding row_from row_tops
no_row s n i = refl

unit_tops : (s n : ℕ) (units : List (FileUnit EntryName)) (i : ℕ) → row_tops (row_from s n units i) ≡ filter (λ t. t.unit == i) (tops_from s n units)
unfolding tops_from
unit_tops s n [] i = no_row s n i
unit_tops s n (f ∷ units) i =
    let here : List Top = row_tops (row_below f.file s n f.unit f.unit.kind) in
    let later : List Top = tops_from (suc s) (n + top_count f.unit.kind f.unit.below) units in
    let split : filter (λ t. t.unit == i) (here ++ later) ≡ filter (λ t. t.unit == i) here ++ filter (λ t. t.unit == i) later = filter-append (λ (t : Top). t.unit == i) here later in
    elim (cases_eq s i) [
      | inl e ↦
          let all : filter (λ t. t.unit == i) here ≡ here = filter_yes (λ (t : Top). t.unit == i) here (λ t is. eq-eqb t.unit i ((below_unit f s n f.unit.kind t is).1 ∙ e)) in
          let none : filter (λ t. t.unit == i) later ≡ [] =
          filter_no (λ (t : Top). t.unit == i) later (λ t is. ne_eqb t.unit i (λ q. (let low = later_unit (suc s) (n + top_count f.unit.kind f.unit.below) units t is in omega (arith, low, q, e)))) in
          ap row_tops (row_here s n f units i e) ∙ sym (split ∙ (λ j. all j ++ none j) ∙ append-nil here)
      | inr ne ↦
          let none : filter (λ t. t.unit == i) here ≡ [] =
          filter_no (λ (t : Top). t.unit == i) here (λ t is. ne_eqb t.unit i (λ q. ne (sym (below_unit f s n f.unit.kind t is).1 ∙ q))) in
          ap row_tops (row_later s n f units i ne) ∙ (unit_tops (suc s) (n + top_count f.unit.kind f.unit.below) units i ∙ sym (split ∙ ap (λ (ts : List Top). ts ++ filter (λ t. t.unit == i) later) none))
    ]

mapped_numbers : (g : EntryName → EntryName) (row : Row) → map (λ (t : Top). t.number) (row_tops (row_map g row)) ≡ map (λ (t : Top). t.number) (row_tops row)
unfolding row_map row_tops
mapped_numbers g Nothing = refl
mapped_numbers g (ATop t next) = ap (λ (ns : List ℕ). t.number ∷ ns) (mapped_numbers g next)
mapped_numbers g (ASpace e inner next) =
    map-append (λ (t : Top). t.number) (row_tops (row_map g inner)) (row_tops (row_map g next))
    ∙ ((λ i. mapped_numbers g inner i ++ mapped_numbers g next i) ∙ sym (map-append (λ (t : Top). t.number) (row_tops inner) (row_tops next)))

-- rows of the same units give the same numbers
tops_in_are : (i n : ℕ) (rows : List TopRow) (tops : List Top) → map (λ (row : TopRow). row.unit) rows ≡ map (λ (t : Top). t.unit) tops → Numbered n tops
    → tops_in i n rows ≡ map (λ (t : Top). t.number) (filter (λ t. t.unit == i) tops)
unfolding tops_in
tops_in_are i n [] [] e h = refl
tops_in_are i n [] (t ∷ tops) e h = absurd (omega (arith, ap (λ (ns : List ℕ). length ns) e))
tops_in_are i n (r ∷ rows) [] e h = absurd (omega (arith, ap (λ (ns : List ℕ). length ns) e))
tops_in_are i n (r ∷ rows) (t ∷ tops) e h =
    let unit : r.unit ≡ t.unit = ap (λ (ns : List ℕ). get_or ns 0 0) e in
    let units : map (λ (row : TopRow). row.unit) rows ≡ map (λ (t : Top). t.unit) tops = ap (λ (ns : List ℕ). drop 1 ns) e in
    let more = tops_in_are i (suc n) rows tops units h.1 in
    (λ j. cond (unit j == i) (sym h.0 j ∷ more j) (more j)) ∙ by (t.unit == i)
  where
    by : (b : Bool) → cond b (t.number ∷ map (λ (t : Top). t.number) (filter (λ t. t.unit == i) tops)) (map (λ (t : Top). t.number) (filter (λ t. t.unit == i) tops))
        ≡ map (λ (t : Top). t.number) (cond b (t ∷ filter (λ t. t.unit == i) tops) (filter (λ t. t.unit == i) tops))
    by true = refl
    by false = refl

-- ---- who takes it

pub takers_are : {X : Type 0} (part : ℕ) (f : ℕ → List ℕ) (s : ℕ) (units : List X) (takes : List (List ℕ)) → length units ≤ length takes
    → ((k : ℕ) → k < length units → f (s + k) ≡ get_or takes k []) → filter (λ u. has part (f u)) (numbers_from s units) ≡ takers_from part s (take (length units) takes)
unfolding numbers_from takers_from
takers_are part f s [] takes l h = refl
takers_are part f s (u ∷ units) [] l h = absurd (omega arith)
takers_are part f s (u ∷ units) (parts ∷ takes) l h =
    let z : s + 0 ≡ s = omega arith in
    let first : f s ≡ parts = ap f (sym z) ∙ h 0 (omega arith) in
    let more = takers_are part f (suc s) units takes (omega arith) (λ k low. (let e : suc s + k ≡ s + suc k = omega arith in ap f e ∙ h (suc k) (omega arith))) in
    (λ i. cond (has part (first i)) (s ∷ more i) (more i))

module _ (r : Reused) (fixed : Fixed) (tops : Tops) (least : List ℕ) (fx : IsFixed r fixed) (sh : ShowsOver r fixed tops least) where
  pub all_tops : tops_of (together r) ≡ tops_of r.units ++ common_tops r
  all_tops =
      let first : 0 + length r.units ≡ length r.units = omega arith in
      let before : 0 + counted r.units ≡ own_tops r = omega (arith, tops_length 0 0 r.units) in
      tops_append 0 0 r.units r.commons ∙ (λ i. tops_of r.units ++ tops_from (first i) (before i) r.commons)

  pub units_are : map (λ (row : TopRow). row.unit) tops.rows ≡ map (λ (t : Top). t.unit) (tops_of (together r))
  units_are =
      ap (map (λ (row : TopRow). row.unit)) sh.rows
      ∙ (map-append (λ (row : TopRow). row.unit) sh.own.rows sh.rows_behind
      ∙ ((λ i. units_same r.units sh.own.rows (tops_of r.units) sh.shows.rows i ++ sh.units_behind i)
      ∙ (sym (map-append (λ (t : Top). t.unit) (tops_of r.units) (common_tops r)) ∙ ap (map (λ (t : Top). t.unit)) (sym all_tops))))

  -- the numbers of its tops
  pub numbers_are : (part : ℕ) → map (λ (t : Top). t.number) (row_tops (common_row r part)) ≡ map (λ (t : Top). t.number) (filter (λ t. t.unit == length r.units + part) (tops_of (together r)))
  numbers_are part =
      mapped_numbers (as_part (length r.units)) (rows_of_root (together r) (length r.units + part))
      ∙ ap (map (λ (t : Top). t.number)) (unit_tops 0 0 (together r) (length r.units + part))

  held_are : (part : ℕ) → map (λ (t : Top). t.number) (row_tops (common_row r part)) ≡ tops_in (own_units tops fixed + part) 0 tops.rows
  held_are part =
      numbers_are part
      ∙ (sym (tops_in_are (length r.units + part) 0 tops.rows (tops_of (together r)) units_are (tops_numbers (together r)))
      ∙ ap (λ k. tops_in (k + part) 0 tops.rows) (sym (own_units_is r fixed tops least sh)))

  users_are : (part : ℕ) → takers fixed r.units part ≡ takers_from part 0 (take (own_units tops fixed) fixed.takes)
  users_are part =
      takers_are part (takes_of fixed) 0 r.units fixed.takes (omega (arith, fx.units, length-append r.units r.commons)) (λ k low. (let z : 0 + k ≡ k = omega arith in ap (takes_of fixed) z))
      ∙ ap (λ k. takers_from part 0 (take k fixed.takes)) (sym (own_units_is r fixed tops least sh))

  part_is : (part : ℕ) → shown_part tops.files (common_part r fixed part) ≡ standing_part tops fixed part
  part_is part = (λ i. record { file = tops.files; users = users_are part i; tops = held_are part i })

  parts_from : (s : ℕ) (commons : List (FileUnit EntryName)) → map (shown_part tops.files) (common_parts r fixed s commons) ≡ map (standing_part tops fixed) (range_with_len s (length commons))
  unfolding common_parts
  parts_from s [] = refl
  parts_from s (f ∷ commons) =
      let one : suc s ≡ s + 1 = omega arith in
      (λ i. part_is s i ∷ (parts_from (suc s) commons ∙ ap (λ k. map (standing_part tops fixed) (range_with_len k (length commons))) one) i)

  pub parts_are : map (shown_part tops.files) (common_parts r fixed 0 r.commons) ≡ standing_parts tops fixed
  unfolding standing_parts
  parts_are = parts_from 0 r.commons ∙ ap (λ k. map (standing_part tops fixed) (range_with_len 0 k)) (sym sh.roots)
