-- The units of tops rise with their numbers.
use Rattle.std.proofs.Common.{◌≤◌, ℕ, List, ◌≡◌, ◌∷◌, refl, sym, subst, [], arith, inl, inr, suc, ◌+◌, Some, map, slice_get, ap, ◌∙◌}
use Rattle.dwz_def_reading.specs.Lists.{In, EachPair}
use Rattle.dwz_def_reading.proofs.ListFacts.{got_map}
use Rattle.dwz_def_reading.proofs.Members.{each_of, nth_from, nth_get, pair_append}
use Rattle.dwz_def_tops.specs.Spots.{EntryName, FileUnit, Row, Top, row_below, row_tops, top_count, tops_from, tops_of}
use Rattle.dwz_def_tops.proofs.RowLemmas.{from_row, row_here, top_of}

abbrev pub InOrder : Top → Top → Type 0
InOrder a b = a.unit ≤ b.unit

pub later_unit : (s n : ℕ) (units : List (FileUnit EntryName)) (t : Top) → In t (tops_from s n units) → s ≤ t.unit
later_unit s n units t there = let o = top_of s n units t there in nth_from s units t.unit o.unit o.nth

pub here_unit : (s n : ℕ) (f : FileUnit EntryName) (units : List (FileUnit EntryName)) (t : Top) → In t (row_tops (row_below f.file s n f.unit f.unit.kind)) → t.unit ≡ s
here_unit s n f units t h = (from_row s n (f ∷ units) s t (subst (λ (w : Row). In t (row_tops w)) (sym (row_here s n f units s refl)) h)).1

pub one_unit : (s : ℕ) (tops : List Top) → ((t : Top) → In t tops → t.unit ≡ s) → EachPair InOrder tops
one_unit s [] same = tt
one_unit s (t ∷ tops) same = (each_of (InOrder t) tops (λ u is. omega (arith, same t (inl refl), same u (inr is))), one_unit s tops (λ u is. same u (inr is)))

pub units_rise : (s n : ℕ) (units : List (FileUnit EntryName)) → EachPair InOrder (tops_from s n units)
unfolding tops_from
units_rise s n [] = tt
units_rise s n (f ∷ units) =
    let m = n + top_count f.unit.kind f.unit.below in
    pair_append InOrder (row_tops (row_below f.file s n f.unit f.unit.kind)) (tops_from (suc s) m units) (one_unit s (row_tops (row_below f.file s n f.unit f.unit.kind)) (here_unit s n f units))
    (units_rise (suc s) m units)
    (λ x y a b. omega (arith, here_unit s n f units x a, later_unit (suc s) m units y b))

-- the file of the unit that a top stands in
pub unit_file : (units : List (FileUnit EntryName)) (t : Top) → In t (tops_of units) → slice_get (map (λ f. f.file) units) t.unit ≡ Some t.file
unit_file units t there =
    let o = top_of 0 0 units t there in
    got_map (λ (f : FileUnit EntryName). f.file) units t.unit o.unit (nth_get 0 units t.unit t.unit o.unit o.nth (omega arith)) ∙ ap (λ (k : ℕ). Some k) (sym o.file_is)
