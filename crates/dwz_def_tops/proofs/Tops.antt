-- Tops by their numbers, and their units.
use Rattle.std.proofs.Common.{◌≡◌, ℕ, suc, ◌<◌, List, [], ◌∷◌, sym, ap, subst, ◌∙◌, arith}
use Rattle.dwz_def_reading.specs.Lists.{In, EachPair, Nth}
use Rattle.dwz_def_reading.proofs.Members.{each_of, nth_one}
use Rattle.dwz_def_tops.specs.Spots.{EntryName, FileUnit, Top, row_tops, rows_of_root, tops_of}
use Rattle.dwz_def_tops.proofs.RowLemmas.{TopOf, from_row, top_of}
use Rattle.dwz_def_tops.proofs.TopNumbers.{Numbered, number_from, one_top as one_numbered, tops_numbers}

abbrev Below : Top → Top → Type 0
Below a b = a.number < b.number

numbered_rise : (n : ℕ) (tops : List Top) → Numbered n tops → EachPair Below tops
numbered_rise n [] h = tt
numbered_rise n (t ∷ tops) h = (each_of (Below t) tops (λ u is. omega (arith, h.0, number_from (suc n) tops u h.1 is)), numbered_rise (suc n) tops h.1)

-- numbers of tops rise
pub tops_rise : (units : List (FileUnit EntryName)) → EachPair (λ a b. a.number < b.number) (tops_of units)
tops_rise units = numbered_rise 0 (tops_of units) (tops_numbers units)

-- a number is that of one top
pub one_top : (units : List (FileUnit EntryName)) (a b : Top) → In a (tops_of units) → In b (tops_of units) → a.number ≡ b.number → a ≡ b
one_top units a b x y e = one_numbered 0 (tops_of units) a b (tops_numbers units) x y e

-- the unit of a top, and its row
pub unit_of : (units : List (FileUnit EntryName)) (t : Top) → In t (tops_of units) → TopOf 0 0 units t
unit_of units t is = top_of 0 0 units t is

-- what is in the row of a unit is a top of that unit
pub row_top : (units : List (FileUnit EntryName)) (i : ℕ) (t : Top) → In t (row_tops (rows_of_root units i)) → In t (tops_of units) × (t.unit ≡ i)
row_top units i t is = from_row 0 0 units i t is

-- a unit is of one file
pub one_file : (units : List (FileUnit EntryName)) (a b : Top) → In a (tops_of units) → In b (tops_of units) → a.unit ≡ b.unit → a.file ≡ b.file
one_file units a b x y e =
    let o = unit_of units a x in
    let p = unit_of units b y in
    let same : o.unit ≡ p.unit = nth_one 0 units b.unit o.unit p.unit (subst (λ (w : ℕ). Nth 0 units w o.unit) e o.nth) p.nth in
    o.file_is ∙ ap (λ (w : FileUnit EntryName). w.file) same ∙ sym p.file_is
