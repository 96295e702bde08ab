-- Four bytes of a number are those of its low 32 bits, so address ranges are the same by these; and a row of units ascends.
use Rattle.std.proofs.Common.{◌≡◌, ℕ, zero, suc, ◌+◌, ◌*◌, ◌/◌, ◌%◌, ◌^◌, ◌<◌, Bool, true, false, cond, eqb, List, [], ◌∷◌, length}
use Rattle.std.proofs.Common.{get_or, map, Ok, Result, IsOk, refl, sym, ap, subst, ◌∙◌, arith}
use Rattle.std.specs.List.Sorted.{IsStrictlyIncreasing}
use Rattle.dwz_model.specs.declared.fault.Fault.{Fault}
use Rattle.dwz_def_reading.specs.Input.{input}
use Rattle.dwz_def_reading.specs.Spelling.{le_bytes}
use Rattle.dwz_def_reading.specs.Entries.{Mode}
use Rattle.dwz_def_reading.specs.Units.{RawUnit, SpellsUnits, entry_count}
use Rattle.dwz_def_reading.proofs.UnitListLemmas.{some_unit}
use Rattle.dwz_def_reading.proofs.CaseFacts.{if_ok}
use Rattle.dwz_def_reading.specs.Patching.{with_units, written_at}
use Rattle.dwz_def_reading.specs.Ranges.{RangeSet, SpellsSets, sets_at}
use Rattle.dwz_def_reading.proofs.RangeLemmas.{sets_agree}
use Rattle.dwz_aranges.specs.Views.{any_unit}
use Rattle.dwz_aranges.proofs.PatchedMeans.{of_any}
use Rattle.dwz_encode_sections.specs.Ranges.{AreMoved, beside}

-- ---- low bytes

abbrev pub low : ℕ → ℕ
low n = n % 2 ^ 32

-- what is more than a multiple has the same low byte, and so many times less behind it
first_byte : (c q m n : ℕ) → n ≡ 256 * (c * q) + m → m % 256 ≡ n % 256
first_byte c q m n e = let t = c * q in (let is : n ≡ 256 * t + m = e in omega arith)

behind_byte : (c q m n : ℕ) → n ≡ 256 * (c * q) + m → n / 256 ≡ c * q + m / 256
behind_byte c q m n e = let t = c * q in (let is : n ≡ 256 * t + m = e in omega arith)

low_bytes : (n : ℕ) → le_bytes 4 (low n) ≡ le_bytes 4 n
unfolding le_bytes
low_bytes n =
    let q = n / 2 ^ 32 in
    let m = n % 2 ^ 32 in
    let a : n ≡ 256 * (16777216 * q) + m = omega arith in
    let b : n / 256 ≡ 256 * (65536 * q) + m / 256 = (let h = behind_byte 16777216 q m n a in omega arith) in
    let c : n / 256 / 256 ≡ 256 * (256 * q) + m / 256 / 256 =
    (let h = behind_byte 65536 q (m / 256) (n / 256) b in omega arith) in
    let d : n / 256 / 256 / 256 ≡ 256 * (1 * q) + m / 256 / 256 / 256 =
    (let h = behind_byte 256 q (m / 256 / 256) (n / 256 / 256) c in omega arith) in
    let one = first_byte 16777216 q m n a in
    let two = first_byte 65536 q (m / 256) (n / 256) b in
    let three = first_byte 256 q (m / 256 / 256) (n / 256 / 256) c in
    let four = first_byte 1 q (m / 256 / 256 / 256) (n / 256 / 256 / 256) d in
    (λ i. one i ∷ (two i ∷ (three i ∷ (four i ∷ []))))

-- ---- address ranges

low_units : (sets : List RangeSet) (numbers bytes : List ℕ) → with_units sets (map low numbers) bytes ≡ with_units sets numbers bytes
unfolding with_units
low_units [] numbers bytes = refl
low_units (s ∷ sets) [] bytes = refl
low_units (s ∷ sets) (n ∷ numbers) bytes =
    ap (λ (four : List ℕ). with_units sets (map low numbers) (written_at (s.at + 6) four bytes)) (low_bytes n)
    ∙ low_units sets numbers (written_at (s.at + 6) (le_bytes 4 n) bytes)

low_beside : (starts places : List ℕ) (n : ℕ) → beside starts (map low places) n ≡ low (beside starts places n)
unfolding beside
low_beside [] places n = refl
low_beside (s ∷ starts) [] n = refl
low_beside (s ∷ starts) (p ∷ places) n = by (eqb s n) (low_beside starts places n) where
  by : (b : Bool) → beside starts (map low places) n ≡ low (beside starts places n)
      → cond b (low p) (beside starts (map low places) n) ≡ low (cond b p (beside starts places n))
  by true more = refl
  by false more = more

low_places : (starts places : List ℕ) (sets : List RangeSet)
    → map (λ (s : RangeSet). beside starts (map low places) s.unit) sets ≡ map low (map (λ
    (s : RangeSet). beside starts places s.unit) sets)
low_places starts places [] = refl
low_places starts places (s ∷ sets) =
    let one = low_beside starts places s.unit in
    let rest = low_places starts places sets in
    (λ i. one i ∷ rest i)

-- sets with the low bytes of places are sets with these places
pub moved_low : (starts places section new : List ℕ) → AreMoved starts (map low places) section new → AreMoved starts places section new
moved_low starts places section new =
    if_ok (sets_at any_unit (input section 0))
    (λ sets. new ≡ with_units sets (map (λ (s : RangeSet). beside starts (map low places) s.unit) sets) section)
    (λ sets. new ≡ with_units sets (map (λ (s : RangeSet). beside starts places s.unit) sets) section)
    (λ sets is.
    is
    ∙ ap (λ (numbers : List ℕ). with_units sets numbers section) (low_places starts places sets)
    ∙ low_units sets (map (λ (s : RangeSet). beside starts places s.unit) sets) section)

-- sets of a file read
pub sets_read : (is_unit : ℕ → Bool) (sets : List RangeSet) (section : List ℕ) → SpellsSets is_unit sets 0 section
    → IsOk (sets_at any_unit (input section 0))
sets_read is_unit sets section s =
    let read : sets_at any_unit (input section 0) ≡ Ok sets =
    ((sets_agree any_unit (input section 0)).ok sets).1 (of_any is_unit sets 0 section s) in
    subst (λ (r : Result (List RangeSet) Fault). IsOk r) (sym read) refl

-- ---- units

-- units ascend
pub units_rise : (abbrevs : List ℕ) (mode : Mode) (before : ℕ) (raw : List RawUnit) (start : ℕ) (bytes : List ℕ)
    → SpellsUnits abbrevs mode before raw start bytes → IsStrictlyIncreasing (map (λ (u : RawUnit). u.at) raw)
units_rise abbrevs mode before [] start bytes s k lt = absurd (omega arith)
units_rise abbrevs mode before (u ∷ []) start bytes s k lt = absurd (omega arith)
units_rise abbrevs mode before (u ∷ (v ∷ raw)) start bytes s zero lt =
    let some = some_unit abbrevs mode before u start s.first_bytes s.first in
    let one = s.first.place in
    let two = s.second.first.place in omega arith
units_rise abbrevs mode before (u ∷ (v ∷ raw)) start bytes s (suc k) lt =
    let rest = units_rise abbrevs mode (before + entry_count u) (v ∷ raw) (start + length s.first_bytes) s.second_bytes s.second k
    (omega arith) in
    let same : suc (k + 1) ≡ suc k + 1 = omega arith in
    subst (λ (i : ℕ). get_or (u.at ∷ (v.at ∷ map (λ (w : RawUnit). w.at) raw)) (suc k) 0 < get_or (u.at ∷ (v.at ∷ map (λ
    (w : RawUnit). w.at) raw)) i 0) same rest
