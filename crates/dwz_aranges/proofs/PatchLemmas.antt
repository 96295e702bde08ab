-- What is written over a section, set by set.
use Rattle.std.proofs.Common.{◌≡◌, ℕ, zero, suc, ◌+◌, ◌<◌, ◌≤◌, List, [], ◌∷◌, length, drop, get_or, set, Result, Ok, Err, IsOkAnd, IfOk, refl, sym, ap, ◌∙◌, arith}
use Rattle.std.specs.Int.{to_le_bytes, w32}
use Rattle.std.proofs.Math.Nat.{div-one}
use Rattle.std.proofs.lemmas.List.{drop_more, length-append, length-drop}
use Rattle.dwz_model.specs.declared.fault.Fault.{Fault}
use Rattle.dwz_bytes.specs.Input.{Input, input}
use Rattle.dwz_bytes.specs.Reading.{◌>>=◌}
use Rattle.dwz_bytes.specs.Spelling.{le_bytes}
use Rattle.dwz_bytes.proofs.LowBytes.{low_first}
use Rattle.dwz_def_reading.specs.Patching.{with_units, written_at}
use Rattle.dwz_def_reading.specs.Ranges.{RangeSet, set_at, sets_at}
use Rattle.dwz_def_reading.specs.Sequences.{after_one, with_item}
use Rattle.dwz_def_reading.proofs.RangeLemmas.{set_reads}
use Rattle.dwz_def_reading.proofs.WriteOver.{written_len}
use Rattle.dwz_aranges.specs.Patching.{IsPatched}
use Rattle.dwz_aranges.specs.Views.{any_unit}
use Rattle.dwz_aranges.proofs.WholeLemmas.{left_of, sets_begin, sets_end}

-- ---- four bytes

one_by_one : (at a b c d : ℕ) (bytes : List ℕ) → set (set (set (set bytes at a) (at + 1) b) (at + 2) c) (at + 3) d ≡ written_at at (a ∷ b ∷ c ∷ d ∷ []) bytes
unfolding written_at
one_by_one at a b c d bytes =
    let two : at + 2 ≡ at + 1 + 1 = omega arith in
    let three : at + 3 ≡ at + 1 + 1 + 1 = omega arith in
    ap (λ (n : ℕ). set (set (set (set bytes at a) (at + 1) b) n c) (at + 3) d) two ∙ ap (λ (n : ℕ). set (set (set (set bytes at a) (at + 1) b) (at + 1 + 1) c) n d) three

four_bytes : (n : ℕ) → le_bytes 4 n ≡ get_or (le_bytes 4 n) 0 0 ∷ get_or (le_bytes 4 n) 1 0 ∷ get_or (le_bytes 4 n) 2 0 ∷ get_or (le_bytes 4 n) 3 0 ∷ []
unfolding le_bytes
four_bytes n = refl

pub four_written : (at n : ℕ) (bytes new : List ℕ) → new ≡ to_le_bytes w32 n
    → set (set (set (set bytes at (get_or new 0 0)) (at + 1) (get_or new 1 0)) (at + 2) (get_or new 2 0)) (at + 3) (get_or new 3 0) ≡ written_at at (le_bytes 4 n) bytes
four_written at n bytes new is =
    let same : new ≡ le_bytes 4 n = is ∙ low_first 4 0 n ∙ ap (le_bytes 4) (div-one n) in
    ap (λ (w : List ℕ). set (set (set (set bytes at (get_or w 0 0)) (at + 1) (get_or w 1 0)) (at + 2) (get_or w 2 0)) (at + 3) (get_or w 3 0)) same
    ∙ one_by_one at (get_or (le_bytes 4 n) 0 0) (get_or (le_bytes 4 n) 1 0) (get_or (le_bytes 4 n) 2 0) (get_or (le_bytes 4 n) 3 0) bytes
    ∙ ap (λ (w : List ℕ). written_at at w bytes) (sym (four_bytes n))

one_unit : (set : RangeSet) (sets : List RangeSet) (n : ℕ) (numbers bytes : List ℕ)
    → with_units (set ∷ sets) (n ∷ numbers) bytes ≡ with_units sets numbers (written_at (set.at + 6) (le_bytes 4 n) bytes)
unfolding with_units
one_unit set sets n numbers bytes = refl

no_units : (numbers bytes : List ℕ) → with_units [] numbers bytes ≡ bytes
unfolding with_units
no_units [] bytes = refl
no_units (n ∷ numbers) bytes = refl

-- ---- the sets that are left

abbrev pub sets_or_none : Result (List RangeSet) Fault → List RangeSet
sets_or_none (Ok sets) = sets
sets_or_none (Err f) = []

-- the sets from a place on
abbrev pub left : List ℕ → ℕ → List RangeSet
left section at = sets_or_none (sets_at any_unit (input section at))

pub record IsLeft (section numbers out : List ℕ) (at index : ℕ) : Type 0 where
  pub reads : sets_at any_unit (input section at) ≡ Ok (left section at)
  pub as_many : length (left section at) + index ≡ length numbers
  pub same : with_units (left section at) (drop index numbers) out ≡ with_units (left section 0) numbers section
  pub size : length out ≡ length section

pub all_left : (section numbers : List ℕ) → IsOkAnd (sets_at any_unit (input section 0)) (λ sets. length sets ≡ length numbers) → IsLeft section numbers section 0 0
all_left section numbers is = by (sets_at any_unit (input section 0)) refl is where
  by : (r : Result (List RangeSet) Fault) → sets_at any_unit (input section 0) ≡ r → IsOkAnd r (λ sets. length sets ≡ length numbers) → IsLeft section numbers section 0 0
  by (Ok sets) ok many =
      let sets_are : left section 0 ≡ sets = ap sets_or_none ok in
      record { reads = ok ∙ ap (λ (w : List RangeSet). Ok w) (sym sets_are); as_many = omega (arith, ap length sets_are, many); same = refl; size = refl }
  by (Err f) err many = absurd many

-- where a number is left, so is a set
pub some_left : (section numbers out : List ℕ) (at index : ℕ) → IsLeft section numbers out at index → index < length numbers → at < length section
some_left section numbers out at index h lt = by (length (drop at section)) refl where
  by : (n : ℕ) → length (drop at section) ≡ n → at < length section
  by zero none =
      let read = sets_end (input section at) none in
      let no : length (left section at) ≡ 0 = ap (λ (r : Result (List RangeSet) Fault). length (sets_or_none r)) read in
      let many = h.as_many in
      absurd (omega (arith, no, many, lt))
  by (suc n) some = omega (arith, length-drop at section, some)

-- a set has its 12 bytes
pub has_room : (section : List ℕ) (at : ℕ) (set : RangeSet) (j : Input) → at < length section → set_at any_unit (input section at) ≡ Ok (set, j) → at + 6 + 4 ≤ length section
has_room section at set j lt is =
    let t = (((set_reads any_unit).agrees (input section at)).ok (set, j)).0 is in
    let s = t.spelled in
    omega (arith, s.whole, s.some, ap length t.parts, length-append t.front j.rest, length-drop at section, lt)

pub place_of : (section : List ℕ) (at : ℕ) (set : RangeSet) (j : Input) → set_at any_unit (input section at) ≡ Ok (set, j) → set.at ≡ at
place_of section at set j is = let t = (((set_reads any_unit).agrees (input section at)).ok (set, j)).0 is in t.spelled.place

module _ (section numbers out : List ℕ) (at index : ℕ) (h : IsLeft section numbers out at index) (lt : index < length numbers) where
  begins : Ok (left section at) ≡ (set_at any_unit (input section at) >>= after_one (sets_at any_unit))
  begins = sym h.reads ∙ sets_begin (input section at) (left_of section at (some_left section numbers out at index h lt))

  pub must_stand : (f : Fault) → set_at any_unit (input section at) ≡ Err f → ⊥
  must_stand f is = let no : Ok (left section at) ≡ Err f = begins ∙ ap (λ (r : Result (RangeSet × Input) Fault). r >>= after_one (sets_at any_unit)) is in cc

  -- its number is written, and the others are left
  pub one_less : (set : RangeSet) (behind : ℕ) (new : List ℕ) → set_at any_unit (input section at) ≡ Ok (set, input section behind)
      → new ≡ written_at (at + 6) (le_bytes 4 (get_or numbers index 0)) out → IsLeft section numbers new behind (index + 1)
  one_less set behind new is written = by (sets_at any_unit (input section behind)) refl where
    first : Ok (left section at) ≡ (sets_at any_unit (input section behind) >>= with_item set)
    first = begins ∙ ap (λ (r : Result (RangeSet × Input) Fault). r >>= after_one (sets_at any_unit)) is

    by : (r : Result (List RangeSet) Fault) → sets_at any_unit (input section behind) ≡ r → IsLeft section numbers new behind (index + 1)
    by (Err f) err = absurd (let no : Ok (left section at) ≡ Err f = first ∙ ap (λ (r : Result (List RangeSet) Fault). r >>= with_item set) err in cc)
    by (Ok sets) ok =
        let both : Ok (left section at) ≡ Ok (set ∷ sets) = first ∙ ap (λ (r : Result (List RangeSet) Fault). r >>= with_item set) ok in
        let all : left section at ≡ set ∷ sets = cc in
        let others : left section behind ≡ sets = ap sets_or_none ok in
        let number : drop index numbers ≡ get_or numbers index 0 ∷ drop (index + 1) numbers = drop_more numbers index 0 lt in
        let stepped : with_units (left section at) (drop index numbers) out ≡ with_units sets (drop (index + 1) numbers) new =
        ap (λ (w : List RangeSet). with_units w (drop index numbers) out) all
        ∙ ap (λ (w : List ℕ). with_units (set ∷ sets) w out) number
        ∙ one_unit set sets (get_or numbers index 0) (drop (index + 1) numbers) out
        ∙ ap (λ (p : ℕ). with_units sets (drop (index + 1) numbers) (written_at (p + 6) (le_bytes 4 (get_or numbers index 0)) out)) (place_of section at set (input section behind) is)
        ∙ ap (with_units sets (drop (index + 1) numbers)) (sym written) in
        record {
          reads = ok ∙ ap (λ (w : List RangeSet). Ok w) (sym others);
          as_many = omega (arith, ap length others, ap length all, h.as_many);
          same = ap (λ (w : List RangeSet). with_units w (drop (index + 1) numbers) new) others ∙ sym stepped ∙ h.same;
          size = ap length written ∙ written_len (at + 6) (le_bytes 4 (get_or numbers index 0)) out ∙ h.size;
        }

-- no number is left, so all are written
pub all_written : (section numbers out : List ℕ) (at index : ℕ) → IsLeft section numbers out at index → length numbers ≤ index → IsPatched section numbers out
all_written section numbers out at index h le = by (left section at) refl (sets_at any_unit (input section 0)) refl where
  by : (l : List RangeSet) → left section at ≡ l → (r : Result (List RangeSet) Fault) → sets_at any_unit (input section 0) ≡ r → IfOk r (λ sets. out ≡ with_units sets numbers section)
  by l is (Err f) err = tt
  by (set ∷ sets) is (Ok all) ok = absurd (let many = h.as_many in let len = ap length is in omega (arith, many, len, le))
  by [] is (Ok all) ok =
      let none = ap (λ (w : List RangeSet). with_units w (drop index numbers) out) is in
      let sets : left section 0 ≡ all = ap sets_or_none ok in
      sym (no_units (drop index numbers) out) ∙ sym none ∙ h.same ∙ ap (λ (w : List RangeSet). with_units w numbers section) sets
