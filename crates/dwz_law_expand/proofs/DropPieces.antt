-- Names, places and headers of a file that is read without `.debug_sup`.
use Rattle.std.proofs.Common.{◌≡◌, inl, inr, ℕ, zero, suc, ◌+◌, ◌-◌, ◌*◌, ◌^◌, ◌<◌, ◌≤◌, Bool, true, false, cond, eqb, ltb, List, [], ◌∷◌, ◌++◌, length, take, drop, get_or, replicate, Option}
use Rattle.std.proofs.Common.{Some, None, refl, ap, subst, ◌∙◌, arith}
use Rattle.std.specs.Prelude.{◌&&◌, ◌||◌, is_some, option_map, slice_get}
use Rattle.std.proofs.lemmas.Bool.{cases_lt, le-ltb, or_from}
use Rattle.std.proofs.lemmas.List.{get_or-append_right, get_or_append_left, length-append, length-drop, length-take}
use Rattle.dwz_def_reading.specs.declared.elf.Header.{Header}
use Rattle.dwz_def_reading.specs.declared.elf.Section.{Section}
use Rattle.dwz_def_reading.specs.Spelling.{le_value}
use Rattle.dwz_def_reading.specs.ElfHeaders.{end_of, is_there, number_at}
use Rattle.dwz_def_reading.specs.ElfNames.{known_name, section_name_in}
use Rattle.dwz_def_reading.specs.ElfReading.{has_code, is_misplaced}
use Rattle.dwz_def_reading.specs.Values.{AreBytes}
use Rattle.dwz_def_reading.proofs.WrittenLemmas.{drop_bytes, le_value-less}
use Rattle.dwz_def_encoding.proofs.ReadAgain.{take_bytes}
use Rattle.dwz_def_output.proofs.MovedLemmas.{placed_bytes}
use Rattle.dwz_def_output.proofs.PieceLemmas.{Has}
use Rattle.dwz_def_output.proofs.TableLemmas.{AreWhole}
use Rattle.dwz_def_expand.specs.Dropped.{header_without, headers_without}

-- ---- names

pub ends_is : (o : Option (List ℕ)) → (known_name o).ends ≡ is_some o
ends_is None = refl
ends_is (Some name) = refl

-- where a name ends, one that begins before it does
pub earlier : (k : ℕ) (table : List ℕ) → is_some (section_name_in (drop k table)) ≡ true → is_some (section_name_in table) ≡ true
unfolding section_name_in
earlier zero table is = is
earlier (suc k) [] is = is
earlier (suc k) (b ∷ table) is = by (eqb b 0) (earlier k table is) where
  mapped : (o : Option (List ℕ)) → is_some o ≡ true → is_some (option_map (λ name. b ∷ name) o) ≡ true
  mapped None is = is
  mapped (Some name) is = refl

  by : (t : Bool) → is_some (section_name_in table) ≡ true → is_some (cond t (Some []) (option_map (λ name. b ∷ name) (section_name_in table))) ≡ true
  by true some = refl
  by false some = mapped (section_name_in table) some

-- ---- places

pub and_none : (b : Bool) → (b && false) ≡ false
and_none true = refl
and_none false = refl

-- what lies in a file lies in a longer one
pub placed_more : (h : Header) (len more : ℕ) → len ≤ more → is_misplaced len h ≡ false → is_misplaced more h ≡ false
placed_more h len more le is = by (is_there h) refl where
  inside : ℕ → Bool
  inside l = ltb l (end_of h) || ltb h.offset 64

  by : (t : Bool) → is_there h ≡ t → is_misplaced more h ≡ false
  by false e = ap (λ (t : Bool). t && ltb 0 h.size && (ltb more (end_of h) || ltb h.offset 64)) e
  by true e = elim (cases_lt 0 h.size) [
    | inl some ↦
        let w = placed_bytes len h e is some in
        let fine : (ltb more (end_of h) || ltb h.offset 64) ≡ false = or_from (ltb more (end_of h)) (ltb h.offset 64) (le-ltb more (end_of h) (omega (arith, w.1, le))) (le-ltb h.offset 64 w.0) in
        ap (λ (t : Bool). is_there h && ltb 0 h.size && t) fine ∙ and_none (is_there h && ltb 0 h.size)
    | inr empty ↦
        let fine : ltb 0 h.size ≡ false = le-ltb 0 h.size (omega (arith, empty)) in
        ap (λ (t : Bool). is_there h && t && (ltb more (end_of h) || ltb h.offset 64)) fine
        ∙ ap (λ (t : Bool). t && (ltb more (end_of h) || ltb h.offset 64)) (and_none (is_there h))
  ]

-- a number of so many bytes
pub number_less : (bytes : List ℕ) (at k : ℕ) → AreBytes bytes → at + k ≤ length bytes → number_at bytes at k < 256 ^ k
unfolding number_at
number_less bytes at k are within =
    let len : length (take k (drop at bytes)) ≡ k = omega (arith, length-take k (drop at bytes), length-drop at bytes, within) in
    subst (λ (m : ℕ). le_value (take k (drop at bytes)) < 256 ^ m) len (le_value-less (take k (drop at bytes)) (take_bytes k (drop at bytes) (drop_bytes at bytes are)))

-- ---- the headers

one_length : (input : List ℕ) (s : Section) → s.header.at + 64 ≤ length input → length (header_without input s) ≡ 64
one_length input s within = by (has_code 9 s) where
  by : (t : Bool) → length (cond t (replicate 64 0) (take 64 (drop s.header.at input))) ≡ 64
  by true = refl
  by false = omega (arith, length-take 64 (drop s.header.at input), length-drop s.header.at input, within)

pub headers_length : (input : List ℕ) (xs : List Section) → AreWhole input xs → length (headers_without input xs) ≡ 64 * length xs
unfolding headers_without
headers_length input [] whole = refl
headers_length input (s ∷ xs) whole =
    let first = one_length input s (whole 0 s refl) in
    let rest = headers_length input xs (λ k t is. whole (suc k) t is) in
    omega (arith, length-append (header_without input s) (headers_without input xs), first, rest)

pub header_there : (input : List ℕ) (xs : List Section) (k : ℕ) (s : Section) → AreWhole input xs → slice_get xs k ≡ Some s → Has (headers_without input xs) (64 * k) (header_without input s)
unfolding headers_without
header_there input [] k s whole is = absurd cc
header_there input (x ∷ xs) zero s whole is =
    let same : x ≡ s = cc in
    let first = header_without input x in
    let rest = headers_without input xs in
    let there : Has (first ++ rest) 0 first =
    record {
      within = omega (arith, length-append first rest);
      each = λ i less. let at : 0 + i ≡ i = omega arith in ap (λ n. get_or (first ++ rest) n 0) at ∙ get_or_append_left first rest 0 i less;
    } in
    subst (λ (w : Section). Has (first ++ rest) 0 (header_without input w)) same there
header_there input (x ∷ xs) (suc k) s whole is =
    let first = header_without input x in
    let rest = headers_without input xs in
    let size : length first ≡ 64 = one_length input x (whole 0 x refl) in
    let there = header_there input xs k s (λ j t h. whole (suc j) t h) is in
    record {
      within = omega (arith, there.within, length-append first rest, size);
      each = λ i less.
          let at : 64 * suc k + i - 64 ≡ 64 * k + i = omega arith in
          get_or-append_right first rest 64 (64 * suc k + i) 0 size (omega arith) ∙ (ap (λ n. get_or rest n 0) at ∙ there.each i less);
    }
