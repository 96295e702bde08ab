-- Sections of which `.debug_sup` isn't there any more: they have no fault that they hadn't, and the contents of the others stay.
use Rattle.std.proofs.Common.{◌≡◌, ◌⊎◌, inl, inr, ℕ, zero, suc, ◌+◌, Bool, true, false, cond, eqb, ltb, List, [], ◌∷◌, length, Some, None, refl, sym, ap, ◌∙◌}
use Rattle.std.specs.Prelude.{not, ◌&&◌, ◌||◌, slice_get}
use Rattle.std.specs.Int.{is_power_of_two}
use Rattle.std.specs.List.{AllZip, list_any}
use Rattle.std.proofs.lemmas.Bool.{and_parts, eqb-true, or_from, or_parts}
use Rattle.std.proofs.lemmas.List.Elements.{length_all_zip}
use Rattle.dwz_def_reading.specs.declared.elf.Header.{Header}
use Rattle.dwz_def_reading.specs.declared.elf.Name.{Name}
use Rattle.dwz_def_reading.specs.declared.elf.Section.{Section}
use Rattle.dwz_def_reading.specs.ElfFaults.{by_itself, read_back}
use Rattle.dwz_def_reading.specs.ElfHeaders.{content, has_relocations, is_compressed, is_there}
use Rattle.dwz_def_reading.specs.ElfReading.{bytes_in, first_in, has_code, header_fault, is_misaligned, is_misnamed, is_misplaced, is_rewritten, missing_fault, range_in, unkept_fault_for}
use Rattle.dwz_def_reading.proofs.ElfFaultLemmas.{test_false}
use Rattle.dwz_def_reading.proofs.PlainFaults.{no_fault, none_or}
use Rattle.dwz_def_output.proofs.SectionLemmas.{first_none, or_none}

-- a section that stays, with its content
pub record IsSame (b out : List ℕ) (x y : Section) : Type 0 where
  pub name : y.name ≡ x.name
  pub header : y.header ≡ record x.header { at = y.header.at }
  pub placed : is_misplaced (length out) y.header ≡ false
  pub holds : is_there x.header ≡ true → content out y.header ≡ content b x.header

-- one that isn't there
pub record IsNothing (y : Section) : Type 0 where
  pub there : is_there y.header ≡ false
  pub align : y.header.align ≡ 0
  pub ends : y.name.ends ≡ true

-- `.debug_sup` isn't there after, and each other stays
abbrev pub IsKept : List ℕ → List ℕ → Section → Section → Type 0
IsKept b out x y = ((has_code 9 x ≡ true) × IsNothing y) ⊎ ((has_code 9 x ≡ false) × IsSame b out x y)

-- ---- booleans

misnamed_less : (coded there any more index : Bool) → (any ≡ false → more ≡ false) → (coded && ((there && any) || index)) ≡ false → (coded && ((there && more) || index)) ≡ false
misnamed_less false there any more index less none = refl
misnamed_less true false any more index less none = none
misnamed_less true true false more index less none = rw (less refl) none
misnamed_less true true true more index less none = absurd cc

unnamed_index : (coded there any index : Bool) → coded ≡ true → (coded && ((there && any) || index)) ≡ false → index ≡ false
unnamed_index coded there any index is none =
    let second : ((there && any) || index) ≡ false = sym (ap (λ (t : Bool). t && ((there && any) || index)) is) ∙ none in
    (or_parts (there && any) index second).1

kept_less : (there index sup relocations old new : Bool) → (there && sup) ≡ false → (old ≡ false → new ≡ false) → (there && ((index && not sup) || (relocations && old))) ≡ false
    → (there && (index || (relocations && new))) ≡ false
kept_less false index sup relocations old new other less none = refl
kept_less true index true relocations old new other less none = absurd cc
kept_less true true false relocations old new other less none = absurd cc
kept_less true false false false old new other less none = refl
kept_less true false false true false new other less none = less refl
kept_less true false false true true new other less none = absurd cc

and_none : (b : Bool) → (b && false) ≡ false
and_none true = refl
and_none false = refl

-- ---- codes

module _ (b out : List ℕ) where
  same_there : (x y : Section) → IsSame b out x y → is_there y.header ≡ is_there x.header
  same_there x y is = ap is_there is.header

  nothing_code : (code : ℕ) (y : Section) → IsNothing y → has_code code y ≡ false
  nothing_code code y is = ap (λ (t : Bool). t && eqb y.name.code code) is.there

  same_code : (code : ℕ) (x y : Section) → IsSame b out x y → has_code code y ≡ has_code code x
  same_code code x y is = ap (λ (t : Bool). t && eqb y.name.code code) (same_there x y is) ∙ ap (λ (n : Name). is_there x.header && eqb n.code code) is.name

  -- a code but that of `.debug_sup`
  other_code : (code : ℕ) → eqb 9 code ≡ false → (x y : Section) → IsKept b out x y → has_code code y ≡ has_code code x
  other_code code other x y (inl p) =
      let parts = and_parts (is_there x.header) (eqb x.name.code 9) p.0 in
      let not_so : has_code code x ≡ false = ap (λ (n : ℕ). is_there x.header && eqb n code) (eqb-true x.name.code 9 parts.1) ∙ (ap (λ (t : Bool). is_there x.header && t) other ∙ and_none (is_there x.header)) in
      nothing_code code y p.1 ∙ sym not_so
  other_code code other x y (inr p) = same_code code x y p.1

  other_codes : (code : ℕ) → eqb 9 code ≡ false → (xs ys : List Section) → AllZip (IsKept b out) xs ys → list_any (has_code code) ys ≡ list_any (has_code code) xs
  other_codes code other [] [] are = refl
  other_codes code other [] (y ∷ ys) are = absurd are
  other_codes code other (x ∷ xs) [] are = absurd are
  other_codes code other (x ∷ xs) (y ∷ ys) are =
      let here = other_code code other x y are.0 in
      let rest = other_codes code other xs ys are.1 in
      cc

  code_less : (code : ℕ) (x y : Section) → IsKept b out x y → has_code code x ≡ false → has_code code y ≡ false
  code_less code x y (inl p) none = nothing_code code y p.1
  code_less code x y (inr p) none = same_code code x y p.1 ∙ none

  codes_less : (code : ℕ) (xs ys : List Section) → AllZip (IsKept b out) xs ys → list_any (has_code code) xs ≡ false → list_any (has_code code) ys ≡ false
  codes_less code [] [] are none = refl
  codes_less code [] (y ∷ ys) are none = absurd are
  codes_less code (x ∷ xs) [] are none = absurd are
  codes_less code (x ∷ xs) (y ∷ ys) are none =
      let parts = or_parts (has_code code x) (list_any (has_code code) xs) none in
      or_from (has_code code y) (list_any (has_code code) ys) (code_less code x y are.0 parts.0) (codes_less code xs ys are.1 parts.1)

  rewritten_less : (i : ℕ) (xs ys : List Section) → AllZip (IsKept b out) xs ys → is_rewritten (slice_get xs i) ≡ false → is_rewritten (slice_get ys i) ≡ false
  rewritten_less i [] [] are none = none
  rewritten_less i [] (y ∷ ys) are none = absurd are
  rewritten_less i (x ∷ xs) [] are none = absurd are
  rewritten_less zero (x ∷ xs) (y ∷ ys) are none = by are.0 where
    by : IsKept b out x y → is_rewritten (Some y) ≡ false
    by (inl p) = ap (λ (t : Bool). t && not (eqb y.name.code 0) && ltb y.name.code 9) p.1.there
    by (inr p) =
        ap (λ (t : Bool). t && not (eqb y.name.code 0) && ltb y.name.code 9) (same_there x y p.1) ∙ (ap (λ (n : Name). is_there x.header && not (eqb n.code 0) && ltb n.code 9) p.1.name ∙ none)
  rewritten_less (suc i) (x ∷ xs) (y ∷ ys) are none = rewritten_less i xs ys are.1 none

  -- ---- each section header by itself

  kept_header : (len names : ℕ) (before others : List Section) (x y : Section) → AllZip (IsKept b out) before others → IsKept b out x y → header_fault len names before x ≡ None
      → header_fault (length out) names others y ≡ None
  unfolding header_fault
  kept_header len names before others x y so_far is none =
      let parts = or_parts (is_misaligned x.header) (is_misplaced len x.header || (not x.name.ends || is_misnamed names before x)) (test_false _ _ _ none) in
      let more = or_parts (is_misplaced len x.header) (not x.name.ends || is_misnamed names before x) parts.1 in
      let last = or_parts (not x.name.ends) (is_misnamed names before x) more.1 in
      let count : length others ≡ length before = sym (length_all_zip (IsKept b out) before others so_far) in
      no_fault _ _ _ (by count parts.0 last is)
    where
      by : length others ≡ length before → is_misaligned x.header ≡ false → (not x.name.ends ≡ false) × (is_misnamed names before x ≡ false) → IsKept b out x y
          → (is_misaligned y.header || (is_misplaced (length out) y.header || (not y.name.ends || is_misnamed names others y))) ≡ false
      by count aligned last (inl p) =
          let parts = and_parts (is_there x.header) (eqb x.name.code 9) p.0 in
          let coded : not (eqb x.name.code 0) ≡ true = ap (λ (n : ℕ). not (eqb n 0)) (eqb-true x.name.code 9 parts.1) in
          let apart : eqb (length before) names ≡ false = unnamed_index (not (eqb x.name.code 0)) (is_there x.header) (list_any (has_code x.name.code) before) (eqb (length before) names) coded last.1 in
          let misnamed : is_misnamed names others y ≡ false =
          ap (λ (t : Bool). not (eqb y.name.code 0) && ((t && list_any (has_code y.name.code) others) || eqb (length others) names)) p.1.there
          ∙ (ap (λ (n : ℕ). not (eqb y.name.code 0) && eqb n names) count ∙ (ap (λ (t : Bool). not (eqb y.name.code 0) && t) apart ∙ and_none (not (eqb y.name.code 0)))) in
          or_from (is_misaligned y.header) _ (ap (λ a. not (eqb a 0) && not (is_power_of_two a)) p.1.align)
          (or_from (is_misplaced (length out) y.header) _ (ap (λ (t : Bool). t && ltb 0 y.header.size && (ltb (length out) (y.header.offset + y.header.size) || ltb y.header.offset 64)) p.1.there)
          (or_from (not y.name.ends) _ (ap not p.1.ends) misnamed))
      by count aligned last (inr p) =
          let misnamed : is_misnamed names others x ≡ false =
          misnamed_less (not (eqb x.name.code 0)) (is_there x.header) (list_any (has_code x.name.code) before) (list_any (has_code x.name.code) others) (eqb (length others) names)
          (codes_less x.name.code before others so_far) (ap (λ (n : ℕ). not (eqb x.name.code 0) && ((is_there x.header && list_any (has_code x.name.code) before) || eqb n names)) count ∙ last.1) in
          let same : is_misnamed names others y ≡ is_misnamed names others x =
          ap (λ (h : Header). not (eqb y.name.code 0) && ((is_there h && list_any (has_code y.name.code) others) || eqb (length others) names)) p.1.header
          ∙ ap (λ (n : Name). not (eqb n.code 0) && ((is_there x.header && list_any (has_code n.code) others) || eqb (length others) names)) p.1.name in
          or_from (is_misaligned y.header) _ (ap is_misaligned p.1.header ∙ aligned)
          (or_from (is_misplaced (length out) y.header) _ p.1.placed
          (or_from (not y.name.ends) _ (ap (λ (n : Name). not n.ends) p.1.name ∙ last.0) (same ∙ misnamed)))

  pub kept_headers : (len names : ℕ) (xs ys : List Section) → AllZip (IsKept b out) xs ys → first_in (header_fault len names) [] xs ≡ None → first_in (header_fault (length out) names) [] ys ≡ None
  kept_headers len names xs ys are = first_none (IsKept b out) (header_fault len names) (header_fault (length out) names) (kept_header len names) [] [] xs ys tt are

  -- ---- sections that can't be kept, or read

  kept_one : (xs ys : List Section) → AllZip (IsKept b out) xs ys → (x y : Section) → IsKept b out x y → unkept_fault_for read_back xs x ≡ None → unkept_fault_for by_itself ys y ≡ None
  unfolding unkept_fault_for
  kept_one xs ys are x y (inl p) none =
      none_or _ _
      (no_fault _ _ _ (ap (λ (t : Bool). t && (y.name.is_index || (has_relocations y.header && is_rewritten (slice_get ys y.header.info)))) p.1.there))
      (no_fault _ _ _ (ap (λ (t : Bool). t && y.name.is_debug && is_compressed y.header) p.1.there))
  kept_one xs ys are x y (inr p) none =
      let parts = or_none _ _ none in
      let kept : (is_there x.header && (x.name.is_index || (has_relocations x.header && is_rewritten (slice_get ys x.header.info)))) ≡ false =
      kept_less (is_there x.header) x.name.is_index (eqb x.name.code 9) (has_relocations x.header) (is_rewritten (slice_get xs x.header.info)) (is_rewritten (slice_get ys x.header.info)) p.0
      (rewritten_less x.header.info xs ys are) (test_false _ _ _ parts.0) in
      let same : (is_there y.header && (y.name.is_index || (has_relocations y.header && is_rewritten (slice_get ys y.header.info))))
      ≡ (is_there x.header && (x.name.is_index || (has_relocations x.header && is_rewritten (slice_get ys x.header.info)))) =
      ap (λ (h : Header). is_there h && (y.name.is_index || (has_relocations h && is_rewritten (slice_get ys h.info)))) p.1.header
      ∙ ap (λ (n : Name). is_there x.header && (n.is_index || (has_relocations x.header && is_rewritten (slice_get ys x.header.info)))) p.1.name in
      let packed : (is_there y.header && y.name.is_debug && is_compressed y.header) ≡ (is_there x.header && x.name.is_debug && is_compressed x.header) =
      ap (λ (h : Header). is_there h && y.name.is_debug && is_compressed h) p.1.header ∙ ap (λ (n : Name). is_there x.header && n.is_debug && is_compressed x.header) p.1.name in
      none_or _ _ (no_fault _ _ _ (same ∙ kept)) (no_fault _ _ _ (packed ∙ test_false _ _ _ parts.1))

  pub kept_all : (xs ys : List Section) → AllZip (IsKept b out) xs ys → first_in (λ before. unkept_fault_for read_back xs) [] xs ≡ None
      → first_in (λ before. unkept_fault_for by_itself ys) [] ys ≡ None
  kept_all xs ys are = first_none (IsKept b out) (λ before. unkept_fault_for read_back xs) (λ before. unkept_fault_for by_itself ys) (λ before now x y so_far. kept_one xs ys are x y) [] [] xs ys tt are

  pub kept_debug : (xs ys : List Section) → AllZip (IsKept b out) xs ys → missing_fault xs ≡ None → missing_fault ys ≡ None
  unfolding missing_fault
  kept_debug xs ys are none =
      let both = or_parts (not (list_any (has_code 1) xs)) (not (list_any (has_code 2) xs)) (test_false _ _ _ none) in
      no_fault _ _ _ (or_from (not (list_any (has_code 1) ys)) (not (list_any (has_code 2) ys)) (ap not (other_codes 1 refl xs ys are) ∙ both.0) (ap not (other_codes 2 refl xs ys are) ∙ both.1))

  -- ---- contents

  pub kept_contents : (code : ℕ) → eqb 9 code ≡ false → (xs ys : List Section) → AllZip (IsKept b out) xs ys → bytes_in out (range_in ys code) ≡ bytes_in b (range_in xs code)
  kept_contents code other [] [] are = refl
  kept_contents code other [] (y ∷ ys) are = absurd are
  kept_contents code other (x ∷ xs) [] are = absurd are
  kept_contents code other (x ∷ xs) (y ∷ ys) are =
      ap (λ (t : Bool). bytes_in out (cond t (Some (y.header.offset, y.header.size)) (range_in ys code))) (other_code code other x y are.0)
      ∙ by are.0 (has_code code x) refl (kept_contents code other xs ys are.1)
    where
      by : IsKept b out x y → (t : Bool) → has_code code x ≡ t → bytes_in out (range_in ys code) ≡ bytes_in b (range_in xs code)
          → bytes_in out (cond t (Some (y.header.offset, y.header.size)) (range_in ys code)) ≡ bytes_in b (cond t (Some (x.header.offset, x.header.size)) (range_in xs code))
      by is false e rest = rest
      by (inl p) true e rest =
          let parts = and_parts (is_there x.header) (eqb x.name.code 9) p.0 in
          let nine = eqb-true x.name.code 9 parts.1 in
          let here : eqb 9 code ≡ true = ap (λ (n : ℕ). eqb n code) (sym nine) ∙ (and_parts (is_there x.header) (eqb x.name.code code) e).1 in
          absurd (let z : true ≡ false = sym here ∙ other in cc)
      by (inr p) true e rest = p.1.holds (and_parts (is_there x.header) (eqb x.name.code code) e).0
