-- Sections that are the same but for where they stand: they have the same codes, and no fault that the others haven't.
use Rattle.dwz_def_reading.specs.ElfReading.{unkept_fault_for}
use Rattle.std.proofs.Common.{◌≡◌, ◌≢◌, ℕ, zero, suc, ◌+◌, Bool, true, false, cond, eqb, ltb, List, [], ◌∷◌, ◌++◌, length, Option, Some, None, refl, sym, ap, subst, ◌∙◌, append_assoc, arith}
use Rattle.std.specs.Prelude.{◌&&◌, ◌||◌, not, slice_get, is_some}
use Rattle.std.specs.Option.{unwrap_or}
use Rattle.std.specs.Int.{is_power_of_two}
use Rattle.std.specs.List.{AllZip, list_any}
use Rattle.std.proofs.lemmas.Bool.{and_parts, cond-false, eqb-true, ne_eqb, not-false, or_from, or_parts}
use Rattle.std.proofs.lemmas.List.Folds.{list_any-append}
use Rattle.std.proofs.lemmas.List.{append-nil}
use Rattle.std.proofs.lemmas.List.Elements.{AllZip-push, length_all_zip}
use Rattle.dwz_model.specs.declared.fault.Fault.{Fault}
use Rattle.dwz_def_reading.specs.declared.elf.Moved.{Moved}
use Rattle.dwz_def_reading.specs.declared.elf.Name.{Name}
use Rattle.dwz_def_reading.specs.declared.elf.Section.{Section}
use Rattle.dwz_def_reading.specs.ElfHeaders.{content, has_relocations, is_compressed, is_there}
use Rattle.dwz_def_reading.specs.ElfLayout.{Changes, content_for, moved_in, replacement}
use Rattle.dwz_def_reading.specs.ElfReading.{first_in, has_code, header_fault, is_misaligned, is_misnamed, is_misplaced, is_rewritten, missing_fault, range_in, unkept_fault}
use Rattle.dwz_def_reading.specs.FirstOf.{◌or◌}
use Rattle.dwz_def_reading.specs.ElfReading.{bytes_in}
use Rattle.dwz_def_reading.proofs.PlainFaults.{no_fault, none_or}
use Rattle.dwz_def_reading.proofs.ElfFaultLemmas.{test_false}
use Rattle.dwz_def_output.proofs.MovedLemmas.{IsMadeAt}
use Rattle.dwz_def_output.proofs.TableLemmas.{moved_sections, moved_to}

-- ---- no fault

pub or_none : (one other : Option Fault) → (one or other) ≡ None → (one ≡ None) × (other ≡ None)
or_none None other is = (refl, is)
or_none (Some f) other is = absurd cc

-- no item has a fault where none of others has
pub first_none : {X : Type 0} (R : X → X → Type 0) (f g : List X → X → Option Fault) → ((before others : List X) (x y : X) → AllZip R before others → R x y → f before x ≡ None → g others y ≡ None)
    → (before others xs ys : List X) → AllZip R before others → AllZip R xs ys → first_in f before xs ≡ None → first_in g others ys ≡ None
unfolding first_in
first_none R f g each before others [] [] so_far are is = refl
first_none R f g each before others [] (y ∷ ys) so_far are is = absurd are
first_none R f g each before others (x ∷ xs) [] so_far are is = absurd are
first_none R f g each before others (x ∷ xs) (y ∷ ys) so_far are is =
    let parts = or_none (f before x) (first_in f (before ++ x ∷ []) xs) is in
    let here : g others y ≡ None = each before others x y so_far are.0 parts.0 in
    let rest : first_in g (others ++ y ∷ []) ys ≡ None = first_none R f g each (before ++ x ∷ []) (others ++ y ∷ []) xs ys (AllZip-push R before others x y so_far are.0) are.1 parts.1 in
    none_or (g others y) (first_in g (others ++ y ∷ []) ys) here rest

-- the items of one list and then of another
pub first_both : {X : Type 0} (f : List X → X → Option Fault) (before xs ys : List X) → first_in f before xs ≡ None → first_in f (before ++ xs) ys ≡ None → first_in f before (xs ++ ys) ≡ None
unfolding first_in
first_both f before [] ys none rest = ap (λ (b : List _). first_in f b ys) (sym (append-nil before)) ∙ rest
first_both f before (x ∷ xs) ys none rest =
    let parts = or_none (f before x) (first_in f (before ++ x ∷ []) xs) none in
    none_or (f before x) (first_in f (before ++ x ∷ []) (xs ++ ys)) parts.0
    (first_both f (before ++ x ∷ []) xs ys parts.1 (ap (λ (b : List _). first_in f b ys) (append_assoc before (x ∷ []) xs) ∙ rest))

-- ---- sections of the old file and of the new one

-- the section of the new file is that of the old one, and one with a code holds the new content or the old
pub record IsMade (input out : List ℕ) (changes : Changes) (old new : Section) : Type 0 where
  pub wanted : List ℕ
  pub made : IsMadeAt out wanted old new
  pub coded : old.name.code ≢ 0 → wanted ≡ unwrap_or (replacement changes old) (content input old.header)

-- a range of the new file has the new content, or the bytes of a range of the old one
abbrev SameBytes : List ℕ → List ℕ → Option (List ℕ) → Option (ℕ × ℕ) → Option (ℕ × ℕ) → Type 0
SameBytes input out new range old = bytes_in out range ≡ unwrap_or new (bytes_in input old)

module _ (input out : List ℕ) (changes : Changes) where
  same_there : (x y : Section) → IsMade input out changes x y → is_there y.header ≡ is_there x.header
  same_there x y is = ap (λ k. not (eqb k 0) && not (eqb k 8)) is.made.carried.kind

  same_code : (code : ℕ) (x y : Section) → IsMade input out changes x y → has_code code y ≡ has_code code x
  same_code code x y is = ap (λ (b : Bool). b && eqb y.name.code code) (same_there x y is) ∙ ap (λ (n : Name). is_there x.header && eqb n.code code) is.made.carried.name

  pub same_codes : (code : ℕ) (xs ys : List Section) → AllZip (IsMade input out changes) xs ys → list_any (has_code code) ys ≡ list_any (has_code code) xs
  same_codes code [] [] are = refl
  same_codes code [] (y ∷ ys) are = absurd are
  same_codes code (x ∷ xs) [] are = absurd are
  same_codes code (x ∷ xs) (y ∷ ys) are =
      let here = same_code code x y are.0 in
      let rest = same_codes code xs ys are.1 in
      cc

  -- the sections of a list behind those of the new file are none that are written again
  abbrev pub NotRewritten : List Section → Type 0
  NotRewritten [] = Unit {0}
  NotRewritten (t ∷ more) = (is_rewritten (Some t) ≡ false) × NotRewritten more

  none_rewritten : (i : ℕ) (more : List Section) → NotRewritten more → is_rewritten (slice_get more i) ≡ false
  none_rewritten i [] none = refl
  none_rewritten zero (t ∷ more) none = none.0
  none_rewritten (suc i) (t ∷ more) none = none_rewritten i more none.1

  same_rewritten : (i : ℕ) (xs ys more : List Section) → AllZip (IsMade input out changes) xs ys → NotRewritten more → is_rewritten (slice_get (ys ++ more) i) ≡ is_rewritten (slice_get xs i)
  same_rewritten i [] [] more are none = none_rewritten i more none
  same_rewritten i [] (y ∷ ys) more are none = absurd are
  same_rewritten i (x ∷ xs) [] more are none = absurd are
  same_rewritten zero (x ∷ xs) (y ∷ ys) more are none =
      ap (λ (b : Bool). b && not (eqb y.name.code 0) && ltb y.name.code 9) (same_there x y are.0) ∙ ap (λ (n : Name). is_there x.header && not (eqb n.code 0) && ltb n.code 9) are.0.made.carried.name
  same_rewritten (suc i) (x ∷ xs) (y ∷ ys) more are none = same_rewritten i xs ys more are.1 none

  -- ---- each section header by itself

  same_header : (len names : ℕ) (before others : List Section) (x y : Section) → AllZip (IsMade input out changes) before others → IsMade input out changes x y → header_fault len names before x ≡ None
      → header_fault (length out) names others y ≡ None
  unfolding header_fault
  same_header len names before others x y so_far is none =
      let wrong = test_false _ _ _ none in
      let parts = or_parts (is_misaligned x.header) (is_misplaced len x.header || (not x.name.ends || is_misnamed names before x)) wrong in
      let more = or_parts (is_misplaced len x.header) (not x.name.ends || is_misnamed names before x) parts.1 in
      let last = or_parts (not x.name.ends) (is_misnamed names before x) more.1 in
      let aligned : is_misaligned y.header ≡ false = ap (λ a. not (eqb a 0) && not (is_power_of_two a)) is.made.carried.align ∙ parts.0 in
      let ends : not y.name.ends ≡ false = ap (λ (n : Name). not n.ends) is.made.carried.name ∙ last.0 in
      let there = same_there x y is in
      let code : y.name.code ≡ x.name.code = ap (λ (n : Name). n.code) is.made.carried.name in
      let codes = same_codes x.name.code before others so_far in
      let count : length others ≡ length before = sym (length_all_zip (IsMade input out changes) before others so_far) in
      let named : is_misnamed names others y ≡ is_misnamed names before x = rw (code, there, codes, count) refl in
      no_fault _ _ _ (or_from (is_misaligned y.header) _ aligned (or_from (is_misplaced (length out) y.header) _ is.made.placed
      (or_from (not y.name.ends) (is_misnamed names others y) ends (named ∙ last.1))))

  pub same_headers : (len names : ℕ) (xs ys : List Section) → AllZip (IsMade input out changes) xs ys → first_in (header_fault len names) [] xs ≡ None
      → first_in (header_fault (length out) names) [] ys ≡ None
  same_headers len names xs ys are = first_none (IsMade input out changes) (header_fault len names) (header_fault (length out) names) (same_header len names) [] [] xs ys tt are

  -- ---- sections that can't be kept, or read

  same_kept : (xs ys more : List Section) → AllZip (IsMade input out changes) xs ys → NotRewritten more → (x y : Section) → IsMade input out changes x y → unkept_fault xs x ≡ None
      → unkept_fault (ys ++ more) y ≡ None
  unfolding unkept_fault_for
  same_kept xs ys more are others x y is none =
      let there = same_there x y is in
      let parts = or_none _ _ none in
      let index = test_false _ _ _ parts.0 in
      let compressed = test_false _ _ _ parts.1 in
      let rewritten : is_rewritten (slice_get (ys ++ more) y.header.info) ≡ is_rewritten (slice_get xs x.header.info) = ap (λ i. is_rewritten (slice_get (ys ++ more) i)) is.made.carried.info
      ∙ same_rewritten x.header.info xs ys more are others in
      let relocations : has_relocations y.header ≡ has_relocations x.header = ap (λ k. eqb k 4 || eqb k 9) is.made.carried.kind in
      let is_index : y.name.is_index ≡ x.name.is_index = ap (λ (n : Name). n.is_index) is.made.carried.name in
      let is_debug : y.name.is_debug ≡ x.name.is_debug = ap (λ (n : Name). n.is_debug) is.made.carried.name in
      let packed : is_compressed y.header ≡ is_compressed x.header = ap (λ f. is_compressed (record x.header { flags = f })) is.made.carried.flags in
      none_or _ _ (no_fault _ _ _ (rw (there, is_index, relocations, rewritten) index)) (no_fault _ _ _ (rw (there, is_debug, packed) compressed))

  pub all_kept : (xs ys more : List Section) → AllZip (IsMade input out changes) xs ys → NotRewritten more → first_in (λ before. unkept_fault xs) [] xs ≡ None
      → first_in (λ before. unkept_fault (ys ++ more)) [] ys ≡ None
  all_kept xs ys more are others = first_none (IsMade input out changes) (λ before. unkept_fault xs) (λ before. unkept_fault (ys ++ more))
      (λ before now x y so_far. same_kept xs ys more are others x y) [] [] xs ys tt are

  pub same_debug : (xs ys more : List Section) → AllZip (IsMade input out changes) xs ys → missing_fault xs ≡ None → missing_fault (ys ++ more) ≡ None
  unfolding missing_fault
  same_debug xs ys more are none =
      let both = or_parts (not (list_any (has_code 1) xs)) (not (list_any (has_code 2) xs)) (test_false _ _ _ none) in
      no_fault _ _ _ (or_from (not (list_any (has_code 1) (ys ++ more))) (not (list_any (has_code 2) (ys ++ more))) (there 1 both.0) (there 2 both.1)) where
        there : (code : ℕ) → not (list_any (has_code code) xs) ≡ false → not (list_any (has_code code) (ys ++ more)) ≡ false
        there code has =
            let in_xs : list_any (has_code code) xs ≡ true = not-false (list_any (has_code code) xs) has in
            let in_ys : list_any (has_code code) ys ≡ true = same_codes code xs ys are ∙ in_xs in
            let in_all : list_any (has_code code) (ys ++ more) ≡ true = list_any-append (has_code code) ys more ∙ ap (λ (b : Bool). b || list_any (has_code code) more) in_ys in
            ap not in_all

  -- ---- contents

  pub same_range : (code : ℕ) (xs ys : List Section) → AllZip (IsMade input out changes) xs ys → is_some (range_in ys code) ≡ is_some (range_in xs code)
  same_range code [] [] are = refl
  same_range code [] (y ∷ ys) are = absurd are
  same_range code (x ∷ xs) [] are = absurd are
  same_range code (x ∷ xs) (y ∷ ys) are =
      let here = same_code code x y are.0 in
      let rest = same_range code xs ys are.1 in
      rw here (elim (has_code code x) as (λ b. is_some (cond b (Some (y.header.offset, y.header.size)) (range_in ys code))
      ≡ is_some (cond b (Some (x.header.offset, x.header.size)) (range_in xs code))) [ true ↦ refl | false ↦ rest ])

  -- the section of a code has its new content, or the old one
  pub same_contents : (code : ℕ) → code ≢ 0 → (xs ys : List Section) → AllZip (IsMade input out changes) xs ys → (list_any (has_code code) xs ≡ false → content_for changes.new code ≡ None)
      → bytes_in out (range_in ys code) ≡ unwrap_or (content_for changes.new code) (bytes_in input (range_in xs code))
  same_contents code coded [] [] are none = rw (none refl) refl
  same_contents code coded [] (y ∷ ys) are none = absurd are
  same_contents code coded (x ∷ xs) [] are none = absurd are
  same_contents code coded (x ∷ xs) (y ∷ ys) are none =
      rw (same_code code x y are.0) (by (same_contents code coded xs ys are.1) (has_code code x) refl none) where
        by : ((list_any (has_code code) xs ≡ false → content_for changes.new code ≡ None) → SameBytes input out (content_for changes.new code) (range_in ys code) (range_in xs code)) → (b : Bool)
            → has_code code x ≡ b → ((b || list_any (has_code code) xs) ≡ false → content_for changes.new code ≡ None)
            → SameBytes input out (content_for changes.new code) (cond b (Some (y.header.offset, y.header.size)) (range_in ys code)) (cond b (Some (x.header.offset, x.header.size)) (range_in xs code))
        by rest false here more = rest more
        by rest true here more =
            let parts = and_parts (is_there x.header) (eqb x.name.code code) here in
            let is_code : x.name.code ≡ code = eqb-true x.name.code code parts.1 in
            let some : eqb x.name.code 0 ≡ false = ne_eqb x.name.code 0 (λ zero_code. coded (sym is_code ∙ zero_code)) in
            let new : replacement changes x ≡ content_for changes.new code = cond-false (eqb x.name.code 0) None (content_for changes.new x.name.code) some ∙ ap (content_for changes.new) is_code in
            are.0.made.carried.holds parts.0 ∙ (are.0.coded (λ none_coded. coded (sym is_code ∙ none_coded)) ∙ ap (λ o. unwrap_or o (content input x.header)) new)

-- ---- the sections one by one

pub all_made : (input out : List ℕ) (changes : Changes) (placed : List Moved) (at index : ℕ) (xs : List Section)
    → ((k place : ℕ) (s : Section) → slice_get xs k ≡ Some s → IsMade input out changes s (record { header = moved_to place (moved_in placed (index + k)) s.header; name = s.name }))
    → AllZip (IsMade input out changes) xs (moved_sections placed at index xs)
unfolding moved_sections
all_made input out changes placed at index [] each = tt
all_made input out changes placed at index (s ∷ xs) each =
    let here : index + 0 ≡ index = omega arith in (
      subst (λ (n : ℕ). IsMade input out changes s (record { header = moved_to at (moved_in placed n) s.header; name = s.name })) here (each 0 at s refl),
      all_made input out changes placed (at + 64) (index + 1) xs
          (λ k place t is.
          let next : index + suc k ≡ index + 1 + k = omega arith in
          subst (λ (n : ℕ). IsMade input out changes t (record { header = moved_to place (moved_in placed n) t.header; name = t.name })) next (each (suc k) place t is)),
    )
