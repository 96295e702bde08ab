-- A file without a fault, row by row.
use Rattle.std.proofs.Common.{◌≡◌, ◌≢◌, inl, inr, ℕ, suc, ◌+◌, ◌<◌, ◌≤◌, Bool, true, false, cond, eqb, ltb, List, [], ◌∷◌, length, map, drop, get_or, Some, None, refl, ap, ◌∙◌, arith}
use Rattle.std.specs.Prelude.{◌&&◌, ◌||◌, not}
use Rattle.std.proofs.lemmas.Bool.{and_cases, eqb-false, eqb-true, le-ltb, lt-ltb, ltb-false, ltb-true, ne_eqb, not-false, or_from, or_parts}
use Rattle.std.proofs.lemmas.List.{drop_all}
use Rattle.dwz_model.specs.declared.fault.Reason.TheVariants.{FileType, SectionTable}
use Rattle.dwz_def_reading.specs.declared.elf.FileHeader.{FileHeader}
use Rattle.dwz_def_reading.specs.declared.elf.Header.{Header}
use Rattle.dwz_def_reading.specs.declared.elf.Section.{Section}
use Rattle.dwz_def_reading.specs.ElfFaults.{ElfManner, identification}
use Rattle.dwz_def_reading.specs.ElfHeaders.{end_of, file_header, headers_end, is_there, program_headers_end}
use Rattle.dwz_def_reading.specs.ElfNames.{known_name, name_at, names_header, section_name_in, section_named, sections_in}
use Rattle.dwz_def_reading.specs.ElfReading.{elf_fault_for, fault_if, field_fault_for, first_in, first_other, header_fault, identification_fault, is_misaligned, is_misnamed, is_misplaced, missing_fault, names_fault}
use Rattle.dwz_def_reading.specs.ElfReading.{unkept_fault_for, wrong_byte}
use Rattle.dwz_def_reading.proofs.PlainFaults.{no_fault, none_or}
use Rattle.dwz_def_reading.proofs.ElfFaultLemmas.{test_false}
use Rattle.dwz_def_output.proofs.SectionLemmas.{or_none}

-- in the manner that it is read in
pub record HasNoFault (m : ElfManner) (bytes : List ℕ) : Type 0 where
  pub identified : identification_fault bytes ≡ None
  pub fields : field_fault_for m (length bytes) (file_header bytes) ≡ None
  pub names : names_fault (length bytes) (names_header bytes) ≡ None
  pub headers : first_in (header_fault (length bytes) (file_header bytes).names) [] (sections_in bytes) ≡ None
  pub kept : first_in (λ before. unkept_fault_for m (sections_in bytes)) [] (sections_in bytes) ≡ None
  pub debug : missing_fault (sections_in bytes) ≡ None

pub no_faults : (m : ElfManner) (bytes : List ℕ) → elf_fault_for m bytes ≡ None → HasNoFault m bytes
unfolding elf_fault_for
no_faults m bytes is =
    let first = or_none (identification_fault bytes) _ is in
    let second = or_none (field_fault_for m (length bytes) (file_header bytes)) _ first.1 in
    let third = or_none (names_fault (length bytes) (names_header bytes)) _ second.1 in
    let fourth = or_none (first_in (header_fault (length bytes) (file_header bytes).names) [] (sections_in bytes)) _ third.1 in
    let fifth = or_none (first_in (λ before. unkept_fault_for m (sections_in bytes)) [] (sections_in bytes)) _ fourth.1 in
    record { identified = first.0; fields = second.0; names = third.0; headers = fourth.0; kept = fifth.0; debug = fifth.1 }

pub is_faultless : (m : ElfManner) (bytes : List ℕ) → HasNoFault m bytes → elf_fault_for m bytes ≡ None
unfolding elf_fault_for
is_faultless m bytes is =
    none_or (identification_fault bytes) _ is.identified
    (none_or (field_fault_for m (length bytes) (file_header bytes)) _ is.fields
    (none_or (names_fault (length bytes) (names_header bytes)) _ is.names
    (none_or (first_in (header_fault (length bytes) (file_header bytes).names) [] (sections_in bytes)) _ is.headers
    (none_or (first_in (λ before. unkept_fault_for m (sections_in bytes)) [] (sections_in bytes)) _ is.kept is.debug))))

-- ---- the identification

first_same : (at : ℕ) (wanted xs ys : List ℕ) → length wanted ≤ length xs → length wanted ≤ length ys → ((i : ℕ) → i < length wanted → get_or xs i 0 ≡ get_or ys i 0)
    → first_other at wanted xs ≡ first_other at wanted ys
unfolding first_other
first_same at [] xs ys in_xs in_ys same = refl
first_same at (w ∷ wanted) [] ys in_xs in_ys same = absurd (omega (arith, in_xs))
first_same at (w ∷ wanted) (x ∷ xs) [] in_xs in_ys same = absurd (omega (arith, in_ys))
first_same at (w ∷ wanted) (x ∷ xs) (y ∷ ys) in_xs in_ys same =
    let head : x ≡ y = same 0 (omega arith) in
    let rest = first_same (at + 1) wanted xs ys (omega (arith, in_xs)) (omega (arith, in_ys)) (λ i less. same (suc i) (omega (arith, less))) in
    ap (λ b. cond (eqb b w) (first_other (at + 1) wanted xs) (Some at)) head ∙ ap (λ o. cond (eqb y w) o (Some at)) rest

pub long_enough : (bytes : List ℕ) → identification_fault bytes ≡ None → 64 ≤ length bytes
unfolding identification_fault
long_enough bytes is = ltb-false (length bytes) 64 (test_false _ _ _ (or_none (wrong_byte (first_other 0 identification bytes)) _ is).1)

pub same_identification : (bytes others : List ℕ) → identification_fault bytes ≡ None → 64 ≤ length others → ((i : ℕ) → i < 7 → get_or others i 0 ≡ get_or bytes i 0)
    → identification_fault others ≡ None
unfolding identification_fault
same_identification bytes others is long same =
    let enough = long_enough bytes is in
    let first = (or_none (wrong_byte (first_other 0 identification bytes)) _ is).0 in
    none_or (wrong_byte (first_other 0 identification others)) _
    (ap wrong_byte (first_same 0 identification others bytes (omega (arith, long)) (omega (arith, enough)) same) ∙ first)
    (no_fault _ _ _ (le-ltb (length others) 64 long))

-- ---- the file header

-- the fields of a file of that length are good, and it has at most so many section headers
pub record HasGoodFields (most len : ℕ) (file : FileHeader) : Type 0 where
  pub kind : (not (eqb file.kind 2) && not (eqb file.kind 3)) ≡ false
  pub some_place : file.headers_at ≢ 0
  pub size : not (eqb file.header_size 64) ≡ false
  pub some : 0 < file.headers
  pub few : file.headers ≤ most
  pub some_names : eqb file.names 0 ≡ false
  pub names : file.names < file.headers
  pub table : headers_end file ≤ len
  pub programs : file.program_headers ≢ 0 → program_headers_end file ≤ len

pub good_fields : (m : ElfManner) (len : ℕ) (file : FileHeader) → field_fault_for m len file ≡ None → HasGoodFields m.headers len file
unfolding field_fault_for
good_fields m len file is =
    let first = or_none (fault_if (not (eqb file.kind 2) && not (eqb file.kind 3)) FileType 16) _ is in
    let second = or_none (fault_if (eqb file.headers_at 0) SectionTable 40) _ first.1 in
    let third = or_none (fault_if (not (eqb file.header_size 64)) SectionTable 58) _ second.1 in
    let fourth = or_none (fault_if (eqb file.headers 0 || ltb m.headers file.headers) SectionTable 60) _ third.1 in
    let fifth = or_none (fault_if (eqb file.names 0 || not (ltb file.names file.headers)) SectionTable 62) _ fourth.1 in
    let sixth = or_none (fault_if (ltb len (headers_end file)) SectionTable 40) _ fifth.1 in
    let count = or_parts (eqb file.headers 0) (ltb m.headers file.headers) (test_false _ _ _ fourth.0) in
    let names = or_parts (eqb file.names 0) (not (ltb file.names file.headers)) (test_false _ _ _ fifth.0) in
    let some : file.headers ≢ 0 = eqb-false file.headers 0 count.0 in
    record {
      kind = test_false _ _ _ first.0;
      some_place = eqb-false file.headers_at 0 (test_false _ _ _ second.0);
      size = test_false _ _ _ third.0;
      some = omega (arith, some);
      few = ltb-false m.headers file.headers count.1;
      some_names = names.0;
      names = ltb-true file.names file.headers (not-false (ltb file.names file.headers) names.1);
      table = ltb-false len (headers_end file) (test_false _ _ _ sixth.0);
      programs = λ some_programs.
          elim (and_cases (not (eqb file.program_headers 0)) (ltb len (program_headers_end file)) (test_false _ _ _ sixth.1)) [
            | inl none ↦ absurd (some_programs (eqb-true file.program_headers 0 (not-false (eqb file.program_headers 0) none)))
            | inr within ↦ ltb-false len (program_headers_end file) within
          ];
    }

pub fields_good : (m : ElfManner) (len : ℕ) (file : FileHeader) → HasGoodFields m.headers len file → field_fault_for m len file ≡ None
unfolding field_fault_for
fields_good m len file is =
    let some : file.headers ≢ 0 = let positive = is.some in λ none. omega (arith, positive, none) in
    let programs : (not (eqb file.program_headers 0) && ltb len (program_headers_end file)) ≡ false = by (eqb file.program_headers 0) refl in
    none_or _ _ (no_fault _ _ _ is.kind)
    (none_or _ _ (no_fault _ _ _ (ne_eqb file.headers_at 0 is.some_place))
    (none_or _ _ (no_fault _ _ _ is.size)
    (none_or _ _ (no_fault _ _ _ (or_from (eqb file.headers 0) (ltb m.headers file.headers) (ne_eqb file.headers 0 some) (le-ltb m.headers file.headers is.few)))
    (none_or _ _ (no_fault _ _ _ (or_from (eqb file.names 0) (not (ltb file.names file.headers)) is.some_names (ap not (lt-ltb file.names file.headers is.names))))
    (none_or _ _ (no_fault _ _ _ (le-ltb len (headers_end file) is.table)) (no_fault _ _ _ programs)))))) where
      by : (b : Bool) → eqb file.program_headers 0 ≡ b → (not b && ltb len (program_headers_end file)) ≡ false
      by true none = refl
      by false some = le-ltb len (program_headers_end file) (is.programs (eqb-false file.program_headers 0 some))

-- ---- the name table

pub names_there : (len : ℕ) (names : Header) → names_fault len names ≡ None → is_there names ≡ true
unfolding names_fault
names_there len names is = not-false (is_there names) (or_parts (not (is_there names)) (ltb len (end_of names)) (test_false _ _ _ is)).0

pub names_within : (len : ℕ) (names : Header) → names_fault len names ≡ None → end_of names ≤ len
unfolding names_fault
names_within len names is = ltb-false len (end_of names) (or_parts (not (is_there names)) (ltb len (end_of names)) (test_false _ _ _ is)).1

pub names_good : (len : ℕ) (names : Header) → is_there names ≡ true → end_of names ≤ len → names_fault len names ≡ None
unfolding names_fault
names_good len names there within = no_fault _ _ _ (or_from (not (is_there names)) (ltb len (end_of names)) (ap not there) (le-ltb len (end_of names) within))

-- a name ends, so the name table has bytes
pub ends_there : (len names : ℕ) (before : List Section) (s : Section) → header_fault len names before s ≡ None → s.name.ends ≡ true
unfolding header_fault
ends_there len names before s none =
    let wrong = or_parts (is_misaligned s.header) (is_misplaced len s.header || (not s.name.ends || is_misnamed names before s)) (test_false _ _ _ none) in
    let more = or_parts (is_misplaced len s.header) (not s.name.ends || is_misnamed names before s) wrong.1 in
    not-false s.name.ends (or_parts (not s.name.ends) (is_misnamed names before s) more.1).0

no_end : (at : ℕ) → (known_name (name_at [] at)).ends ≡ false
unfolding section_name_in
no_end at = let none : drop {A = ℕ} at [] ≡ [] = drop_all at [] (omega arith) in ap (λ (w : List ℕ). (known_name (section_name_in w)).ends) none

-- some name ends in the table
pub table_some : (len names : ℕ) (table : List ℕ) (h : Header) (hs : List Header) → first_in (header_fault len names) [] (map (section_named table) (h ∷ hs)) ≡ None → table ≢ []
unfolding first_in
table_some len names table h hs none empty =
    let ends = ends_there len names [] (section_named table h) (or_none (header_fault len names [] (section_named table h)) _ none).0 in
    let not_so : (known_name (name_at table h.name)).ends ≡ false = ap (λ (t : List ℕ). (known_name (name_at t h.name)).ends) empty ∙ no_end h.name in
    cc
