-- Sections with a given name, one after the other; and the table in which names stand.
use Rattle.dwz_def_reading.specs.ElfReading.{elf_fault_for, field_fault_for}
use Rattle.std.proofs.Common.{◌≡◌, ℕ, zero, suc, ◌+◌, ◌*◌, ◌<◌, ◌≤◌, Bool, true, false, ◌&&◌, ◌||◌, List, [], ◌∷◌, length, map, take, drop, get_or, Option, Some, None, refl, sym, ap, subst, ◌∙◌}
use Rattle.std.proofs.Common.{arith}
use Rattle.std.specs.Prelude.{◌==◌, nat_lt, not}
use Rattle.std.specs.List.{list_any}
use borrow.Author.Tests.{ltb-true}
use Rattle.dwz_model.specs.declared.fault.Fault.{Fault}
use Rattle.dwz_model.specs.declared.fault.Reason.TheVariants.{FileType, SectionTable}
use Rattle.dwz_def_reading.specs.declared.elf.FileHeader.{FileHeader}
use Rattle.dwz_def_reading.specs.declared.elf.Header.{Header}
use Rattle.dwz_def_reading.specs.declared.elf.Section.{Section}
use Rattle.dwz_def_reading.specs.ElfHeaders.{file_header, header_at, headers_end, headers_from, headers_in, is_there, program_headers_end}
use Rattle.dwz_def_reading.specs.ElfNames.{name_at, name_table, names_header, section_named, sections_in}
use Rattle.dwz_def_reading.specs.ElfReading.{ElfView, elf_fault, elf_of, fault_if, field_fault, first_in, header_fault, identification_fault, missing_fault, names_fault, unkept_fault}
use Rattle.dwz_def_reading.specs.FirstOf.{◌or◌}
use Rattle.dwz_def_reading.proofs.ElfFaultLemmas.{test_false}
use Rattle.dwz_elf.specs.Names.{is_called, is_there_called}

-- ---- one section after the other

module _ (table name : List ℕ) where
  abbrev test : Header → Bool
  test h = is_there_called table name h

  record IsHere (headers : List Header) (k : ℕ) (s : Section) : Type 0 where
    h : Header
    is : s ≡ section_named table h
    split : drop k headers ≡ h ∷ drop (k + 1) headers

  here_in : (headers : List Header) (k : ℕ) (d : Section) → k < length (map (section_named table) headers) → IsHere headers k (get_or (map (section_named table) headers) k d)
  here_in [] k d lt = absurd (omega (arith, lt))
  here_in (h ∷ headers) zero d lt = record { h = h; is = refl; split = refl }
  here_in (h ∷ headers) (suc k) d lt =
      let r = here_in headers k d (omega (arith, lt)) in
      let one : suc (k + 1) ≡ suc k + 1 = omega arith in
      record { h = r.h; is = r.is; split = r.split ∙ ap (λ (n : ℕ). r.h ∷ drop n (h ∷ headers)) one }

  module _ (sections : List Section) (k : ℕ) (d : Section) (lt : k < length sections) (headers : List Header) (are : sections ≡ map (section_named table) headers)
      (so : list_any test headers ≡ list_any test (drop k headers)) where
    abbrev s : Section
    s = get_or sections k d

    here : IsHere headers k s
    here = subst (λ (w : List Section). k < length w → IsHere headers k (get_or w k d)) (sym are) (here_in headers k d) lt

    own : s ≡ section_named table s.header
    own = here.is ∙ ap (section_named table) (sym (ap (λ (x : Section). x.header) here.is))

    tested : test here.h ≡ (is_there s.header && is_called name (name_at table s.header.name))
    tested = ap test (sym (ap (λ (x : Section). x.header) here.is))

    split : list_any test headers ≡ (test here.h || list_any test (drop (k + 1) headers))
    split = so ∙ ap (list_any test) here.split

    pub is_one : (there called : Bool) → there ≡ is_there s.header → (s ≡ section_named table s.header → called ≡ is_called name (name_at table s.header.name)) → there ≡ true → called ≡ true
        → true ≡ list_any test headers
    is_one there called there_is called_is p q =
        let yes : test here.h ≡ true = tested ∙ (λ i. (sym there_is ∙ p) i && (sym (called_is own) ∙ q) i) in
        sym (split ∙ ap (λ (b : Bool). b || list_any test (drop (k + 1) headers)) yes)

    pub not_there : (there : Bool) → there ≡ is_there s.header → there ≡ false → list_any test headers ≡ list_any test (drop (k + 1) headers)
    not_there there there_is p =
        let no : test here.h ≡ false = tested ∙ ap (λ (b : Bool). b && is_called name (name_at table s.header.name)) (sym there_is ∙ p) in
        split ∙ ap (λ (b : Bool). b || list_any test (drop (k + 1) headers)) no

    pub not_called : (called : Bool) → (s ≡ section_named table s.header → called ≡ is_called name (name_at table s.header.name)) → called ≡ false
        → list_any test headers ≡ list_any test (drop (k + 1) headers)
    not_called called called_is q =
        let no : test here.h ≡ false = tested ∙ ap (λ (b : Bool). is_there s.header && b) (sym (called_is own) ∙ q) ∙ none (is_there s.header) in
        split ∙ ap (λ (b : Bool). b || list_any test (drop (k + 1) headers)) no
      where
        none : (b : Bool) → (b && false) ≡ false
        none true = refl
        none false = refl

  pub none_called : (sections : List Section) (k : ℕ) (headers : List Header) → length sections ≤ k → sections ≡ map (section_named table) headers
      → list_any test headers ≡ list_any test (drop k headers)
      → false ≡ list_any test headers
  none_called sections k headers le are so = sym (so ∙ ap (list_any test) (past headers k (subst (λ (w : List Section). length w ≤ k) are le))) where
    past : (hs : List Header) (j : ℕ) → length (map (section_named table) hs) ≤ j → drop j hs ≡ []
    past [] zero l = refl
    past [] (suc j) l = refl
    past (h ∷ hs) zero l = absurd (omega (arith, l))
    past (h ∷ hs) (suc j) l = past hs j (omega (arith, l))

-- ---- the table of names

header_got : (table bytes : List ℕ) (at n k : ℕ) (s : Section) → k < n → s ≡ get_or (map (section_named table) (headers_from bytes at n)) k s → s.header ≡ header_at bytes (at + 64 * k)
unfolding headers_from
header_got table bytes at zero k s lt e = absurd (omega (arith, lt))
header_got table bytes at (suc n) zero s lt e = (let z : at ≡ at + 64 * 0 = omega arith in ap (λ (x : Section). x.header) e ∙ ap (header_at bytes) z)
header_got table bytes at (suc n) (suc k) s lt e = (let z : at + 64 + 64 * k ≡ at + 64 * suc k = omega arith in header_got table bytes (at + 64) n k s (omega (arith, lt)) e ∙ ap (header_at bytes) z)

headers_many : (table bytes : List ℕ) (at n : ℕ) → length (map (section_named table) (headers_from bytes at n)) ≡ n
unfolding headers_from
headers_many table bytes at zero = refl
headers_many table bytes at (suc n) = ap suc (headers_many table bytes (at + 64) n)

first_none : (a b : Option Fault) → (a or b) ≡ None → a ≡ None
first_none (Some f) b e = absurd cc
first_none None b e = refl

second_none : (a b : Option Fault) → (a or b) ≡ None → b ≡ None
second_none (Some f) b e = absurd cc
second_none None b e = e

-- the fifth of some faults
fifth_none : (a b c d e f : Option Fault) → (a or (b or (c or (d or (e or f))))) ≡ None → e ≡ None
fifth_none a b c d e f none =
    first_none e f (second_none d (e or f) (second_none c (d or (e or f)) (second_none b (c or (d or (e or f))) (second_none a (b or (c or (d or (e or f)))) none))))

named : (a b : Bool) → (a || not b) ≡ false → b ≡ true
named true b e = absurd cc
named false true e = refl
named false false e = absurd cc

field_low : (len : ℕ) (file : FileHeader) → field_fault len file ≡ None → file.names < file.headers
unfolding field_fault_for
field_low len file none =
    let test = file.names == 0 || not (nat_lt file.names file.headers) in
    let fault = fifth_none (fault_if (not (file.kind == 2) && not (file.kind == 3)) FileType 16) (fault_if (file.headers_at == 0) SectionTable 40)
    (fault_if (not (file.header_size == 64)) SectionTable 58)
    (fault_if (file.headers == 0 || nat_lt 65278 file.headers) SectionTable 60) (fault_if test SectionTable 62)
    (fault_if (nat_lt len (headers_end file)) SectionTable 40 or fault_if (not (file.program_headers == 0) && nat_lt len (program_headers_end file)) SectionTable 32) none in
    ltb-true file.names file.headers (named (file.names == 0) (nat_lt file.names file.headers) (test_false test SectionTable 62 fault))

names_low : (bytes : List ℕ) → elf_fault bytes ≡ None → (file_header bytes).names < (file_header bytes).headers
unfolding elf_fault_for
names_low bytes none =
    let file = file_header bytes in
    let sections = sections_in bytes in
    let rest = names_fault (length bytes) (names_header bytes) or (first_in (header_fault (length bytes) file.names) [] sections
    or (first_in (λ before. unkept_fault sections) [] sections or missing_fault sections)) in
    field_low (length bytes) file (first_none (field_fault (length bytes) file) rest (second_none (identification_fault bytes) (field_fault (length bytes) file or rest) none))

module _ (bytes : List ℕ) (len : ℕ) (file : FileHeader) (items : List Section) (is : (let e : ElfView = record { length = len; file = file; sections = items } in e) ≡ elf_of bytes)
    (none : elf_fault bytes ≡ None) where
  file_is : file ≡ file_header bytes
  unfolding elf_of
  file_is = ap (λ (e : ElfView). e.file) is

  pub items_are : items ≡ map (section_named (name_table bytes)) (headers_in bytes)
  unfolding elf_of
  items_are = ap (λ (e : ElfView). e.sections) is

  pub some_table : length items ≤ file.names → ⊥
  some_table le =
      let low = names_low bytes none in
      let many = ap (λ (w : List Section). length w) items_are ∙ headers_many (name_table bytes) bytes (file_header bytes).headers_at (file_header bytes).headers in
      let names = ap (λ (f : FileHeader). f.names) file_is in
      omega (arith, low, many, names, le)

  pub table_is : (s : Section) (table : List ℕ) → s ≡ get_or items file.names s → table ≡ take s.header.size (drop s.header.offset bytes) → table ≡ name_table bytes
  table_is s table at made =
      let got : s ≡ get_or (map (section_named (name_table bytes)) (headers_in bytes)) (file_header bytes).names s = at ∙ (λ i. get_or (items_are i) (file_is i).names s) in
      let header : s.header ≡ names_header bytes = header_got (name_table bytes) bytes (file_header bytes).headers_at (file_header bytes).headers (file_header bytes).names s (names_low bytes none)
      got in
      made ∙ ap (λ (h : Header). take h.size (drop h.offset bytes)) header

  pub answered : (name table : List ℕ) (sections : List Section) (result : Bool) → table ≡ name_table bytes → sections ≡ items
      → ((headers : List Header) → sections ≡ map (section_named table) headers → result ≡ list_any (is_there_called table name) headers)
      → result ≡ list_any (is_there_called (name_table bytes) name) (headers_in bytes)
  answered name table sections result same are gives =
      gives (headers_in bytes) (are ∙ items_are ∙ ap (λ (t : List ℕ). map (section_named t) (headers_in bytes)) (sym same))
      ∙ ap (λ (t : List ℕ). list_any (is_there_called t name) (headers_in bytes)) same
