-- A file of the plain layout has no fault but that a section has the name of an index.
use Rattle.dwz_def_reading.specs.ElfReading.{elf_fault_for, field_fault_for, unkept_fault_for}
use Rattle.std.proofs.Common.{◌≡◌, ◌≢◌, ◌⊎◌, ℕ, suc, ◌+◌, ◌*◌, ◌<◌, ◌≤◌, Bool, true, false, ◌&&◌, ◌||◌, not, eqb, ltb, List, [], ◌∷◌, ◌++◌, length, get_or, All, AllPairs, Any, Option, Some, None}
use Rattle.std.proofs.Common.{refl, sym, ap, ◌∙◌, inl, inr, arith, append_assoc, append-nil, length-append, codes}
use Rattle.std.specs.Prelude.{bit_and}
use Rattle.std.specs.Int.{is_power_of_two}
use Rattle.std.specs.List.{list_any}
use Rattle.std.proofs.lemmas.Bool.{eq-eqb, eqb-false, eqb-true, le-ltb, lt-ltb, ne_eqb, or_from}
use Rattle.std.proofs.lemmas.List.Folds.{list_any-append, list_any-from_Any}
use Rattle.dwz_model.specs.declared.fault.Fault.{Fault}
use Rattle.dwz_model.specs.declared.fault.Reason.{Reason}
use Rattle.dwz_model.specs.declared.fault.Reason.TheVariants.{Compressed, Index}
use Rattle.dwz_def_reading.specs.declared.elf.Section.{Section}
use Rattle.dwz_def_reading.specs.ElfFaults.{identification}
use Rattle.dwz_def_reading.specs.ElfHeaders.{file_header}
use Rattle.dwz_def_reading.specs.ElfNames.{code_of, known_name, names_header, sections_in}
use Rattle.dwz_def_reading.specs.ElfReading.{elf_fault, fault_if, field_fault, first_in, first_other, has_code, header_fault, identification_fault, missing_fault, names_fault, unkept_fault, wrong_byte}
use Rattle.dwz_def_reading.specs.FirstOf.{◌or◌}
use Rattle.dwz_def_reading.specs.PlainFile.{AreKnown, FitsPlain, PlainSection, index_fault, plain_contents, plain_fields, plain_file, plain_headers_at, plain_names, plain_names_at, plain_sections}
use Rattle.dwz_def_reading.specs.PlainFile.{section_names, section_read, sections_read}
use Rattle.dwz_def_reading.proofs.PlainLemmas.{headers_behind, length_plain}
use Rattle.dwz_def_reading.proofs.PlainReads.{fields_read, names_header_is, parts, sections_are}

pub none_or : (one other : Option Fault) → one ≡ None → other ≡ None → (one or other) ≡ None
none_or None other is other_is = other_is
none_or (Some f) other is other_is = absurd cc

or_none : (one : Option Fault) → (one or None) ≡ one
or_none None = refl
or_none (Some f) = refl

pub no_fault : (test : Bool) (reason : Reason) (at : ℕ) → test ≡ false → fault_if test reason at ≡ None
no_fault test reason at e = ap (λ (b : Bool). fault_if b reason at) e

-- ---- each section header by itself

-- the codes of the sections before, and which of the others have none of them
abbrev Fresh : (ℕ → Bool) → List PlainSection → Type 0
Fresh used [] = Unit {0}
Fresh used (s ∷ sections) = ((code_of s.name ≡ 0) ⊎ (used (code_of s.name) ≡ false)) × Fresh (λ c. used c || eqb (code_of s.name) c) sections

one_power : is_power_of_two 1 ≡ true
unfolding lib.Count.ones
one_power = refl

placed : (len at size : ℕ) → 64 ≤ at → at + size ≤ len → (b : Bool) → (b && (ltb len (at + size) || ltb at 64)) ≡ false
placed len at size low within true = or_from (ltb len (at + size)) (ltb at 64) (le-ltb len (at + size) within) (le-ltb at 64 low)
placed len at size low within false = refl

-- of a section that isn't the name table, with a code that none before it has
pub header_fine : (len index place name flags at size : ℕ) (text : List ℕ) (before : List Section) → 64 ≤ at → at + size ≤ len → length before ≢ index
    → (code_of text ≡ 0) ⊎ (list_any (has_code (code_of text)) before ≡ false) → header_fault len index before (section_read place name 1 flags at size 1 text) ≡ None
unfolding header_fault
header_fine len index place name flags at size text before low within other fresh =
    no_fault _ _ _ (or_from (not (is_power_of_two 1)) _ (ap not one_power) (or_from (ltb 0 size && (ltb len (at + size) || ltb at 64)) _ (placed len at size low within (ltb 0 size)) (named fresh)))
  where
    named : (code_of text ≡ 0) ⊎ (list_any (has_code (code_of text)) before ≡ false) → (not (eqb (code_of text) 0) && (list_any (has_code (code_of text)) before || eqb (length before) index)) ≡ false
    named (inl none) = ap (λ (b : Bool). not b && (list_any (has_code (code_of text)) before || eqb (length before) index)) (eq-eqb (code_of text) 0 none)
    named (inr unused) = go (eqb (code_of text) 0) where
      apart : (list_any (has_code (code_of text)) before || eqb (length before) index) ≡ false
      apart = or_from (list_any (has_code (code_of text)) before) (eqb (length before) index) unused (ne_eqb (length before) index other)

      go : (b : Bool) → (not b && (list_any (has_code (code_of text)) before || eqb (length before) index)) ≡ false
      go true = refl
      go false = apart

-- has_code of a section with bytes
with_one : (c place name flags at size : ℕ) (text : List ℕ) (before : List Section) → list_any (has_code c) (before ++ section_read place name 1 flags at size 1 text ∷ [])
    ≡ (list_any (has_code c) before || eqb (code_of text) c)
with_one c place name flags at size text before = list_any-append (has_code c) before (section_read place name 1 flags at size 1 text ∷ []) ∙ ap (λ (b : Bool). list_any (has_code c) before || b)
    (or_false (eqb (code_of text) c)) where
      or_false : (b : Bool) → (b || false) ≡ b
      or_false true = refl
      or_false false = refl

same_fresh : (used others : ℕ → Bool) → ((c : ℕ) → used c ≡ others c) → (sections : List PlainSection) → Fresh used sections → Fresh others sections
same_fresh used others same [] f = tt
same_fresh used others same (s ∷ sections) f = (
  elim f.0 [ inl none ↦ inl none | inr unused ↦ inr (sym (same (code_of s.name)) ∙ unused) ],
  same_fresh (λ c. used c || eqb (code_of s.name) c) (λ c. others c || eqb (code_of s.name) c) (λ c. ap (λ (b : Bool). b || eqb (code_of s.name) c) (same c)) sections f.1,
)

headers_fine : (len index : ℕ) (before tail : List Section) (place name at : ℕ) (sections : List PlainSection) → 64 ≤ at → at + length (plain_contents sections) ≤ len
    → length before + length sections ≤ index
    → Fresh (λ c. list_any (has_code c) before) sections → first_in (header_fault len index) (before ++ sections_read place name at sections) tail ≡ None
    → first_in (header_fault len index) before (sections_read place name at sections ++ tail) ≡ None
unfolding first_in
headers_fine len index before tail place name at [] low within less fresh last = ap (λ (b : List Section). first_in (header_fault len index) b tail) (sym (append-nil before)) ∙ last
headers_fine len index before tail place name at (s ∷ sections) low within less fresh last =
    let one = section_read place name 1 s.flags at (length s.bytes) 1 s.name in
    let bytes_len = length-append s.bytes (plain_contents sections) in
    let here : header_fault len index before one ≡ None =
    header_fine len index place name s.flags at (length s.bytes) s.name before low (omega (arith, within, bytes_len)) (λ (e : length before ≡ index). omega (arith, e, less)) fresh.0 in
    let regrouped : before ++ sections_read place name at (s ∷ sections) ≡ (before ++ one ∷ []) ++ sections_read (place + 64) (name + (length s.name + 1)) (at + length s.bytes) sections =
    sym (append_assoc before (one ∷ []) (sections_read (place + 64) (name + (length s.name + 1)) (at + length s.bytes) sections)) in
    let others = headers_fine len index (before ++ one ∷ []) tail (place + 64) (name + (length s.name + 1)) (at + length s.bytes) sections (omega (arith, low)) (omega (arith, within, bytes_len))
    (omega (arith, less, length-append before (one ∷ [])))
    (same_fresh (λ c. list_any (has_code c) before || eqb (code_of s.name) c) (λ c. list_any (has_code c) (before ++ one ∷ []))
    (λ c. sym (with_one c place name s.flags at (length s.bytes) s.name before)) sections fresh.1)
    (ap (λ (b : List Section). first_in (header_fault len index) b tail) (sym regrouped) ∙ last) in
    none_or (header_fault len index before one) _ here others

-- sections whose codes differ
fresh_of : (used : ℕ → Bool) (sections : List PlainSection) → AllPairs (λ a b. code_of a.name ≢ 0 → code_of a.name ≢ code_of b.name) sections
    → ((k : ℕ) (d : PlainSection) → k < length sections → (code_of (get_or sections k d).name ≡ 0) ⊎ (used (code_of (get_or sections k d).name) ≡ false)) → Fresh used sections
fresh_of used [] apart each = tt
fresh_of used (s ∷ sections) apart each = (
  each 0 s (omega arith),
  fresh_of (λ c. used c || eqb (code_of s.name) c) sections (λ i j d less lt. apart (suc i) (suc j) d (omega (arith, less)) (omega (arith, lt)))
      (λ k d lt. other k d lt (each (suc k) d (omega (arith, lt))) (apart 0 (suc k) d (omega arith) (omega (arith, lt)))),
)
  where
    other : (k : ℕ) (d : PlainSection) → k < length sections → (code_of (get_or sections k d).name ≡ 0) ⊎ (used (code_of (get_or sections k d).name) ≡ false)
        → (code_of s.name ≢ 0 → code_of s.name ≢ code_of (get_or sections k d).name)
        → (code_of (get_or sections k d).name ≡ 0) ⊎ ((used (code_of (get_or sections k d).name) || eqb (code_of s.name) (code_of (get_or sections k d).name)) ≡ false)
    other k d lt (inl none) differ = inl none
    other k d lt (inr unused) differ = go (eqb (code_of (get_or sections k d).name) 0) refl where
      go : (b : Bool) → eqb (code_of (get_or sections k d).name) 0 ≡ b
          → (code_of (get_or sections k d).name ≡ 0) ⊎ ((used (code_of (get_or sections k d).name) || eqb (code_of s.name) (code_of (get_or sections k d).name)) ≡ false)
      go true e = inl (eqb-true (code_of (get_or sections k d).name) 0 e)
      go false e =
          let some = eqb-false (code_of (get_or sections k d).name) 0 e in
          inr (or_from (used (code_of (get_or sections k d).name)) (eqb (code_of s.name) (code_of (get_or sections k d).name)) unused
          (ne_eqb (code_of s.name) (code_of (get_or sections k d).name)
          (λ (same : code_of s.name ≡ code_of (get_or sections k d).name). differ (λ (zero_code : code_of s.name ≡ 0). some (sym same ∙ zero_code)) same)))

-- ---- sections that can't be kept, or read

abbrev index_of : List Section → Section → Option Fault
index_of before s = fault_if s.name.is_index Index s.header.at

-- of a section with bytes that isn't compressed
pub kept_one : (all : List Section) (place name kind flags at size : ℕ) (text : List ℕ) → (kind ≡ 1) ⊎ (kind ≡ 3) → bit_and flags 0x800 ≡ 0
    → unkept_fault all (section_read place name kind flags at size 1 text) ≡ index_of [] (section_read place name kind flags at size 1 text)
unfolding unkept_fault_for
kept_one all place name kind flags at size text kinds plain = go kinds where
  free : (is_debug : Bool) → fault_if (is_debug && not (eqb (bit_and flags 0x800) 0)) Compressed place ≡ None
  free true = ap (λ (n : ℕ). fault_if (not (eqb n 0)) Compressed place) plain
  free false = refl

  one : (b is_debug : Bool) → (fault_if (b || false) Index place or fault_if (is_debug && not (eqb (bit_and flags 0x800) 0)) Compressed place) ≡ fault_if b Index place
  one true is_debug = refl
  one false is_debug = free is_debug

  go : (kind ≡ 1) ⊎ (kind ≡ 3) → unkept_fault all (section_read place name kind flags at size 1 text) ≡ fault_if (known_name (Some text)).is_index Index place
  go (inl is) = ap (λ (k : ℕ). unkept_fault all (section_read place name k flags at size 1 text)) is ∙ one (known_name (Some text)).is_index (known_name (Some text)).is_debug
  go (inr is) = ap (λ (k : ℕ). unkept_fault all (section_read place name k flags at size 1 text)) is ∙ one (known_name (Some text)).is_index (known_name (Some text)).is_debug

kept_all : (all before others tail : List Section) (place name at : ℕ) (sections : List PlainSection) → All (λ s. bit_and s.flags 0x800 ≡ 0) sections
    → ((b c : List Section) → first_in (λ x. unkept_fault all) b tail ≡ first_in index_of c tail)
    → first_in (λ x. unkept_fault all) before (sections_read place name at sections ++ tail) ≡ first_in index_of others (sections_read place name at sections ++ tail)
unfolding first_in
kept_all all before others tail place name at [] plain last = last before others
kept_all all before others tail place name at (s ∷ sections) plain last =
    let one = section_read place name 1 s.flags at (length s.bytes) 1 s.name in
    let here = kept_one all place name 1 s.flags at (length s.bytes) s.name (inl refl) (plain 0 s (omega arith)) in
    let rest = kept_all all (before ++ one ∷ []) (others ++ one ∷ []) tail (place + 64) (name + (length s.name + 1)) (at + length s.bytes) sections (λ k d lt. plain (suc k) d (omega (arith, lt)))
    last in
    (λ j. here j or rest j)

-- ---- sections that have to be there

codes_there : (c place name at : ℕ) (sections : List PlainSection) → list_any (has_code c) (sections_read place name at sections) ≡ list_any (λ (s : PlainSection). eqb (code_of s.name) c) sections
codes_there c place name at [] = refl
codes_there c place name at (s ∷ sections) = ap (λ (b : Bool). eqb (code_of s.name) c || b) (codes_there c (place + 64) (name + (length s.name + 1)) (at + length s.bytes) sections)

there : (c place name at : ℕ) (first last : Section) (sections : List PlainSection) → Any (λ s. code_of s.name ≡ c) sections
    → list_any (has_code c) (first ∷ (sections_read place name at sections ++ last ∷ [])) ≡ true
there c place name at first last sections any =
    let found : list_any (λ (s : PlainSection). eqb (code_of s.name) c) sections ≡ true = list_any-from_Any (λ (s : PlainSection). eqb (code_of s.name) c) sections
    (any.0, any.1, any.2, any.3, eq-eqb (code_of any.1.name) c any.4) in
    let middle : list_any (has_code c) (sections_read place name at sections ++ last ∷ []) ≡ true =
    list_any-append (has_code c) (sections_read place name at sections) (last ∷ []) ∙ ap (λ (b : Bool). b || list_any (has_code c) (last ∷ [])) (codes_there c place name at sections ∙ found) in
    ap (λ (b : Bool). has_code c first || b) middle ∙ or_true (has_code c first)
  where
    or_true : (b : Bool) → (b || true) ≡ true
    or_true true = refl
    or_true false = refl

-- ---- the file

identified : (back : List ℕ) → first_other 0 identification (identification ++ back) ≡ None
unfolding first_other
identified back = refl

module _ (machine flags : ℕ) (sections : List PlainSection) (fits : FitsPlain machine flags sections) (known : AreKnown sections) where
  abbrev file : List ℕ
  file = plain_file machine flags sections

  len : length file ≡ plain_headers_at sections + 64 * (length sections + 2)
  len = length_plain machine flags sections

  abbrev last_section : Section
  last_section = section_read (plain_headers_at sections + 64 + 64 * length sections) (1 + length (section_names sections)) 3 0 (plain_names_at sections) (length (plain_names sections)) 1
      (codes ".shstrtab")

  abbrev null_section : Section
  null_section = section_read (plain_headers_at sections) 0 0 0 0 0 0 []

  pub identification_fine : identification_fault file ≡ None
  unfolding identification_fault
  identification_fine =
      let first : first_other 0 identification file ≡ None = ap (first_other 0 identification) (parts machine flags sections fits) ∙ identified _ in
      none_or _ _ (ap wrong_byte first) (no_fault _ _ _ (le-ltb (length file) 64 (omega (arith, len))))

  pub fields_fine : field_fault (length file) (plain_fields machine flags sections) ≡ None
  unfolding field_fault_for
  fields_fine =
      let n = length sections in
      let behind = headers_behind sections in
      none_or _ _ refl
      (none_or _ _ (no_fault _ _ _ (ne_eqb (plain_headers_at sections) 0 (λ (e : plain_headers_at sections ≡ 0). omega (arith, e, behind))))
      (none_or _ _ refl
      (none_or _ _ (no_fault _ _ _ (or_from (eqb (n + 2) 0) (ltb 65278 (n + 2)) (ne_eqb (n + 2) 0 (λ (e : n + 2 ≡ 0). omega (arith, e))) (le-ltb 65278 (n + 2) fits.few)))
      (none_or _ _ (no_fault _ _ _ (or_from (eqb (n + 1) 0) (not (ltb (n + 1) (n + 2))) (ne_eqb (n + 1) 0 (λ (e : n + 1 ≡ 0). omega (arith, e))) (ap not (lt-ltb (n + 1) (n + 2) (omega arith)))))
      (none_or _ _ (no_fault _ _ _ (le-ltb (length file) (plain_headers_at sections + 64 * (n + 2)) (omega (arith, len)))) refl)))))

  pub names_fine : names_fault (length file) (names_header file) ≡ None
  unfolding names_fault
  names_fine =
      let behind = headers_behind sections in
      ap (names_fault (length file)) (names_header_is machine flags sections fits)
      ∙ no_fault _ _ _ (le-ltb (length file) (plain_names_at sections + length (plain_names sections)) (omega (arith, len, behind)))

  no_used : (k : ℕ) (d : PlainSection) → k < length sections → (code_of (get_or sections k d).name ≡ 0) ⊎ (list_any (has_code (code_of (get_or sections k d).name)) (null_section ∷ []) ≡ false)
  no_used k d lt = inr refl

  pub headers_ok : first_in (header_fault (length file) (length sections + 1)) [] (plain_sections sections) ≡ None
  unfolding first_in header_fault
  headers_ok =
      let behind = headers_behind sections in
      let last : first_in (header_fault (length file) (length sections + 1)) ((null_section ∷ []) ++ sections_read (plain_headers_at sections + 64) 1 64 sections) (last_section ∷ []) ≡ None =
      none_or _ _ (no_fault _ _ _ (or_from (not (is_power_of_two 1)) _ (ap not one_power)
      (or_from (ltb 0 (length (plain_names sections)) && (ltb (length file) (plain_names_at sections + length (plain_names sections)) || ltb (plain_names_at sections) 64)) _
      (placed (length file) (plain_names_at sections) (length (plain_names sections)) (omega arith) (omega (arith, len, behind)) (ltb 0 (length (plain_names sections)))) refl))) refl in
      none_or _ _ refl
      (headers_fine (length file) (length sections + 1) (null_section ∷ []) (last_section ∷ []) (plain_headers_at sections + 64) 1 64 sections (omega arith) (omega (arith, len, behind)) (omega arith)
      (fresh_of (λ c. list_any (has_code c) (null_section ∷ [])) sections known.different no_used) last)

  pub null_fine : (all : List Section) → unkept_fault all null_section ≡ None
  unfolding unkept_fault_for
  null_fine all = refl

  kept_are : first_in (λ x. unkept_fault (plain_sections sections)) [] (plain_sections sections) ≡ index_fault (plain_sections sections)
  unfolding first_in
  kept_are =
      let all = plain_sections sections in
      let null_kept : unkept_fault all null_section ≡ None = null_fine all in
      let last : (b c : List Section) → first_in (λ x. unkept_fault all) b (last_section ∷ []) ≡ first_in index_of c (last_section ∷ []) = λ b c.
      (λ j. kept_one all (plain_headers_at sections + 64 + 64 * length sections) (1 + length (section_names sections)) 3 0 (plain_names_at sections) (length (plain_names sections)) (codes ".shstrtab")
      (inr refl) refl j or None) in
      let others = kept_all all (null_section ∷ []) (null_section ∷ []) (last_section ∷ []) (plain_headers_at sections + 64) 1 64 sections known.uncompressed last in
      (λ j. null_kept j or others j)

  pub debug_there : missing_fault (plain_sections sections) ≡ None
  unfolding missing_fault
  debug_there =
      let info = there 1 (plain_headers_at sections + 64) 1 64 null_section last_section sections known.info in
      let abbrevs = there 2 (plain_headers_at sections + 64) 1 64 null_section last_section sections known.abbrevs in
      no_fault _ _ _ (λ j. not (info j) || not (abbrevs j))

  pub faults_are : elf_fault file ≡ index_fault (plain_sections sections)
  unfolding elf_fault_for
  faults_are =
      let fields = ap (field_fault (length file)) (fields_read machine flags sections fits) ∙ fields_fine in
      let seen = sections_are machine flags sections fits in
      let headers : first_in (header_fault (length file) (file_header file).names) [] (sections_in file) ≡ None =
      (λ j. first_in (header_fault (length file) (fields_read machine flags sections fits j).names) [] (seen j)) ∙ headers_ok in
      let kept : first_in (λ x. unkept_fault (sections_in file)) [] (sections_in file) ≡ index_fault (plain_sections sections) = (λ j. first_in (λ x. unkept_fault (seen j)) [] (seen j)) ∙ kept_are in
      let debug : missing_fault (sections_in file) ≡ None = ap missing_fault seen ∙ debug_there in
      (λ j. identification_fine j or (fields j or (names_fine j or (headers j or (kept j or debug j))))) ∙ or_none (index_fault (plain_sections sections))
