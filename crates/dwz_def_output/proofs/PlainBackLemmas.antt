-- A file of the plain layout is read back: its sections by their codes, and that it has no fault but `.debug_sup`.
use Rattle.std.proofs.Common.{◌≡◌, ◌<◌, ◌^◌, ◌≢◌, ◌⊎◌, inl, inr, ℕ, zero, suc, ◌+◌, ◌*◌, Bool, true, false, cond, eqb, List, [], ◌∷◌, ◌++◌, length, map, All, Option, Some, None, refl, sym, ap, subst}
use Rattle.std.proofs.Common.{◌∙◌, codes, arith}
use Rattle.std.specs.Prelude.{bit_and, not, slice_get, unwrap_or}
use Rattle.std.proofs.lemmas.Bool.{ne_eqb}
use Rattle.dwz_model.specs.declared.fault.Fault.{Fault}
use Rattle.dwz_model.specs.declared.fault.Reason.TheVariants.{Index}
use Rattle.dwz_model.specs.declared.sections.Sections.{Sections}
use Rattle.dwz_def_reading.specs.declared.elf.Section.{Section}
use Rattle.dwz_def_reading.specs.ElfHeaders.{content, file_header}
use Rattle.dwz_def_reading.specs.ElfNames.{code_of, known_name, sections_in}
use Rattle.dwz_def_reading.specs.ElfReading.{bytes_in, fault_if, field_fault, first_in, has_code, header_fault, missing_fault, range_in, section_range, unkept_fault}
use Rattle.dwz_def_reading.specs.PlainFile.{AreKnown, FitsPlain, PlainSection, if_there, plain_file, plain_headers_at, plain_names, plain_names_at, plain_section, plain_sections}
use Rattle.dwz_def_reading.specs.PlainFile.{supplementary_sections}
use Rattle.dwz_def_reading.specs.PlainFile.{section_names, section_read, sections_read, text_section_of}
use Rattle.dwz_def_reading.specs.Supplementary.{sup_bytes}
use Rattle.dwz_def_reading.proofs.PlainFaults.{debug_there, fields_fine, headers_ok, identification_fine, kept_one, names_fine, null_fine}
use Rattle.dwz_def_reading.proofs.PlainReads.{contents_seen, fields_read, sections_are}
use Rattle.dwz_def_reading.specs.Files.{section_of, sources_of}
use Rattle.dwz_def_reading.specs.ElfFaults.{IsElfFaultFor, by_itself, read_back}
use Rattle.dwz_def_reading.proofs.RangeBytes.{bytes_short}
use Rattle.dwz_def_output.specs.PlainBack.{OnlySup, plain_content, sources_in, supplementary_file}
use Rattle.dwz_def_output.proofs.BackLemmas.{IsPlainSup, no_back_fault}
use Rattle.dwz_def_output.proofs.FaultLemmas.{HasGoodFields, good_fields}
use Rattle.dwz_def_output.proofs.NameLemmas.{in_both}

-- ---- contents by codes

-- the content of the first section with a code, of sections with these contents
first_content : List Section → List (List ℕ) → ℕ → List ℕ
first_content [] contents code = []
first_content (s ∷ sections) [] code = []
first_content (s ∷ sections) (c ∷ contents) code = cond (has_code code s) c (first_content sections contents code)

by_contents : (bytes : List ℕ) (xs : List Section) (code : ℕ) → bytes_in bytes (range_in xs code) ≡ first_content xs (map (λ (s : Section). content bytes s.header) xs) code
unfolding first_content
by_contents bytes [] code = refl
by_contents bytes (x ∷ xs) code =
    elim (has_code code x) as (λ b. bytes_in bytes (cond b (Some (x.header.offset, x.header.size)) (range_in xs code))
    ≡ cond b (content bytes x.header) (first_content xs (map (λ (s : Section). content bytes s.header) xs) code)) [
      | true ↦ refl
      | false ↦ by_contents bytes xs code
    ]

-- the name table behind them has no code
plain_first : (code place name at last_place last_name last_at last_size : ℕ) (table : List ℕ) (sections : List PlainSection) → code ≢ 0
    → first_content (sections_read place name at sections ++ section_read last_place last_name 3 0 last_at last_size 1 (codes ".shstrtab") ∷ [])
    (map (λ (s : PlainSection). s.bytes) sections ++ table ∷ []) code ≡ plain_content sections code
unfolding first_content
plain_first code place name at last_place last_name last_at last_size table [] some = rw (ne_eqb 0 code (λ none. some (sym none))) refl
plain_first code place name at last_place last_name last_at last_size table (s ∷ sections) some =
    ap (cond (eqb (code_of s.name) code) s.bytes) (plain_first code (place + 64) (name + (length s.name + 1)) (at + length s.bytes) last_place last_name last_at last_size table sections some)

pub plain_contents_read : (machine flags : ℕ) (sections : List PlainSection) → FitsPlain machine flags sections → (code : ℕ) → code ≢ 0
    → section_of (plain_file machine flags sections) code ≡ plain_content sections code
unfolding section_of section_range first_content
plain_contents_read machine flags sections fits code some =
    let file = plain_file machine flags sections in
    let seen = sections_are machine flags sections fits in
    let contents = contents_seen machine flags sections fits in
    let first : section_of file code ≡ bytes_in file (range_in (sections_in file) code) = rw (ne_eqb code 0 some) refl in
    first
    ∙ (by_contents file (sections_in file) code
    ∙ ((λ j. first_content (seen j) (contents j) code)
    ∙ plain_first code (plain_headers_at sections + 64) 1 64 (plain_headers_at sections + 64 + 64 * length sections) (1 + length (section_names sections)) (plain_names_at sections)
    (length (plain_names sections)) (plain_names sections) sections some))

-- ---- no fault

-- each section is kept, or is `.debug_sup`
one_plain : (all : List Section) (place name at : ℕ) (s : PlainSection) → bit_and s.flags 0x800 ≡ 0 → ((known_name (Some s.name)).is_index ≡ true → code_of s.name ≡ 9)
    → (unkept_fault all (section_read place name 1 s.flags at (length s.bytes) 1 s.name) ≡ None) ⊎ IsPlainSup (section_read place name 1 s.flags at (length s.bytes) 1 s.name)
one_plain all place name at s plain only = by (known_name (Some s.name)).is_index refl where
  kept : unkept_fault all (section_read place name 1 s.flags at (length s.bytes) 1 s.name) ≡ fault_if (known_name (Some s.name)).is_index Index place
  kept = kept_one all place name 1 s.flags at (length s.bytes) s.name (inl refl) plain

  by : (b : Bool) → (known_name (Some s.name)).is_index ≡ b
      → (unkept_fault all (section_read place name 1 s.flags at (length s.bytes) 1 s.name) ≡ None) ⊎ IsPlainSup (section_read place name 1 s.flags at (length s.bytes) 1 s.name)
  by true is = inr (record { there = refl; code = only is; no_relocations = refl; whole = ap (λ (n : ℕ). not (eqb n 0)) plain })
  by false is = inl (kept ∙ ap (λ (b : Bool). fault_if b Index place) is)

all_plain : (all : List Section) (place name at : ℕ) (sections : List PlainSection) → All (λ s. bit_and s.flags 0x800 ≡ 0) sections → OnlySup sections → (k : ℕ) (s : Section)
    → slice_get (sections_read place name at sections) k ≡ Some s
    → (unkept_fault all s ≡ None) ⊎ IsPlainSup s
all_plain all place name at [] plain only k s is = absurd cc
all_plain all place name at (p ∷ sections) plain only zero s is =
    let same : section_read place name 1 p.flags at (length p.bytes) 1 p.name ≡ s = cc in
    subst (λ (t : Section). (unkept_fault all t ≡ None) ⊎ IsPlainSup t) same (one_plain all place name at p (plain 0 p (omega arith)) only.0)
all_plain all place name at (p ∷ sections) plain only (suc k) s is =
    all_plain all (place + 64) (name + (length p.name + 1)) (at + length p.bytes) sections (λ i d lt. plain (suc i) d (omega (arith, lt))) only.1 k s is

module _ (machine flags : ℕ) (sections : List PlainSection) (fits : FitsPlain machine flags sections) (known : AreKnown sections) (only : OnlySup sections) where
  each_kept : (k : ℕ) (s : Section) → slice_get (plain_sections sections) k ≡ Some s → (unkept_fault (plain_sections sections) s ≡ None) ⊎ IsPlainSup s
  each_kept zero s is =
      let same : section_read (plain_headers_at sections) 0 0 0 0 0 0 [] ≡ s = cc in
      inl (ap (unkept_fault (plain_sections sections)) (sym same) ∙ null_fine machine flags sections fits known (plain_sections sections))
  each_kept (suc k) s is =
      let all = plain_sections sections in
      let place = plain_headers_at sections + 64 + 64 * length sections in
      let last = section_read place (1 + length (section_names sections)) 3 0 (plain_names_at sections) (length (plain_names sections)) 1 (codes ".shstrtab") in
      elim (in_both (sections_read (plain_headers_at sections + 64) 1 64 sections) (last ∷ []) k s is) [
        | inl here ↦ all_plain all (plain_headers_at sections + 64) 1 64 sections known.uncompressed only k s here
        | inr behind ↦ inl (by behind.0 behind.1)
      ]
    where
      by : (j : ℕ) → slice_get (section_read (plain_headers_at sections + 64 + 64 * length sections) (1 + length (section_names sections)) 3 0 (plain_names_at sections) (length (plain_names sections))
          1 (codes ".shstrtab") ∷ []) j ≡ Some s
          → unkept_fault (plain_sections sections) s ≡ None
      by zero here =
          let same : section_read (plain_headers_at sections + 64 + 64 * length sections) (1 + length (section_names sections)) 3 0 (plain_names_at sections) (length (plain_names sections)) 1
          (codes ".shstrtab") ≡ s = cc in
          ap (unkept_fault (plain_sections sections)) (sym same)
          ∙ kept_one (plain_sections sections) (plain_headers_at sections + 64 + 64 * length sections) (1 + length (section_names sections)) 3 0 (plain_names_at sections)
          (length (plain_names sections)) (codes ".shstrtab") (inr refl) refl
      by (suc j) here = absurd cc

  good : HasGoodFields 65279 (length (plain_file machine flags sections)) (file_header (plain_file machine flags sections))
  good =
      let file = plain_file machine flags sections in
      let fields = ap (field_fault (length file)) (fields_read machine flags sections fits) ∙ fields_fine machine flags sections fits known in
      let g = good_fields by_itself (length file) (file_header file) fields in
      let few = g.few in
      record { kind = g.kind; some_place = g.some_place; size = g.size; some = g.some; few = omega (arith, few); some_names = g.some_names; names = g.names; table = g.table; programs = g.programs }

  pub plain_back : (f : Fault) → ¬ IsElfFaultFor read_back (plain_file machine flags sections) f
  plain_back =
      let file = plain_file machine flags sections in
      let seen = sections_are machine flags sections fits in
      no_back_fault file (record {
        identified = identification_fine machine flags sections fits known;
        fields = good;
        names = names_fine machine flags sections fits known;
        headers = (λ j. first_in (header_fault (length file) (fields_read machine flags sections fits j).names) [] (seen j)) ∙ headers_ok machine flags sections fits known;
        kept = λ k s is. subst (λ (xs : List Section). (unkept_fault xs s ≡ None) ⊎ IsPlainSup s) (sym seen) (each_kept k s (ap (λ (xs : List Section). slice_get xs k) (sym seen) ∙ is));
        debug = ap missing_fault seen ∙ debug_there machine flags sections fits known;
      })

-- ---- the supplementary file

only_both : (xs ys : List PlainSection) → OnlySup xs → OnlySup ys → OnlySup (xs ++ ys)
only_both [] ys one other = other
only_both (x ∷ xs) ys one other = (one.0, only_both xs ys one.1 other)

only_if : (section : List ℕ → PlainSection) (o : Option (List ℕ)) → ((b : List ℕ) → (known_name (Some (section b).name)).is_index ≡ false) → OnlySup (if_there section o)
only_if section None plain = tt
only_if section (Some b) plain = (λ is. absurd (let not_so = plain b in cc), tt)

pub common_only : (s : Sections) (sum : List ℕ) → OnlySup (supplementary_sections s sum)
common_only s sum = (
  λ is. absurd cc,
  (
    λ is. absurd cc,
    only_both (if_there text_section_of s.strs) _ (only_if text_section_of s.strs (λ b. refl))
        (only_both (if_there (plain_section (codes ".debug_str_offsets")) s.offsets) _ (only_if (plain_section (codes ".debug_str_offsets")) s.offsets (λ b. refl))
        (only_both (if_there (plain_section (codes ".debug_line")) s.line) _ (only_if (plain_section (codes ".debug_line")) s.line (λ b. refl))
        (only_both (if_there (plain_section (codes ".debug_loclists")) s.loclists) _ (only_if (plain_section (codes ".debug_loclists")) s.loclists (λ b. refl))
        (only_both (if_there (plain_section (codes ".debug_aranges")) s.aranges) _ (only_if (plain_section (codes ".debug_aranges")) s.aranges (λ b. refl)) (λ is. refl, tt))))),
  ),
)

-- a section that may be there, by its code or by others
is_it : (section : List ℕ → PlainSection) (o : Option (List ℕ)) (ys : List PlainSection) (code : ℕ) → ((b : List ℕ) → eqb (code_of (section b).name) code ≡ true)
    → ((b : List ℕ) → (section b).bytes ≡ b) → plain_content ys code ≡ [] → plain_content (if_there section o ++ ys) code ≡ unwrap_or o []
is_it section None ys code named holds rest = rest
is_it section (Some b) ys code named holds rest = rw (named b) (holds b)

is_other : (section : List ℕ → PlainSection) (o : Option (List ℕ)) (ys : List PlainSection) (code : ℕ) → ((b : List ℕ) → eqb (code_of (section b).name) code ≡ false)
    → plain_content (if_there section o ++ ys) code ≡ plain_content ys code
is_other section None ys code named = refl
is_other section (Some b) ys code named = rw (named b) refl

module _ (s : Sections) (sum : List ℕ) where
  abbrev sup : List ℕ
  sup = sup_bytes (record { supplementary = true; name = []; sum = sum })

  -- the sections from one on
  abbrev from_sup : List PlainSection
  from_sup = plain_section (codes ".debug_sup") sup ∷ []

  abbrev from_aranges : List PlainSection
  from_aranges = if_there (plain_section (codes ".debug_aranges")) s.aranges ++ from_sup

  abbrev from_lists : List PlainSection
  from_lists = if_there (plain_section (codes ".debug_loclists")) s.loclists ++ from_aranges

  abbrev from_line : List PlainSection
  from_line = if_there (plain_section (codes ".debug_line")) s.line ++ from_lists

  abbrev from_offsets : List PlainSection
  from_offsets = if_there (plain_section (codes ".debug_str_offsets")) s.offsets ++ from_line

  abbrev from_strs : List PlainSection
  from_strs = if_there text_section_of s.strs ++ from_offsets

  skip_aranges : (code : ℕ) → eqb 8 code ≡ false → plain_content from_aranges code ≡ plain_content from_sup code
  skip_aranges code other = is_other (plain_section (codes ".debug_aranges")) s.aranges from_sup code (λ b. other)

  skip_lists : (code : ℕ) → eqb 7 code ≡ false → plain_content from_lists code ≡ plain_content from_aranges code
  skip_lists code other = is_other (plain_section (codes ".debug_loclists")) s.loclists from_aranges code (λ b. other)

  skip_line : (code : ℕ) → eqb 6 code ≡ false → plain_content from_line code ≡ plain_content from_lists code
  skip_line code other = is_other (plain_section (codes ".debug_line")) s.line from_lists code (λ b. other)

  skip_offsets : (code : ℕ) → eqb 5 code ≡ false → plain_content from_offsets code ≡ plain_content from_line code
  skip_offsets code other = is_other (plain_section (codes ".debug_str_offsets")) s.offsets from_line code (λ b. other)

  skip_strs : (code : ℕ) → eqb 3 code ≡ false → plain_content from_strs code ≡ plain_content from_offsets code
  skip_strs code other = is_other text_section_of s.strs from_offsets code (λ b. other)

  pub in_strs : plain_content (supplementary_sections s sum) 3 ≡ unwrap_or s.strs []
  in_strs = is_it text_section_of s.strs from_offsets 3 (λ b. refl) (λ b. refl) (skip_offsets 3 refl ∙ (skip_line 3 refl ∙ (skip_lists 3 refl ∙ skip_aranges 3 refl)))

  pub in_line_strs : plain_content (supplementary_sections s sum) 4 ≡ []
  in_line_strs = skip_strs 4 refl ∙ (skip_offsets 4 refl ∙ (skip_line 4 refl ∙ (skip_lists 4 refl ∙ skip_aranges 4 refl)))

  pub in_offsets : plain_content (supplementary_sections s sum) 5 ≡ unwrap_or s.offsets []
  in_offsets = skip_strs 5 refl ∙ is_it (plain_section (codes ".debug_str_offsets")) s.offsets from_line 5 (λ b. refl) (λ b. refl) (skip_line 5 refl ∙ (skip_lists 5 refl ∙ skip_aranges 5 refl))

  pub in_line : plain_content (supplementary_sections s sum) 6 ≡ unwrap_or s.line []
  in_line = skip_strs 6 refl ∙ (skip_offsets 6 refl ∙ is_it (plain_section (codes ".debug_line")) s.line from_lists 6 (λ b. refl) (λ b. refl) (skip_lists 6 refl ∙ skip_aranges 6 refl))

  pub in_lists : plain_content (supplementary_sections s sum) 7 ≡ unwrap_or s.loclists []
  in_lists = skip_strs 7 refl ∙ (skip_offsets 7 refl ∙ (skip_line 7 refl ∙ is_it (plain_section (codes ".debug_loclists")) s.loclists from_aranges 7 (λ b. refl) (λ b. refl) (skip_aranges 7 refl)))

  pub in_aranges : plain_content (supplementary_sections s sum) 8 ≡ unwrap_or s.aranges []
  in_aranges = skip_strs 8 refl ∙ (skip_offsets 8 refl ∙ (skip_line 8 refl ∙ (skip_lists 8 refl ∙ is_it (plain_section (codes ".debug_aranges")) s.aranges from_sup 8 (λ b. refl) (λ b. refl) refl)))

  pub in_sup : plain_content (supplementary_sections s sum) 9 ≡ sup
  in_sup = skip_strs 9 refl ∙ (skip_offsets 9 refl ∙ (skip_line 9 refl ∙ (skip_lists 9 refl ∙ skip_aranges 9 refl)))

module _ (machine flags : ℕ) (s : Sections) (sum : List ℕ) (fits : FitsPlain machine flags (supplementary_sections s sum)) where
  by_code : (code : ℕ) → code ≢ 0 → section_of (supplementary_file machine flags s sum) code ≡ plain_content (supplementary_sections s sum) code
  by_code = plain_contents_read machine flags (supplementary_sections s sum) fits

  pub info_read : section_of (supplementary_file machine flags s sum) 1 ≡ s.info
  info_read = by_code 1 (λ e. absurd cc)

  pub abbrev_read : section_of (supplementary_file machine flags s sum) 2 ≡ s.«abbrev»
  abbrev_read = by_code 2 (λ e. absurd cc)

  pub aranges_read : section_of (supplementary_file machine flags s sum) 8 ≡ unwrap_or s.aranges []
  aranges_read = by_code 8 (λ e. absurd cc) ∙ in_aranges s sum

  pub sup_read : section_of (supplementary_file machine flags s sum) 9 ≡ sup_bytes (record { supplementary = true; name = []; sum = sum })
  sup_read = by_code 9 (λ e. absurd cc) ∙ in_sup s sum

  pub sources_read : sources_of (supplementary_file machine flags s sum) ≡ sources_in s
  sources_read =
      let strs = by_code 3 (λ e. absurd cc) ∙ in_strs s sum in
      let line_strs = by_code 4 (λ e. absurd cc) ∙ in_line_strs s sum in
      let offsets = by_code 5 (λ e. absurd cc) ∙ in_offsets s sum in
      let line = by_code 6 (λ e. absurd cc) ∙ in_line s sum in
      let lists = by_code 7 (λ e. absurd cc) ∙ in_lists s sum in
      (λ j. record { strs = strs j; line_strs = line_strs j; offsets = offsets j; line = line j; lists = lists j })

  pub common_short : (code : ℕ) → length (section_of (supplementary_file machine flags s sum) code) < 2 ^ 32
  unfolding section_of
  common_short code = let small = fits.small in omega (arith, bytes_short (supplementary_file machine flags s sum) (section_range (sections_in (supplementary_file machine flags s sum)) code), small)
