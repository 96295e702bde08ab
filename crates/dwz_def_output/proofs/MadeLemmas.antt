-- What is read of an ELF file that is made from another: its header, its name table, and each of its sections.
use Rattle.std.proofs.Common.{◌≡◌, ◌≢◌, ◌⊎◌, inl, inr, ℕ, zero, suc, ◌+◌, ◌*◌, ◌^◌, ◌<◌, ◌≤◌, true, false, cond, eqb, List, [], ◌∷◌, ◌++◌, length, map, take, drop, get_or, Option, Some, None, refl}
use Rattle.std.proofs.Common.{sym, ap, subst, ◌∙◌, codes, arith}
use Rattle.std.specs.Prelude.{◌&&◌, not, slice_get, is_some}
use Rattle.std.specs.Option.{unwrap_or}
use Rattle.std.specs.List.{AllZip, list_any}
use Rattle.std.proofs.lemmas.Bool.{cases_lt}
use Rattle.std.proofs.lemmas.List.{append-nil, length-append, length-drop, length-take, map-append}
use Rattle.std.proofs.lemmas.List.Elements.{length_all_zip}
use Rattle.std.proofs.lemmas.Option.{slice_get_within}
use Rattle.dwz_def_reading.specs.declared.elf.FileHeader.{FileHeader}
use Rattle.dwz_def_reading.specs.declared.elf.Header.{Header}
use Rattle.dwz_def_reading.specs.declared.elf.Section.{Section}
use Rattle.dwz_def_reading.specs.ElfFaults.{by_itself}
use Rattle.dwz_def_reading.specs.ElfHeaders.{content, end_of, file_header, header_at, headers_from, is_there, number_at}
use Rattle.dwz_def_reading.specs.ElfLayout.{Changes, added_bytes, added_name, content_at, moved_header, moved_in, names_size, new_count, numbers, placed_of, rebuilt_length, sup_header}
use Rattle.dwz_def_reading.specs.ElfNames.{known_name, name_at, name_table, names_header, sections_in}
use Rattle.dwz_def_reading.specs.ElfNames
use Rattle.dwz_def_reading.specs.ElfReading.{elf_of, first_in, has_code, header_fault}
use Rattle.dwz_def_reading.specs.PlainFile.{section_read}
use Rattle.dwz_def_reading.proofs.PlainReads.{all_fields, header_of, header_read}
use Rattle.dwz_def_output.specs.Rebuilt.{CanBeMade, HasSameFields, new_file}
use Rattle.dwz_def_output.proofs.FaultLemmas.{HasGoodFields, HasNoFault, ends_there, good_fields, long_enough, names_there, names_within, no_faults, table_some}
use Rattle.dwz_def_output.proofs.MovedLemmas.{IsMadeAt, coded_content, made_one, names_content, placed_bytes}
use Rattle.dwz_def_output.proofs.NameLemmas.{added_name_read, no_sup, same_name}
use Rattle.dwz_def_output.proofs.OldLemmas.{first_at, is_old, keep_some, names_no_code}
use Rattle.dwz_def_output.proofs.PieceLemmas.{has_in, same_number}
use Rattle.dwz_def_output.proofs.SectionLemmas.{IsMade, all_made, same_codes}
use Rattle.dwz_def_output.proofs.ShapeLemmas.{IsWhole, fits, has_headers, has_sup, is_new, kept_same, length_rebuilt, length_to_sup, reads_count, reads_place, small_length, sup_header_behind, the_end}
use Rattle.dwz_def_output.proofs.ShapeLemmas.{the_headers, the_headers_at, to_sup}
use Rattle.dwz_def_output.proofs.TableLemmas.{SameName, header_moved, headers_last, length-sections, moved_sections, moved_to, new_header_there, section_at, sections_moved}

-- what is known of the old file
pub old_good : (input : List ℕ) → HasNoFault by_itself input → HasGoodFields 65278 (length input) (file_header input)
old_good input none = good_fields by_itself (length input) (file_header input) none.fields

old_section : (input : List ℕ) (k : ℕ) → k < (file_header input).headers
    → slice_get (sections_in input) k ≡ Some (ElfNames.section_named (name_table input) (header_at input ((file_header input).headers_at + 64 * k)))
old_section input k less = section_at (ElfNames.section_named (name_table input)) input (file_header input).headers_at (file_header input).headers k less

section_within : (input : List ℕ) (k : ℕ) (s : Section) → slice_get (sections_in input) k ≡ Some s → k < (file_header input).headers
section_within input k s is =
    let less = slice_get_within (sections_in input) k s is in
    omega (arith, less, length-sections (ElfNames.section_named (name_table input)) input (file_header input).headers_at (file_header input).headers)

all_whole : (input : List ℕ) → HasNoFault by_itself input → (k : ℕ) (s : Section) → slice_get (sections_in input) k ≡ Some s → s.header.at + 64 ≤ length input
all_whole input none k s is =
    let less = section_within input k s is in
    let here = old_section input k less in
    let same : s ≡ ElfNames.section_named (name_table input) (header_at input ((file_header input).headers_at + 64 * k)) = cc in
    let place : s.header.at ≡ (file_header input).headers_at + 64 * k = ap (λ (w : Section). w.header.at) same in
    omega (arith, place, less, (old_good input none).table)

-- each name ends in the name table
name_ends : (input : List ℕ) → HasNoFault by_itself input → (k : ℕ) → k < (file_header input).headers
    → (known_name (name_at (name_table input) (header_at input ((file_header input).headers_at + 64 * k)).name)).ends ≡ true
name_ends input none k less =
    let s = ElfNames.section_named (name_table input) (header_at input ((file_header input).headers_at + 64 * k)) in
    let header = first_at (header_fault (length input) (file_header input).names) [] (sections_in input) k s none.headers (old_section input k less) in
    ends_there (length input) (file_header input).names header.0 s header.2

-- some name ends, so the name table has bytes
some_names_by : (input table : List ℕ) (names at n : ℕ) → 0 < n → first_in (header_fault (length input) names) [] (map (ElfNames.section_named table) (headers_from input at n)) ≡ None → table ≢ []
unfolding headers_from
some_names_by input table names at zero some faultless = absurd (omega (arith, some))
some_names_by input table names at (suc n) some faultless = table_some (length input) names table (header_at input at) (headers_from input (at + 64) n) faultless

some_names : (input : List ℕ) → HasNoFault by_itself input → name_table input ≢ []
some_names input none = some_names_by input (name_table input) (file_header input).names (file_header input).headers_at (file_header input).headers (old_good input none).some none.headers

names_size_some : (input : List ℕ) → HasNoFault by_itself input → 0 < (names_header input).size
names_size_some input none =
    elim (cases_lt 0 (names_header input).size) [
      | inl some ↦ some
      | inr empty ↦
          let size : (names_header input).size ≡ 0 = omega (arith, empty) in
          absurd (some_names input none (ap (λ n. take n (drop (names_header input).offset input)) size))
    ]

pub whole : (input : List ℕ) (changes : Changes) (order : List (ℕ × ℕ)) → CanBeMade input changes order → IsWhole (elf_of input) changes input order
unfolding elf_of
whole input changes order can =
    let none = no_faults by_itself input can.reads in
    record {
      counted = length-sections (ElfNames.section_named (name_table input)) input (file_header input).headers_at (file_header input).headers;
      few = (old_good input none).few;
      whole = all_whole input none;
      small = can.small;
    }

-- two files with the same fields but two
pub file_fields : (old new : List ℕ) (count : ℕ) → number_at new 16 2 ≡ number_at old 16 2 → number_at new 18 2 ≡ number_at old 18 2 → number_at new 32 8 ≡ number_at old 32 8
    → number_at new 48 4 ≡ number_at old 48 4 → number_at new 54 2 ≡ number_at old 54 2 → number_at new 56 2 ≡ number_at old 56 2 → number_at new 58 2 ≡ number_at old 58 2 → number_at new 60 2 ≡ count
    → number_at new 62 2 ≡ number_at old 62 2 → HasSameFields count (file_header old) (file_header new)
file_fields old new count kind machine programs_at flags program_size programs size counted names = rw (kind, machine, programs_at, flags, program_size, programs, size, counted, names) refl

-- the number of section headers, by whether one is added
pub counted_by : (sup : Option (List ℕ)) (n : ℕ) → n ≤ n + cond (is_some sup) 1 0
counted_by None n = omega arith
counted_by (Some sup) n = omega arith

module _ (input : List ℕ) (changes : Changes) (order : List (ℕ × ℕ)) (can : CanBeMade input changes order) where
  pub none : HasNoFault by_itself input
  none = no_faults by_itself input can.reads

  pub is_whole : IsWhole (elf_of input) changes input order
  is_whole = whole input changes order can

  pub same_length : length (new_file input changes order) ≡ rebuilt_length (elf_of input) changes input order
  same_length = length_rebuilt (elf_of input) changes input order is_whole

  pub short : length (new_file input changes order) < 2 ^ 32
  short = small_length (elf_of input) changes input order is_whole

  -- ---- the file header

  long_old : 64 ≤ length input
  long_old = long_enough input none.identified

  pub long_new : 64 ≤ length (new_file input changes order)
  long_new = let new = is_new (elf_of input) changes input order is_whole in omega (arith, new.within, new.some)

  -- a field of the file header stays
  field_same : (k w : ℕ) → k + w ≤ 64 → (k + w ≤ 40) ⊎ (48 ≤ k) → (k + w ≤ 60) ⊎ (62 ≤ k) → number_at (new_file input changes order) k w ≡ number_at input k w
  field_same k w within first second =
      let kept = keep_some (elf_of input) in
      same_number (new_file input changes order) input k k w (omega (arith, long_new, within)) (omega (arith, long_old, within))
      (λ i less. kept_same (elf_of input) changes input order is_whole (k + i) (omega (arith, within, less, kept))
      (elim first [ inl h ↦ inl (omega (arith, h, less)) | inr h ↦ inr (omega (arith, h)) ])
      (elim second [ inl h ↦ inl (omega (arith, h, less)) | inr h ↦ inr (omega (arith, h)) ]))

  pub same_file : HasSameFields (new_count (elf_of input) changes) (file_header input) (file_header (new_file input changes order))
  same_file =
      file_fields input (new_file input changes order) (new_count (elf_of input) changes)
      (field_same 16 2 (omega arith) (inl (omega arith)) (inl (omega arith)))
      (field_same 18 2 (omega arith) (inl (omega arith)) (inl (omega arith)))
      (field_same 32 8 (omega arith) (inl (omega arith)) (inl (omega arith)))
      (field_same 48 4 (omega arith) (inr (omega arith)) (inl (omega arith)))
      (field_same 54 2 (omega arith) (inr (omega arith)) (inl (omega arith)))
      (field_same 56 2 (omega arith) (inr (omega arith)) (inl (omega arith)))
      (field_same 58 2 (omega arith) (inr (omega arith)) (inl (omega arith)))
      (reads_count (elf_of input) changes input order is_whole)
      (field_same 62 2 (omega arith) (inr (omega arith)) (inr (omega arith)))

  pub same_identified : (i : ℕ) → i < 7 → get_or (new_file input changes order) i 0 ≡ get_or input i 0
  same_identified i less = kept_same (elf_of input) changes input order is_whole i (let kept = keep_some (elf_of input) in omega (arith, less, kept)) (inl (omega (arith, less)))
      (inl (omega (arith, less)))

  -- the file header with the section headers at their new place
  unfoldable pub with_place : FileHeader
  with_place = record (file_header input) { headers_at = the_headers_at (elf_of input) changes input order; headers = new_count (elf_of input) changes }

  pub is_with_place : file_header (new_file input changes order) ≡ with_place
  unfolding with_place
  is_with_place = same_file ∙ ap (λ (n : ℕ). record (file_header input) { headers_at = n; headers = new_count (elf_of input) changes }) (reads_place (elf_of input) changes input order is_whole)

  -- ---- the sections that were there

  header_there : (k : ℕ) → k < (file_header input).headers
      → header_at (new_file input changes order) (the_headers_at (elf_of input) changes input order + 64 * k)
      ≡ moved_to (the_headers_at (elf_of input) changes input order + 64 * k) (moved_in (placed_of (elf_of input) changes input order) (0 + k))
      (header_at input ((file_header input).headers_at + 64 * k))
  unfolding elf_of
  header_there k less =
      let e = elf_of input in
      let h = header_at input ((file_header input).headers_at + 64 * k) in
      let s = ElfNames.section_named (name_table input) h in
      let placed = placed_of e changes input order in
      let at = the_headers_at e changes input order in
      let is = old_section input k less in
      let here = new_header_there input placed 0 (sections_in input) k s (all_whole input none) is in
      let there = has_in (new_file input changes order) (the_headers e changes input order) (moved_header (take 64 (drop s.header.at input)) (moved_in placed (0 + k))) at (64 * k)
      (has_headers e changes input order is_whole) here in
      header_moved input (new_file input changes order) s.header.at (at + 64 * k) (moved_in placed (0 + k)) (all_whole input none k s is) (fits e changes input order is_whole (0 + k)) there

  -- the sections of the new file, by those of the old one
  unfoldable pub moved : List Section
  moved = moved_sections (placed_of (elf_of input) changes input order) (the_headers_at (elf_of input) changes input order) 0 (sections_in input)

  pub names_less : (file_header input).names < (file_header input).headers
  names_less = (old_good input none).names

  -- the name table has bytes
  full : (s : Section) → slice_get (sections_in input) (file_header input).names ≡ Some s → 0 < s.header.size
  full s is =
      let here = old_section input (file_header input).names names_less in
      let same : s ≡ ElfNames.section_named (name_table input) (names_header input) = cc in
      let size : s.header.size ≡ (names_header input).size = ap (λ (w : Section). w.header.size) same in
      let some = names_size_some input none in
      omega (arith, size, some)

  pub one_at : (k place : ℕ) (s : Section) → slice_get (sections_in input) k ≡ Some s
      → IsMadeAt (new_file input changes order) (content_at (elf_of input) changes input k) s
      (record { header = moved_to place (moved_in (placed_of (elf_of input) changes input order) k) s.header; name = s.name })
  unfolding elf_of
  one_at k place s is =
      let e = elf_of input in
      let old = is_old e changes input (file_header input).names full none.headers can.fits can.can_change k s is in
      made_one e changes input (new_file input changes order) order can.is_order (is_new e changes input order is_whole) k place s old

  not_names : (k : ℕ) (s : Section) → slice_get (sections_in input) k ≡ Some s → s.name.code ≢ 0 → k ≢ (file_header input).names
  not_names k s is coded same = coded (names_no_code (length input) (file_header input).names (sections_in input) s none.headers (ap (slice_get (sections_in input)) (sym same) ∙ is))

  one_made : (k place : ℕ) (s : Section) → slice_get (sections_in input) k ≡ Some s
      → IsMade input (new_file input changes order) changes s (record { header = moved_to place (moved_in (placed_of (elf_of input) changes input order) (0 + k)) s.header; name = s.name })
  unfolding elf_of
  one_made k place s is =
      let e = elf_of input in
      let index : k ≡ 0 + k = omega arith in
      let made : IsMadeAt (new_file input changes order) (content_at e changes input k) s
      (record { header = moved_to place (moved_in (placed_of e changes input order) (0 + k)) s.header; name = s.name }) =
      subst (λ (n : ℕ). IsMadeAt (new_file input changes order) (content_at e changes input k) s
      (record { header = moved_to place (moved_in (placed_of e changes input order) n) s.header; name = s.name })) index (one_at k place s is) in
      record { wanted = content_at e changes input k; made = made; coded = λ coded. coded_content e changes input k s is (not_names k s is coded) }

  pub are_made : AllZip (IsMade input (new_file input changes order) changes) (sections_in input) moved
  unfolding moved
  are_made = all_made input (new_file input changes order) changes (placed_of (elf_of input) changes input order) (the_headers_at (elf_of input) changes input order) 0 (sections_in input) one_made

  -- ---- the name table

  -- its header in the new file
  names_at : ℕ
  names_at = the_headers_at (elf_of input) changes input order + 64 * (file_header input).names

  pub names_new : Header
  names_new = moved_to names_at (moved_in (placed_of (elf_of input) changes input order) (0 + (file_header input).names)) (names_header input)

  pub names_moved : names_header (new_file input changes order) ≡ names_new
  unfolding names_new names_at with_place
  names_moved = ap (λ (f : FileHeader). header_at (new_file input changes order) (f.headers_at + 64 * f.names)) is_with_place ∙ header_there (file_header input).names names_less

  names_made : IsMadeAt (new_file input changes order) (content_at (elf_of input) changes input (file_header input).names) (ElfNames.section_named (name_table input) (names_header input))
      (record { header = names_new; name = (ElfNames.section_named (name_table input) (names_header input)).name })
  unfolding names_new
  names_made =
      let s = ElfNames.section_named (name_table input) (names_header input) in
      let n = (file_header input).names in
      let index : n ≡ 0 + n = omega arith in
      subst (λ (k : ℕ). IsMadeAt (new_file input changes order) (content_at (elf_of input) changes input n) s
      (record { header = moved_to names_at (moved_in (placed_of (elf_of input) changes input order) k) (names_header input); name = s.name })) index
      (one_at n names_at s (old_section input n names_less))

  old_there : is_there (names_header input) ≡ true
  old_there = names_there (length input) (names_header input) none.names

  new_table : List ℕ
  new_table = name_table input ++ added_name changes.sup

  -- its content stays, and what is added stands behind it
  table_kept : content (new_file input changes order) names_new ≡ new_table
  unfolding new_table elf_of
  table_kept =
      let s = ElfNames.section_named (name_table input) (names_header input) in
      let n = (file_header input).names in
      let is = old_section input n names_less in
      let code : s.name.code ≡ 0 = names_no_code (length input) n (sections_in input) s none.headers is in
      names_made.carried.holds old_there ∙ names_content (elf_of input) changes input n s is refl code

  same_table : name_table (new_file input changes order) ≡ new_table
  same_table = ap (content (new_file input changes order)) names_moved ∙ table_kept

  -- the name table lies in the file
  pub new_there : is_there names_new ≡ true
  new_there = ap (λ k. not (eqb k 0) && not (eqb k 8)) names_made.carried.kind ∙ old_there

  pub table_within : end_of names_new ≤ length (new_file input changes order)
  unfolding new_table
  table_within =
      elim (cases_lt 0 names_new.size) [
        | inl some ↦ (placed_bytes (length (new_file input changes order)) names_new new_there names_made.placed some).1
        | inr empty ↦
            let size : names_new.size ≡ 0 = omega (arith, empty) in
            let nothing : name_table input ++ added_name changes.sup ≡ [] = sym table_kept ∙ ap (λ n. take n (drop names_new.offset (new_file input changes order))) size in
            absurd (some_names input none (first_nothing (name_table input) (added_name changes.sup) nothing))
      ]
    where
      first_nothing : (xs ys : List ℕ) → xs ++ ys ≡ [] → xs ≡ []
      first_nothing [] ys is = refl
      first_nothing (x ∷ xs) ys is = absurd cc

  old_size : length (name_table input) ≡ (names_header input).size
  old_size =
      let within = names_within (length input) (names_header input) none.names in
      omega (arith, within, length-take (names_header input).size (drop (names_header input).offset input), length-drop (names_header input).offset input)

  table_short : length new_table < 2 ^ 32
  table_short =
      let out = new_file input changes order in
      let len : length (take names_new.size (drop names_new.offset out)) ≡ length new_table = ap length table_kept in
      omega (arith, len, short, length-take names_new.size (drop names_new.offset out), length-drop names_new.offset out)

  same_names : (k : ℕ) → k < (file_header input).headers → SameName (name_table input) new_table (header_at input ((file_header input).headers_at + 64 * k))
  unfolding new_table
  same_names k less = same_name (name_table input) (added_name changes.sup) (header_at input ((file_header input).headers_at + 64 * k)) (name_ends input none k less)

  -- ---- the section that is added

  pub sup_place : ℕ
  sup_place = the_headers_at (elf_of input) changes input order + 64 * (file_header input).headers

  -- what it is read as
  unfoldable pub sup_section : List ℕ → Section
  sup_section sup = section_read sup_place (names_header input).size 1 0 (the_end (elf_of input) changes input order) (length sup) 1 (codes ".debug_sup")

  unfoldable pub added : Option (List ℕ) → List Section
  added None = []
  added (Some sup) = sup_section sup ∷ []

  pub sup_within : (sup : List ℕ) → changes.sup ≡ Some sup → the_end (elf_of input) changes input order + length sup ≤ length (new_file input changes order)
  sup_within sup is =
      let has = has_sup (elf_of input) changes input order is_whole in
      let same : length (added_bytes changes) ≡ length sup = ap (λ (o : Option (List ℕ)). length (unwrap_or o [])) is in
      omega (arith, has.within, same)

  sup_read : (sup : List ℕ) → changes.sup ≡ Some sup → header_at (new_file input changes order) sup_place
      ≡ header_of sup_place (names_header input).size 1 0 (the_end (elf_of input) changes input order) (length sup) 1
  unfolding sup_place elf_of sup_header new_table
  sup_read sup is =
      let e = elf_of input in
      let n = (file_header input).names in
      let front = to_sup e changes input order is_whole in
      let end = the_end e changes input order in
      let size : names_size (slice_get (sections_in input) n) ≡ (names_header input).size = ap names_size (old_section input n names_less) in
      let bytes : new_file input changes order ≡ front ++ (numbers (all_fields (names_header input).size 1 0 end (length sup) 1 0) ++ []) =
      sup_header_behind e changes input order is_whole
      ∙ (ap (λ (o : Option (List ℕ)). front ++ (sup_header e end o ++ [])) is
      ∙ ap (λ (m : ℕ). front ++ (numbers (all_fields m 1 0 end (length sup) 1 0) ++ [])) size) in
      let within = sup_within sup is in
      let table = length-append (name_table input) (added_name changes.sup) in
      let few : (names_header input).size < 256 ^ 4 = omega (arith, old_size, table, table_short) in
      header_read (new_file input changes order) front [] sup_place (names_header input).size 1 0 end (length sup) 1 0 bytes (length_to_sup e changes input order is_whole)
      few (omega arith) (omega arith) (omega (arith, within, short)) (omega (arith, within, short)) (omega arith)

  sup_seen : (sup : List ℕ) → changes.sup ≡ Some sup → ElfNames.section_named new_table (header_at (new_file input changes order) sup_place) ≡ sup_section sup
  unfolding sup_section new_table
  sup_seen sup is =
      let name : name_at (name_table input ++ added_name changes.sup) (names_header input).size ≡ Some (codes ".debug_sup") =
      ap (λ (o : Option (List ℕ)). name_at (name_table input ++ added_name o) (names_header input).size) is ∙ added_name_read (name_table input) (names_header input).size old_size in
      ap (ElfNames.section_named (name_table input ++ added_name changes.sup)) (sup_read sup is)
      ∙ ap (λ (o : Option (List ℕ)). record { header = header_of sup_place (names_header input).size 1 0 (the_end (elf_of input) changes input order) (length sup) 1; name = known_name o }) name

  -- ---- all sections

  moved_first : map (ElfNames.section_named new_table) (headers_from (new_file input changes order) (the_headers_at (elf_of input) changes input order) (file_header input).headers) ≡ moved
  unfolding moved
  moved_first =
      sections_moved (name_table input) new_table input (new_file input changes order) (placed_of (elf_of input) changes input order) (file_header input).headers_at
      (the_headers_at (elf_of input) changes input order) 0 (file_header input).headers header_there same_names

  all_of : (sup : Option (List ℕ)) → changes.sup ≡ sup
      → map (ElfNames.section_named new_table) (headers_from (new_file input changes order) (the_headers_at (elf_of input) changes input order) ((file_header input).headers + cond (is_some sup) 1 0))
      ≡ moved ++ added sup
  unfolding added sup_place
  all_of None is =
      let count : (file_header input).headers + 0 ≡ (file_header input).headers = omega arith in
      ap (λ n. map (ElfNames.section_named new_table) (headers_from (new_file input changes order) (the_headers_at (elf_of input) changes input order) n)) count
      ∙ (moved_first ∙ sym (append-nil moved))
  all_of (Some sup) is =
      let out = new_file input changes order in
      let at = the_headers_at (elf_of input) changes input order in
      let n = (file_header input).headers in
      ap (map (ElfNames.section_named new_table)) (headers_last out at n)
      ∙ (map-append (ElfNames.section_named new_table) (headers_from out at n) (header_at out (at + 64 * n) ∷ [])
      ∙ (λ j. moved_first j ++ sup_seen sup is j ∷ []))

  pub same_sections : sections_in (new_file input changes order) ≡ moved ++ added changes.sup
  unfolding with_place elf_of
  same_sections =
      let out = new_file input changes order in
      let file = file_header out in
      ap (λ (t : List ℕ). map (ElfNames.section_named t) (headers_from out file.headers_at file.headers)) same_table
      ∙ (ap (λ (f : FileHeader). map (ElfNames.section_named new_table) (headers_from out f.headers_at f.headers)) is_with_place ∙ all_of changes.sup refl)

  pub length_moved : length moved ≡ (file_header input).headers
  length_moved =
      sym (length_all_zip (IsMade input (new_file input changes order) changes) (sections_in input) moved are_made)
      ∙ length-sections (ElfNames.section_named (name_table input)) input (file_header input).headers_at (file_header input).headers

  -- none of them was `.debug_sup`
  pub old_no_sup : list_any (has_code 9) (sections_in input) ≡ false
  old_no_sup = no_sup (sections_in input) (name_table input) [] (headers_from input (file_header input).headers_at (file_header input).headers) none.kept

  pub moved_no_sup : list_any (has_code 9) moved ≡ false
  moved_no_sup = same_codes input (new_file input changes order) changes 9 (sections_in input) moved are_made ∙ old_no_sup
