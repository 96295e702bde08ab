-- What is read of a file whose section headers stand behind it, where that of `.debug_sup` is zero bytes.
use Rattle.std.proofs.Common.{◌≡◌, ◌⊎◌, inl, inr, ℕ, zero, suc, ◌+◌, ◌-◌, ◌*◌, ◌^◌, ◌<◌, ◌≤◌, Bool, true, false, cond, eqb, List, [], ◌∷◌, ◌++◌, length, map, take, drop, get_or, replicate}
use Rattle.std.proofs.Common.{Some, None, refl, sym, ap, subst, ◌∙◌, arith}
use Rattle.std.specs.Prelude.{not, ◌&&◌, slice_get}
use Rattle.std.specs.List.{AllZip}
use Rattle.std.proofs.lemmas.Bool.{cases_lt, eqb-false}
use Rattle.std.proofs.lemmas.List.{get_or-append_right, get_or_append_left, length-append}
use Rattle.std.proofs.lemmas.Option.{slice_get_within}
use Rattle.dwz_def_reading.specs.declared.elf.FileHeader.{FileHeader}
use Rattle.dwz_def_reading.specs.declared.elf.Header.{Header}
use Rattle.dwz_def_reading.specs.declared.elf.Section.{Section}
use Rattle.dwz_def_reading.specs.Spelling.{le_bytes}
use Rattle.dwz_def_reading.specs.ElfFaults.{read_back}
use Rattle.dwz_def_reading.specs.ElfHeaders.{content, end_of, file_header, header_at, headers_from, is_loaded, is_there, number_at, program_headers_end}
use Rattle.dwz_def_reading.specs.ElfLayout.{keep_end, loaded_end, new_front}
use Rattle.dwz_def_reading.specs.ElfNames.{known_name, name_at, name_table, names_header, section_name_in, section_named, sections_in}
use Rattle.dwz_def_reading.specs.ElfReading.{bytes_in, elf_fault_for, elf_of, field_fault_for, first_in, has_code, header_fault, is_misplaced, names_fault, range_in, section_range}
use Rattle.dwz_def_reading.specs.Files.{section_of}
use Rattle.dwz_def_reading.specs.Values.{AreBytes}
use Rattle.dwz_def_output.proofs.FaultLemmas.{HasGoodFields, HasNoFault, ends_there, fields_good, good_fields, is_faultless, long_enough, names_good, names_there, names_within, same_identification}
use Rattle.dwz_def_output.proofs.MadeLemmas.{file_fields}
use Rattle.dwz_def_output.proofs.MovedLemmas.{placed_bytes}
use Rattle.dwz_def_output.proofs.OldLemmas.{first_at, keep_some, names_no_code, not_misplaced}
use Rattle.dwz_def_output.proofs.PieceLemmas.{Has, front_has_count, front_has_place, front_same, has_in, has_number, length_front, number_written, same_number, same_part}
use Rattle.dwz_def_output.proofs.TableLemmas.{AreWhole, header_moved, length-sections, section_at}
use Rattle.dwz_def_expand.specs.Dropped.{header_without, headers_without, table_place, without_sup}
use Rattle.dwz_law_expand.proofs.DropSections.{IsKept, kept_all, kept_contents, kept_debug, kept_headers}
use Rattle.dwz_expand_file.proofs.KeptLemmas.{kept_beside}
use Rattle.dwz_law_expand.proofs.DropPieces.{and_none, earlier, ends_is, header_there, headers_length, number_less, placed_more}

-- ---- the file

module _ (b : List ℕ) (none : HasNoFault read_back b) (are : AreBytes b) (bounded : length b < 256 ^ 8) where
  abbrev n : ℕ
  n = (file_header b).headers

  abbrev old : ℕ → Header
  old k = header_at b ((file_header b).headers_at + 64 * k)

  abbrev named : ℕ → Section
  named k = section_named (name_table b) (old k)

  abbrev front : List ℕ
  front = new_front (table_place b) (table_place b) n b

  abbrev table : List ℕ
  table = headers_without b (sections_in b)

  out : List ℕ
  out = front ++ table

  good : HasGoodFields 65279 (length b) (file_header b)
  good = good_fields read_back (length b) (file_header b) none.fields

  section_there : (k : ℕ) → k < n → slice_get (sections_in b) k ≡ Some (named k)
  section_there k less = section_at (section_named (name_table b)) b (file_header b).headers_at n k less

  sections_length : length (sections_in b) ≡ n
  sections_length = length-sections (section_named (name_table b)) b (file_header b).headers_at n

  whole : AreWhole b (sections_in b)
  whole k s is =
      let inside = slice_get_within (sections_in b) k s is in
      let less : k < n = omega (arith, inside, sections_length) in
      let here = section_there k less in
      let same : s ≡ named k = cc in
      let place : s.header.at ≡ (file_header b).headers_at + 64 * k = ap (λ (w : Section). w.header.at) same in
      omega (arith, place, less, good.table)

  placed_old : (k : ℕ) → k < n → is_misplaced (length b) (old k) ≡ false
  placed_old k less =
      let fine = first_at (header_fault (length b) (file_header b).names) [] (sections_in b) k (named k) none.headers (section_there k less) in
      not_misplaced (length b) (file_header b).names fine.0 (named k) fine.2

  -- its bytes, and what is kept, end below 2^64
  end_small : (k : ℕ) → k < n → is_there (old k) ≡ true → end_of (old k) < 256 ^ 8
  end_small k less there = elim (cases_lt 0 (old k).size) [
    | inl filled ↦ (let w = placed_bytes (length b) (old k) there (placed_old k less) filled in omega (arith, w.1, bounded))
    | inr empty ↦
        let at = (file_header b).headers_at + 64 * k in
        let offset : (old k).offset < 256 ^ 8 = number_less b (at + 24) 8 are (omega (arith, less, good.table)) in
        omega (arith, empty, offset)
  ]

  loaded_small : (xs : List Section) → ((k : ℕ) (s : Section) → slice_get xs k ≡ Some s → is_there s.header ≡ true → end_of s.header < 256 ^ 8) → loaded_end xs < 256 ^ 8
  loaded_small [] each = omega arith
  loaded_small (s ∷ xs) each =
      let here = by (is_there s.header) (is_loaded s.header) (λ there. each zero s refl there) in
      let rest = loaded_small xs (λ k x is. each (suc k) x is) in
      omega (arith, here, rest)
    where
      by : (t l : Bool) → (t ≡ true → end_of s.header < 256 ^ 8) → cond (t && l) (end_of s.header) 0 < 256 ^ 8
      by true true end = end refl
      by true false end = omega arith
      by false l end = omega arith

  programs_small : cond (eqb (file_header b).program_headers 0) 0 (program_headers_end (file_header b)) < 256 ^ 8
  programs_small = by (eqb (file_header b).program_headers 0) refl where
    by : (t : Bool) → eqb (file_header b).program_headers 0 ≡ t → cond t 0 (program_headers_end (file_header b)) < 256 ^ 8
    by true e = omega arith
    by false e = let inside = good.programs (eqb-false (file_header b).program_headers 0 e) in omega (arith, inside, bounded)

  pub short : table_place b < 256 ^ 8
  unfolding keep_end elf_of
  short =
      let loaded = loaded_small (sections_in b) (λ k s is there.
      let inside = slice_get_within (sections_in b) k s is in
      let less : k < n = omega (arith, inside, sections_length) in
      let here = section_there k less in
      let same : s ≡ named k = cc in
      subst (λ (x : Section). end_of x.header < 256 ^ 8) (sym same) (end_small k less (sym (ap (λ (x : Section). is_there x.header) same) ∙ there))) in
      omega (arith, bounded, programs_small, loaded)

  some : 64 ≤ table_place b
  some = let kept = keep_some (elf_of b) in omega (arith, kept)

  front_length : length front ≡ table_place b
  front_length = length_front (table_place b) (table_place b) n b some

  table_length : length table ≡ 64 * n
  table_length = headers_length b (sections_in b) whole ∙ ap (λ k. 64 * k) sections_length

  out_length : length out ≡ table_place b + 64 * n
  unfolding out
  out_length = omega (arith, length-append front table, front_length, table_length)

  longer : length b ≤ length out
  longer = omega (arith, out_length)

  has_table : Has out (table_place b) table
  unfolding out
  has_table = record {
    within = omega (arith, length-append front table, front_length);
    each = λ i less.
        let at : table_place b + i - table_place b ≡ i = omega arith in
        get_or-append_right front table (table_place b) (table_place b + i) 0 front_length (omega arith) ∙ ap (λ k. get_or table k 0) at;
  }

  in_front : (i : ℕ) → i < table_place b → get_or out i 0 ≡ get_or front i 0
  unfolding out
  in_front i less = get_or_append_left front table 0 i (omega (arith, less, front_length))

  same_byte : (i : ℕ) → i < table_place b → (i < 40) ⊎ (48 ≤ i) → (i < 60) ⊎ (62 ≤ i) → get_or out i 0 ≡ get_or b i 0
  same_byte i less first second = in_front i less ∙ front_same (table_place b) (table_place b) n b some i less first second

  has_front : (at : ℕ) (piece : List ℕ) → Has front at piece → Has out at piece
  has_front at piece has = record {
    within = omega (arith, has.within, front_length, out_length);
    each = λ i less. in_front (at + i) (omega (arith, has.within, front_length, less)) ∙ has.each i less;
  }

  -- ---- the file header

  long : 64 ≤ length b
  long = long_enough b none.identified

  long_out : 64 ≤ length out
  long_out = omega (arith, long, longer)

  field_same : (k w : ℕ) → k + w ≤ 64 → (k + w ≤ 40) ⊎ (48 ≤ k) → (k + w ≤ 60) ⊎ (62 ≤ k) → number_at out k w ≡ number_at b k w
  field_same k w within first second =
      same_number out b k k w (omega (arith, long_out, within)) (omega (arith, long, within))
      (λ i less. same_byte (k + i) (omega (arith, within, less, some))
      (elim first [ inl h ↦ inl (omega (arith, h, less)) | inr h ↦ inr (omega (arith, h)) ])
      (elim second [ inl h ↦ inl (omega (arith, h, less)) | inr h ↦ inr (omega (arith, h)) ]))

  reads_place : number_at out 40 8 ≡ table_place b
  reads_place = number_written out 40 8 (table_place b) (omega (arith, short)) (has_front 40 (le_bytes 8 (table_place b)) (front_has_place (table_place b) (table_place b) n b some))

  reads_count : number_at out 60 2 ≡ n
  reads_count = let most = good.few in number_written out 60 2 n (omega (arith, most)) (has_front 60 (le_bytes 2 n) (front_has_count (table_place b) (table_place b) n b some))

  abbrev with_place : FileHeader
  with_place = record (file_header b) { headers_at = table_place b }

  is_with_place : file_header out ≡ with_place
  is_with_place =
      file_fields b out n (field_same 16 2 (omega arith) (inl (omega arith)) (inl (omega arith))) (field_same 18 2 (omega arith) (inl (omega arith)) (inl (omega arith)))
      (field_same 32 8 (omega arith) (inl (omega arith)) (inl (omega arith))) (field_same 48 4 (omega arith) (inr (omega arith)) (inl (omega arith)))
      (field_same 54 2 (omega arith) (inr (omega arith)) (inl (omega arith))) (field_same 56 2 (omega arith) (inr (omega arith)) (inl (omega arith)))
      (field_same 58 2 (omega arith) (inr (omega arith)) (inl (omega arith))) reads_count (field_same 62 2 (omega arith) (inr (omega arith)) (inr (omega arith)))
      ∙ ap (λ (p : ℕ). record (file_header b) { headers_at = p }) reads_place

  -- ---- the section headers

  new : ℕ → Header
  new k = header_at out (table_place b + 64 * k)

  has_header : (k : ℕ) → k < n → Has out (table_place b + 64 * k) (header_without b (named k))
  has_header k less = has_in out table (header_without b (named k)) (table_place b) (64 * k) has_table (header_there b (sections_in b) k (named k) whole (section_there k less))

  header_same : (k : ℕ) → k < n → has_code 9 (named k) ≡ false → new k ≡ record (old k) { at = table_place b + 64 * k }
  unfolding new
  header_same k less other =
      let at = (file_header b).headers_at + 64 * k in
      let has : Has out (table_place b + 64 * k) (take 64 (drop at b)) =
      subst (λ (t : Bool). Has out (table_place b + 64 * k) (cond t (replicate 64 0) (take 64 (drop at b)))) other (has_header k less) in
      header_moved b out at (table_place b + 64 * k) None (omega (arith, less, good.table)) tt has

  has_zeros : (k : ℕ) → k < n → has_code 9 (named k) ≡ true → Has out (table_place b + 64 * k) (replicate 64 0)
  has_zeros k less sup =
      let at = (file_header b).headers_at + 64 * k in
      subst (λ (t : Bool). Has out (table_place b + 64 * k) (cond t (replicate 64 0) (take 64 (drop at b)))) sup (has_header k less)

  zero_field : (k j w : ℕ) → k < n → has_code 9 (named k) ≡ true → j + w ≤ 64 → number_at out (table_place b + 64 * k + j) w ≡ number_at (replicate 64 0) j w
  zero_field k j w less sup within = has_number out (replicate 64 0) (table_place b + 64 * k) j w (has_zeros k less sup) within

  -- ---- contents

  content_same : (h : Header) → is_there h ≡ true → is_misplaced (length b) h ≡ false → content out h ≡ content b h
  content_same h there placed = elim (cases_lt 0 h.size) [
    | inl filled ↦
        let w = placed_bytes (length b) h there placed filled in
        same_part out b h.offset h.offset h.size (omega (arith, w.1, longer)) (omega (arith, w.1))
        (λ i less. same_byte (h.offset + i) (omega (arith, w.1, less)) (inr (omega (arith, w.0))) (inr (omega (arith, w.0))))
    | inr empty ↦
        let size : h.size ≡ 0 = omega (arith, empty) in
        ap (λ k. take k (drop h.offset out)) size ∙ sym (ap (λ k. take k (drop h.offset b)) size)
  ]

  -- ---- the name table

  names_less : (file_header b).names < n
  names_less = good.names

  names_other : has_code 9 (named (file_header b).names) ≡ false
  names_other =
      let code = names_no_code (length b) (file_header b).names (sections_in b) (named (file_header b).names) none.headers (section_there (file_header b).names names_less) in
      ap (λ (c : ℕ). is_there (old (file_header b).names) && eqb c 9) code ∙ and_none (is_there (old (file_header b).names))

  abbrev names_new : Header
  names_new = record (names_header b) { at = table_place b + 64 * (file_header b).names }

  names_moved : names_header out ≡ names_new
  unfolding new
  names_moved = ap (λ (f : FileHeader). header_at out (f.headers_at + 64 * f.names)) is_with_place ∙ header_same (file_header b).names names_less names_other

  same_table : name_table out ≡ name_table b
  same_table = ap (content out) names_moved ∙ content_same (names_header b) (names_there (length b) (names_header b) none.names) (placed_old (file_header b).names names_less)

  first_ends : (known_name (name_at (name_table b) 0)).ends ≡ true
  first_ends =
      let k = (file_header b).names in
      let fine = first_at (header_fault (length b) (file_header b).names) [] (sections_in b) k (named k) none.headers (section_there k names_less) in
      let ends = ends_there (length b) (file_header b).names fine.0 (named k) fine.2 in
      ends_is (section_name_in (name_table b)) ∙ earlier (old k).name (name_table b) (sym (ends_is (name_at (name_table b) (old k).name)) ∙ ends)

  -- ---- the sections

  gone : (k : ℕ) → k < n → has_code 9 (named k) ≡ true → is_there (new k) ≡ false
  unfolding new number_at
  gone k less e = ap (λ (kind : ℕ). not (eqb kind 0) && not (eqb kind 8)) (zero_field k 4 4 less e (omega arith))

  kept : (k : ℕ) → k < n → IsKept b out (named k) (section_named (name_table b) (new k))
  unfolding new number_at
  kept k less = by (has_code 9 (named k)) refl where
    by : (t : Bool) → has_code 9 (named k) ≡ t → IsKept b out (named k) (section_named (name_table b) (new k))
    by true e = inl (
      e,
      record {
        there = gone k less e;
        align = zero_field k 48 8 less e (omega arith);
        ends =
            let place : table_place b + 64 * k ≡ table_place b + 64 * k + 0 = omega arith in
            ap (λ (p : ℕ). (known_name (name_at (name_table b) (number_at out p 4))).ends) place
            ∙ (ap (λ (name : ℕ). (known_name (name_at (name_table b) name)).ends) (zero_field k 0 4 less e (omega arith)) ∙ first_ends);
      },
    )
    by false e =
        let same = header_same k less e in
        inr (
          e,
          record {
            name = ap (λ (h : Header). known_name (name_at (name_table b) h.name)) same;
            header = same;
            placed = ap (is_misplaced (length out)) same ∙ placed_more (old k) (length b) (length out) longer (placed_old k less);
            holds = λ there. ap (content out) same ∙ content_same (old k) there (placed_old k less);
          },
        )

  from : (at place m : ℕ) → ((k : ℕ) → k < m → IsKept b out (section_named (name_table b) (header_at b (at + 64 * k))) (section_named (name_table b) (header_at out (place + 64 * k))))
      → AllZip (IsKept b out) (map (section_named (name_table b)) (headers_from b at m)) (map (section_named (name_table b)) (headers_from out place m))
  unfolding headers_from
  from at place zero each = tt
  from at place (suc m) each = (
    (let first : at + 64 * 0 ≡ at = omega arith in let second : place + 64 * 0 ≡ place = omega arith in
        subst (λ (p : ℕ). IsKept b out (section_named (name_table b) (header_at b at)) (section_named (name_table b) (header_at out p))) second
        (subst (λ (p : ℕ). IsKept b out (section_named (name_table b) (header_at b p)) (section_named (name_table b) (header_at out (place + 64 * 0)))) first (each 0 (omega arith)))),
    from (at + 64) (place + 64) m
        (λ k less.
        let first : at + 64 * suc k ≡ at + 64 + 64 * k = omega arith in
        let second : place + 64 * suc k ≡ place + 64 + 64 * k = omega arith in
        subst (λ (p : ℕ). IsKept b out (section_named (name_table b) (header_at b (at + 64 + 64 * k))) (section_named (name_table b) (header_at out p))) second
        (subst (λ (p : ℕ). IsKept b out (section_named (name_table b) (header_at b p)) (section_named (name_table b) (header_at out (place + 64 * suc k)))) first (each (suc k) (omega (arith, less))))),
  )

  same_sections : sections_in out ≡ map (section_named (name_table b)) (headers_from out (table_place b) n)
  same_sections =
      ap (λ (t : List ℕ). map (section_named t) (headers_from out (file_header out).headers_at (file_header out).headers)) same_table
      ∙ ap (λ (f : FileHeader). map (section_named (name_table b)) (headers_from out f.headers_at f.headers)) is_with_place

  are_kept : AllZip (IsKept b out) (sections_in b) (sections_in out)
  unfolding new
  are_kept = subst (AllZip (IsKept b out) (sections_in b)) (sym same_sections) (from (file_header b).headers_at (table_place b) n kept)

  -- where they stand
  pub header_places : (k : ℕ) (s : Section) → slice_get (sections_in (without_sup b)) k ≡ Some s → (k < n) × (s.header.at ≡ table_place b + 64 * k)
  unfolding without_sup out
  header_places k s is =
      let inside = slice_get_within (sections_in out) k s is in
      let many : length (sections_in out) ≡ n = ap length same_sections ∙ length-sections (section_named (name_table b)) out (table_place b) n in
      let less : k < n = omega (arith, inside, many) in
      let here : slice_get (sections_in out) k ≡ Some (section_named (name_table b) (header_at out (table_place b + 64 * k))) =
      ap (λ (xs : List Section). slice_get xs k) same_sections ∙ section_at (section_named (name_table b)) out (table_place b) n k less in
      let same : s ≡ section_named (name_table b) (header_at out (table_place b + 64 * k)) = cc in
      (less, ap (λ (w : Section). w.header.at) same)

  pub old_headers : (file_header b).headers_at + 64 * n ≤ length b
  old_headers = good.table

  -- ---- no fault

  good_out : HasGoodFields 65279 (length out) with_place
  good_out = record {
    kind = good.kind;
    some_place = λ nowhere. omega (arith, some, nowhere);
    size = good.size;
    some = good.some;
    few = good.few;
    some_names = good.some_names;
    names = good.names;
    table = omega (arith, out_length);
    programs = λ there. let old_programs = good.programs there in omega (arith, old_programs, longer);
  }

  no_fault_out : elf_fault_for read_back out ≡ None
  no_fault_out =
      is_faultless read_back out (record {
        identified = same_identification b out none.identified long_out (λ i less. same_byte i (omega (arith, less, some)) (inl (omega (arith, less))) (inl (omega (arith, less))));
        fields = ap (field_fault_for read_back (length out)) is_with_place ∙ fields_good read_back (length out) with_place good_out;
        names = ap (names_fault (length out)) names_moved ∙ names_good (length out) names_new (names_there (length b) (names_header b) none.names)
            (let inside = names_within (length b) (names_header b) none.names in omega (arith, inside, longer));
        headers = ap (λ (f : FileHeader). first_in (header_fault (length out) f.names) [] (sections_in out)) is_with_place
            ∙ kept_headers b out (length b) (file_header b).names (sections_in b) (sections_in out) are_kept none.headers;
        kept = kept_beside (sections_in out) (kept_all b out (sections_in b) (sections_in out) are_kept none.kept);
        debug = kept_debug b out (sections_in b) (sections_in out) are_kept none.debug;
      })

  pub reads_without : elf_fault_for read_back (without_sup b) ≡ None
  unfolding without_sup out
  reads_without = no_fault_out

  same_section : (code : ℕ) → eqb 9 code ≡ false → section_of out code ≡ section_of b code
  unfolding section_of section_range
  same_section code other = by (eqb code 0) where
    by : (t : Bool) → bytes_in out (cond t None (range_in (sections_in out) code)) ≡ bytes_in b (cond t None (range_in (sections_in b) code))
    by true = refl
    by false = kept_contents b out code other (sections_in b) (sections_in out) are_kept

  pub section_without : (code : ℕ) → eqb 9 code ≡ false → section_of (without_sup b) code ≡ section_of b code
  unfolding without_sup out
  section_without = same_section
