-- An ELF file that is made from another reads back.
use Rattle.std.proofs.Common.{◌≡◌, ◌≢◌, ◌⊎◌, inl, inr, ℕ, zero, suc, ◌+◌, ◌*◌, ◌^◌, ◌<◌, ◌≤◌, Bool, true, false, cond, eqb, List, [], ◌∷◌, ◌++◌, length, take, drop, get_or, Option, Some, None, refl}
use Rattle.std.proofs.Common.{sym, ap, subst, ◌∙◌, codes, arith}
use Rattle.std.specs.Prelude.{◌&&◌, ◌||◌, All, slice_get, is_some}
use Rattle.std.specs.Option.{unwrap_or}
use Rattle.std.proofs.lemmas.Bool.{cases_lt, cond-false, eqb-false, eqb-true, ne_eqb}
use Rattle.std.proofs.lemmas.List.{append-nil}
use Rattle.std.proofs.lemmas.List.Elements.{All-head, All-tail}
use Rattle.dwz_model.specs.declared.fault.Fault.{Fault}
use Rattle.dwz_def_reading.specs.declared.elf.FileHeader.{FileHeader}
use Rattle.dwz_def_reading.specs.declared.elf.NewContent.{NewContent}
use Rattle.dwz_def_reading.specs.declared.elf.Section.{Section}
use Rattle.dwz_def_reading.specs.ElfHeaders.{file_header}
use Rattle.dwz_def_reading.specs.ElfLayout.{Changes, added_bytes, content_at, content_for, keep_end, moved_in, new_count, placed_of}
use Rattle.dwz_def_reading.specs.ElfNames.{names_header, sections_in}
use Rattle.dwz_def_reading.specs.ElfNames
use Rattle.dwz_def_reading.specs.ElfReading.{bytes_in, elf_fault, elf_of, field_fault, first_in, has_code, header_fault, identification_fault, missing_fault, names_fault, range_in, section_range}
use Rattle.dwz_def_reading.specs.ElfReading.{unkept_fault}
use Rattle.dwz_def_reading.proofs.PlainFaults.{header_fine, none_or}
use Rattle.dwz_def_reading.specs.Files.{section_of}
use Rattle.dwz_def_reading.specs.ElfFaults.{IsElfFaultFor, by_itself, read_back}
use Rattle.dwz_def_reading.proofs.RangeBytes.{bytes_short}
use Rattle.dwz_def_output.specs.Rebuilt.{CanBeMade, IsCarried, IsSup, IsTableField, new_file, new_for}
use Rattle.dwz_def_output.proofs.BackLemmas.{IsPlainSup, no_back_fault}
use Rattle.dwz_def_output.proofs.FaultLemmas.{HasGoodFields, fields_good, is_faultless, names_good, same_identification}
use Rattle.dwz_def_output.proofs.MadeLemmas.{added, are_made, counted_by, is_whole, is_with_place, length_moved, long_new, moved, moved_no_sup, names_less, names_moved, names_new, new_there, none}
use Rattle.dwz_def_output.proofs.MadeLemmas.{old_good, old_no_sup, one_at, same_identified, same_sections, short, sup_place, sup_section, sup_within, table_within, with_place}
use Rattle.dwz_def_output.proofs.MovedLemmas.{IsMadeAt}
use Rattle.dwz_def_output.proofs.NameLemmas.{in_both, in_front, in_last, no_range, range_behind, range_front}
use Rattle.dwz_def_output.proofs.OldLemmas.{first_at, keep_programs, keep_some, no_content}
use Rattle.dwz_def_output.proofs.PieceLemmas.{has_part}
use Rattle.dwz_def_output.proofs.SectionLemmas.{NotRewritten, all_kept, first_both, same_contents, same_debug, same_headers, same_range}
use Rattle.dwz_def_output.proofs.ShapeLemmas.{count_few, end_within, has_sup, is_new, keep_within, kept_same, table_end, the_end, the_headers_at}
use Rattle.dwz_def_output.proofs.TableLemmas.{moved_at, moved_to}

module _ (input : List ℕ) (changes : Changes) (order : List (ℕ × ℕ)) (can : CanBeMade input changes order) where
  -- ---- no fault

  good_new : HasGoodFields 65279 (length (new_file input changes order)) (with_place input changes order can)
  unfolding with_place elf_of
  good_new =
      let e = elf_of input in
      let good = old_good input (none input changes order can) in
      let new = is_new e changes input order (is_whole input changes order can) in
      let end = table_end e changes input order (is_whole input changes order can) in
      let more = counted_by changes.sup (file_header input).headers in
      let place : 64 ≤ the_headers_at e changes input order = omega (
        arith,
        keep_some e,
        keep_within e changes input order (is_whole input changes order can),
        end_within e changes input order (is_whole input changes order can),
      ) in
      record {
        kind = good.kind;
        some_place = λ none_there. omega (arith, place, none_there);
        size = good.size;
        some = omega (arith, good.some, more);
        few = count_few e changes input order (is_whole input changes order can);
        some_names = good.some_names;
        names = omega (arith, good.names, more);
        table = omega (arith, end);
        programs = λ some. let kept = keep_programs e some in omega (arith, kept, new.within);
      }

  new_identified : identification_fault (new_file input changes order) ≡ None
  new_identified = same_identification input (new_file input changes order) (none input changes order can).identified (long_new input changes order can) (same_identified input changes order can)

  new_names : names_fault (length (new_file input changes order)) (names_header (new_file input changes order)) ≡ None
  new_names = ap (names_fault (length (new_file input changes order))) (names_moved input changes order can) ∙ names_good (length (new_file input changes order)) (names_new input changes order can)
      (new_there input changes order can) (table_within input changes order can)

  sup_header_fine : (sup : List ℕ) → changes.sup ≡ Some sup → header_fault (length (new_file input changes order)) (file_header input).names (moved input changes order can)
      ((sup_section input changes order can) sup) ≡ None
  unfolding sup_section
  sup_header_fine sup is =
      let e = elf_of input in
      let end = the_end e changes input order in
      let low : 64 ≤ end = omega (arith, keep_some e, keep_within e changes input order (is_whole input changes order can)) in
      let apart : length (moved input changes order can) ≢ (file_header input).names = λ same. omega (arith, same, (length_moved input changes order can), (names_less input changes order can)) in
      header_fine (length (new_file input changes order)) (file_header input).names (sup_place input changes order can) (names_header input).size 0 end (length sup) (codes ".debug_sup")
      (moved input changes order can) low ((sup_within input changes order can) sup is) apart (inr (moved_no_sup input changes order can))

  added_headers : (sup : Option (List ℕ)) → changes.sup ≡ sup → first_in (header_fault (length (new_file input changes order)) (file_header input).names) (moved input changes order can)
      ((added input changes order can) sup) ≡ None
  unfolding added first_in
  added_headers None is = refl
  added_headers (Some sup) is = none_or _ _ (sup_header_fine sup is) refl

  new_headers_fine : first_in (header_fault (length (new_file input changes order)) (file_header (new_file input changes order)).names) [] (sections_in (new_file input changes order)) ≡ None
  unfolding with_place
  new_headers_fine =
      let out = new_file input changes order in
      ap (λ (f : FileHeader). first_in (header_fault (length out) f.names) [] (sections_in out)) (is_with_place input changes order can)
      ∙ (ap (first_in (header_fault (length out) (file_header input).names) []) (same_sections input changes order can)
      ∙ first_both (header_fault (length out) (file_header input).names) [] (moved input changes order can) ((added input changes order can) changes.sup)
      (same_headers input out changes (length input) (file_header input).names (sections_in input) (moved input changes order can) (are_made input changes order can)
      (none input changes order can).headers)
      (added_headers changes.sup refl))

  added_not_rewritten : (sup : Option (List ℕ)) → NotRewritten input (new_file input changes order) changes ((added input changes order can) sup)
  unfolding added sup_section
  added_not_rewritten None = tt
  added_not_rewritten (Some sup) = (refl, tt)

  moved_kept : first_in (λ before. unkept_fault ((moved input changes order can) ++ (added input changes order can) changes.sup)) [] (moved input changes order can) ≡ None
  moved_kept = all_kept input (new_file input changes order) changes (sections_in input) (moved input changes order can) ((added input changes order can) changes.sup)
      (are_made input changes order can) (added_not_rewritten changes.sup) (none input changes order can).kept

  new_debug : missing_fault (sections_in (new_file input changes order)) ≡ None
  new_debug = ap missing_fault (same_sections input changes order can) ∙ same_debug input (new_file input changes order) changes (sections_in input) (moved input changes order can)
      ((added input changes order can) changes.sup) (are_made input changes order can) (none input changes order can).debug

  -- where no section is added there is no fault of a file that is read first
  pub reads_back : changes.sup ≡ None → elf_fault (new_file input changes order) ≡ None
  unfolding with_place elf_of added
  reads_back is =
      let out = new_file input changes order in
      let good = good_new in
      let few = (old_good input (none input changes order can)).few in
      let same : sections_in out ≡ (moved input changes order can) = (same_sections input changes order can)
      ∙ (ap (λ (o : Option (List ℕ)). (moved input changes order can) ++ (added input changes order can) o) is ∙ append-nil (moved input changes order can)) in
      let all : (moved input changes order can) ++ (added input changes order can) changes.sup ≡ (moved input changes order can) =
      ap (λ (o : Option (List ℕ)). (moved input changes order can) ++ (added input changes order can) o) is ∙ append-nil (moved input changes order can) in
      let count : new_count (elf_of input) changes ≡ (file_header input).headers = ap (λ (o : Option (List ℕ)). (file_header input).headers + cond (is_some o) 1 0) is ∙ omega arith in
      let less : HasGoodFields 65278 (length out) (with_place input changes order can) =
      record {
        kind = good.kind;
        some_place = good.some_place;
        size = good.size;
        some = good.some;
        few = omega (arith, count, few);
        some_names = good.some_names;
        names = good.names;
        table =
            good.table;
        programs = good.programs;
      } in
      is_faultless by_itself out (record {
        identified = new_identified;
        fields = ap (field_fault (length out)) (is_with_place input changes order can) ∙ fields_good by_itself (length out) (with_place input changes order can) less;
        names = new_names;
        headers = new_headers_fine;
        kept = ap (λ (xs : List Section). first_in (λ before. unkept_fault xs) [] xs) same
            ∙ (ap (λ (xs : List Section). first_in (λ before. unkept_fault xs) [] (moved input changes order can)) (sym all) ∙ moved_kept);
        debug = new_debug;
      })

  sup_plain : (sup : Option (List ℕ)) (j : ℕ) (s : Section) → slice_get ((added input changes order can) sup) j ≡ Some s → IsPlainSup s
  unfolding added sup_section
  sup_plain None j s is = absurd cc
  sup_plain (Some sup) zero s is = let same : (sup_section input changes order can) sup ≡ s = cc in subst IsPlainSup same (record { there = refl; code = refl; no_relocations = refl; whole = refl })
  sup_plain (Some sup) (suc j) s is = absurd cc

  each_kept : (k : ℕ) (s : Section) → slice_get (sections_in (new_file input changes order)) k ≡ Some s → (unkept_fault (sections_in (new_file input changes order)) s ≡ None) ⊎ IsPlainSup s
  each_kept k s is =
      let all = (moved input changes order can) ++ (added input changes order can) changes.sup in
      elim (in_both (moved input changes order can) ((added input changes order can) changes.sup) k s (ap (λ (xs : List Section). slice_get xs k) (sym (same_sections input changes order can)) ∙ is)) [
        | inl old ↦ inl (ap (λ (xs : List Section). unkept_fault xs s) (same_sections input changes order can)
            ∙ (first_at (λ before. unkept_fault all) [] (moved input changes order can) k s moved_kept old).2)
        | inr new ↦ inr (sup_plain changes.sup new.0 s new.1)
      ]

  pub back : (f : Fault) → ¬ IsElfFaultFor read_back (new_file input changes order) f
  back = no_back_fault (new_file input changes order) (record {
    identified = new_identified;
    fields = subst (HasGoodFields 65279 (length (new_file input changes order))) (sym (is_with_place input changes order can)) good_new;
    names = new_names;
    headers = new_headers_fine;
    kept = each_kept;
    debug = new_debug;
  })

  -- ---- contents

  added_range : (sup : Option (List ℕ)) (code : ℕ) → eqb code 9 ≡ false → range_in ((added input changes order can) sup) code ≡ None
  unfolding added sup_section
  added_range None code other = refl
  added_range (Some sup) code other =
      let not_so : has_code code ((sup_section input changes order can) sup) ≡ false = ne_eqb 9 code (λ same. eqb-false code 9 other (sym same)) in
      rw not_so refl

  range_of : (code : ℕ) → eqb code 9 ≡ false → range_in ((moved input changes order can) ++ (added input changes order can) changes.sup) code ≡ range_in (moved input changes order can) code
  range_of code other = range_front code (moved input changes order can) ((added input changes order can) changes.sup) (added_range changes.sup code other)

  old_range_of_sup : range_in (sections_in input) 9 ≡ None
  old_range_of_sup = no_range 9 (sections_in input) (old_no_sup input changes order can)

  sup_range : (sup : Option (List ℕ)) → range_in ((moved input changes order can) ++ (added input changes order can) sup) 9 ≡ range_in ((added input changes order can) sup) 9
  sup_range sup = range_behind 9 (moved input changes order can) ((added input changes order can) sup) (no_range 9 (moved input changes order can) (moved_no_sup input changes order can))

  pub same_there : (code : ℕ) → is_some (section_range (sections_in (new_file input changes order)) code) ≡ (is_some (section_range (sections_in input) code) || (eqb code 9 && is_some changes.sup))
  unfolding section_range added sup_section
  same_there code =
      ap (λ (xs : List Section). is_some (cond (eqb code 0) None (range_in xs code))) (same_sections input changes order can) ∙ by (eqb code 0) (eqb code 9) refl refl where
        with_sup : (sup : Option (List ℕ)) → is_some (range_in ((added input changes order can) sup) 9) ≡ is_some sup
        with_sup None = refl
        with_sup (Some sup) = refl

        plain_or : (b : Bool) → b ≡ (b || false)
        plain_or true = refl
        plain_or false = refl

        by : (b c : Bool) → eqb code 0 ≡ b → eqb code 9 ≡ c
            → is_some (cond b None (range_in ((moved input changes order can) ++ (added input changes order can) changes.sup) code))
            ≡ (is_some (cond b None (range_in (sections_in input) code)) || (c && is_some changes.sup))
        by true true is also = absurd (let zero_code = eqb-true code 0 is in let nine = eqb-true code 9 also in omega (arith, zero_code, nine))
        by true false is also = refl
        by false true is also =
            let nine = eqb-true code 9 also in
            rw nine (ap is_some (sup_range changes.sup) ∙ (with_sup changes.sup ∙ ap (λ (o : Option (ℕ × ℕ)). is_some o || is_some changes.sup) (sym old_range_of_sup)))
        by false false is also =
            ap is_some (range_of code also) ∙ (same_range input (new_file input changes order) changes code (sections_in input) (moved input changes order can) (are_made input changes order can)
            ∙ plain_or (is_some (range_in (sections_in input) code)))

  sup_content : (sup : List ℕ) → changes.sup ≡ Some sup → take (length sup) (drop (the_end (elf_of input) changes input order) (new_file input changes order)) ≡ sup
  sup_content sup is =
      let same : added_bytes changes ≡ sup = ap (λ (o : Option (List ℕ)). unwrap_or o []) is in
      has_part (new_file input changes order) (added_bytes changes) (the_end (elf_of input) changes input order) (length sup)
      (has_sup (elf_of input) changes input order (is_whole input changes order can)) (ap length (sym same)) ∙ same

  pub new_contents : (code : ℕ) → section_of (new_file input changes order) code ≡ unwrap_or (new_for changes code) (section_of input code)
  unfolding section_of section_range added sup_section
  new_contents code =
      ap (λ (xs : List Section). bytes_in (new_file input changes order) (cond (eqb code 0) None (range_in xs code))) (same_sections input changes order can)
      ∙ by (eqb code 0) (eqb code 9) refl refl where
        none_for_zero : content_for changes.new 0 ≡ None
        none_for_zero = go changes.new can.can_change.coded where
          go : (new : List NewContent) → All (λ n. n.code ≢ 0) new → content_for new 0 ≡ None
          go [] all = refl
          go (n ∷ new) all = cond-false (eqb n.code 0) (Some n.bytes) (content_for new 0) (ne_eqb n.code 0 (All-head (λ m. m.code ≢ 0) n new all)) ∙ go new (All-tail (λ m. m.code ≢ 0) n new all)

        with_sup : (sup : Option (List ℕ)) → changes.sup ≡ sup → bytes_in (new_file input changes order) (range_in ((added input changes order can) sup) 9) ≡ unwrap_or sup []
        with_sup None is = refl
        with_sup (Some sup) is = sup_content sup is

        by : (b c : Bool) → eqb code 0 ≡ b → eqb code 9 ≡ c
            → bytes_in (new_file input changes order) (cond b None (range_in ((moved input changes order can) ++ (added input changes order can) changes.sup) code))
            ≡ unwrap_or (cond c changes.sup (content_for changes.new code)) (bytes_in input (cond b None (range_in (sections_in input) code)))
        by true true is also = absurd (let zero_code = eqb-true code 0 is in let nine = eqb-true code 9 also in omega (arith, zero_code, nine))
        by true false is also =
            let no_new : content_for changes.new code ≡ None = ap (content_for changes.new) (eqb-true code 0 is) ∙ none_for_zero in
            rw no_new refl
        by false true is also =
            let nine = eqb-true code 9 also in
            rw nine (ap (bytes_in (new_file input changes order)) (sup_range changes.sup)
            ∙ (with_sup changes.sup refl ∙ ap (λ (o : Option (ℕ × ℕ)). unwrap_or changes.sup (bytes_in input o)) (sym old_range_of_sup)))
        by false false is also =
            ap (bytes_in (new_file input changes order)) (range_of code also)
            ∙ same_contents input (new_file input changes order) changes code (eqb-false code 0 is) (sections_in input) (moved input changes order can) (are_made input changes order can)
            (no_content (sections_in input) changes code can.can_change)

  pub sections_short : (code : ℕ) → length (section_of (new_file input changes order) code) < 2 ^ 32
  unfolding section_of
  sections_short code = omega (arith, bytes_short (new_file input changes order) (section_range (sections_in (new_file input changes order)) code), (short input changes order can))

  -- ---- each section

  pub carried : (k : ℕ) (s : Section) → slice_get (sections_in input) k ≡ Some s → (t : Section) × (slice_get (sections_in (new_file input changes order)) k ≡ Some t)
      × IsCarried (new_file input changes order) (content_at (elf_of input) changes input k) s t
  unfolding moved
  carried k s is =
      let place = the_headers_at (elf_of input) changes input order + 64 * k in
      let t : Section = record { header = moved_to place (moved_in (placed_of (elf_of input) changes input order) (0 + k)) s.header; name = s.name } in
      let here = moved_at (placed_of (elf_of input) changes input order) (the_headers_at (elf_of input) changes input order) 0 (sections_in input) k s is in
      let index : k ≡ 0 + k = omega arith in
      let made = subst (λ (n : ℕ). IsMadeAt (new_file input changes order) (content_at (elf_of input) changes input k) s
      (record { header = moved_to place (moved_in (placed_of (elf_of input) changes input order) n) s.header; name = s.name })) index ((one_at input changes order can) k place s is) in (
        t,
        ap (λ (xs : List Section). slice_get xs k) (same_sections input changes order can) ∙ in_front (moved input changes order can) ((added input changes order can) changes.sup) k t here,
        made.carried,
      )

  pub sup_added : (sup : List ℕ) → changes.sup ≡ Some sup → (t : Section) × (slice_get (sections_in (new_file input changes order)) (file_header input).headers ≡ Some t)
      × IsSup (new_file input changes order) sup t
  unfolding added sup_section
  sup_added sup is =
      let n = (file_header input).headers in
      let there : slice_get ((moved input changes order can) ++ (added input changes order can) changes.sup) n ≡ Some ((sup_section input changes order can) sup) =
      ap (λ (o : Option (List ℕ)). slice_get ((moved input changes order can) ++ (added input changes order can) o) n) is
      ∙ (ap (slice_get ((moved input changes order can) ++ (sup_section input changes order can) sup ∷ [])) (sym (length_moved input changes order can))
      ∙ in_last (moved input changes order can) ((sup_section input changes order can) sup)) in (
        (sup_section input changes order can) sup,
        ap (λ (xs : List Section). slice_get xs n) (same_sections input changes order can) ∙ there,
        record { name = refl; kind = refl; flags = refl; align = refl; holds = sup_content sup is },
      )

  -- ---- the loaded bytes

  pub same_loaded : (at : ℕ) → at < keep_end (elf_of input) → ¬ IsTableField at → get_or (new_file input changes order) at 0 ≡ get_or input at 0
  same_loaded at less other =
      kept_same (elf_of input) changes input order (is_whole input changes order can) at less
      (elim (cases_lt at 40) [ inl h ↦ inl h | inr h ↦ elim (cases_lt at 48) [ inl k ↦ absurd (other (inl (h, k))) | inr k ↦ inr k ] ])
      (elim (cases_lt at 60) [ inl h ↦ inl h | inr h ↦ elim (cases_lt at 62) [ inl k ↦ absurd (other (inr (h, k))) | inr k ↦ inr k ] ])
