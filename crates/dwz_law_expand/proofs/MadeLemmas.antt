-- The new sections of a file can be given to it, and what is made so has them.
use Rattle.std.proofs.Common.{◌≡◌, ℕ, ◌<◌, ◌^◌, Bool, true, false, cond, eqb, List, [], ◌∷◌, length, map, Option, Some, None, Ok, unwrap_or, refl, sym, ap, subst, ◌∙◌, arith}
use Rattle.std.specs.Prelude.{not, ◌||◌}
use Rattle.std.proofs.lemmas.Bool.{not-false, or_parts}
use Rattle.dwz_def_reading.specs.ElfFaults.{ElfManner, by_itself, file_fault, read_back}
use Rattle.dwz_def_reading.specs.Ranges.{RangeSet}
use Rattle.dwz_def_reading.specs.PatchedLists.{with_number}
use Rattle.dwz_def_encoding.specs.Placing.{sections}
use Rattle.dwz_def_encoding.specs.Writing.{joined, tables_of, units_bytes}
use Rattle.dwz_def_cross.specs.Tops.{whole_units}
use Rattle.dwz_def_expand.specs.Source.{Copy, copies}
use Rattle.dwz_def_expand.specs.Written.{written}
use Rattle.dwz_def_expand.specs.OneFile.{FileRead, given_common, limits_behind, rule_for, said_by_file, same_place, units_read, OneFile, ReadsOne, around}
use Rattle.dwz_def_expand.specs.Output.{ExpandRefusal, Spoken, forms, in_lists, new_places, new_start, number_of_operand, number_of_unit, new_lists, new_ranges, new_sections, sets}
use Rattle.std.specs.List.{list_any}
use Rattle.dwz_def_reading.specs.Sections.{Sections}
use Rattle.dwz_def_reading.specs.declared.elf.Section.{Section}
use Rattle.dwz_def_reading.specs.Documents.{Doc, DwUnit}
use Rattle.dwz_def_reading.specs.ElfNames.{sections_in}
use Rattle.dwz_def_reading.specs.ElfReading.{elf_fault, elf_fault_for, has_code, missing_fault, range_in, section_range}
use Rattle.dwz_def_reading.specs.Files.{Limits, ReadsBy, debug_abbrev, debug_aranges, debug_info, ends_at, file_meaning_by, is_too_long, longest_file, section_of, sources_of}
use Rattle.dwz_def_reading.specs.Meanings.{MeanUnits, Sources}
use Rattle.dwz_def_reading.specs.Places.{Place}
use Rattle.dwz_def_reading.specs.Units.{RawUnit, SpellsUnits}
use Rattle.dwz_def_reading.specs.Fault.{Fault}
use Rattle.dwz_def_reading.specs.Reason.TheVariants.{FileSize}
use Rattle.dwz_def_reading.specs.Entries.{unless_so}
use Rattle.dwz_def_reading.specs.Finished.{rule_of_back}
use Rattle.dwz_def_reading.specs.Rules.{ReadingRule}
use Rattle.dwz_def_reading.proofs.FileLemmas.{file_agrees_by}
use Rattle.dwz_def_reading.proofs.PartLemmas.{bind_ok}
use Rattle.dwz_def_reading.proofs.ElfFaultLemmas.{elf_is_sound, test_false}
use Rattle.dwz_def_output.specs.Contents.{if_other}
use Rattle.dwz_def_output.specs.Changed.{CanGive, CanGiveAll}
use Rattle.dwz_def_output.specs.Rebuilt.{CanBeMade, new_file}
use Rattle.dwz_def_output.proofs.ChangedLemmas.{abbrevs_after, can_change, info_after, ranges_after, sources_are}
use Rattle.dwz_def_output.proofs.FaultLemmas.{HasNoFault, no_faults}
use Rattle.dwz_def_output.proofs.GivenSections.{can_give, can_give_other, none_if_none, other_is, some_bytes}
use Rattle.dwz_def_output.proofs.ListsWritten.{over_len}
use Rattle.dwz_def_output.proofs.RebuiltLemmas.{reads_back}
use Rattle.dwz_def_output.proofs.SectionsMade.{units_len}
use Rattle.dwz_def_expand.specs.Dropped.{without_sup}
use Rattle.dwz_law_expand.specs.MadeLaws.{CanBeLaid, IsMadeOf, MadeLaw, changes_of}
use Rattle.dwz_def_expand.specs.After.{ReadsFreely, units_after}
use Rattle.dwz_law_expand.specs.ReadLaws.{HasExpanded}
use Rattle.dwz_law_expand.specs.Told.{IsOfBytes}
use Rattle.dwz_def_reading.specs.ElfHeaders.{file_header}
use Rattle.std.specs.Prelude.{◌+◌, ◌*◌, ◌≤◌, drop, replicate, slice_get, take}
use Rattle.dwz_def_reading.specs.Refusal.{Refusal}
use Rattle.dwz_law_expand.proofs.ReadLemmas.{reads_freely}
use Rattle.dwz_law_expand.proofs.DropBytes.{header_without_sup, reads_without, section_without}

-- ---- `.debug_info` and `.debug_abbrev` are there

found : (code : ℕ) (all : List Section) → list_any (has_code code) all ≡ true → (range : ℕ × ℕ) × (range_in all code ≡ Some range)
found code [] any = absurd cc
found code (s ∷ all) any = by (has_code code s) any (found code all) where
  by : (t : Bool) → (t || list_any (has_code code) all) ≡ true → (list_any (has_code code) all ≡ true → (range : ℕ × ℕ) × (range_in all code ≡ Some range))
      → (range : ℕ × ℕ) × (cond t (Some (s.header.offset, s.header.size)) (range_in all code) ≡ Some range)
  by true some later = ((s.header.offset, s.header.size), refl)
  by false some later = later some

-- a file that reads has no ELF fault
none_for : {P : Type 0} (rule : ReadingRule P) (l : Limits) (bytes : List ℕ) (raw : List RawUnit) (doc : Doc P) → ReadsBy rule l bytes raw doc → elf_fault_for rule.manner bytes ≡ None
unfolding file_meaning_by
none_for rule l bytes raw doc reads =
    let long = bind_ok (unless_so (is_too_long l bytes) (file_fault FileSize 0)) _ (raw, doc) (((file_agrees_by rule l bytes).ok (raw, doc)).1 reads) in
    let elf = bind_ok (ends_at (elf_fault_for rule.manner bytes)) _ (raw, doc) long.2 in
    by (elf_fault_for rule.manner bytes) elf.0 elf.1
  where
    by : (o : Option Fault) (u : Unit {0}) → ends_at o ≡ Ok u → o ≡ None
    by None u e = refl
    by (Some x) u e = absurd cc

-- of an ELF file that has the sections of a file that reads, but for `.debug_sup`
module _ (f : OneFile) (reads : ReadsOne f) (input : List ℕ) (same : (code : ℕ) → eqb 9 code ≡ false → section_of input code ≡ section_of f.file.bytes code) where
  abbrev s : Sections
  s = new_sections f

  -- where no unit is stored, none is said
  no_units : f.file.raw ≡ [] → f.file.doc.units ≡ []
  no_units none = by f.file.doc.units (subst (λ (raw : List RawUnit). MeanUnits (around f 0) raw f.file.doc.units) none reads.file.means) where
    by : (units : List (DwUnit Place)) → MeanUnits (around f 0) [] units → units ≡ []
    by [] h = refl
    by (u ∷ units) h = absurd h

  nothing_written : f.file.raw ≡ [] → written same_place (forms f) (said_by_file f) ≡ []
  unfolding written copies whole_units
  nothing_written none = ap (λ (own : List (DwUnit Place)). written same_place (forms f) (record { own = own; common = units_read f.common })) (no_units none)

  nothing_info : (units : List (DwUnit (Copy Place))) → units ≡ [] → (sections (new_places f) units).info ≡ []
  unfolding sections units_bytes
  nothing_info units none = ap (λ (us : List (DwUnit (Copy Place))). (sections (new_places f) us).info) none

  nothing_abbrevs : (units : List (DwUnit (Copy Place))) → units ≡ [] → (sections (new_places f) units).abbrevs ≡ []
  unfolding sections tables_of joined
  nothing_abbrevs units none = ap (λ (us : List (DwUnit (Copy Place))). (sections (new_places f) us).abbrevs) none

  module _ (alone : elf_fault input ≡ None) where
    -- both sections are there
    both : (list_any (has_code 1) (sections_in input) ≡ true) × (list_any (has_code 2) (sections_in input) ≡ true)
    unfolding missing_fault
    both =
        let parts = or_parts (not (list_any (has_code 1) (sections_in input))) (not (list_any (has_code 2) (sections_in input)))
        (test_false _ _ _ (no_faults by_itself input alone).debug) in
        (not-false (list_any (has_code 1) (sections_in input)) parts.0, not-false (list_any (has_code 2) (sections_in input)) parts.1)

    empty : (code : ℕ) (new : List ℕ) → list_any (has_code code) (sections_in input) ≡ true → eqb code 0 ≡ false → new ≡ [] → CanGive input code (Some new)
    unfolding section_range
    empty code new any coded none =
        let range = found code (sections_in input) any in
        (range.0, ap (λ (t : Bool). cond t None (range_in (sections_in input) code)) coded ∙ range.1, λ zero_size. none)

    units_given : CanGive input 1 (Some s.info) × CanGive input 2 (Some s.abbrev)
    unfolding new_sections
    units_given = by f.file.raw refl where
      by : (raw : List RawUnit) → f.file.raw ≡ raw → CanGive input 1 (Some s.info) × CanGive input 2 (Some s.abbrev)
      by [] e = (
        empty 1 s.info both.0 refl (nothing_info (written same_place (forms f) (said_by_file f)) (nothing_written e)),
        empty 2 s.abbrev both.1 refl (nothing_abbrevs (written same_place (forms f) (said_by_file f)) (nothing_written e)),
      )
      by (u ∷ raw) e =
          let mode = (rule_for f 0).mode (limits_behind f.common).entries in
          let some = some_bytes (debug_abbrev f.file.bytes) mode u raw (debug_info f.file.bytes)
          (subst (λ (all : List RawUnit). SpellsUnits (debug_abbrev f.file.bytes) mode 0 all 0 (debug_info f.file.bytes)) e reads.file.spelled) in (
            can_give input 1 s.info (subst (λ (old : List ℕ). 0 < length old) (sym (same 1 refl)) some.0),
            can_give input 2 s.abbrev (subst (λ (old : List ℕ). 0 < length old) (sym (same 2 refl)) some.1),
          )

    lists_len : length (new_lists f) ≡ length (section_of input 7)
    unfolding new_lists
    lists_len = over_len (map (λ (o : Spoken). with_number (λ at. number_of_operand f o) o.operand) (in_lists f)) (sources_of f.file.bytes).lists ∙ ap length (sym (same 7 refl))

    ranges_len : length (new_ranges f) ≡ length (section_of input 8)
    unfolding new_ranges
    ranges_len = units_len (sets f) (map (λ (r : RangeSet). new_start f (number_of_unit f r.unit)) (sets f)) (debug_aranges f.file.bytes) ∙ ap length (sym (same 8 refl))

    given_all : CanGiveAll input s
    unfolding new_sections
    given_all = record {
      info = units_given.0;
      abbrevs = units_given.1;
      strs = tt;
      offsets = tt;
      line = tt;
      lists = subst (λ (old : List ℕ). CanGive input 7 (if_other old (new_lists f))) (same 7 refl)
          (can_give_other input 7 (new_lists f) (none_if_none (section_of input 7) (new_lists f) lists_len));
      ranges = subst (λ (old : List ℕ). CanGive input 8 (if_other old (new_ranges f))) (same 8 refl)
          (can_give_other input 8 (new_ranges f) (none_if_none (section_of input 8) (new_ranges f) ranges_len));
    }

  module _ (order : List (ℕ × ℕ)) (alone : elf_fault input ≡ None) (laid : CanBeLaid f input order) where
    pub made : CanBeMade input (changes_of f) order
    made = record {
      reads = alone;
      can_change = can_change input s None (given_all alone);
      fits = laid.fits;
      is_order = laid.is_order;
      small = laid.small;
    }

    abbrev out : List ℕ
    out = new_file input (changes_of f) order

    pub has_expanded : HasExpanded f out
    unfolding new_sections
    has_expanded =
        let all = sources_are input s None order made in
        record {
          manner = by_itself;
          alone = refl;
          elf = (elf_is_sound by_itself out).none (reads_back input (changes_of f) order made refl);
          info = info_after input s None order made;
          abbrevs = abbrevs_after input s None order made;
          strs = ap (λ (x : Sources). x.strs) all ∙ same 3 refl;
          line_strs = ap (λ (x : Sources). x.line_strs) all ∙ same 4 refl;
          offsets = ap (λ (x : Sources). x.offsets) all ∙ same 5 refl;
          line = ap (λ (x : Sources). x.line) all ∙ same 6 refl;
          lists = ap (λ (x : Sources). x.lists) all
              ∙ (ap (λ (old : List ℕ). unwrap_or (if_other (sources_of f.file.bytes).lists (new_lists f)) old) (same 7 refl) ∙ other_is (sources_of f.file.bytes).lists (new_lists f));
          ranges = ranges_after input s None order made
              ∙ (ap (λ (old : List ℕ). unwrap_or (if_other (debug_aranges f.file.bytes) (new_ranges f)) old) (same 8 refl) ∙ other_is (debug_aranges f.file.bytes) (new_ranges f));
        }

    pub is_made : IsMadeOf f input order
    is_made = (made, has_expanded)

-- where it has no `.debug_sup`, of itself
pub made_alone : MadeLaw
made_alone f order reads alone laid = is_made f reads f.file.bytes (λ code other. refl) order alone laid

back : (c : Option FileRead) → (rule_of_back (given_common c) 0).manner ≡ read_back
back None = refl
back (Some c) = refl

module _ (f : OneFile) (order : List (ℕ × ℕ)) (bytes : IsOfBytes f) (reads : ReadsOne f) (few : (file_header f.file.bytes).headers ≤ 65278) where
  abbrev b : List ℕ
  b = f.file.bytes

  none : HasNoFault read_back b
  none = no_faults read_back b (ap (λ (m : ElfManner). elf_fault_for m b) (sym (back f.common)) ∙ none_for (rule_for f 0) (limits_behind f.common) b f.file.raw f.file.doc reads.file)

  bounded : length b < 256 ^ 8
  unfolding longest_file
  bounded = let fits = reads.file.size.file in omega (arith, fits)

  alone_without : elf_fault (without_sup b) ≡ None
  alone_without = reads_without b none few bytes.0 bounded

  same_without : (code : ℕ) → eqb 9 code ≡ false → section_of (without_sup b) code ≡ section_of b code
  same_without = section_without b none few bytes.0 bounded

  -- and else of it without that
  pub made_without : CanBeLaid f (without_sup b) order → IsMadeOf f (without_sup b) order
  made_without laid = is_made f reads (without_sup b) same_without order alone_without laid

  -- whose header is zero bytes
  pub zeros_without : CanBeLaid f (without_sup b) order → (k : ℕ) (s : Section) → slice_get (sections_in b) k ≡ Some s → has_code 9 s ≡ true
      → take 64 (drop ((file_header (new_file (without_sup b) (changes_of f) order)).headers_at + 64 * k) (new_file (without_sup b) (changes_of f) order)) ≡ replicate 64 0
  zeros_without laid = header_without_sup b none few bytes.0 bounded (changes_of f) order (made f reads (without_sup b) same_without order alone_without laid)

  -- so it reads
  pub reads_without_sup : CanBeLaid f (without_sup b) order → ((q : Refusal) → ¬ ExpandRefusal f q) → (raw : List RawUnit) × ReadsFreely (new_file (without_sup b) (changes_of f) order) raw (units_after f)
  reads_without_sup laid free = reads_freely f (new_file (without_sup b) (changes_of f) order) bytes reads free (made_without laid).1
