-- The new sections of a file can be given to it.
use Rattle.std.proofs.Common.{◌≡◌, ℕ, ◌<◌, Bool, true, false, cond, eqb, List, [], ◌∷◌, length, map, Option, Some, None, Ok, refl, sym, ap, subst, ◌∙◌}
use Rattle.std.specs.Prelude.{not, ◌||◌}
use Rattle.std.specs.List.{list_any}
use Rattle.std.proofs.lemmas.Bool.{not-false, or_parts}
use Rattle.dwz_model.specs.declared.fault.Fault.{Fault}
use Rattle.dwz_model.specs.declared.fault.Reason.TheVariants.{FileSize}
use Rattle.dwz_model.specs.declared.sections.Sections.{Sections}
use Rattle.dwz_def_reading.specs.declared.elf.Section.{Section}
use Rattle.dwz_def_reading.specs.Documents.{Doc, DwUnit}
use Rattle.dwz_def_reading.specs.ElfFaults.{file_fault, read_back}
use Rattle.dwz_def_reading.specs.ElfNames.{sections_in}
use Rattle.dwz_def_reading.specs.ElfReading.{elf_fault_for, has_code, missing_fault, range_in, section_range}
use Rattle.dwz_def_reading.specs.Entries.{unless_so}
use Rattle.dwz_def_reading.specs.Files.{Limits, ReadsBy, debug_abbrev, debug_aranges, debug_info, ends_at, file_meaning_by, is_too_long, section_of, sources_of}
use Rattle.dwz_def_reading.specs.Meanings.{MeanUnits}
use Rattle.dwz_def_reading.specs.PatchedLists.{with_number}
use Rattle.dwz_def_reading.specs.Places.{Place}
use Rattle.dwz_def_reading.specs.Ranges.{RangeSet}
use Rattle.dwz_def_reading.specs.Rules.{ReadingRule}
use Rattle.dwz_def_reading.specs.Units.{RawUnit, SpellsUnits}
use Rattle.dwz_def_reading.proofs.ElfFaultLemmas.{test_false}
use Rattle.dwz_def_reading.proofs.FileLemmas.{file_agrees_by}
use Rattle.dwz_def_reading.proofs.PartLemmas.{bind_ok}
use Rattle.dwz_def_encoding.specs.Placing.{sections}
use Rattle.dwz_def_encoding.specs.Writing.{joined, tables_of, units_bytes}
use Rattle.dwz_def_cross.specs.Tops.{whole_units}
use Rattle.dwz_def_output.specs.Changed.{CanGive, CanGiveAll}
use Rattle.dwz_def_output.specs.Contents.{if_other}
use Rattle.dwz_def_output.proofs.FaultLemmas.{no_faults}
use Rattle.dwz_def_output.proofs.GivenSections.{can_give, can_give_other, none_if_none, some_bytes}
use Rattle.dwz_def_output.proofs.ListsWritten.{over_len}
use Rattle.dwz_def_output.proofs.SectionsMade.{units_len}
use Rattle.dwz_def_expand.specs.OneFile.{OneFile, ReadsOne, around, limits_behind, rule_for, said_by_file, same_place, units_read}
use Rattle.dwz_def_expand.specs.Output.{Spoken, forms, in_lists, new_lists, new_places, new_ranges, new_sections, new_start, number_of_operand, number_of_unit, sets}
use Rattle.dwz_def_expand.specs.Source.{Copy, copies}
use Rattle.dwz_def_expand.specs.Written.{written}

-- ---- `.debug_info` and `.debug_abbrev` are there

found : (code : ℕ) (all : List Section) → list_any (has_code code) all ≡ true → (range : ℕ × ℕ) × (range_in all code ≡ Some range)
found code [] any = absurd cc
found code (s ∷ all) any = by (has_code code s) any (found code all) where
  by : (t : Bool) → (t || list_any (has_code code) all) ≡ true → (list_any (has_code code) all ≡ true → (range : ℕ × ℕ) × (range_in all code ≡ Some range))
      → (range : ℕ × ℕ) × (cond t (Some (s.header.offset, s.header.size)) (range_in all code) ≡ Some range)
  by true some later = ((s.header.offset, s.header.size), refl)
  by false some later = later some

-- a file that reads has no ELF fault
pub none_for : {P : Type 0} (rule : ReadingRule P) (l : Limits) (bytes : List ℕ) (raw : List RawUnit) (doc : Doc P) → ReadsBy rule l bytes raw doc → elf_fault_for rule.manner bytes ≡ None
unfolding file_meaning_by
none_for rule l bytes raw doc reads =
    let long = bind_ok (unless_so (is_too_long l bytes) (file_fault FileSize 0)) _ (raw, doc) (((file_agrees_by rule l bytes).ok (raw, doc)).1 reads) in
    let elf = bind_ok (ends_at (elf_fault_for rule.manner bytes)) _ (raw, doc) long.2 in
    by (elf_fault_for rule.manner bytes) elf.0 elf.1
  where
    by : (o : Option Fault) (u : Unit {0}) → ends_at o ≡ Ok u → o ≡ None
    by None u e = refl
    by (Some x) u e = absurd cc

-- of an ELF file that has the sections of a file that reads, but for `.debug_sup`
module _ (f : OneFile) (reads : ReadsOne f) (input : List ℕ) (same : (code : ℕ) → eqb 9 code ≡ false → section_of input code ≡ section_of f.file.bytes code) where
  abbrev s : Sections
  s = new_sections f

  -- where no unit is stored, none is said
  no_units : f.file.raw ≡ [] → f.file.doc.units ≡ []
  no_units none = by f.file.doc.units (subst (λ (raw : List RawUnit). MeanUnits (around f 0) raw f.file.doc.units) none reads.file.means) where
    by : (units : List (DwUnit Place)) → MeanUnits (around f 0) [] units → units ≡ []
    by [] h = refl
    by (u ∷ units) h = absurd h

  nothing_written : f.file.raw ≡ [] → written same_place (forms f) (said_by_file f) ≡ []
  unfolding written copies whole_units
  nothing_written none = ap (λ (own : List (DwUnit Place)). written same_place (forms f) (record { own = own; common = units_read f.common })) (no_units none)

  nothing_info : (units : List (DwUnit (Copy Place))) → units ≡ [] → (sections (new_places f) units).info ≡ []
  unfolding sections units_bytes
  nothing_info units none = ap (λ (us : List (DwUnit (Copy Place))). (sections (new_places f) us).info) none

  nothing_abbrevs : (units : List (DwUnit (Copy Place))) → units ≡ [] → (sections (new_places f) units).abbrevs ≡ []
  unfolding sections tables_of joined
  nothing_abbrevs units none = ap (λ (us : List (DwUnit (Copy Place))). (sections (new_places f) us).abbrevs) none

  module _ (alone : elf_fault_for read_back input ≡ None) where
    -- both sections are there
    both : (list_any (has_code 1) (sections_in input) ≡ true) × (list_any (has_code 2) (sections_in input) ≡ true)
    unfolding missing_fault
    both =
        let parts = or_parts (not (list_any (has_code 1) (sections_in input))) (not (list_any (has_code 2) (sections_in input)))
        (test_false _ _ _ (no_faults read_back input alone).debug) in
        (not-false (list_any (has_code 1) (sections_in input)) parts.0, not-false (list_any (has_code 2) (sections_in input)) parts.1)

    empty : (code : ℕ) (new : List ℕ) → list_any (has_code code) (sections_in input) ≡ true → eqb code 0 ≡ false → new ≡ [] → CanGive input code (Some new)
    unfolding section_range
    empty code new any coded none =
        let range = found code (sections_in input) any in
        (range.0, ap (λ (t : Bool). cond t None (range_in (sections_in input) code)) coded ∙ range.1, λ zero_size. none)

    units_given : CanGive input 1 (Some s.info) × CanGive input 2 (Some s.abbrev)
    unfolding new_sections
    units_given = by f.file.raw refl where
      by : (raw : List RawUnit) → f.file.raw ≡ raw → CanGive input 1 (Some s.info) × CanGive input 2 (Some s.abbrev)
      by [] e = (
        empty 1 s.info both.0 refl (nothing_info (written same_place (forms f) (said_by_file f)) (nothing_written e)),
        empty 2 s.abbrev both.1 refl (nothing_abbrevs (written same_place (forms f) (said_by_file f)) (nothing_written e)),
      )
      by (u ∷ raw) e =
          let mode = (rule_for f 0).mode (limits_behind f.common).entries in
          let some = some_bytes (debug_abbrev f.file.bytes) mode u raw (debug_info f.file.bytes)
          (subst (λ (all : List RawUnit). SpellsUnits (debug_abbrev f.file.bytes) mode 0 all 0 (debug_info f.file.bytes)) e reads.file.spelled) in (
            can_give input 1 s.info (subst (λ (old : List ℕ). 0 < length old) (sym (same 1 refl)) some.0),
            can_give input 2 s.abbrev (subst (λ (old : List ℕ). 0 < length old) (sym (same 2 refl)) some.1),
          )

    lists_len : length (new_lists f) ≡ length (section_of input 7)
    unfolding new_lists
    lists_len = over_len (map (λ (o : Spoken). with_number (λ at. number_of_operand f o) o.operand) (in_lists f)) (sources_of f.file.bytes).lists ∙ ap length (sym (same 7 refl))

    ranges_len : length (new_ranges f) ≡ length (section_of input 8)
    unfolding new_ranges
    ranges_len = units_len (sets f) (map (λ (r : RangeSet). new_start f (number_of_unit f r.unit)) (sets f)) (debug_aranges f.file.bytes) ∙ ap length (sym (same 8 refl))

    pub given_all : CanGiveAll input s
    unfolding new_sections
    given_all = record {
      info = units_given.0;
      abbrevs = units_given.1;
      strs = tt;
      offsets = tt;
      line = tt;
      lists = subst (λ (old : List ℕ). CanGive input 7 (if_other old (new_lists f))) (same 7 refl)
          (can_give_other input 7 (new_lists f) (none_if_none (section_of input 7) (new_lists f) lists_len));
      ranges = subst (λ (old : List ℕ). CanGive input 8 (if_other old (new_ranges f))) (same 8 refl)
          (can_give_other input 8 (new_ranges f) (none_if_none (section_of input 8) (new_ranges f) ranges_len));
    }
