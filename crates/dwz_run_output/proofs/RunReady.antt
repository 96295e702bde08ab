-- The files of a run that were read can be made: what is new in each can be given to it, since its sections are there.
use Rattle.std.proofs.Common.{◌≡◌, ℕ, zero, suc, ◌<◌, ◌≤◌, Bool, true, false, List, [], ◌∷◌, length, get_or, Option, None, refl, sym, ap, ◌∙◌, inl, inr, arith}
use Rattle.std.proofs.lemmas.Bool.{cases_lt}
use Rattle.std.proofs.lemmas.List.{get_or_past}
use Rattle.std.proofs.lemmas.List.FromFn.{length-range_with_len}
use Rattle.dwz_def_reading.specs.Entries.{given}
use Rattle.dwz_def_reading.specs.Units.{RawUnit, SpellsUnits}
use Rattle.dwz_def_reading.specs.Values.{AreBytes}
use Rattle.dwz_def_reading.specs.Documents.{Doc}
use Rattle.dwz_def_reading.specs.Files.{Limits, ReadAll, debug_abbrev, debug_info, section_of}
use Rattle.dwz_def_output.specs.Changed.{CanGiveAll}
use Rattle.dwz_def_reading.specs.Lists.{Each}
use Rattle.dwz_def_tops.proofs.Members.{nth_below}
use Rattle.dwz_def_tops.proofs.FileNumbers.{numbers_long}
use Rattle.dwz_def_images.specs.Moves.{Move}
use Rattle.dwz_def_images.specs.Units.{changes}
use Rattle.dwz_def_readback.specs.AllFiles.{AreRead, FileReads}
use Rattle.dwz_def_readback.specs.Back.{run_by}
use Rattle.dwz_def_readback.specs.Files.{CommonFile, Run}
use Rattle.dwz_def_output.specs.Contents.{lists_after_by, offsets_after_by, ranges_after_by, sections_after_by, strs_after_by}
use Rattle.dwz_def_output.specs.FilesAfter.{file_after_by}
use Rattle.dwz_def_output.specs.Written.{ArePrunable, stored_behind}
use Rattle.dwz_def_output.proofs.AllMade.{IsChanged, changed_file}
use Rattle.dwz_def_output.proofs.GivenSections.{can_give, can_give_other, none_if_none, some_bytes}
use Rattle.dwz_def_output.specs.declared.new_file.NewFile.{NewFile}
use Rattle.dwz_def_output.specs.NewFiles.{AreNewBy}
use Rattle.dwz_def_over.proofs.ReadOver.{are_read_behind, read_length}
use Rattle.dwz_def_over.proofs.SectionsOver.{lists_len, ranges_len}
use Rattle.dwz_def_over.proofs.SlotsOver.{no_offsets, no_strs}
use Rattle.dwz_run_output.specs.Making.{AreBytesOf, AreMadeSo, CanMake, made_if}
use Rattle.dwz_run_output.proofs.SectionFaults.{is_row}

-- ---- what can be given

module _ (k : CommonFile) (r : Run) (file : ℕ) (doc : Doc ℕ) (read : FileReads (r.input.bytes file) (r.input.raw file) (r.input.prunes file) doc) (some : (r.input.raw file ≡ []) → ⊥) where
  abbrev input : List ℕ
  input = r.input.bytes file

  have_bytes : (0 < length (debug_info input)) × (0 < length (debug_abbrev input))
  have_bytes = by (r.input.raw file) some read.reads.spelled where
    by : (raw : List RawUnit) → (raw ≡ [] → ⊥) → SpellsUnits (debug_abbrev input) (given read.limits.entries) 0 raw 0 (debug_info input)
        → (0 < length (debug_info input)) × (0 < length (debug_abbrev input))
    by [] filled spelled = absurd (filled refl)
    by (u ∷ raw) filled spelled = some_bytes (debug_abbrev input) (given read.limits.entries) u raw (debug_info input) spelled

  pub can_give_all : CanGiveAll input (sections_after_by k r file)
  unfolding sections_after_by
  can_give_all = record {
    info = can_give input 1 (sections_after_by k r file).info have_bytes.0;
    abbrevs = can_give input 2 (sections_after_by k r file).abbrev have_bytes.1;
    strs = can_give_other input 3 (strs_after_by k r file) (no_strs k r file);
    offsets = can_give_other input 5 (offsets_after_by k r file) (no_offsets k r file);
    line = tt;
    lists = can_give_other input 7 (lists_after_by k r file) (none_if_none (section_of input 7) (lists_after_by k r file) (lists_len k r file));
    ranges = can_give_other input 8 (ranges_after_by k r file) (none_if_none (section_of input 8) (ranges_after_by k r file) (ranges_len k r file));
  }

-- ---- all files

module _ (k : CommonFile) (m : Move) (l : Limits) (contents : List (List ℕ)) (docs : List (Doc ℕ)) (prunes : List Bool) (reads : ReadAll l contents docs)
    (prunable : ArePrunable contents docs prunes) (bytes : Each AreBytes contents) where
  abbrev r : Run
  r = run_by m docs (stored_behind l contents prunes)

  are_read : AreRead (stored_behind l contents prunes) docs
  are_read = are_read_behind l contents docs prunes reads prunable bytes

  changed : (file : ℕ) → changes r.move r.units file ≡ true → IsChanged docs (stored_behind l contents prunes) are_read r.move.gone file
  unfolding changes
  changed file moves = changed_file docs (stored_behind l contents prunes) are_read r.move.gone file moves

  -- nothing moves of a file that isn't there
  pub stays_beyond : (file : ℕ) → length contents ≤ file → changes r.move r.units file ≡ false
  stays_beyond file beyond = by (changes r.move r.units file) refl where
    by : (b : Bool) → changes r.move r.units file ≡ b → b ≡ false
    by true e =
        let c = changed file e in
        let less = nth_below 0 docs file c.doc c.nth in
        let many = read_length l contents docs reads in absurd (omega (arith, less, many, beyond))
    by false e = refl

  pub can_make : (made : List (Option NewFile)) (count : ℕ) → AreNewBy k r made count → (file : ℕ) → file < length contents
      → CanMake k r file (get_or contents file []) (get_or made file None)
  can_make made count are file less = record {
    is_new = are.each file (get_or made file None) (is_row made file (get_or made file None) inside (sym (same_default made file None inside)));
    before = refl;
    can = λ moves. (let c = changed file moves in can_give_all k r file c.doc c.read c.some);
  } where
    inside : file < length made
    inside =
        let numbers = ap length are.files in
        let all = numbers_long 0 docs in
        let range = length-range_with_len 0 (length made) in
        let many = read_length l contents docs reads in omega (arith, numbers, all, range, many, less)

    same_default : {X : Type 0} (xs : List X) (n : ℕ) (d : X) → n < length xs → get_or xs n (get_or xs n d) ≡ get_or xs n d
    same_default [] n d less = absurd (omega arith)
    same_default (x ∷ xs) zero d less = refl
    same_default (x ∷ xs) (suc n) d less = same_default xs n d (omega arith)

  -- the new bytes of all files, and none of others
  pub all_bytes : (name : List ℕ) (files : List (Option (List ℕ))) → AreMadeSo k name r (length contents) files → AreBytesOf k name r files
  all_bytes name files are file = elim (cases_lt file (length contents)) [
    | inl less ↦ are.each file less
    | inr beyond ↦ (let len = are.len in
        let past : length files ≤ file = omega (arith, len, beyond) in
        get_or_past files file None past ∙ sym (ap (λ (b : Bool). made_if b (file_after_by k name r file)) (stays_beyond file beyond)))
  ]
