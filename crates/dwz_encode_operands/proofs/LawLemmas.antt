-- The laws, of files as they are stored in a run.
use Rattle.std.proofs.Common.{◌≡◌, ℕ, List, length, map, Some, slice_get, sym, ap, subst, ◌∙◌}
use Rattle.dwz_def_reading.specs.Units.{RawUnit}
use Rattle.dwz_def_reading.specs.Files.{HaveGoodRanges, Reads, around_of, debug_aranges}
use Rattle.dwz_def_reading.specs.NamedLists.{lists_of_units}
use Rattle.dwz_def_reading.specs.Shared.{AreRows, NoneShared}
use Rattle.dwz_def_reading.proofs.FileLemmas.{file_agrees}
use Rattle.dwz_unit.specs.Rows.{units_of as raw_units}
use Rattle.dwz_graph.specs.ListRows.{operand_view}
use Rattle.dwz_graph.specs.declared.file.File.{File}
use Rattle.dwz_graph.specs.Index.{Index}
use Rattle.dwz_layout_numbers.specs.Images.{IsFile}
use Rattle.dwz_graph.specs.EntryCounts.{starts_from}
use Rattle.dwz_def_readback.specs.Files.{sources}
use Rattle.dwz_def_output.specs.Contents.{lists_after_by, operand_number_after_by, ranges_after_by}
use Rattle.dwz_encode_sections.specs.Numbers.{with_numbers}
use Rattle.dwz_encode_sections.specs.Ranges.{AreMoved}
use Rattle.dwz_law_layout.specs.Beside.{Beside}
use Rattle.dwz_law_layout.specs.Facts.{AreFacts, HasFile, RunFacts, common, every, move, run}
use Rattle.dwz_def_tops.specs.Spots.{EntryName}
use Rattle.dwz_encode_operands.specs.Operands.{HasNewNumbers}
use Rattle.dwz_encode_operands.specs.NumberLaws.{ArePlaces, AreUnitPlaces, HaveNewNumbers, stands_after}
use Rattle.dwz_encode_operands.proofs.FilePlaces.{its_file, names, numbers_are, numbers_at, start_there, starts_after}
use Rattle.dwz_encode_operands.proofs.SectionNumbers.{lists_are, ranges_are}

module _ {beside : Beside} (f : RunFacts beside) (facts : AreFacts f) (n : ℕ) (bytes : List ℕ) (x : File) (index : Index) (has : HasFile f n bytes x index) where
  abbrev raw : List RawUnit
  raw = raw_units x.units

  reads : Reads has.read.limits bytes raw has.read.read.doc
  reads = ((file_agrees has.read.limits bytes).ok (raw, has.read.read.doc)).0 has.read.read.means

  stored : (f.input.bytes n ≡ bytes) × (f.input.raw n ≡ raw)
  stored = facts.stored n bytes x index has

  pub ranges_moved : (units_at new : List ℕ) → length units_at ≡ length raw → AreUnitPlaces f index.starts.unit raw units_at
      → AreMoved (map (λ (u : RawUnit). u.at) raw) units_at (debug_aranges bytes) new → new ≡ ranges_after_by (common f) (run f) n
  ranges_moved units_at new many are moved =
      let starts = map (λ (u : RawUnit). u.at) raw in
      let Moves : List ℕ → List RawUnit → Type 0 = λ b us.
      AreMoved (map (λ (u : RawUnit). u.at) us) (map (stands_after f n) (map (λ (u : RawUnit). u.at) us)) (debug_aranges b) new in
      let good : HaveGoodRanges (f.input.bytes n) (f.input.raw n) =
      subst (λ (b : List ℕ). HaveGoodRanges b (f.input.raw n)) (sym stored.0) (subst (λ (us : List RawUnit). HaveGoodRanges bytes us) (sym stored.1) reads.ranges) in
      let begins = start_there f facts n x index has.index_is in
      let so : Moves bytes raw = subst (λ (ps : List ℕ). AreMoved starts ps (debug_aranges bytes) new)
      (starts_after f facts n x index has.file has.index_is begins.0 begins.1 units_at many are) moved in
      ranges_are (common f) (run f) n good new (subst (λ (b : List ℕ). Moves b (f.input.raw n)) (sym stored.0) (subst (λ (us : List RawUnit). Moves bytes us) (sym stored.1) so))

  numbers_made : (numbers : List ℕ) → numbers ≡ map (λ o. operand_number_after_by (common f) (run f) n (operand_view raw o)) x.resolved.operands.items
      → with_numbers x.resolved.operands.items numbers (sources (run f) n).lists ≡ lists_after_by (common f) (run f) n
  numbers_made numbers same =
      let rows = x.resolved.operands.items in
      let Rows : List ℕ → List RawUnit → Type 0 = λ b us. AreRows (lists_of_units (around_of b us) us) (map (operand_view us) rows) in
      let None : List ℕ → List RawUnit → Type 0 = λ b us. NoneShared (lists_of_units (around_of b us) us) in
      let is_rows : Rows (f.input.bytes n) (f.input.raw n) =
      subst (λ (b : List ℕ). Rows b (f.input.raw n)) (sym stored.0) (subst (λ (us : List RawUnit). Rows bytes us) (sym stored.1) has.read.read.operands) in
      let none : None (f.input.bytes n) (f.input.raw n) =
      subst (λ (b : List ℕ). None b (f.input.raw n)) (sym stored.0) (subst (λ (us : List RawUnit). None bytes us) (sym stored.1) reads.lists) in
      let section = (sources (run f) n).lists in
      ap (λ (ms : List ℕ). with_numbers rows ms section) same
      ∙ ap (λ (us : List RawUnit). with_numbers rows (map (λ o. operand_number_after_by (common f) (run f) n (operand_view us o)) rows) section) (sym stored.1)
      ∙ lists_are (common f) (run f) n rows is_rows none

  module _ (start : ℕ) (start_is : slice_get (starts_from 0 f.indexes) n ≡ Some start) (at : List ℕ) (are : ArePlaces f n raw at) (units_at : List ℕ)
      (of_units : AreUnitPlaces f index.starts.unit raw units_at) where
    pub lists_made : (numbers : List ℕ) → HaveNewNumbers f x index start at units_at numbers
        → with_numbers x.resolved.operands.items numbers (sources (run f) n).lists ≡ lists_after_by (common f) (run f) n
    lists_made numbers have = numbers_made numbers (numbers_are f facts n x index has.file has.index_is start start_is at are units_at of_units numbers have)

    pub section_made : (out : List ℕ)
        → ((some : List EntryName) → IsFile (every f) some index start
        → HasNewNumbers (every f) (move f) some at units_at x.resolved.operands.items (sources (run f) n).lists out)
        → out ≡ lists_after_by (common f) (run f) n
    section_made out have =
        let h = have (names f facts n x index has.file has.index_is start start_is) (its_file f facts n x index has.file has.index_is start start_is) in
        h.is ∙ numbers_made h.numbers (numbers_at f facts n x index has.file has.index_is start start_is at are units_at of_units h.numbers h.are)
