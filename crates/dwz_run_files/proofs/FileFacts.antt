-- What is known of a file of which something moves: its sections are those that were read, its entries are few, and what stands for its
-- entries and units has its place in the layout.
use Rattle.std.proofs.Common.{◌≡◌, ℕ, zero, suc, ◌+◌, ◌<◌, ◌≤◌, ◌^◌, List, [], ◌∷◌, length, map, Some, slice_get, sym, ap, subst}
use Rattle.std.proofs.Common.{◌∙◌, arith, IsOk}
use Rattle.std.specs.Prelude.{All}
use Rattle.std.specs.List.Sorted.{IsStrictlyIncreasing}
use Rattle.dwz_def_reading.specs.Input.{input}
use Rattle.dwz_def_reading.specs.Entries.{given}
use Rattle.dwz_def_reading.specs.Units.{RawUnit}
use Rattle.dwz_def_reading.specs.Files.{HaveGoodRanges, Reads, debug_abbrev, debug_aranges, debug_info, is_place_of, sources_of}
use Rattle.dwz_def_reading.specs.Meanings.{Sources}
use Rattle.dwz_def_reading.specs.Ranges.{sets_at}
use Rattle.dwz_def_reading.proofs.FileLemmas.{file_agrees}
use Rattle.dwz_aranges.specs.Views.{any_unit}
use Rattle.dwz_def_tops.specs.Spots.{EntryName}
use Rattle.dwz_def_readback.specs.Files.{sources}
use Rattle.dwz_def_output.specs.Contents.{lists_after_by, ranges_after_by}
use Rattle.dwz_encode_sections.specs.Numbers.{EndIn}
use Rattle.dwz_encode_sections.specs.Ranges.{AreMoved}
use Rattle.dwz_encode_sections.proofs.ListLemmas.{all_end}
use Rattle.dwz_unit.specs.Rows.{units_of as raw_units}
use Rattle.dwz_graph.specs.ListOperand.{ListOperand}
use Rattle.dwz_graph.specs.Resolved.{sources_view}
use Rattle.dwz_graph.specs.declared.file.File.{File}
use Rattle.dwz_graph.specs.Index.{Index}
use Rattle.dwz_graph.proofs.FilesFew.{all_small}
use Rattle.dwz_layout_numbers.specs.Images.{IsFile, IsPlanned}
use Rattle.dwz_graph.specs.EntryCounts.{entry_count, starts_from}
use Rattle.dwz_plan.specs.Planned.{Planned}
use Rattle.dwz_layout.specs.declared.known.EntryTable.{EntryTable}
use Rattle.dwz_layout.specs.declared.order.UnitItems.{UnitItems}
use Rattle.dwz_layout.specs.Laid.{AllMade}
use Rattle.dwz_law_layout.specs.Beside.{Beside}
use Rattle.dwz_law_layout.specs.Facts.{AreFacts, RunFacts, common, every, move, run}
use Rattle.dwz_law_layout.specs.Either.{laid_by}
use Rattle.dwz_law_layout.proofs.FileEntries.{IsHere, here}
use Rattle.dwz_run_files.specs.Prepared.{CanLay}
use Rattle.dwz_encode_operands.specs.NumberLaws.{ArePlaces}
use Rattle.dwz_encode_operands.specs.Operands.{HasNewNumbers}
use Rattle.dwz_encode_operands.proofs.FilePlaces.{operands_there}
use Rattle.dwz_encode_operands.proofs.LawLemmas.{ranges_moved, section_made}
use Rattle.dwz_run_files.specs.Spots.{unit_places_from}
use Rattle.dwz_run_files.proofs.EntryPlaces.{entry_places}
use Rattle.dwz_run_files.proofs.UnitPlaces.{unit_begins}
use Rattle.dwz_run_files.specs.declared.moved.FileAfter.{FileAfter}
use Rattle.dwz_run_files.specs.declared.work.LaidRun.{LaidRun}
use Rattle.dwz_run_files.specs.Works.{HaveUnitPlaces, IsMoved}
use Rattle.dwz_run_files.proofs.LowBytes.{low, moved_low, sets_read, units_rise}

-- a file's entries end before those of all files do
start_within : (start : ℕ) (indexes : List Index) (n : ℕ) (x : Index) (first : ℕ) → slice_get indexes n ≡ Some x
    → slice_get (starts_from start indexes) n ≡ Some first → first + length x.steps ≤ start + entry_count indexes
unfolding starts_from entry_count
start_within start [] n x first e g = absurd cc
start_within start (y ∷ indexes) zero x first e g =
    let same : y ≡ x = cc in
    let begins : start ≡ first = cc in
    let steps = ap (λ (w : Index). length w.steps) same in omega (arith, begins, steps)
start_within start (y ∷ indexes) (suc n) x first e g =
    let rest = start_within (start + length y.steps) indexes n x first e g in omega (arith, rest)

module _ {beside : Beside} (f : RunFacts beside) (w : LaidRun) (m : FileAfter) (is : IsMoved f w m) where
  abbrev n : ℕ
  n = m.number

  abbrev pub x : File
  x = m.file.now

  abbrev pub index : Index
  index = m.index.now

  abbrev pub raw : List RawUnit
  raw = raw_units m.file.now.units

  abbrev pub known : EntryTable
  known = w.prepared.now.known

  abbrev orders : List (List UnitItems)
  orders = w.prepared.now.ordered.orders.items

  abbrev pub plan : Planned
  plan = w.prepared.now.run.settled.planned.plan

  abbrev pub operands : List ListOperand
  operands = m.file.now.resolved.operands.items

  pub can : CanLay f is.works.works.ready.texts known orders
  can = is.works.works.ready.can

  pub facts : AreFacts f
  facts = can.facts

  pub stored : (f.input.bytes n ≡ is.bytes) × (f.input.raw n ≡ raw)
  stored = facts.stored n is.bytes x index is.has

  pub reads : Reads is.has.read.limits is.bytes raw is.has.read.read.doc
  reads = ((file_agrees is.has.read.limits is.bytes).ok (raw, is.has.read.read.doc)).0 is.has.read.read.means

  -- ---- sections

  pub same_sources : sources_view x.sections ≡ sources (run f) n
  same_sources = is.has.read.read.sections ∙ ap sources_of (sym stored.0)

  pub same_ranges : x.sections.aranges.now ≡ debug_aranges (f.input.bytes n)
  same_ranges = is.has.read.read.aranges ∙ ap debug_aranges (sym stored.0)

  -- ---- operands of location lists

  pub operands_end : EndIn (length x.sections.lists.now) operands
  operands_end =
      subst (λ (s : Sources). EndIn (length s.lists) operands) (sym is.has.read.read.sections)
      (all_end _ raw operands is.has.read.read.operands)

  pub operands_inside : All (λ o. o.entry < length index.steps) operands
  operands_inside = operands_there f facts n x index is.has.file is.has.index_is m.start is.start_is

  pub few_entries : m.start + length index.steps < 2 ^ 32
  few_entries =
      let small = all_small f.contents f.files f.indexes facts.kept facts.indexed in
      let within = start_within 0 f.indexes n index m.start is.has.index_is is.start_is in
      let entries = small.entries in omega (arith, within, entries)

  pub stand_ins_many : length plan.stand_ins ≡ length w.tops.now
  stand_ins_many = is.works.works.ready.stand_ins ∙ sym is.works.tops_are.many

  pub is_planned : IsPlanned (every f) (move f) plan w.tops.now
  is_planned =
      subst (λ (p : Planned). IsPlanned (every f) (move f) p w.tops.now) is.works.works.plan_is
      (facts.images w.tops.now is.works.tops_are)

  -- ---- places

  pub at_is : w.layout.now.places ≡ (laid_by beside known orders).places
  at_is = ap (λ (a : AllMade). a.places) is.works.layout_is

  pub entries_at : ArePlaces f n raw w.layout.now.places
  entries_at =
      subst (ArePlaces f n raw) (sym at_is)
      (λ e i lt there. entry_places beside f is.works.works.ready.texts known orders can n is.bytes x index is.has is.moves e i lt there)

  pub units_begin : HaveUnitPlaces f m (unit_places_from m.start w.layout.now.places raw)
  units_begin =
      subst (λ (at : List ℕ). HaveUnitPlaces f m (unit_places_from m.start at raw)) (sym at_is)
      (λ j lt. unit_begins beside f is.works.works.ready.texts known orders can n is.bytes x index is.has is.moves m.start is.start_is j lt)

  pub file_here : IsHere f known n x index
  file_here = here f is.works.works.ready.texts known facts can.listed n x index is.has.file is.has.index_is

  -- ---- address ranges

  good : HaveGoodRanges is.bytes raw
  good = reads.ranges

  pub sets_there : IsOk (sets_at any_unit (input x.sections.aranges.now 0))
  sets_there =
      subst (λ (b : List ℕ). IsOk (sets_at any_unit (input b 0))) (sym is.has.read.read.aranges)
      (sets_read (is_place_of raw) good.sets (debug_aranges is.bytes) good.spelled)

  pub units_ascend : IsStrictlyIncreasing (map (λ (u : RawUnit). u.at) raw)
  units_ascend = units_rise (debug_abbrev is.bytes) (given is.has.read.limits.entries) 0 raw 0 (debug_info is.bytes) reads.spelled

  module _ (units_at : List ℕ) (begin : HaveUnitPlaces f m units_at) where
    pub lists_are : (out : List ℕ)
        → ((names : List EntryName) → IsFile (every f) names index m.start
        → HasNewNumbers (every f) (move f) names w.layout.now.places units_at operands x.sections.lists.now out)
        → out ≡ lists_after_by (common f) (run f) n
    lists_are out have =
        section_made f facts n is.bytes x index is.has m.start is.start_is w.layout.now.places entries_at units_at begin out
        (λ names of. subst (λ (s : Sources). HasNewNumbers (every f)
        (move f) names w.layout.now.places units_at operands s.lists out) same_sources
        (have names of))

    pub ranges_are : (new : List ℕ) → length units_at ≡ length raw
        → AreMoved (map (λ (u : RawUnit). u.at) raw) (map low units_at) x.sections.aranges.now new → new ≡ ranges_after_by (common f) (run f) n
    ranges_are new many moved =
        let starts = map (λ (u : RawUnit). u.at) raw in
        ranges_moved f facts n is.bytes x index is.has units_at new many begin
        (moved_low starts units_at (debug_aranges is.bytes) new
        (subst (λ (b : List ℕ). AreMoved starts (map low units_at) b new) is.has.read.read.aranges moved))
