-- The sections of a file that were made one by one are those of the run.
use Rattle.std.proofs.Common.{◌≡◌, ℕ, Bool, List, Option, Some, None, sym, ap, ◌∙◌}
use Rattle.std.specs.Prelude.{if◌then◌else◌}
use Rattle.dwz_model.specs.declared.sections.Sections.{Sections}
use Rattle.dwz_def_reading.specs.Files.{debug_aranges}
use Rattle.dwz_def_reading.specs.Meanings.{Sources}
use Rattle.dwz_def_tops.proofs.SpotLemmas.{numbers_same}
use Rattle.dwz_def_readback.specs.Files.{CommonFile, Run, sections_by, sources, strs_if_by}
use Rattle.dwz_def_output.specs.Contents.{if_other, lists_after_by, offsets_after_by, offsets_if_by, ranges_after_by, sections_after_by, strs_after_by}
use Rattle.dwz_law_layout.specs.Beside.{Beside}
use Rattle.dwz_law_layout.specs.Facts.{RunFacts, common, run}
use Rattle.dwz_run_files.specs.Moved.{pruned_at}
use Rattle.dwz_encode_texts.specs.declared.pruning.PrunedFile.{PrunedFile}
use Rattle.dwz_run_files.specs.Ready.{IsPruned}
use Rattle.dwz_run_files.specs.declared.moved.FileAfter.{FileAfter}
use Rattle.dwz_run_files.specs.declared.work.LaidRun.{LaidRun}
use Rattle.dwz_run_files.specs.Works.{IsMoved, other_offsets, other_strs}
use Rattle.dwz_run_files.proofs.FileFacts.{same_ranges, same_sources, x}

-- the old bytes are no other
same_bytes : (bytes : List ℕ) → None ≡ if_other bytes bytes
same_bytes bytes = sym (ap (λ (b : Bool). if b then None else Some bytes) (numbers_same bytes))

module _ (k : CommonFile) (r : Run) (file : ℕ) where
  strs_other : (p : Option PrunedFile) → IsPruned k r file p → other_strs (sources r file).strs p ≡ if_other (sources r file).strs
      (strs_after_by k r file)
  unfolding strs_after_by
  strs_other None is =
      same_bytes (sources r file).strs ∙ ap (λ (b : Bool). if_other (sources r file).strs (strs_if_by b k r file)) (sym is)
  strs_other (Some p) is =
      ap (λ (bytes : List ℕ). if_other (sources r file).strs bytes) is.1.texts
      ∙ ap (λ (b : Bool). if_other (sources r file).strs (strs_if_by b k r file)) (sym is.0)

  offsets_other : (p : Option PrunedFile) → IsPruned k r file p
      → other_offsets (sources r file).offsets p ≡ if_other (sources r file).offsets (offsets_after_by k r file)
  unfolding offsets_after_by
  offsets_other None is =
      same_bytes (sources r file).offsets ∙ ap (λ (b : Bool). if_other (sources r file).offsets (offsets_if_by b k r file)) (sym is)
  offsets_other (Some p) is =
      ap (λ (bytes : List ℕ). if_other (sources r file).offsets bytes) is.1.slots
      ∙ ap (λ (b : Bool). if_other (sources r file).offsets (offsets_if_by b k r file)) (sym is.0)

module _ {beside : Beside} (f : RunFacts beside) (w : LaidRun) (m : FileAfter) (is : IsMoved f w m) where
  abbrev c : CommonFile
  c = common f

  abbrev r : Run
  r = run f

  abbrev n : ℕ
  n = m.number

  pruned : IsPruned c r n (pruned_at w.prepared.now.pruned.items n)
  pruned = is.works.works.ready.pruned n is.moves

  pub sections_made : (s : Sections) → s.info ≡ (sections_by c r n).info → s.abbrev ≡ (sections_by c r n).abbrevs
      → s.strs ≡ other_strs (x f w m is).sections.strs.bytes.now (pruned_at w.prepared.now.pruned.items n)
      → s.offsets ≡ other_offsets (x f w m is).sections.offsets.now (pruned_at w.prepared.now.pruned.items n)
      → s.line ≡ None → s.loclists ≡ if_other (x f w m is).sections.lists.now (lists_after_by c r n)
      → s.aranges ≡ if_other (x f w m is).sections.aranges.now (ranges_after_by c r n) → s ≡ sections_after_by c r n
  unfolding sections_after_by
  sections_made s info abbrevs strs offsets line lists ranges =
      let p = pruned_at w.prepared.now.pruned.items n in
      let old = same_sources f w m is in
      let strs_is : s.strs ≡ if_other (sources r n).strs (strs_after_by c r n) =
      strs ∙ ap (λ (o : Sources). other_strs o.strs p) old ∙ strs_other c r n p pruned in
      let offsets_is : s.offsets ≡ if_other (sources r n).offsets (offsets_after_by c r n) =
      offsets ∙ ap (λ (o : Sources). other_offsets o.offsets p) old ∙ offsets_other c r n p pruned in
      let lists_is : s.loclists ≡ if_other (sources r n).lists (lists_after_by c r n) =
      lists ∙ ap (λ (o : Sources). if_other o.lists (lists_after_by c r n)) old in
      let ranges_is : s.aranges ≡ if_other (debug_aranges (r.input.bytes n)) (ranges_after_by c r n) =
      ranges ∙ ap (λ (o : List ℕ). if_other o (ranges_after_by c r n)) (same_ranges f w m is) in
      (λ i. record {
        info = info i;
        «abbrev» = abbrevs i;
        strs = strs_is i;
        offsets = offsets_is i;
        line = line i;
        loclists = lists_is i;
        aranges = ranges_is i;
      })
