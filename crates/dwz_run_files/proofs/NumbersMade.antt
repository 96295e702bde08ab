-- The counts of units, the plan and the flags are what numbers are made of.
use Rattle.std.proofs.Common.{◌≡◌, ℕ, ◌+◌, ◌<◌, ◌^◌, Bool, false, List, [], length, map, Result, Ok, Err, sym, ap, subst, ◌∙◌, arith}
use Rattle.std.specs.Prelude.{IfOk, sum}
use Rattle.std.proofs.lemmas.List.{length-map}
use Rattle.dwz_def_reading.specs.Documents.{Doc}
use Rattle.dwz_def_reading.specs.Files.{no_files_before}
use Rattle.dwz_def_tops.specs.Spots.{units_of}
use Rattle.dwz_def_images.specs.Homes.{Local}
use Rattle.dwz_def_images.specs.Moves.{Move}
use Rattle.dwz_def_images.specs.Units.{changes}
use Rattle.dwz_graph.specs.declared.file.File.{File}
use Rattle.dwz_graph.specs.Files.{AreKept, docs_of}
use Rattle.dwz_graph.proofs.GraphLemmas.{as_many}
use Rattle.dwz_layout_numbers.specs.declared.numbers.UnitNumbers.{UnitNumbers}
use Rattle.dwz_layout_numbers.specs.Numbering.{AreInOrder, HaveUnits, parts_at}
use Rattle.dwz_layout_numbers.specs.Owners.{AreUnitNumbers}
use Rattle.dwz_plan.specs.declared.plan.Partial.{Partial}
use Rattle.dwz_plan.specs.Planned.{Planned}
use Rattle.dwz_plan.specs.Shows.{shown_part}
use Rattle.dwz_run_files.specs.Numbered.{AreFlags, AreNumbersOf}
use Rattle.dwz_run_files.proofs.UnitCounts.{counts_are, counts_sum, file_count}
use Rattle.dwz_run_files.proofs.WrittenFiles.{changed_written}

module _ (contents : List (List ℕ)) (files : List File) (kept : AreKept contents files) (counts : List ℕ)
    (are : counts ≡ map file_count files) where
  pub counts_few : (parts : ℕ) → parts + length (units_of (docs_of contents)) < 2 ^ 32 → parts + sum counts < 2 ^ 32
  counts_few parts few =
      let same : sum counts ≡ length (units_of (docs_of contents)) =
      ap (λ (w : List ℕ). sum w) (are ∙ counts_are contents files kept) ∙ counts_sum (docs_of contents) in
      omega (arith, same, few)

  pub counts_many : length counts ≡ length contents
  counts_many =
      ap (λ (w : List ℕ). length w) are ∙ length-map files file_count ∙ as_many no_files_before 0 contents files kept.end kept.are

  have_units : (plan : Planned) (written : List Bool) (m : Move) → map (shown_part (length (docs_of contents))) m.parts ≡ plan.partials
      → AreInOrder m (length (docs_of contents))
      → ((file : ℕ) → changes m (units_of (docs_of contents)) file ≡ false → parts_at m (Local file) ≡ [])
      → AreFlags m (docs_of contents) written → HaveUnits (docs_of contents) m plan.partials counts written
  have_units plan written m parts order still flags = record {
    parts_are = parts;
    order = order;
    still = still;
    counts_are = are ∙ counts_are contents files kept;
    changed = changed_written m (docs_of contents) written flags;
  }

  pub numbers_made : {E : Type 0} (r : Result UnitNumbers E) (plan : Planned) (parts : List Partial) (written : List Bool)
      → parts ≡ plan.partials
      → ((docs : List (Doc ℕ)) (m : Move) → HaveUnits docs m parts counts written
      → IfOk r (λ n. AreUnitNumbers m (units_of docs) written n.commons n.parts.items n.olds.items))
      → IfOk r (λ n. AreNumbersOf (docs_of contents) plan written n)
  numbers_made (Ok n) plan parts written same made = λ m shown order still flags. made (docs_of contents) m
      (subst (λ (w : List Partial). HaveUnits (docs_of contents) m w counts written) (sym same)
      (have_units plan written m shown order still flags))
  numbers_made (Err e) plan parts written same made = tt
