-- Facts of files over a finished common file.
use Rattle.std.specs.Prelude.{◌≡◌, ℕ, ◌<◌, ◌^◌, List, [], ◌∷◌, ◌++◌, length, Ok}
use Rattle.dwz_def_reading.specs.Documents.{Doc}
use Rattle.dwz_def_reading.specs.Lists.{Each}
use Rattle.dwz_def_reading.specs.Meanings.{Around}
use Rattle.dwz_def_reading.specs.Meant.{units_meaning}
use Rattle.dwz_def_reading.specs.Values.{AreBytes}
use Rattle.dwz_def_tops.specs.Spots.{file_numbers}
use Rattle.dwz_def_images.specs.Homes.{Local}
use Rattle.dwz_def_images.specs.Units.{common_units}
use Rattle.dwz_def_readback.specs.Back.{run_by}
use Rattle.dwz_def_readback.specs.Files.{Finished, Stands, Stored}
use Rattle.dwz_def_taken.specs.declared.fixed.Fixed.{Fixed}
use Rattle.dwz_def_taken.specs.Beside.{compile_doc, reused_of}
use Rattle.dwz_def_taken.specs.Laws.{ArePlacedOver}
use Rattle.dwz_def_taken.specs.Over.{move_over}
use Rattle.dwz_def_taken.specs.Takes.{IsFixed, free_rule}
use Rattle.dwz_graph.specs.Files.{AreKept}
use Rattle.dwz_graph.specs.Indexed.{AreIndexes}
use Rattle.dwz_plan.specs.ShowsMove.{ShowsMove}
use Rattle.dwz_layout_numbers.specs.Images.{ShowsStandIns}
use Rattle.dwz_graph.specs.AllNames.{all_names}
use Rattle.dwz_layout_numbers.specs.Owners.{AreUnitNumbers}
use Rattle.dwz_law_layout.specs.Beside.{Over, Standing}
use Rattle.dwz_law_layout.specs.Facts.{AreFacts, IsStoredSo, RunFacts, docs, move, units, written}
use Rattle.dwz_law_layout.specs.Moving.{MovesSo}
use Rattle.dwz_law_layout.specs.Whole.{AreWhole}
use Rattle.dwz_law_layout.specs.CommonRows.{AreCommonRows}

-- P holds of files, of a finished common file, and of what is taken from that
abbrev AlwaysOver : (List (Doc ℕ) → Doc ℕ → Fixed → Type 0) → Type 0
AlwaysOver P = (docs : List (Doc ℕ)) (common : Doc ℕ) (fixed : Fixed) → ArePlacedOver docs common → IsFixed (reused_of docs common) fixed
    → P docs common fixed

-- tops move as is asked
abbrev pub OverMovesLaw : Type 0
OverMovesLaw = AlwaysOver (λ docs common fixed. MovesSo (λ home. (file : ℕ) × (home ≡ Local file))
    (move_over (reused_of docs common) fixed (file_numbers 0 docs)) (reused_of docs common).units)

-- what is written is whole
abbrev pub OverWholeLaw : Type 0
OverWholeLaw = AlwaysOver (λ docs common fixed. (input : Stored) (c : Finished)
    → c.units ≡ common_units (move_over (reused_of docs common) fixed (file_numbers 0 docs))
    → AreWhole (Stands c) docs (run_by (move_over (reused_of docs common) fixed (file_numbers 0 docs)) docs input))

-- The facts are of files over that common file: what is taken is fixed, and what is left moves by the rule for what is free. The common
-- file stands as it was read, and so do its names. The plan shows the move, and what stands for tops of both.
pub record AreOver (s : Standing) (f : RunFacts (Over s)) : Type 0 where
  pub rule : f.rule ≡ free_rule (reused_of (docs f) s.doc) s.fixed
  pub placed : ArePlacedOver (docs f) s.doc
  pub fixed : IsFixed (reused_of (docs f) s.doc) s.fixed
  pub stands : s.file.units ≡ common_units (move_over (reused_of (docs f) s.doc) s.fixed (file_numbers 0 (docs f)))
  pub around : Around ℕ
  pub means : units_meaning around s.file.raw ≡ Ok s.doc.units
  pub rows : AreCommonRows s (docs f)
  pub bytes : Each AreBytes f.contents
  pub kept : AreKept f.contents f.files
  pub indexed : AreIndexes (docs f) f.indexes
  pub stored : IsStoredSo f
  pub shows : ShowsMove (move_over (reused_of (docs f) s.doc) s.fixed (file_numbers 0 (docs f))) (reused_of (docs f) s.doc).units
      (length (docs f)) f.planned
  pub stand_ins : ShowsStandIns (docs f ++ compile_doc s.doc ∷ []) (move_over (reused_of (docs f) s.doc) s.fixed (file_numbers 0 (docs f)))
      f.planned
  pub numbers : AreUnitNumbers (move f) (units f) (written f) f.commons f.parts f.olds
  pub few : length (all_names (docs f ++ compile_doc s.doc ∷ [])) < 2 ^ 32

-- so they are facts
abbrev pub FactsOverLaw : Type 0
FactsOverLaw = (s : Standing) (f : RunFacts (Over s)) → AreOver s f → AreFacts f
