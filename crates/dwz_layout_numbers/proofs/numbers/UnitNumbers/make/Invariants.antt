use Rattle.std.proofs.Common.{◌≡◌, ℕ, List, drop, length}
use Rattle.dwz_def_reading.specs.Documents.{Doc}
use Rattle.dwz_def_images.specs.Moves.{Move}
use Rattle.dwz_def_images.specs.Units.{common_units}
use Rattle.dwz_layout_numbers.specs.Numbering.{HaveUnits}
use Rattle.dwz_layout_numbers.proofs.MakeLemmas.{Going}
use Rattle.dwz_layout_numbers.proofs.MakeCounts.{Small}
use Rattle.dwz_layout_numbers.proofs.numbers.UnitNumbers.make.Given as goal

abbrev pub invariant-loop-file : goal.invariant-loop-file
invariant-loop-file l = record {
  small : Small l.partials l.counts l.file l.next l.parts.items;
  going : (docs : List (Doc ℕ)) (m : Move) → (h : HaveUnits docs m l.partials l.counts l.written)
      → Going docs m l.partials l.counts l.written h l.file l.next (drop l.file docs) (drop l.file l.written) l.parts.items l.olds.items;
  commons : (docs : List (Doc ℕ)) (m : Move) → HaveUnits docs m l.partials l.counts l.written → l.commons ≡ length (common_units m);
}
