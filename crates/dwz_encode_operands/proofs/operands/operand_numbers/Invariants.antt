use Rattle.std.proofs.Common.{◌≡◌, ℕ, List, length, take}
use Rattle.dwz_def_reading.specs.Documents.{Doc}
use Rattle.dwz_def_tops.specs.Spots.{EntryName}
use Rattle.dwz_def_plan.specs.Moves.{Move}
use Rattle.dwz_layout_numbers.specs.Images.{IsFile, IsPlanned}
use Rattle.dwz_encode_operands.specs.Operands.{AreNewNumbers}
use Rattle.dwz_encode_operands.proofs.operands.operand_numbers.Given as goal

abbrev pub invariant-loop-operand : goal.invariant-loop-operand
invariant-loop-operand l = (length l.numbers.items ≡ l.operand-index) × ((docs : List (Doc ℕ)) (m : Move) (names : List EntryName) → IsPlanned docs m l.plan l.tops
    → IsFile docs names l.index l.start
    → AreNewNumbers docs m names l.places l.units_at (take l.operand-index l.operands) l.numbers.items)
