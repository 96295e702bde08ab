use Rattle.std.proofs.Common.{◌≡◌, ℕ, map, List, Ok}
use Rattle.dwz_def_reading.specs.Documents.{DwUnit}
use Rattle.dwz_def_reading.specs.Meanings.{Sources, alone}
use Rattle.dwz_def_reading.specs.Meant.{units_meaning}
use Rattle.dwz_encode_operands.proofs.UnitLemmas.{UnitsLeft}
use Rattle.dwz_graph.specs.Named.{units_refs}
use Rattle.dwz_unit.specs.Rows.{units_of}
use Rattle.dwz_encode_operands.proofs.spoken.first_spoken.Given as goal

abbrev pub invariant-loop-n : goal.invariant-loop-n
invariant-loop-n l = (sources : Sources) (said : List (DwUnit ℕ)) (after : ℕ → ℕ) → units_meaning (alone sources (units_of l.units)) (units_of l.units) ≡ Ok said
    → l.targets ≡ map after (units_refs said) → l.places ≡ map (λ u. after u.at) (units_of l.units)
    → UnitsLeft (alone sources (units_of l.units)) after (units_of l.units) l.n l.first l.left
