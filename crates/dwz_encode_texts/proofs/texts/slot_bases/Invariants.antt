use Rattle.std.proofs.Common.{◌≡◌, ℕ, map, take}
use Rattle.dwz_def_reading.specs.Meanings.{Around}
use Rattle.dwz_unit.specs.Rows.{units_of}
use Rattle.dwz_encode_texts.specs.Texts.{slots_base}
use Rattle.dwz_encode_texts.proofs.texts.slot_bases.Given as goal

abbrev pub invariant-loop-n : goal.invariant-loop-n
invariant-loop-n l = (around : Around ℕ) → l.bases.items ≡ map (slots_base around) (take l.n (units_of l.units))
