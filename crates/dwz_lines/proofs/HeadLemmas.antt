-- A header whose tests hold: the unit is whole.
use Rattle.std.proofs.Common.{◌≡◌, ℕ, ◌+◌, ◌≤◌, Bool, true, false, ltb, List, length, refl}
use Rattle.std.specs.Prelude.{not}
use Rattle.std.proofs.lemmas.Bool.{and_parts, ltb-false}
use Rattle.dwz_def_reading.specs.LineTables.{is_header, line_length}

not_true : (b : Bool) → not b ≡ true → b ≡ false
not_true true e = absurd cc
not_true false e = refl

pub whole_unit : (bytes : List ℕ) → is_header bytes ≡ true → line_length bytes + 4 ≤ length bytes
whole_unit bytes is =
    let a = and_parts (ltb (line_length bytes) 0xfffffff0) _ is in
    let b = and_parts (not (ltb (length bytes) (line_length bytes + 4))) _ a.1 in
    ltb-false (length bytes) (line_length bytes + 4) (not_true _ b.0)
