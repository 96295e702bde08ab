-- The bytes of a range are no more than those of the file.
use Rattle.std.proofs.Common.{ℕ, ◌≤◌, List, length, drop, Option, Some, None, arith}
use Rattle.std.proofs.lemmas.List.{length-drop, length-take}
use Rattle.dwz_def_reading.specs.ElfReading.{bytes_in}

-- the bytes of a range are no more than there are
pub bytes_short : (bytes : List ℕ) (range : Option (ℕ × ℕ)) → length (bytes_in bytes range) ≤ length bytes
bytes_short bytes None = omega arith
bytes_short bytes (Some range) = omega (arith, length-take range.1 (drop range.0 bytes), length-drop range.0 bytes)
