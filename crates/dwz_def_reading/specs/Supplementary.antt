-- The section `.debug_sup` of a file that shares entries with others, and of the supplementary file that holds these
-- (DWARF 5, 7.3.6).
use Rattle.std.specs.Prelude.{◌≡◌, ℕ, ◌+◌, List, [], ◌∷◌, ◌++◌, length, Bool, true, false, ◌==◌, if◌then◌else◌, Option, Some, None, Result}
use Rattle.std.specs.Prelude.{Ok, Err}
use Rattle.dwz_bytes.specs.declared.error.ByteErr.{ByteErr}
use Rattle.dwz_bytes.specs.Input.{Input, input}
use Rattle.dwz_bytes.specs.Reading.{fixed_at, uleb_at}
use Rattle.dwz_bytes.specs.Spelling.{SpellsFixed, SpellsUleb, le_bytes, uleb}
use Rattle.dwz_def_reading.specs.declared.supplementary.Sup.{Sup}
use Rattle.dwz_def_reading.specs.Texts.{SpellsText, zero_ended_at}

-- ---- how it is spelled

-- is_supplementary
abbrev pub flag_byte : Bool → ℕ
flag_byte supplementary = if supplementary then 1 else 0

-- the bytes of the section: version, is_supplementary, sup_filename, sup_checksum_len, sup_checksum
pub record SpellsSup (bytes : List ℕ) (s : Sup) : Type 0 where
  pub version : List ℕ
  pub version_is_5 : SpellsFixed 2 version 5
  pub name : List ℕ
  pub name_is : SpellsText name s.name
  pub len : List ℕ
  pub len_is : SpellsUleb len (length s.sum)
  pub parts : bytes ≡ version ++ (flag_byte s.supplementary ∷ (name ++ (len ++ s.sum)))

-- what is written
unfoldable pub sup_bytes : Sup → List ℕ
sup_bytes s = le_bytes 2 5 ++ (flag_byte s.supplementary ∷ (s.name ++ (0 ∷ (uleb (length s.sum) ++ s.sum))))

-- ---- how it is read

-- the rest is a checksum of that length
abbrev pub sum_read : Bool → List ℕ → Result (ℕ × Input) ByteErr → Option Sup
sum_read supplementary name (Err e) = None
sum_read supplementary name (Ok (n, i)) =
    if length i.rest == n then Some (record { supplementary = supplementary; name = name; sum = i.rest }) else None

abbrev pub name_read : Bool → Result (List ℕ × Input) ByteErr → Option Sup
name_read supplementary (Err e) = None
name_read supplementary (Ok (name, i)) = sum_read supplementary name (uleb_at i)

abbrev pub flag_read : ℕ → List ℕ → Option Sup
flag_read at [] = None
flag_read at (b ∷ rest) =
    let behind : Input = record { at = at; rest = rest } in
    if b == 1 then name_read true (zero_ended_at behind) else (if b == 0 then name_read false (zero_ended_at behind) else None)

abbrev pub version_read : Result (ℕ × Input) ByteErr → Option Sup
version_read (Err e) = None
version_read (Ok (version, i)) = if version == 5 then flag_read (i.at + 1) i.rest else None

-- what a section says, where it is one
unfoldable pub read_sup : List ℕ → Option Sup
read_sup bytes = version_read (fixed_at 2 (input bytes 0))
