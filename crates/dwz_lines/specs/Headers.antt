-- What is found of a header.
use Rattle.std.specs.Prelude.{◌≡◌, ◌⊎◌, ℕ, true, false, List, [], drop, Option, Some, None}
use Rattle.dwz_bytes.specs.Input.{Input}
use Rattle.dwz_def_reading.specs.LineTables.{is_header, tables_begin, tables_bytes}

-- no header stands there, or no byte is left for tables
abbrev pub NoTables : List ℕ → Type 0
NoTables bytes = (is_header bytes ≡ false) ⊎ (tables_bytes bytes ≡ [])

pub record AreTables (bytes : List ℕ) (i : Input) : Type 0 where
  pub header : is_header bytes ≡ true
  pub begin : i.at ≡ tables_begin bytes
  pub rest : i.rest ≡ tables_bytes bytes

abbrev pub Begins : List ℕ → ℕ → Option Input → Type 0
Begins line place None = NoTables (drop place line)
Begins line place (Some i) = AreTables (drop place line) i
