-- Rows that are known: how many begin at a place of a section, and how many bytes they have.
use Rattle.std.specs.Prelude.{◌≡◌, ℕ, ◌+◌, ◌≤◌, List, ◌++◌, length, drop, Option, Some, None}
use Rattle.dwz_bytes.specs.Input.{Input, past}
use Rattle.dwz_lines.specs.Reading.{times_in}

-- so many items are read from one input, and end at the other
pub record Skips {X : Type 0} (item : Input → Option (X × Input)) (count : ℕ) (i j : Input) : Type 0 where
  pub items : List X
  pub read : times_in item count i ≡ Some (items, j)

-- at a place of a section so many items begin, and have so many bytes, which say the same wherever they stand and whatever is behind them
pub record Spans {X : Type 0} (item : Input → Option (X × Input)) (line : List ℕ) (place count bytes : ℕ) : Type 0 where
  pub front : List ℕ
  pub len : length front ≡ bytes
  pub here : drop place line ≡ front ++ drop (place + bytes) line
  pub read : (at : ℕ) (rest : List ℕ) → Skips item count (record { at = at; rest = front ++ rest }) (record { at = at + bytes; rest = rest })

-- what is left of a table that begins at a place of a section stands there
pub record IsPart (line : List ℕ) (start : ℕ) (i : Input) : Type 0 where
  pub behind : List ℕ
  pub parts : drop (start + i.at) line ≡ i.rest ++ behind

-- behind so many bytes, if there are
abbrev pub IsFurther : ℕ → Input → Option Input → Type 0
IsFurther bytes i None = Unit {0}
IsFurther bytes i (Some j) = (j ≡ past bytes i) × (bytes ≤ length i.rest)
