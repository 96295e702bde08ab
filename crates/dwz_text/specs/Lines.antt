-- Texts on the console as bytes: lines of parts, each of which ends with a newline, the byte 10.
use Rattle.std.specs.Prelude.{ℕ, List, [], ◌∷◌, ◌++◌, false}
use Rattle.std.specs.List.{concat}
use Rattle.std.specs.Fmt.{digits}

-- a text: its bytes
abbrev pub Text : Type 0
Text = List ℕ

-- a number in lower-case hexadecimal, without leading zeros
abbrev pub hexadecimal : ℕ → Text
hexadecimal n = digits 16 false n

-- parts one after the other, and the end of the line
abbrev pub line : List Text → Text
line parts = concat parts ++ 10 ∷ []
