-- Where texts of a section end.
use Rattle.std.specs.Prelude.{◌≡◌, ℕ, List, nat_lt}
use Rattle.std.specs.Option.{is_some}
use Rattle.dwz_def_reading.specs.Texts.{text_at}

-- a text stands at just the offsets below that place
abbrev pub IsTextEnd : List ℕ → ℕ → Type 0
IsTextEnd bytes end = (offset : ℕ) → is_some (text_at bytes offset) ≡ nat_lt offset end
