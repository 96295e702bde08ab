-- Inner: words of what is written. No public clause cites them.
use Rattle.std.specs.Prelude.{ℕ, suc, List, [], ◌∷◌, ◌==◌, ◌&&◌, nat_lt, not, if◌then◌else◌}
use Rattle.dwz_def_reading.specs.Rows.{has}
use Rattle.dwz_def_reading.specs.Classes.{unsigned_names}
use Rattle.dwz_model.specs.declared.place.Pair.{Pair}

-- a width is kept from some number on, unless the name says that there is no sign
abbrev pub width_from : ℕ → ℕ → ℕ → ℕ → ℕ
width_from width top name n = if not (nat_lt n top) && not (has name unsigned_names) then width else 0

-- how many names aren't DW_AT_sibling
unfoldable pub kept : List Pair → ℕ
kept [] = 0
kept (p ∷ pairs) = if p.name == 0x01 then kept pairs else suc (kept pairs)
