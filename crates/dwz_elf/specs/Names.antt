-- Where the names of a name table end, and which of them are a given one.
use Rattle.std.specs.Prelude.{◌≡◌, ℕ, ◌≤◌, List, length, Bool, false, ◌&&◌, Option, Some, None, nat_lt, is_some}
use Rattle.std.specs.Str.{bytes_eq}
use Rattle.dwz_def_reading.specs.declared.elf.Header.{Header}
use Rattle.dwz_def_reading.specs.ElfHeaders.{is_there}
use Rattle.dwz_def_reading.specs.ElfNames.{name_at}

-- exactly the names that begin before that place end
pub record IsNamesEnd (table : List ℕ) (end : ℕ) : Type 0 where
  pub within : end ≤ length table
  pub ends : (at : ℕ) → is_some (name_at table at) ≡ nat_lt at end

-- there is a name, and it is that one
abbrev pub is_called : List ℕ → Option (List ℕ) → Bool
is_called name None = false
is_called name (Some found) = bytes_eq found name

-- the section with that header has a content in the file, and that name in the table
abbrev pub is_there_called : (table name : List ℕ) → Header → Bool
is_there_called table name h = is_there h && is_called name (name_at table h.name)
