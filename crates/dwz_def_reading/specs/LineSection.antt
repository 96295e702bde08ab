-- `.debug_line` as a row of line tables (DWARF 5, 6.2.4).
use Rattle.std.specs.Prelude.{◌≡◌, ℕ, ◌+◌, Bool, List, [], ◌∷◌, length, drop, Option, Some, None}
use Rattle.std.specs.List.{list_any}
use Rattle.dwz_def_reading.specs.LineTables.{FileTable, IsFileTable, TextSections, line_length}

-- from a place on the section is these tables, without gaps: each is as long as its length says, behind the four bytes of that
abbrev pub AreTablesFrom : TextSections → List ℕ → ℕ → List FileTable → Type 0
AreTablesFrom s line place [] = place ≡ length line
AreTablesFrom s line place (t ∷ tables) = IsFileTable s line place t × AreTablesFrom s line (place + (4 + line_length (drop place line)))
    tables

-- a format of one of the tables has the form strp
abbrev pub any_strp : List FileTable → Bool
any_strp tables = list_any (λ t. t.has_strp) tables

pub record IsRowOf (s : TextSections) (line : List ℕ) (tables : List FileTable) (strp : Bool) : Type 0 where
  pub row : AreTablesFrom s line 0 tables
  pub any : any_strp tables ≡ strp

-- whether a format of the section's tables has the form strp, and none where the section isn't such a row
abbrev pub UsesStrp : TextSections → List ℕ → Option Bool → Type 0
UsesStrp s line None = (tables : List FileTable) → AreTablesFrom s line 0 tables → ⊥
UsesStrp s line (Some strp) = (tables : List FileTable) × IsRowOf s line tables strp
