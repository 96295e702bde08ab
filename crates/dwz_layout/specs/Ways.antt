-- What is written of a value, by its form and by what holds the unit (DWARF 5, 7.5.6).
use Rattle.std.specs.Prelude.{ℕ, Bool, true, false, List, [], ◌∷◌, ◌==◌, if◌then◌else◌}
use Rattle.dwz_model.specs.declared.place.Pair.{Pair}
use Rattle.dwz_def_reading.specs.Classes.{names_file}
use Rattle.dwz_def_encoding.specs.Placing.{CommonUnit, NewUnit, OldUnit, UnitRole}
use Rattle.dwz_layout.specs.declared.ways.UnitRole.{UnitRole as HolderOfCode}
use Rattle.dwz_layout.specs.declared.ways.UnitRole.TheVariants as code
use Rattle.dwz_layout.specs.declared.ways.Rewrite.{Rewrite}
use Rattle.dwz_layout.specs.declared.ways.Rewrite.TheVariants.{AsEntry, AsExpression, AsFile, AsRead, AsText, Dropped, KeepsText}

abbrev pub holder_view : HolderOfCode → UnitRole
holder_view code.OldUnit = OldUnit
holder_view code.NewUnit = NewUnit
holder_view code.CommonUnit = CommonUnit

-- a form, and its ways in an old unit, in a partial unit of a file, and in one of the common file
pub record WayRow : Type 0 where
  pub form : ℕ
  pub old : Rewrite
  pub new : Rewrite
  pub common : Rewrite

abbrev pub way_row : ℕ → Rewrite → Rewrite → Rewrite → WayRow
way_row form old new common = record { form = form; old = old; new = new; common = common }

-- data2, data4, data8, data1, sdata; strp; udata; ref_addr, and ref1 to ref_udata; exprloc; strx; line_strp; implicit_const; strx1 to
-- strx4. A form without a row is written as it was read.
abbrev pub way_rows : List WayRow
way_rows =
    way_row 0x05 AsRead AsRead AsFile
    ∷ way_row 0x06 AsRead AsRead AsFile
    ∷ way_row 0x07 AsRead AsRead AsFile
    ∷ way_row 0x0b AsRead AsRead AsFile
    ∷ way_row 0x0d AsRead AsRead AsFile
    ∷ way_row 0x0e AsText AsText AsText
    ∷ way_row 0x0f AsRead AsRead AsFile
    ∷ way_row 0x10 AsEntry AsEntry AsEntry
    ∷ way_row 0x11 AsEntry AsEntry AsEntry
    ∷ way_row 0x12 AsEntry AsEntry AsEntry
    ∷ way_row 0x13 AsEntry AsEntry AsEntry
    ∷ way_row 0x14 AsEntry AsEntry AsEntry
    ∷ way_row 0x15 AsEntry AsEntry AsEntry
    ∷ way_row 0x18 AsExpression AsExpression AsExpression
    ∷ way_row 0x1a KeepsText AsText AsText
    ∷ way_row 0x1f KeepsText KeepsText AsText
    ∷ way_row 0x21 AsRead AsRead AsFile
    ∷ way_row 0x25 KeepsText AsText AsText
    ∷ way_row 0x26 KeepsText AsText AsText
    ∷ way_row 0x27 KeepsText AsText AsText
    ∷ way_row 0x28 KeepsText AsText AsText
    ∷ []

abbrev pub way_held : UnitRole → WayRow → Rewrite
way_held OldUnit r = r.old
way_held NewUnit r = r.new
way_held CommonUnit r = r.common

unfoldable pub way_in : UnitRole → ℕ → List WayRow → Rewrite
way_in h form [] = AsRead
way_in h form (r ∷ rows) = if r.form == form then way_held h r else way_in h form rows

-- a number is that of a file in some attributes alone (2.14)
abbrev pub if_file : Bool → Rewrite → Rewrite
if_file true way = way
if_file false AsFile = AsRead
if_file false way = way

-- DW_AT_sibling (1) is written nowhere
abbrev pub rewrite_of : UnitRole → Pair → Rewrite
rewrite_of h pair = if pair.name == 0x01 then Dropped else if_file (names_file pair.name) (way_in h pair.form way_rows)
