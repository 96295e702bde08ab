-- What the file that is written says, how it reads, and where it means what the file meant that was read.
use Rattle.std.specs.Prelude.{◌≡◌, ℕ, Bool, true, false, List, map}
use Rattle.dwz_def_reading.specs.Fault.{Fault}
use Rattle.dwz_def_reading.specs.Lists.{In}
use Rattle.dwz_def_reading.specs.Documents.{DwUnit, Node}
use Rattle.dwz_def_reading.specs.ElfFaults.{ElfManner, IsElfFaultFor}
use Rattle.dwz_def_reading.specs.Entries.{Mode, own_forms}
use Rattle.dwz_def_reading.specs.Files.{HaveGoodRanges, around_of, debug_abbrev, debug_info}
use Rattle.dwz_def_reading.specs.Meanings.{MeanUnits}
use Rattle.dwz_def_reading.specs.NamedLists.{lists_of_units}
use Rattle.dwz_def_reading.specs.Places.{Place}
use Rattle.dwz_def_reading.specs.Shared.{NoneShared}
use Rattle.dwz_def_reading.specs.Units.{RawUnit, SpellsUnits}
use Rattle.dwz_def_tops.specs.Seen.{IsChild, IsImport, Named, Seen, all_seen, named_value}
use Rattle.dwz_def_tops.specs.Spaces.{IsSpace}
use Rattle.dwz_def_encoding.specs.Meant.{placed_units}
use Rattle.dwz_def_cross.specs.CrossLook.{IsPartialSpace}
use Rattle.dwz_def_cross.specs.Tops.{WithCommon, units_with_common}
use Rattle.dwz_def_expand.specs.OneFile.{OneFile, said_by_file, same_place}
use Rattle.dwz_def_expand.specs.Output.{forms, new_places}
use Rattle.dwz_def_expand.specs.Source.{Copy, source_units}
use Rattle.dwz_def_expand.specs.Written.{written}

-- the units of the new file, with the forms of their values
abbrev pub new_units : OneFile → List (DwUnit (Copy Place))
new_units f = written same_place (forms f) (said_by_file f)

-- what it says: the new units, each entry at its place
abbrev pub units_after : OneFile → List (DwUnit ℕ)
units_after f = placed_units (new_places f) (new_places f).place (new_units f)

-- A file that reads as one that is given (`given_rule`), where no limit is asked for, neither of its length and its machine, nor of how many
-- section headers it has, and how many entries and how deep.
pub record ReadsFreely (bytes : List ℕ) (raw : List RawUnit) (units : List (DwUnit ℕ)) : Type 0 where
  pub manner : ElfManner
  pub alone : manner.sup ≡ false
  pub elf : (x : Fault) → IsElfFaultFor manner bytes x → ⊥
  pub mode : Mode
  pub whole : mode.whole ≡ true
  pub partial : mode.partial ≡ false
  pub forms : mode.forms ≡ own_forms
  pub spelled : SpellsUnits (debug_abbrev bytes) mode 0 raw 0 (debug_info bytes)
  pub means : MeanUnits (around_of bytes raw) raw units
  pub ranges : HaveGoodRanges bytes raw
  pub lists : NoneShared (lists_of_units (around_of bytes raw) raw)

-- Each space of a partial unit that a unit imports is a space of the unit, with the same tag and attributes: in the new unit the two stand
-- beside each other. And no value of a source names a space of a partial unit, of which there is none after.
pub record SpacesFit {P : Type 0} (same : P → P → Bool) (w : WithCommon P) : Type 0 where
  pub inside : (u v : DwUnit P) (e : Node P) → In u w.own → IsChild e u.below → IsImport (units_with_common w) e v
      → (names : List (List ℕ)) (b : Node P) → IsSpace names b v.below
      → (d : Node P) × IsSpace names d u.below × (d.tag ≡ b.tag) × (map named_value d.attrs ≡ map named_value b.attrs)
  pub unnamed : (e : Seen P) (a : Named P) (p : P) → In e (all_seen (source_units same w)) → In a e.attrs → In p a.value.refs
      → (names : List (List ℕ)) → ¬ IsPartialSpace w names p
