-- What numbers of entries, units, spaces of chains and imports are named.
use Rattle.std.specs.Prelude.{ℕ, Option, Some, None, slice_get, slice_index_or}
use Rattle.dwz_def_reading.specs.Documents.{DwUnit}
use Rattle.dwz_def_tops.specs.Spots.{EntryName, Import, InChain, PartialOf, UnitOf, no_name}
use Rattle.dwz_graph.specs.AllNames.{all_names}
use Rattle.dwz_encode.specs.Shown.{Keys}
use Rattle.dwz_law_layout.specs.Beside.{Beside}
use Rattle.dwz_law_layout.specs.Facts.{RunFacts, every, units_written}

-- the root of a unit
abbrev pub root_name : Option (DwUnit EntryName) → EntryName
root_name None = no_name
root_name (Some u) = u.root.at

-- the number of a partial unit among those, and of an old one among those that were read
abbrev pub part_number : EntryName → ℕ
part_number (PartialOf n) = n
part_number _ = 0

abbrev pub old_number : EntryName → ℕ
old_number (UnitOf n) = n
old_number _ = 0

abbrev pub unit_name : Option (DwUnit EntryName) → EntryName
unit_name None = no_name
unit_name (Some u) = u.at

-- Entries that were read have their names by their numbers among all documents; roots are those of the units that are written, by the
-- numbers of these; a space of a chain is one of the partial unit that has the unit's number, and an import is of the old unit that has it.
abbrev pub keys : {beside : Beside} → RunFacts beside → Keys EntryName
keys f = record {
  row = λ n. slice_index_or (all_names (every f)) n no_name;
  root = λ here. root_name (slice_get (units_written f) here);
  chained = λ here chain depth. InChain (part_number (unit_name (slice_get (units_written f) here))) chain depth;
  import = λ here part. Import (old_number (unit_name (slice_get (units_written f) here))) part;
}
