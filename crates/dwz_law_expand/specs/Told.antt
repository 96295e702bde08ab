-- What the new units are written for, of a file without its partial units.
use Rattle.std.specs.Prelude.{List, [], ◌∷◌, ◌++◌, Option, Some, None, ◌==◌, if◌then◌else◌}
use Rattle.dwz_def_reading.specs.Files.{sources_of}
use Rattle.dwz_def_reading.specs.NamedLists.{list_of_attr}
use Rattle.dwz_def_reading.specs.Places.{Place, at_file}
use Rattle.dwz_def_reading.specs.Shared.{NamedList}
use Rattle.dwz_def_reading.specs.Values.{AreBytes}
use Rattle.dwz_def_encoding.specs.Meant.{Tells, all_entry_keys}
use Rattle.dwz_def_expand.specs.OneFile.{FileRead, OneFile, StoredAttr, said_by_file, same_place, stored_attr}
use Rattle.dwz_def_expand.specs.Output.{forms, number_of_unit, sites_of_file, sources_by_file}
use Rattle.dwz_def_expand.specs.Refusals.{Site}
use Rattle.dwz_def_expand.specs.Source.{Copy, copy_for}
use Rattle.dwz_def_expand.specs.After.{new_units}

-- a file, and the common file beside which it was read, are rows of bytes
abbrev pub CommonIsBytes : Option FileRead → Type 0
CommonIsBytes None = Unit {0}
CommonIsBytes (Some c) = AreBytes c.bytes

abbrev pub IsOfBytes : OneFile → Type 0
IsOfBytes f = AreBytes f.file.bytes × CommonIsBytes f.common

-- the location lists that the values of sources name, in the file itself: the common file has none
abbrev pub lists_of_value : Option StoredAttr → List NamedList
lists_of_value None = []
lists_of_value (Some v) = list_of_attr v.scope v.attr

unfoldable pub lists_of_sites : OneFile → List (Site Place) → List NamedList
lists_of_sites f [] = []
lists_of_sites f (s ∷ sites) = (if s.source.file == 0 then lists_of_value (stored_attr f s.source s.index) else []) ++ lists_of_sites f sites

-- The sections that the file was read with, as it has no longer a common file; the lists that are named; and for a unit and a place, as the
-- file was read, what stands in the new unit for the entry there.
abbrev pub told : OneFile → Tells (Copy Place)
told f = record {
  strs = (sources_of f.file.bytes).strs;
  line_strs = (sources_of f.file.bytes).line_strs;
  offsets = (sources_of f.file.bytes).offsets;
  line = (sources_of f.file.bytes).line;
  common_strs = [];
  lists = (sources_of f.file.bytes).lists;
  named = lists_of_sites f (sites_of_file f);
  name = λ unit place. copy_for same_place (sources_by_file f) (number_of_unit f unit) (at_file 0 place);
  all = all_entry_keys (new_units f);
  common = [];
}
