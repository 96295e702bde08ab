-- Files that limits have room for.
use Rattle.std.specs.Prelude.{◌≡◌, ℕ, ◌≤◌, true, List, length, map}
use Rattle.std.specs.List.{sum}
use Rattle.dwz_def_reading.specs.Lists.{Each}
use Rattle.dwz_def_reading.specs.Entries.{Mode}
use Rattle.dwz_def_reading.specs.Files.{debug_abbrev, debug_info, longest_file, longest_files, most_entries}
use Rattle.dwz_def_reading.specs.Units.{RawUnit, SpellsUnits, entries_in}
use Rattle.dwz_def_encoding.specs.Fitting.{all_forms}
use Rattle.dwz_def_cross.specs.CrossSame.{EachTwo}

-- the bytes store these units, of whatever kinds, with whatever forms, and however many and deep their entries are
pub record StoresUnits (bytes : List ℕ) (units : List RawUnit) : Type 0 where
  pub mode : Mode
  pub whole : mode.whole ≡ true
  pub partial : mode.partial ≡ true
  pub forms : mode.forms ≡ all_forms
  pub spelled : SpellsUnits (debug_abbrev bytes) mode 0 units 0 (debug_info bytes)

-- no file is too long, nor are all together, nor do the units that they store have too many entries together
pub record AreWithinLimits (files : List (List ℕ)) : Type 0 where
  pub each : Each (λ bytes. length bytes ≤ longest_file) files
  pub bytes : sum (map (λ bytes. length bytes) files) ≤ longest_files
  pub entries : (units : List (List RawUnit)) → EachTwo StoresUnits files units → sum (map entries_in units) ≤ most_entries
