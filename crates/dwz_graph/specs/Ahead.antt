-- Files that are read ahead of their turn.
use Rattle.std.specs.Prelude.{◌≡◌, ℕ, ◌≤◌, List, Option, Some, slice_get}
use Rattle.dwz_def_reading.specs.Units.{RawUnit, entries_in}
use Rattle.dwz_def_reading.specs.Files.{IsForMachine, IsNotTooLong, Limits, machine_of}
use Rattle.dwz_graph.specs.declared.ahead.Found.{Found}
use Rattle.dwz_graph.specs.declared.file.File.{File}
use Rattle.dwz_graph.specs.Files.{IsRead}

-- what other files leave is enough for a file with these units
pub record IsEnough (l : Limits) (bytes : List ℕ) (units : List RawUnit) : Type 0 where
  pub size : IsNotTooLong l bytes
  pub machine : IsForMachine l.machine (machine_of bytes)
  pub entries : entries_in units ≤ l.entries

-- the file with that number was read, whatever the files before it leave
pub record IsAhead (number : ℕ) (bytes : List ℕ) (f : File) : Type 0 where
  pub limits : Limits
  pub read : IsRead limits number bytes f

-- it is one of the files of a run
pub record IsAheadIn (contents : List (List ℕ)) (number : ℕ) (f : File) : Type 0 where
  pub bytes : List ℕ
  pub content : slice_get contents number ≡ Some bytes
  pub ahead : IsAhead number bytes f

abbrev pub IsFound : List (List ℕ) → Found → Type 0
IsFound contents found = IsAheadIn contents found.number found.file

-- at each place where something is, it is the file with that number
abbrev pub AreAhead : List (List ℕ) → List (Option File) → Type 0
AreAhead contents slots = (k : ℕ) (f : File) → slice_get slots k ≡ Some (Some f) → IsAheadIn contents k f
