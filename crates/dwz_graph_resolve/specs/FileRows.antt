-- Line tables that were read, and what values that number files say.
use Rattle.std.specs.Prelude.{◌≡◌, ℕ, ℤ, Bool, true, false, List, Option, Some, None, Result, Ok, Err, IfOk, if◌then◌else◌, slice_get}
use Rattle.std.specs.Option.{is_some}
use Rattle.dwz_model.specs.declared.fault.Fault.{Fault}
use Rattle.dwz_model.specs.declared.fault.ReadErr.{ReadErr}
use Rattle.dwz_model.specs.declared.fault.Reason.TheVariants.{BadFile}
use Rattle.dwz_def_reading.specs.Reading.{◌>>=◌}
use Rattle.dwz_def_reading.specs.Faults.{Fails, info_fault}
use Rattle.dwz_def_reading.specs.LineTables.{FileTable, file_table_at}
use Rattle.dwz_def_reading.specs.Meanings.{Sources, path_by, text_sections_of}
use Rattle.dwz_def_reading.specs.Classes.{names_file}
use Rattle.dwz_def_reading.specs.Meant.{is_zero}
use Rattle.dwz_lines.specs.Sections.{LineSource}
use Rattle.dwz_graph_resolve.specs.TablePlaces.{number_in}
use Rattle.dwz_graph_resolve.specs.declared.files.Files.{Files}

-- the table at a place
abbrev pub table_at : Sources → ℕ → Result FileTable Fault
table_at sources place = file_table_at (text_sections_of sources) sources.line place

-- the table with that number stands at the place
pub record HasTable (sources : Sources) (tables : List FileTable) (place number : ℕ) : Type 0 where
  pub table : FileTable
  pub there : slice_get tables number ≡ Some table
  pub read : table_at sources place ≡ Ok table

-- the sections that line tables are read from
abbrev pub line_of : Sources → LineSource
line_of sources = record { line = sources.line; texts = text_sections_of sources }

abbrev pub IsLine : Sources → Option LineSource → Type 0
IsLine sources None = Unit {0}
IsLine sources (Some line) = line ≡ line_of sources

-- tables are read from these sections, and each place that is kept is that of its table
pub record KnowTables (sources : Sources) (files : Files) : Type 0 where
  pub line : IsLine sources files.line
  pub known : (place number : ℕ) → number_in files.places place ≡ Some number → HasTable sources files.tables.items place number

-- the number that is kept for the table at a place, if there is a place
abbrev pub number_at : Files → Option ℕ → Option ℕ
number_at files None = None
number_at files (Some place) = number_in files.places place

-- each number that was kept still is; and where a value numbers files, one is kept for the place
pub record Learns (numbers : Bool) (line : Option ℕ) (old new : Files) : Type 0 where
  pub still : (place number : ℕ) → number_in old.places place ≡ Some number → number_in new.places place ≡ Some number
  pub known : numbers ≡ true → number_at new line ≡ None → line ≡ None

abbrev pub IfLearns : {Y : Type 0} → Bool → Option ℕ → Files → Files → Result Y ReadErr → Type 0
IfLearns numbers line old new result = IfOk result (λ y. Learns numbers line old new)

-- the table at the place has that number, or there is none
abbrev pub FindsTable : Sources → ℕ → Files → Result ℕ ReadErr → Type 0
FindsTable sources place files (Ok number) = KnowTables sources files × HasTable sources files.tables.items place number
FindsTable sources place files (Err e) = Fails e (table_at sources place)

-- ---- whether a number is that of a file

abbrev pub unless_none : ℕ → Bool → Result (Unit {0}) Fault
unless_none at true = Ok tt
unless_none at false = Err (info_fault at BadFile)

abbrev pub row_there : ℕ → ℤ → FileTable → Result (Unit {0}) Fault
row_there at number t = unless_none at (is_some (path_by t number))

-- goes on where a value at that place numbers a file
abbrev pub file_there : Sources → Option ℕ → ℕ → ℤ → Result (Unit {0}) Fault
file_there sources None at number = unless_none at (is_zero number)
file_there sources (Some place) at number = table_at sources place >>= row_there at number

abbrev pub SaysFile : {Y : Type 0} → Sources → Option ℕ → ℕ → ℤ → Files → Result Y ReadErr → Type 0
SaysFile sources line at number files (Ok y) = KnowTables sources files × (file_there sources line at number ≡ Ok tt)
SaysFile sources line at number files (Err e) = Fails e (file_there sources line at number)

-- the same of a number that may be one of a file
abbrev pub number_there : Sources → Option ℕ → ℕ → ℕ → ℤ → Result (Unit {0}) Fault
number_there sources line name at number = if names_file name then file_there sources line at number else Ok tt

abbrev pub SaysConstant : {Y : Type 0} → Sources → Option ℕ → ℕ → ℕ → ℤ → Files → Result Y ReadErr → Type 0
SaysConstant sources line name at number files (Ok y) = KnowTables sources files × (number_there sources line name at number ≡ Ok tt)
SaysConstant sources line name at number files (Err e) = Fails e (number_there sources line name at number)
