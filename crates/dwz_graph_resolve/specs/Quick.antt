-- Values that are told at once.
use Rattle.std.specs.Prelude.{◌≡◌, ℕ, ℤ, true, List, Option, Some, Result, Ok, slice_get}
use Rattle.std.specs.Option.{is_some}
use Rattle.dwz_model.specs.declared.fault.Fault.{Fault}
use Rattle.dwz_def_reading.specs.Documents.{Value}
use Rattle.dwz_def_reading.specs.Shared.{NamedList}
use Rattle.dwz_def_reading.specs.LineTables.{FileTable}
use Rattle.dwz_def_reading.specs.Meanings.{Common, path_by}
use Rattle.dwz_def_reading.specs.Units.{RawUnit}
use Rattle.dwz_graph_resolve.specs.FileRows.{number_at}
use Rattle.dwz_graph_resolve.specs.Named.{Found}
use Rattle.dwz_graph_resolve.specs.Resolved.{Adds, NamesEntry}
use Rattle.dwz_graph_resolve.specs.declared.files.Files.{Files}
use Rattle.dwz_graph_resolve.specs.declared.state.State.{State}

-- what was added is what is named
abbrev pub AddsNamed : Option (Common ℕ) → List RawUnit → (List NamedList → State → Type 0) → List NamedList → State → State → Result Found Fault
    → Type 0
AddsNamed common raw K before old new named = Adds common raw old.refs.items new.refs.items before (λ lists. K lists new) named

-- the number of the entry was added that a reference names
abbrev pub AddsEntry : Option (Common ℕ) → List RawUnit → List ℕ → List ℕ → Result (Value ℕ) Fault → Type 0
AddsEntry common raw old new named = NamesEntry {Y = Unit {0}} common raw old new (Ok tt) named

-- a table is kept for the place, and has a file of that number
pub record HasFileAt (files : Files) (line : Option ℕ) (number : ℤ) : Type 0 where
  pub table : ℕ
  pub kept : number_at files line ≡ Some table
  pub has : (t : FileTable) → slice_get files.tables.items table ≡ Some t → is_some (path_by t number) ≡ true

-- nothing was added; there may be more room
pub record IsUntouched (old new : State) : Type 0 where
  pub items : new.refs.items ≡ old.refs.items
  pub rest : new ≡ record old { refs = new.refs }
