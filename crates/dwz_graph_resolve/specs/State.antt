-- What is kept of the values that were looked at.
use Rattle.std.specs.Prelude.{◌≡◌, ℕ, ◌<◌, ◌≤◌, List, Ok}
use Rattle.dwz_def_reading.specs.Units.{RawUnit}
use Rattle.dwz_def_reading.specs.Meanings.{Around, MeaningContext}
use Rattle.dwz_def_reading.specs.Meant.{list_read}
use Rattle.dwz_def_reading.specs.LocLists.{LocList}
use Rattle.dwz_def_reading.specs.Shared.{NamedList}
use Rattle.dwz_graph_resolve.specs.declared.lists.ListRow.{ListRow}
use Rattle.dwz_graph_resolve.specs.declared.operands.ListOperand.{ListOperand}
use Rattle.dwz_graph_resolve.specs.declared.state.State.{State}
use Rattle.dwz_graph_resolve.specs.FileRows.{KnowTables}
use Rattle.dwz_graph_resolve.specs.ListParts.{IsPlain, KnowMarks}
use Rattle.dwz_graph_resolve.specs.ListRows.{IsKept, Shows}

-- the list at a place was read, and is kept as one that the unit names
pub record IsRead (raw : List RawUnit) (s : MeaningContext ℕ) (rows : List ListRow) (operands : List ListOperand) (place : ℕ) : Type 0 where
  pub list : LocList
  pub read : list_read s place ≡ Ok list
  pub kept : IsKept raw rows operands s.unit place list

-- behind values of the units before the n-th, and of some of that one, whose scope this is; these lists are named
pub record IsState (raw : List RawUnit) (s : MeaningContext ℕ) (n : ℕ) (named : List NamedList) (st : State) : Type 0 where
  pub shows : Shows raw st.file named st.lists
  pub tables : KnowTables s.around.sources st.files
  pub marks : KnowMarks st.lists.rows.items st.lists.marks.items (λ place w. IsPlain s.around.sources.lists place w × (w.unit ≤ n) × (w.unit
      ≡ n → IsRead raw s st.lists.rows.items st.lists.operands.items place))

-- the same, behind the units before the n-th
pub record IsBehind (raw : List RawUnit) (around : Around ℕ) (n : ℕ) (named : List NamedList) (st : State) : Type 0 where
  pub shows : Shows raw st.file named st.lists
  pub tables : KnowTables around.sources st.files
  pub marks : KnowMarks st.lists.rows.items st.lists.marks.items (λ place w. IsPlain around.sources.lists place w × (w.unit < n))
