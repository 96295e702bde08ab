use Rattle.std.proofs.Common.{◌≡◌, ℕ, drop, List, Some, slice_get}
use Rattle.dwz_def_tops.specs.Alike.{any_attr}
use Rattle.dwz_def_tops.specs.Spots.{EntryName}
use Rattle.dwz_graph.specs.Rows.{IsEntryMeant, node_refs}
use Rattle.dwz_def_reading.specs.Documents.{Node, node_map}
use Rattle.dwz_def_reading.specs.Meanings.{MeaningContext}
use Rattle.dwz_unit.specs.Rows.{EntryRow, rows_of, units_of}
use Rattle.dwz_move.specs.Bound.{AreInto}
use Rattle.dwz_move.specs.Marked.{expression_names, expression_pins}
use Rattle.dwz_move.proofs.MarkSteps.{MarkLeft}
use Rattle.dwz_move.proofs.OtherValues.{ReadsFront}
use Rattle.dwz_move.proofs.marks.mark_entry.Given as goal

abbrev pub invariant-loop-pair : goal.invariant-loop-pair
invariant-loop-pair l = record {
  reads : (row : EntryRow) → slice_get (rows_of (units_of l.units)) l.i ≡ Some row → ReadsFront row.entry.at l.pair-items l.pair-index l.cursor row.entry.attrs;
  any : (s : MeaningContext ℕ) (numbers : List ℕ) (row : EntryRow) (d : Node ℕ) (name : ℕ → EntryName) → IsEntryMeant (units_of l.units) s l.i numbers row d → AreInto name l.into (node_refs d)
      → MarkLeft expression_names (units_of l.units) s name (drop l.pair-index row.entry.attrs) l.rest l.fn.named.by_any.items l.named.by_any.items
      (λ n. any_attr (expression_names n) (node_map name d));
  uleb : (s : MeaningContext ℕ) (numbers : List ℕ) (row : EntryRow) (d : Node ℕ) (name : ℕ → EntryName) → IsEntryMeant (units_of l.units) s l.i numbers row d → AreInto name l.into (node_refs d)
      → MarkLeft expression_pins (units_of l.units) s name (drop l.pair-index row.entry.attrs) l.rest l.fn.named.by_uleb.items l.named.by_uleb.items
      (λ n. any_attr (expression_pins n) (node_map name d));
}
