-- The rows of a top, by the number of its entry.
use Rattle.std.proofs.Common.{◌≡◌, ℕ, ◌+◌, List, Option, Ok, Some, drop, length, slice_get, sym, ap, arith}
use Rattle.std.specs.Prelude.{slice_index}
use Rattle.dwz_check_index.specs.EntryRows.{IsEntryRow}
use Rattle.dwz_check_index.specs.Index.{ListedEntry, listed_units}
use Rattle.dwz_check_index.proofs.EntryRows.{entry_rows}
use Rattle.dwz_def_reading.specs.Documents.{DwUnit, Entries, Node}
use Rattle.dwz_def_reading.specs.Meanings.{Around, MeaningContext, scope_of}
use Rattle.dwz_def_reading.specs.Meant.{units_meaning}
use Rattle.dwz_def_reading.specs.Trees.{End, Entry, size}
use Rattle.dwz_def_reading.specs.Units.{RawUnit}
use Rattle.dwz_def_tops.specs.Spots.{EntryName}
use Rattle.dwz_graph.specs.Rows.{AreRowsMeant, RowsMean, nodes}
use Rattle.dwz_graph.proofs.PartLemmas.{part_meant, rows_unit}
use Rattle.dwz_unit.proofs.RowsFound.{row_is}
use Rattle.dwz_graph.proofs.TreeLemmas.{parts, same_size, tree_means}
use Rattle.dwz_move.specs.Bound.{EachInto}
use Rattle.dwz_move.specs.Known.{KnowsRefs}
use Rattle.dwz_move.proofs.FileSteps.{each_into}
use Rattle.dwz_unit.specs.Rows.{EntryRow, rows_below, shown_entries}
use Rattle.dwz_unit.specs.declared.rows.RawEntry.{RawEntry as EntryOfCode}
use Rattle.dwz_unit.proofs.RowLemmas.{shown-length}
use Rattle.dwz_check_labels.proofs.EntryLemmas.{row_of}

module _ (around : Around ℕ) (raw : List RawUnit) (name : ℕ → EntryName) (refs starts : List ℕ) (into : List (Option ℕ)) (knows : KnowsRefs around raw name refs starts into)
    (said : List (DwUnit ℕ)) (means : units_meaning around raw ≡ Ok said) (i : ℕ) (d : ListedEntry ℕ) (found : slice_get (listed_units said) i ≡ Some d)
    (x : EntryOfCode) (shown : slice_get (shown_entries raw) i ≡ Some x) where
  pub h : IsEntryRow around raw i d
  h = entry_rows around raw said means i d found

  abbrev pub s : MeaningContext ℕ
  s = scope_of around h.unit

  abbrev pub rows : List EntryRow
  rows = rows_below (Entry h.e h.c End) h.number h.p

  abbrev pub ds : List (Node ℕ)
  ds = nodes (Entry d.0 d.1 End)

  rows_mean : RowsMean s rows ds
  rows_mean = tree_means s (Entry h.e h.c End) (Entry d.0 d.1 End) h.number h.p h.means

  ends : i + length rows ≡ x.end
  ends =
      let q = parts s h.e h.c End (Entry d.0 d.1 End) h.means in
      let below : q.below ≡ d.1 = (let w = q.is in cc) in
      let many = same_size s h.c q.below q.of_below in
      let same : size q.below ≡ size d.1 = ap (λ (w : Entries ℕ). size w) below in
      let r = row_of around raw said i d means found in
      let last : x.end ≡ r.row.end = sym (ap (λ (w : EntryOfCode). w.end) (row_is raw i x r.row shown r.found)) in
      let to = r.ends in
      let long = shown-length (Entry h.e h.c End) h.number h.p in
      omega (arith, many, same, last, to, long)

  pub top_meant : AreRowsMeant raw s i x.end (drop (slice_index starts i) refs) rows h.after ds
  top_meant = part_meant around raw refs starts knows.parted knows.entries h.number h.unit h.is_unit i x.end rows h.after ds (rows_unit (Entry h.e h.c End) h.number h.p) h.rows ends rows_mean

  pub top_into : EachInto name into starts i ds
  top_into = each_into around raw name refs starts into knows h.number h.unit h.is_unit i rows h.after ds (rows_unit (Entry h.e h.c End) h.number h.p) h.rows rows_mean
