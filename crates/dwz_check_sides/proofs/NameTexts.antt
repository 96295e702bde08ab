-- The name of a space, as it is stored, and how many entries a file has.
use Rattle.std.proofs.Common.{◌≡◌, ℕ, suc, ◌+◌, List, [], ◌∷◌, ◌++◌, length, Option, Some, None, slice_get, refl, sym, ap, subst, ◌∙◌, arith}
use Rattle.std.proofs.lemmas.List.{length-append}
use Rattle.dwz_model.proofs.ListFacts.{drop_first, same_got}
use Rattle.dwz_def_reading.specs.Documents.{Compile, DwUnit, Entries, Kind, OfType, Partial}
use Rattle.dwz_def_reading.specs.Meanings.{Around, MeanUnits, MeaningContext, scope_of}
use Rattle.dwz_def_reading.specs.Trees.{End, Entry, behind, first_below, size}
use Rattle.dwz_def_reading.specs.Units.{RawUnit, entries_in}
use Rattle.dwz_def_reading.proofs.MeaningUnits.{entries_agree, node_agrees, units_agree}
use Rattle.dwz_def_tops.specs.Spaces.{space_text, tops_under}
use Rattle.dwz_def_check.specs.CrossNames.{AtPath, CrossName, PartSpace, WholeSpace, cross_names_below, cross_names_from, cross_names_under, cross_unit_names, next_whole, unit_tops}
use Rattle.dwz_graph.proofs.ListMeans.{means_size}
use Rattle.dwz_graph.proofs.SpaceMeans.{HasName, has_name}
use Rattle.dwz_graph.specs.Here.{Here}
use Rattle.dwz_graph.specs.Resolved.{IsHere, IsUnitHere}
use Rattle.dwz_unit.proofs.RowsFound.{row_is}
use Rattle.dwz_unit.specs.declared.rows.RawEntry.{RawEntry as EntryOfCode}
use Rattle.dwz_unit.specs.declared.rows.RawUnit.{RawUnit as UnitOfCode}
use Rattle.dwz_unit.specs.Rows.{EntryRow, rows_below, rows_of, shown_entries, units_of}
use Rattle.dwz_check_index.specs.EntryRows.{IsEntryRow}
use Rattle.dwz_check_index.specs.Index.{ListedEntry, listed_units}
use Rattle.dwz_check_index.specs.declared.index.CrossStarts.{CrossStarts}
use Rattle.dwz_check_index.proofs.EntryRows.{entry_rows}
use Rattle.dwz_check_sides.specs.declared.side.Side.{Side}
use Rattle.dwz_check_sides.specs.Says.{IsScope, IsSide}

-- ---- the name of a space

module _ (s : Side) (said : List (DwUnit ℕ)) (starts : CrossStarts) (side : IsSide s said starts) (entry : ℕ) (d : ListedEntry ℕ) (got : slice_get (listed_units said) entry ≡ Some d) where
  abbrev pub raw : List RawUnit
  raw = units_of s.file.now.units

  pub at_row : IsEntryRow side.says.around raw entry d
  at_row = entry_rows side.says.around raw said side.says.means entry d got

  abbrev pub row : EntryRow
  row = record { entry = at_row.e; unit = at_row.number; depth = at_row.p.depth; end = (behind at_row.p at_row.c).before }

  abbrev pub scope : MeaningContext ℕ
  scope = scope_of side.says.around at_row.unit

  pub row_found : slice_get (rows_of raw) entry ≡ Some row
  unfolding rows_below
  row_found = (drop_first (rows_of raw) entry row ((rows_below at_row.c at_row.number (first_below at_row.p) ++ []) ++ at_row.after) at_row.rows).0

  pub has_text : (text : List ℕ) → space_text d.0 ≡ Some text → HasName scope at_row.e text
  has_text text is =
      let m = ((entries_agree scope (Entry at_row.e at_row.c End)).ok (Entry d.0 d.1 End)).0 at_row.means in
      has_name scope at_row.e d.0 text (((node_agrees scope at_row.e).ok d.0).1 m.0) is

  pub is_scope : (x : EntryOfCode) (u : UnitOfCode) (h : Here) → slice_get (shown_entries raw) entry ≡ Some x → IsUnitHere raw x.unit u h → IsScope s h.offsets scope
  is_scope x u h shown here =
      let same : x.unit ≡ at_row.number = sym (ap (λ (w : EntryOfCode). w.unit) (row_is raw entry x row shown row_found)) in
      let own : IsHere raw at_row.unit h = subst (λ (w : RawUnit). IsHere raw w h) (same_got raw x.unit here.u at_row.unit here.is_unit (ap (slice_get raw) same ∙ at_row.is_unit)) here.here in
      record { sources = side.says.sources; common_is = side.says.common_is; base_is = own.base }

-- ---- how many names there are

below_long : (top : ℕ) (path : List ℕ) (i : ℕ) (f : Entries ℕ) → length (cross_names_below top path i f) ≡ size f
unfolding cross_names_below
below_long top path i End = refl
below_long top path i (Entry e children next) =
    omega (arith, length-append (cross_names_below top (i ∷ path) 0 children) (cross_names_below top path (suc i) next), below_long top (i ∷ path) 0 children, below_long top path (suc i) next)

under_long : (space : List (List ℕ) → CrossName) (names : List (List ℕ)) (top : ℕ) (f : Entries ℕ) → length (cross_names_under space names top f) ≡ size f
unfolding cross_names_under
under_long space names top End = refl
under_long space names top (Entry e children next) = by (space_text e) (λ n t. under_long space n t children) (λ n t. under_long space n t next) where
  by : (o : Option (List ℕ)) → ((n : List (List ℕ)) (t : ℕ) → length (cross_names_under space n t children) ≡ size children)
      → ((n : List (List ℕ)) (t : ℕ) → length (cross_names_under space n t next) ≡ size next)
      → length (elim o as (λ _. List (ℕ × CrossName)) [
        | None ↦ (e.at, AtPath top []) ∷ cross_names_below top [] 0 children ++ cross_names_under space names (suc top) next
        | Some text ↦ (e.at, space (names ++ text ∷ [])) ∷ cross_names_under space (names ++ text ∷ []) top children ++ cross_names_under space names (top + tops_under children) next
      ]) ≡ size (Entry e children next)
  by None inside rest = omega (arith, length-append (cross_names_below top [] 0 children) (cross_names_under space names (suc top) next), below_long top [] 0 children, rest names (suc top))
  by (Some text) inside rest =
      omega (
        arith,
        length-append (cross_names_under space (names ++ text ∷ []) top children) (cross_names_under space names (top + tops_under children) next),
        inside (names ++ text ∷ []) top,
        rest names (top + tops_under children),
      )

pub unit_long : (n top : ℕ) (k : Kind ℕ) (u : DwUnit ℕ) → length (cross_unit_names n top k u) ≡ size u.below + 1
unit_long n top Compile u = omega (arith, under_long (WholeSpace n) [] top u.below)
unit_long n top (OfType signature main) u = omega (arith, below_long top [] 0 u.below)
unit_long n top Partial u = omega (arith, under_long PartSpace [] top u.below)

names_long : (around : Around ℕ) (raw : List RawUnit) (said : List (DwUnit ℕ)) (n top : ℕ) → MeanUnits around raw said → length (cross_names_from n top said) ≡ entries_in raw
unfolding cross_names_from entries_in
names_long around [] [] n top h = refl
names_long around [] (v ∷ said) n top h = absurd h
names_long around (u ∷ raw) [] n top h = absurd h
names_long around (u ∷ raw) (v ∷ said) n top h =
    let same : size u.below ≡ size v.below = means_size (scope_of around u) u.below v.below h.0.below in
    omega (
      arith,
      length-append (cross_unit_names n top v.kind v) (cross_names_from (next_whole v.kind n) (top + length (unit_tops v.kind v)) said),
      unit_long n top v.kind v,
      names_long around raw said (next_whole v.kind n) (top + length (unit_tops v.kind v)) h.1,
      same,
    )

pub steps_long : (s : Side) (said : List (DwUnit ℕ)) (starts : CrossStarts) → IsSide s said starts → length s.index.now.steps ≡ entries_in (units_of s.file.now.units)
steps_long s said starts side =
    side.index_is.names.len ∙ names_long side.says.around (units_of s.file.now.units) said 0 starts.top (((units_agree side.says.around (units_of s.file.now.units)).ok said).0 side.says.means)
