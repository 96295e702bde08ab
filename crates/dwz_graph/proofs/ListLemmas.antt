-- The rows of a sibling list: the first entry, the rows of its children, and those behind them.
use Rattle.std.proofs.Common.{◌≡◌, ℕ, zero, suc, ◌+◌, ◌<◌, ◌≤◌, List, [], ◌∷◌, ◌++◌, length, drop, Some, slice_get, refl, sym, ap, subst, ◌∙◌, arith}
use Rattle.std.proofs.lemmas.List.{append_assoc, drop_all, drop_at, length-append, length-drop}
use Rattle.dwz_def_reading.specs.Entries.{RawEntry}
use Rattle.dwz_def_reading.specs.Trees.{End, Entry, Forest, Position, behind, first_below, size}
use Rattle.dwz_def_reading.specs.Units.{RawUnit, entries_in}
use Rattle.dwz_def_reading.proofs.ListFacts.{drop_first}
use Rattle.dwz_unit.specs.declared.rows.RawEntry.{RawEntry as EntryOfCode}
use Rattle.dwz_unit.specs.Rows.{EntryRow, rows_below, rows_of, shown_entries}
use Rattle.dwz_unit.proofs.RowLemmas.{shown-length}
use Rattle.dwz_unit.proofs.RowsFound.{row_is, rows-length}
use Rattle.dwz_graph.specs.Building.{HasList, IsList}

pub drop_more : {X : Type 0} (xs : List X) (i j : ℕ) → drop (i + j) xs ≡ drop j (drop i xs)
drop_more xs zero j = let e : 0 + j ≡ j = omega arith in ap (λ (n : ℕ). drop n xs) e
drop_more [] (suc i) j = drop_all (suc i + j) [] (omega arith) ∙ sym (drop_all j [] (omega arith))
drop_more (x ∷ xs) (suc i) j = let e : suc i + j ≡ suc (i + j) = omega arith in ap (λ (n : ℕ). drop n (x ∷ xs)) e ∙ drop_more xs i j

-- the first entry of a list, its children, and what is behind
pub record Next (raw : List RawUnit) (first end : ℕ) (x : EntryOfCode) (e : RawEntry) (children next : Forest RawEntry) : Type 0 where
  pub ends : x.end ≡ first + 1 + size children
  pub children_are : IsList raw (first + 1) x.end children
  pub next_are : IsList raw x.end end next
  pub row : EntryRow
  pub found : slice_get (rows_of raw) first ≡ Some row
  pub entry : row.entry ≡ e

pub list_next : (raw : List RawUnit) (first end : ℕ) (x : EntryOfCode) (e : RawEntry) (children next : Forest RawEntry) → IsList raw first end (Entry e children next)
    → slice_get (shown_entries raw) first ≡ Some x → Next raw first end x e children next
unfolding rows_below
list_next raw first end x e children next is shown =
    let p : Position = record { before = first; depth = is.depth } in
    let row : EntryRow = record { entry = e; unit = is.unit; depth = is.depth; end = first + 1 + size children } in
    let below = rows_below children is.unit (first_below p) in
    let others = rows_below next is.unit (behind p children) in
    let d = drop_first (rows_of raw) first row ((below ++ others) ++ is.after) is.rows in
    let len : length below ≡ size children = shown-length children is.unit (first_below p) in
    let to : x.end ≡ first + 1 + size children = sym (ap (λ (y : EntryOfCode). y.end) (row_is raw first x row shown d.0)) in
    let rest : drop (first + 1) (rows_of raw) ≡ below ++ (others ++ is.after) = d.1 ∙ append_assoc below others is.after in
    let behind_them : drop (first + 1 + size children) (rows_of raw) ≡ others ++ is.after =
    drop_more (rows_of raw) (first + 1) (size children) ∙ ap (drop (size children)) rest ∙ drop_at below (others ++ is.after) (size children) len in
    let total = is.ends in
    record {
      ends = to;
      children_are = record { unit = is.unit; depth = is.depth + 1; after = others ++ is.after; rows = rest; ends = to };
      next_are = subst (λ (n : ℕ). IsList raw n end next) (sym to) (record { unit = is.unit; depth = is.depth; after = is.after; rows = behind_them; ends = omega arith });
      row = row;
      found = d.0;
      entry = refl;
    }

-- a list with an entry
pub record Some_entry (raw : List RawUnit) (first end : ℕ) : Type 0 where
  pub entry : RawEntry
  pub children : Forest RawEntry
  pub next : Forest RawEntry
  pub is : IsList raw first end (Entry entry children next)

pub some_entry : (raw : List RawUnit) (first end : ℕ) → HasList raw first end → first < end → Some_entry raw first end
some_entry raw first end h lt = by h.list h.is where
  by : (list : Forest RawEntry) → IsList raw first end list → Some_entry raw first end
  by End is = absurd (let e = is.ends in omega arith)
  by (Entry e c n) is = record { entry = e; children = c; next = n; is = is }

-- the entries of a list are there
pub within : (raw : List RawUnit) (first end : ℕ) → HasList raw first end → first < end → end ≤ entries_in raw
within raw first end h lt =
    let is = h.is in
    let e = is.ends in
    let p : Position = record { before = first; depth = is.depth } in
    let a = ap (λ (w : List EntryRow). length w) is.rows in
    let b = length-append (rows_below h.list is.unit p) is.after in
    let d = shown-length h.list is.unit p in
    let all = rows-length raw in
    let left = length-drop first (rows_of raw) in
    omega arith
