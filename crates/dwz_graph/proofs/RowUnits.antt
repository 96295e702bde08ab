-- The unit of a row is one of those that were read.
use Rattle.std.proofs.Common.{◌≡◌, ℕ, zero, suc, Some, slice_get, sym, ap, inl, inr, ◌+◌, ◌<◌, List, [], ◌∷◌, length, arith}
use Rattle.dwz_def_reading.specs.Trees.{End, Entry, Forest, Position, behind, first_below}
use Rattle.dwz_def_reading.specs.Entries.{RawEntry, root_position}
use Rattle.dwz_def_reading.specs.Units.{RawUnit, entry_count}
use Rattle.dwz_unit.specs.Rows.{EntryRow, rows_below, rows_from, rows_in, rows_of}
use Rattle.dwz_graph.proofs.TopLemmas.{get_cases}

pub rows_unit : (f : Forest RawEntry) (unit : ℕ) (p : Position) (i : ℕ) (row : EntryRow) → slice_get (rows_below f unit p) i ≡ Some row → row.unit ≡ unit
unfolding rows_below
rows_unit End unit p i row e = absurd cc
rows_unit (Entry d c n) unit p zero row e = (let first : EntryRow = record { entry = d; unit = unit; depth = p.depth; end = (behind p c).before } in let same : first ≡ row =
    cc in ap (λ (w : EntryRow). w.unit) (sym same))
rows_unit (Entry d c n) unit p (suc i) row e = elim (get_cases (rows_below c unit (first_below p)) (rows_below n unit (behind p c)) i row e) [
  | inl a ↦ rows_unit c unit (first_below p) i row a
  | inr b ↦ rows_unit n unit (behind p c) b.0 row b.2
]

pub units_high : (raw : List RawUnit) (unit before i : ℕ) (row : EntryRow) → slice_get (rows_from raw unit before) i ≡ Some row → row.unit < unit + length raw
unfolding rows_from
units_high [] unit before i row e = absurd cc
units_high (u ∷ raw) unit before i row e = elim (get_cases (rows_in u unit before) (rows_from raw (unit + 1) (before + entry_count u)) i row e) [
  | inl a ↦ (let at = rows_unit (Entry u.root u.below End) unit (root_position before) i row a in omega arith)
  | inr b ↦ (let lt = units_high raw (unit + 1) (before + entry_count u) b.0 row b.2 in omega arith)
]

pub unit_within : (raw : List RawUnit) (i : ℕ) (row : EntryRow) → slice_get (rows_of raw) i ≡ Some row → row.unit < length raw
unit_within raw i row e = (let lt = units_high raw 0 0 i row e in omega arith)
