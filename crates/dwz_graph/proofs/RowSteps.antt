-- A row, as the code is shown it.
use Rattle.std.proofs.Common.{◌≡◌, ℕ, zero, suc, List, [], ◌∷◌, map, Some, slice_get, sym, ap, ◌∙◌}
use Rattle.dwz_def_reading.specs.Units.{RawUnit}
use Rattle.dwz_unit.specs.declared.rows.RawEntry.{RawEntry}
use Rattle.dwz_unit.specs.Rows.{EntryRow, entry_shown, rows_of, shown_entries}

got_map : {X Y : Type 0} (f : X → Y) (xs : List X) (i : ℕ) (x : X) (y : Y) → slice_get xs i ≡ Some x → slice_get (map f xs) i ≡ Some y → f x ≡ y
got_map f [] i x y p q = absurd cc
got_map f (z ∷ xs) zero x y p q = let a : z ≡ x = cc in let b : f z ≡ y = cc in ap f (sym a) ∙ b
got_map f (z ∷ xs) (suc i) x y p q = got_map f xs i x y p q

-- the row of an entry that was shown
pub shown_row : (raw : List RawUnit) (i : ℕ) (row : EntryRow) (x : RawEntry) → slice_get (rows_of raw) i ≡ Some row → slice_get (shown_entries raw) i ≡ Some x → entry_shown row ≡ x
shown_row raw i row x p q = got_map entry_shown (rows_of raw) i row x p q
