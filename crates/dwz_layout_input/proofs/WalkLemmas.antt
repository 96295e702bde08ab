-- The entries from one number to before another, one by one.
use Rattle.std.proofs.Common.{◌≡◌, ℕ, ◌+◌, ◌<◌, ◌≤◌, ◌||◌, Bool, true, false, List, [], ◌∷◌, map, Some, slice_get, refl, sym, ap, ◌∙◌}
use Rattle.std.specs.Prelude.{slice_range}
use Rattle.std.specs.List.{list_any}
use Rattle.dwz_def_reading.specs.Input.{Input}
use Rattle.dwz_def_reading.specs.Entries.{RawAttr}
use Rattle.dwz_def_reading.proofs.AttrPairs.{read_pairs}
use Rattle.dwz_def_reading.proofs.ListFacts.{range_here, range_none}
use Rattle.dwz_layout_numbers.specs.Befores.{is_pair_file}
use Rattle.dwz_model.specs.declared.place.Pair.{Pair}
use Rattle.dwz_unit.specs.Rows.{EntryRow}
use Rattle.dwz_unit.specs.Values.{Reads}
use Rattle.dwz_layout_input.specs.Roots.{numbers_file}

-- whether one of those left passes a test, is whether one of all does
pub any_next : (rows : List EntryRow) (i end : ℕ) (row : EntryRow) (b all : Bool) → i < end → slice_get rows i ≡ Some row → b ≡ numbers_file row → b ≡ false
    → list_any numbers_file (slice_range rows i end) ≡ all → list_any numbers_file (slice_range rows (i + 1) end) ≡ all
any_next rows i end row b all lt e is none h =
    (λ j. (sym none ∙ is) j || list_any numbers_file (slice_range rows (i + 1) end)) ∙ sym (ap (list_any numbers_file) (range_here rows i end row lt e)) ∙ h

pub any_here : (rows : List EntryRow) (i end : ℕ) (row : EntryRow) (b all : Bool) → i < end → slice_get rows i ≡ Some row → b ≡ numbers_file row → b ≡ true
    → list_any numbers_file (slice_range rows i end) ≡ all → true ≡ all
any_here rows i end row b all lt e is some h =
    (λ j. (sym some ∙ is) j || list_any numbers_file (slice_range rows (i + 1) end)) ∙ sym (ap (list_any numbers_file) (range_here rows i end row lt e)) ∙ h

pub any_end : (rows : List EntryRow) (i end : ℕ) (all : Bool) → end ≤ i → list_any numbers_file (slice_range rows i end) ≡ all → false ≡ all
any_end rows i end all le h = sym (ap (list_any numbers_file) (range_none rows i end le)) ∙ h

-- ---- values have the names and forms that they are read with

any_map : {X Y : Type 0} (p : Y → Bool) (f : X → Y) (xs : List X) → list_any p (map f xs) ≡ list_any (λ x. p (f x)) xs
any_map p f [] = refl
any_map p f (x ∷ xs) = ap (λ (b : Bool). p (f x) || b) (any_map p f xs)

pub values_number : (pairs : List Pair) (at : Input) (row : EntryRow) → Reads row.entry.at pairs at row.entry.attrs → list_any is_pair_file pairs ≡ numbers_file row
values_number pairs at row r = ap (list_any is_pair_file) (read_pairs row.entry.at pairs at r.behind row.entry.attrs r.read) ∙ any_map is_pair_file (λ (a : RawAttr). a.pair) row.entry.attrs
