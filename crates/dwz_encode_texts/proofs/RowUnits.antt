-- Each row is of one of the units.
use Rattle.std.proofs.Common.{◌≡◌, ℕ, ◌+◌, ◌<◌, List, length, map, get_or, Option, Some, slice_get, sym, ap, ◌∙◌}
use Rattle.std.specs.Option.{option_and_then, option_map}
use Rattle.std.proofs.lemmas.List.{length-map}
use Rattle.std.proofs.lemmas.Option.{get_or_from_slice_get, slice_get-map}
use Rattle.dwz_def_reading.specs.Units.{RawUnit}
use Rattle.dwz_def_reading.proofs.ListFacts.{got_there}
use Rattle.dwz_def_reading.specs.Meanings.{Around}
use Rattle.dwz_unit.specs.declared.rows.RawEntry.{RawEntry as EntryOfCode}
use Rattle.dwz_unit.specs.Rows.{EntryRow, rows_of, shown_entries}
use Rattle.dwz_unit.proofs.RowsFound.{row_is}
use Rattle.dwz_encode_texts.specs.Texts.{slots_base, slots_base_at}

-- the unit with that number is there
pub record IsOfUnit (raw : List RawUnit) (r : EntryRow) (first : ℕ) : Type 0 where
  pub n : ℕ
  pub number : r.unit ≡ first + n
  pub within : n < length raw

-- what is kept of units: the bases of their slots
module _ (around : Around ℕ) (raw : List RawUnit) (bases : List (Option ℕ)) (are : bases ≡ map (slots_base around) raw) where
  pub bases_many : length bases ≡ length raw
  bases_many = ap (λ (w : List (Option ℕ)). length w) are ∙ length-map raw (slots_base around)

  pub base_there : (n : ℕ) (d : Option ℕ) → n < length raw → get_or bases n d ≡ slots_base_at around raw n
  base_there n d lt =
      let u = got_there raw n lt in
      ap (λ (w : List (Option ℕ)). get_or w n d) are
      ∙ get_or_from_slice_get (map (slots_base around) raw) n (slots_base around u.0) d (slice_get-map (slots_base around) raw n ∙ ap (option_map (slots_base around)) u.1)
      ∙ ap (option_and_then (slots_base around)) (sym u.1)

-- the unit that an entry is shown with
pub shown_unit : (raw : List RawUnit) (i : ℕ) (e : EntryOfCode) (r : EntryRow) → slice_get (shown_entries raw) i ≡ Some e → slice_get (rows_of raw) i ≡ Some r → r.unit ≡ e.unit
shown_unit raw i e r shown found = ap (λ (w : EntryOfCode). w.unit) (row_is raw i e r shown found)
