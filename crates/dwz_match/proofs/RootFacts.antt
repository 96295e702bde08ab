-- The roots of units, as they are stored and as documents have them.
use Rattle.std.proofs.Common.{◌≡◌, ℕ, List, [], ◌∷◌, Some, map, slice_get, refl, sym, ap, ◌∙◌}
use Rattle.dwz_def_reading.specs.Documents.{DwUnit}
use Rattle.dwz_def_reading.specs.Meanings.{Around, MeanUnits}
use Rattle.dwz_def_reading.specs.Places.{Place}
use Rattle.dwz_def_reading.specs.Units.{RawUnit}
use Rattle.dwz_unit.proofs.RowsFound.{row_is}
use Rattle.dwz_unit.proofs.UnitThere.{UnitThere, root_found}
use Rattle.dwz_unit.specs.declared.rows.RawEntry.{RawEntry as EntryOfCode}
use Rattle.dwz_unit.specs.declared.rows.RawUnit.{RawUnit as UnitOfCode}
use Rattle.dwz_unit.specs.Rows.{rows_of, shown_entries}

-- the entry of a root stands where the root does
pub root_at : (raw : List RawUnit) (n : ℕ) (x : UnitOfCode) (t : UnitThere (rows_of raw) raw 0 n x) (e : EntryOfCode) → slice_get (shown_entries raw) x.first ≡ Some e → e.at ≡ t.u.root.at
root_at raw n x t e is = sym (ap (λ (w : EntryOfCode). w.at) (row_is raw x.first e _ is (root_found raw n x t)))

pub roots_said : (around : Around Place) → ((n : ℕ) → (around.place n).at ≡ n) → (raw : List RawUnit) (said : List (DwUnit Place)) → MeanUnits around raw said
    → map (λ u. u.root.at) raw ≡ map (λ u. u.root.at.at) said
roots_said around place [] [] h = refl
roots_said around place [] (v ∷ said) h = absurd h
roots_said around place (u ∷ raw) [] h = absurd h
roots_said around place (u ∷ raw) (v ∷ said) h =
    let here : u.root.at ≡ v.root.at.at = sym (place u.root.at) ∙ ap (λ (p : Place). p.at) (sym h.0.root.place) in
    let rest = roots_said around place raw said h.1 in
    (λ i. here i ∷ rest i)
