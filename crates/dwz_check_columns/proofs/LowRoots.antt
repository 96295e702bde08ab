-- The roots of the units that a file says stand below the end of its bytes, which are fewer than 2^32.
use Rattle.std.proofs.Common.{◌≡◌, ℕ, ◌<◌, ◌≤◌, ◌^◌, List, [], ◌∷◌, Option, Ok, Err, Result, length, refl, ap, ◌∙◌, inl, inr, arith}
use Rattle.dwz_model.specs.Lists.{Each, In}
use Rattle.dwz_model.specs.declared.fault.Fault.{Fault}
use Rattle.dwz_def_reading.specs.Documents.{DwUnit}
use Rattle.dwz_def_reading.specs.Input.{input}
use Rattle.dwz_def_reading.specs.Meanings.{Around, MeanUnits}
use Rattle.dwz_def_reading.specs.OtherPlaces.{LiesBelow}
use Rattle.dwz_def_reading.specs.Units.{RawUnit, units_at}
use Rattle.dwz_def_reading.proofs.MeaningUnits.{units_agree}
use Rattle.dwz_def_reading.proofs.PlacesRise.{units_below}
use Rattle.dwz_def_reading.proofs.UnitListLemmas.{units_found}
use Rattle.dwz_unit.specs.Modes.{mode_of}
use Rattle.dwz_unit.specs.Rows.{Source, or_none, units_of}
use Rattle.dwz_check_sides.specs.Says.{FileSays}
use Rattle.dwz_graph.specs.declared.file.File.{File}

-- units that are read lie below the end
raw_low : (s : Source) (bound : ℕ) → length s.info ≤ bound → Each (LiesBelow bound) (units_of s)
unfolding units_of
raw_low s bound le = by (units_at s.abbrevs (mode_of s.kind s.room) 0 (input s.info 0)) refl where
  by : (r : Result (List RawUnit) Fault) → units_at s.abbrevs (mode_of s.kind s.room) 0 (input s.info 0) ≡ r → Each (LiesBelow bound) (or_none r)
  by (Err f) e = tt
  by (Ok raw) e = units_below s.abbrevs (mode_of s.kind s.room) 0 raw 0 s.info bound (units_found s.abbrevs (mode_of s.kind s.room) 0 (input s.info 0) raw e) (omega (arith, le))

root_low : (around : Around ℕ) (bound : ℕ) (raw : List RawUnit) (units : List (DwUnit ℕ)) → around.place ≡ (λ n. n) → MeanUnits around raw units → Each (LiesBelow bound) raw
    → (u : DwUnit ℕ) → In u units → u.root.at < bound
root_low around bound [] [] place h low u is = absurd is
root_low around bound (r ∷ raw) (v ∷ units) place h low u (inl e) =
    let at : v.root.at ≡ r.root.at = h.0.root.place ∙ ap (λ (f : ℕ → ℕ). f r.root.at) place in
    let less = low.0 r.root.at (inr (inl refl)) in
    let same = ap (λ (w : DwUnit ℕ). w.root.at) e in
    omega (arith, at, less, same)
root_low around bound (r ∷ raw) (v ∷ units) place h low u (inr more) = root_low around bound raw units place h.1 low.1 u more
root_low around bound [] (v ∷ units) place h low u is = absurd h
root_low around bound (r ∷ raw) [] place h low u is = absurd h

pub roots_low : (f : File) (common : Option File) (units : List (DwUnit ℕ)) → length f.units.info < 2 ^ 32 → FileSays f common units → (u : DwUnit ℕ) → In u units → u.root.at < 2 ^ 32
roots_low f common units short says =
    root_low says.around (2 ^ 32) (units_of f.units) units says.place (((units_agree says.around (units_of f.units)).ok units).0 says.means) (raw_low f.units (2 ^ 32) (omega (arith, short)))
