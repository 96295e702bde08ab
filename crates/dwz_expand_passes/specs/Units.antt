-- Inner: What was made of the new units so far.
use Rattle.std.specs.Prelude.{◌≡◌, ℕ, ◌∷◌, Some, slice_get, Result, Ok, Err}
use Rattle.dwz_def_cross.specs.Tops.{WithCommon, units_with_common, whole_units}
use Rattle.dwz_def_expand.specs.Refusals.{SiteFault, Where, nodes, sites_in}
use Rattle.dwz_def_expand.specs.Source.{source_places, source_unit}
use Rattle.dwz_def_reading.specs.Documents.{DwUnit}
use Rattle.dwz_def_reading.specs.FirstOf.{OfFirst}
use Rattle.dwz_expand_sources.specs.Imports.{same}
use Rattle.dwz_model.specs.declared.fault.Fault.{Fault}
use Rattle.dwz_model.specs.declared.fault.ReadErr.{ReadErr}
use Rattle.dwz_model.specs.declared.fault.ReadErr.TheVariants.{NoMemory, Refused}
use Rattle.dwz_expand_layout.specs.Entries.{UnitLines}
use Rattle.dwz_expand_sources.specs.declared.sources.NewUnit.{NewUnit}
use Rattle.dwz_expand_passes.specs.Passes.{Says, forms_in}
use Rattle.dwz_expand_passes.specs.declared.new_file.NewFile.{NewFile}
use Rattle.dwz_expand_passes.specs.CopiesOf.{HasCopies}

-- the first value in the n-th new unit that can't be copied has that fault
abbrev pub RefusesUnit : NewFile → WithCommon ℕ → Where ℕ → ℕ → DwUnit ℕ → Fault → Type 0
RefusesUnit x w stands n u =
    OfFirst (SiteFault same (source_places same w) (forms_in x w) stands)
    (sites_in n (u.root ∷ nodes (source_unit same (units_with_common w) u).below))

-- it is the n-th new unit, of which each value can be copied
pub record IsNewOf (x : NewFile) (n : ℕ) (o : UnitLines) : Type 0 where
  pub copies : (w : WithCommon ℕ) (stands : Where ℕ) → Says x w stands → (new : NewUnit) (u : DwUnit ℕ)
      → slice_get x.sources.now.units n ≡ Some new → slice_get (whole_units w.own) n ≡ Some u
      → HasCopies w x.sources.now (forms_in x w) n new u o
  pub free : (w : WithCommon ℕ) (stands : Where ℕ) → Says x w stands → (u : DwUnit ℕ) → slice_get (whole_units w.own) n ≡ Some u
      → (f : Fault) → ¬ RefusesUnit x w stands n u f

abbrev pub RefusesAt : {Y : Type 0} → NewFile → ℕ → Result Y ReadErr → Type 0
RefusesAt x n (Ok y) = Unit {0}
RefusesAt x n (Err NoMemory) = Unit {0}
RefusesAt x n (Err (Refused f)) =
    (w : WithCommon ℕ) (stands : Where ℕ) → Says x w stands → (u : DwUnit ℕ) → slice_get (whole_units w.own) n ≡ Some u
    → RefusesUnit x w stands n u f
