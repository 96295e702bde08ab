-- What the two sections say of units that can be written.
use Rattle.std.proofs.Common.{◌≡◌, ℕ, suc, ◌-◌, ◌<◌, ◌≤◌, ◌^◌, List, [], ◌∷◌, refl, subst, arith}
use Rattle.dwz_def_reading.specs.Documents.{DwUnit}
use Rattle.dwz_def_reading.specs.Entries.{Mode}
use Rattle.dwz_def_reading.specs.Lists.{Each, In}
use Rattle.dwz_def_reading.specs.Meanings.{Around, MeanUnits}
use Rattle.dwz_def_reading.specs.Units.{SpellsUnits}
use Rattle.dwz_def_encoding.specs.Fitting.{AreWritable, IsRoomy, UnitFits, deepest, depth, mode_for}
use Rattle.dwz_def_encoding.specs.Meant.{IsAround, Spells, Tells, UnitsSay, all_entry_keys, placed_units}
use Rattle.dwz_def_encoding.specs.Placing.{sections}
use Rattle.dwz_def_tops.specs.Shown.{units_keys}
use Rattle.dwz_def_encoding.specs.Sound.{SoundUnit}
use Rattle.dwz_def_encoding.specs.Writing.{Numbering, tables_of}
use Rattle.dwz_def_encoding.proofs.RawUnits.{raw_units}
use Rattle.dwz_def_encoding.proofs.Rising.{entries_are_keys, units_fit}
use Rattle.dwz_def_encoding.proofs.UnitsMean.{all_raw, units_mean}
use Rattle.dwz_def_encoding.proofs.UnitsSpelled.{units_len, units_size, units_spelled}
use Rattle.dwz_def_encoding.proofs.WriteTables.{tables_there}

-- ---- limits that units meet

each_deep : {K : Type 0} (units : List (DwUnit K)) (most : ℕ) → deepest units ≤ most → Each (λ u. suc (depth u.below) ≤ most) units
unfolding deepest
each_deep [] most le = tt
each_deep (u ∷ units) most le = (omega (arith, le), each_deep units most (omega (arith, le)))

pub is_roomy : {K : Type 0} (units : List (DwUnit K)) → IsRoomy units (mode_for units)
is_roomy units = record { whole = refl; partial = refl; forms = refl; entries = omega arith; depth = each_deep units (deepest units) (omega arith) }

-- ---- the sections

module _ {K : Type 0} (n : Numbering K) (common : List K) (units : List (DwUnit K)) where
  size_small : AreWritable n common units → units_size n units < 2 ^ 32 - 16
  unfolding sections
  size_small w = (let len = units_len n (tables_of [] units) units in let small = w.fits.0 in omega (arith, len, small))

  pub fits : (t : Tells K) → t.all ≡ all_entry_keys units → t.common ≡ common → AreWritable n common units → UnitsSay t units → Each (UnitFits n) units
  fits t all same w says =
      let small = size_small w in
      units_fit n t units all (λ k there. w.common_fits k (subst (In k) same there)) w.stands (omega (arith, small)) w.room says

  pub spelled : (mode : Mode) → AreWritable n common units → Each (UnitFits n) units → IsRoomy units mode
      → SpellsUnits (sections n units).abbrevs mode 0 (raw_units n (tables_of [] units) units) 0 (sections n units).info
  unfolding sections
  spelled mode w fit roomy =
      let small = w.fits.1 in
      units_spelled n (tables_of [] units) mode units 0 0 w.stands w.sound fit (tables_there units) roomy.whole roomy.partial roomy.forms roomy.depth (omega (arith, roomy.entries)) (size_small w)
      (omega (arith, small))

-- what is spelled means the units with places for names, whatever surrounds them, where their names stand there
pub means : {K P : Type 0} (n : Numbering K) (g : K → P) (units : List (DwUnit K)) (t : Tells K) (around : Around P) → t.all ≡ all_entry_keys units → IsAround n g t (units_keys units) around
    → Each SoundUnit units → Each (UnitFits n) units → UnitsSay t units
    → MeanUnits around (raw_units n (tables_of [] units) units) (placed_units n g units)
means n g units t around all is sound fit says =
    units_mean n g (tables_of [] units) t (units_keys units) around is (λ k there. entries_are_keys units k (subst (In k) all there)) units (λ k there. there) sound fit says

pub spells : {K : Type 0} (n : Numbering K) (common : List K) (units : List (DwUnit K)) (mode : Mode) → AreWritable n common units → Each (UnitFits n) units → IsRoomy units mode
    → Spells n (sections n units) mode units
spells n common units mode w fit roomy = record {
  raw = raw_units n (tables_of [] units) units;
  spelled = spelled n common units mode w fit roomy;
  places = all_raw n (tables_of [] units) units;
  means = λ place t around all is says. means n place units t around all is w.sound fit says;
}
