-- Units mean what they mean in numbers, one for each place of the file and of its supplementary file, with the places that have these.
use Rattle.std.proofs.Common.{◌≡◌, ℕ, ◌+◌, ◌-◌, ◌<◌, Bool, true, false, cond, ltb, List, map, Option, Some, None, refl, ap, arith}
use Rattle.std.proofs.lemmas.Bool.{lt-ltb, ltb-true}
use Rattle.dwz_model.specs.Lists.{Each, In}
use Rattle.dwz_def_reading.specs.Documents.{unit_map}
use Rattle.dwz_def_reading.specs.Faults.{map_ok}
use Rattle.dwz_def_reading.specs.Meanings.{Around, Common}
use Rattle.dwz_def_reading.specs.Meant.{units_meaning}
use Rattle.dwz_def_reading.specs.OtherPlaces.{AreCommonMapped, LiesBelow, numbered, numbered_common, place_in, place_numbered}
use Rattle.dwz_def_reading.specs.Units.{RawUnit}
use Rattle.dwz_def_reading.proofs.PlacesMapped.{units_mapped}

module _ {P : Type 0} (bound : ℕ) (a : Around P) where
  own_numbered : (n : ℕ) → n < bound → a.place n ≡ place_numbered bound a n
  own_numbered n lt = let e : ltb n bound ≡ true = lt-ltb n bound lt in rw e refl

  other_numbered : (n : ℕ) → place_in a.place a.common n ≡ place_numbered bound a (bound + n)
  other_numbered n = by (ltb (bound + n) bound) refl where
    by : (b : Bool) → ltb (bound + n) bound ≡ b → place_in a.place a.common n ≡ cond b (a.place (bound + n)) (place_in a.place a.common (bound + n - bound))
    by true e = absurd (let lt = ltb-true (bound + n) bound e in omega (arith, lt))
    by false e = let same : n ≡ bound + n - bound = omega arith in ap (place_in a.place a.common) same

  common_numbered : (c : Option (Common P)) → ((n : ℕ) → place_in a.place c n ≡ place_numbered bound a (bound + n)) → AreCommonMapped (place_numbered bound a) (numbered_common bound c) c
  common_numbered None place = tt
  common_numbered (Some c) place = record { entries = refl; place = λ n there. place n; strs = refl }

-- the places of units are below the bound: they mean the same as in numbers, with the places that have these
pub units_numbered : {P : Type 0} (bound : ℕ) (a : Around P) → ((n : ℕ) → In n a.all → n < bound) → (units : List RawUnit) → Each (LiesBelow bound) units
    → units_meaning a units ≡ map_ok (map (unit_map (place_numbered bound a))) (units_meaning (numbered bound a) units)
units_numbered bound a below units lie =
    units_mapped (place_numbered bound a) bound (numbered bound a) a
    (record { sources = refl; all = refl; below = below; place = own_numbered bound a; common = common_numbered bound a a.common (other_numbered bound a) }) units lie
