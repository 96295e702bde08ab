-- How tables are held in memory.
use Rattle.std.specs.Prelude.{◌≡◌, ℕ, List, [], ◌∷◌, drop, length, sum, take}
use Rattle.std.specs.BTreeMap.{BTreeMap}
use Rattle.std.specs.Global.{Vec}
use Rattle.dwz_def_encoding.specs.Writing.{joined, table_in}
use Rattle.dwz_layout.specs.Maps.{look}

-- parts with these lengths, one behind the other
abbrev pub parts : List ℕ → List ℕ → List (List ℕ)
parts [] section = []
parts (n ∷ lengths) section = take n section ∷ parts lengths (drop n section)

-- the section is tables with these lengths, and the offset of each is found under it
pub record HasTables (section lengths : List ℕ) (offsets : BTreeMap (Vec ℕ) ℕ) : Type 0 where
  pub long : sum lengths ≡ length section
  pub joined : section ≡ joined (parts lengths section)
  pub found : (table : List ℕ) → look offsets table ≡ table_in 0 (parts lengths section) table
