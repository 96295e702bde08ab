-- Which copy an entry stands for in the units of a file that is written without its partial units (DWARF 5, 3.2.5), and the number of that
-- copy. Units are lists of the sources of their entries, each from its root on in preorder.
use Rattle.std.specs.Prelude.{◌≡◌, ℕ, ◌+◌, List, [], length, take, get_or, slice_get, Option, Some, IfSome}
use Rattle.std.specs.List.{sum_by}
use Rattle.std.specs.Option.{option_map}
use Rattle.dwz_def_cross.specs.Tops.{WithCommon}
use Rattle.dwz_def_expand.specs.Source.{source_places, unit_for}
use Rattle.dwz_imports.specs.Imports.{same}
use Rattle.dwz_expand_sources.specs.declared.copies.CopyAt.{CopyAt}

-- The number of a source's copy in a unit, where the entries of all units are numbered from 0: as many stand before it as the units before its
-- own have, and as many as stand before it in its own.
pub record IsCopyNumber {P : Type 0} (units : List (List P)) (unit : ℕ) (source : P) (number : ℕ) : Type 0 where
  pub before : ℕ
  pub counts : number ≡ sum_by (λ (sources : List P). length sources) (take unit units) + before
  pub stands : slice_get (get_or units unit []) before ≡ Some source

-- the copy for which the entry at a place stands where the n-th new unit names it, or that there is none
pub record IsCopyFor (w : WithCommon ℕ) (n place : ℕ) (answer : Option CopyAt) : Type 0 where
  pub unit : option_map (λ (c : CopyAt). c.unit) answer ≡ unit_for same (source_places same w) n place
  pub number : IfSome answer (λ c. IsCopyNumber (source_places same w) c.unit place c.number)
