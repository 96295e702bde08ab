-- Laws on files over a finished common file.
use Rattle.std.specs.Prelude.{◌≡◌, ◌↔◌, ℕ, ◌<◌, ◌≤◌, true, List, length, map}
use Rattle.dwz_def_reading.specs.Documents.{Compile, Doc, DwUnit, unit_map}
use Rattle.dwz_def_reading.specs.Finished.{BesideDocs}
use Rattle.dwz_def_reading.specs.Lists.{Each, In}
use Rattle.dwz_def_tops.specs.Lists.{NoneTwice, Nth}
use Rattle.dwz_def_tops.specs.Seen.{Closed, SameAlong}
use Rattle.dwz_def_tops.specs.Shown.{HaveMains, OnePlace, UnitsShown, units_keys}
use Rattle.dwz_def_tops.specs.Alike.{Movable}
use Rattle.dwz_def_tops.specs.Spots.{EntryName, FileUnit, Top, file_numbers, tops_of, units_of}
use Rattle.dwz_def_images.specs.Homes.{Rule}
use Rattle.dwz_def_images.specs.Moves.{Move, image_in, plan}
use Rattle.dwz_def_images.specs.Plan.{PartialUnit}
use Rattle.dwz_def_images.specs.After.{AreAfter, AreOld, ArePlaced, units_placed_from}
use Rattle.dwz_def_tops.specs.UnitNames.{name_of_place}
use Rattle.dwz_def_reading.specs.Places.{Place}
use Rattle.dwz_def_images.specs.Images.{units_in}
use Rattle.dwz_def_images.specs.Units.{all_units, common_units}
use Rattle.dwz_def_taken.specs.declared.fixed.Fixed.{Fixed}
use Rattle.dwz_def_taken.specs.Beside.{CommonAlike, Copies, Reused, as_compile, look_units, own_tops, reused_of, together}
use Rattle.dwz_def_taken.specs.Over.{copy, copy_of, move_over, none_standing, plan_over, standing_unit}
use Rattle.dwz_def_taken.specs.Takes.{CanTake, FreeAlike, IsFixed, IsFixedOf, PartRefers, Takes, free_test}

-- All is at its own name, of the files by themselves and with the common file, whose units are read as compile units.
pub record IsReused (r : Reused) : Type 0 where
  pub own : AreOld r.units
  pub all : AreOld (together r)
  pub whole : (p : ℕ) (f : FileUnit EntryName) → Nth 0 r.commons p f → f.unit.kind ≡ Compile

-- ---- what is taken

-- What is taken and what is blocked is fixed by one row of lists.
abbrev pub OneFixedLaw : Type 0
OneFixedLaw = (said : BesideDocs) (a b : Fixed) → IsFixedOf said a → IsFixedOf said b → a ≡ b

-- What a unit takes it can take by itself, and with it what that refers to; and it takes each partial unit of a list of which that is so.
-- So it is what is left once all is taken away that can't be taken, or refers to what was taken away.
pub record IsKeptUp (r : Reused) (u : ℕ) (parts : List ℕ) : Type 0 where
  pub there : (p : ℕ) → In p parts → p < length r.commons
  pub fits : (p : ℕ) → In p parts → CanTake r u p
  pub refers : (p q : ℕ) → In p parts → PartRefers r p q → In q parts

abbrev pub GreatestLaw : Type 0
GreatestLaw = (r : Reused) (u : ℕ) → u < length r.units → (parts : List ℕ) → IsKeptUp r u parts → (p : ℕ) → In p parts → Takes r u p

abbrev pub TakesAlongLaw : Type 0
TakesAlongLaw =
    (r : Reused) (u p : ℕ) → Takes r u p → CanTake r u p × ((q : ℕ) → PartRefers r p q → q < length r.commons → Takes r u q)

-- the tops that may be shared among the units of the files are those that are free, and alike in one file
abbrev pub FreeLaw : Type 0
FreeLaw =
    (r : Reused) (fixed : Fixed) → IsReused r → IsFixed r fixed → (a b : Top) → In a (tops_of r.units) → In b (tops_of r.units)
    → (free_test r fixed a.number b.number ≡ true) ↔ FreeAlike r a b

-- ---- copies

-- alike tops of the common file have one copy
abbrev pub CopyLaw : Type 0
CopyLaw = (r : Reused) (m n : ℕ) → own_tops r ≤ m → CommonAlike r m n → copy r m ≡ copy r n

-- and just the entries have one copy that are copies
abbrev pub CopiesLaw : Type 0
CopiesLaw = (r : Reused) (a b : EntryName) → (copy_of r a ≡ copy_of r b) ↔ Copies r a b

-- ---- the move

-- over nothing it is the plan
abbrev pub PlanLaw : Type 0
PlanLaw = (rule : Rule) (units : List (FileUnit EntryName)) (files : List ℕ) → plan_over none_standing rule units files ≡ plan rule units files

-- a unit imports a partial unit of the common file exactly if it takes it
abbrev pub TakersLaw : Type 0
TakersLaw =
    (r : Reused) (fixed : Fixed) (files : List ℕ) → IsFixed r fixed → (p : ℕ) → p < length r.commons → (part : PartialUnit)
    → Nth 0 (move_over r fixed files).parts p part
    → (u : ℕ) → In u part.users ↔ Takes r u p

-- ---- files that have places

-- No two units or entries of a file have one place, also of the common file, which has partial units (DW_TAG_partial_unit is 3c).
pub record ArePlacedOver (docs : List (Doc ℕ)) (common : Doc ℕ) : Type 0 where
  pub each : Each (λ doc. ArePlaced doc.units) docs
  pub parts : ArePlaced (map as_compile common.units)
  pub tags : Each (λ u. u.root.tag ≡ 0x3c) common.units

-- then all is at its own name
abbrev pub NamedOverLaw : Type 0
NamedOverLaw = (docs : List (Doc ℕ)) (common : Doc ℕ) → ArePlacedOver docs common → IsReused (reused_of docs common)

-- and just the tops of the files may move that may without the common file beside them
abbrev pub AcrossLaw : Type 0
AcrossLaw =
    (docs : List (Doc ℕ)) (common : Doc ℕ) → ArePlacedOver docs common → (t : Top) → In t (tops_of (units_of docs))
    → Movable (look_units (reused_of docs common)) t.number ↔ Movable (units_of docs) t.number

-- all that stands after, where copies are one
abbrev pub copied_units : Reused → Move → List ℕ → List (DwUnit EntryName)
copied_units r m files = map (unit_map (copy_of r)) (all_units m r.units files)

-- The units of the common file stand after as they stood before. They and those of all files are what stands after; no name stands twice
-- there, and each reference names an entry, as does the type of a type unit. Where copies count as one place, these units are the same along
-- images, and also with places for names, one for each.
pub record AreSameOver (docs : List (Doc ℕ)) (r : Reused) (m : Move) : Type 0 where
  pub common : common_units m ≡ map (standing_unit r) r.commons
  pub after : AreAfter m r.units (all_units m r.units (file_numbers 0 docs))
  pub apart : NoneTwice (units_keys (all_units m r.units (file_numbers 0 docs)))
  pub closed : Closed (all_units m r.units (file_numbers 0 docs))
  pub mains : HaveMains (all_units m r.units (file_numbers 0 docs))
  pub names : SameAlong (λ s. copy_of r (image_in m s)) (units_in r.units) (copied_units r m (file_numbers 0 docs))
  pub same : (g : EntryName → Place) (placed : List (DwUnit Place)) → UnitsShown g (copied_units r m (file_numbers 0 docs)) placed
      → OnePlace g (copied_units r m (file_numbers 0 docs))
      → SameAlong (λ p. g (copy_of r (image_in m (name_of_place docs p)))) (units_placed_from 0 docs) placed

-- so it is of files over a finished common file
abbrev pub FilesOverLaw : Type 0
FilesOverLaw =
    (docs : List (Doc ℕ)) (common : Doc ℕ) (fixed : Fixed) → ArePlacedOver docs common → IsFixed (reused_of docs common) fixed
    → AreSameOver docs (reused_of docs common) (move_over (reused_of docs common) fixed (file_numbers 0 docs))
