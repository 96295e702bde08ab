-- Inner: laws on the move over a finished common file.
use Rattle.std.specs.Prelude.{◌≡◌, ℕ, ◌+◌, List, length, map}
use Rattle.dwz_def_reading.specs.Documents.{Compile, DwUnit, Entries, Node, attr_map, unit_map}
use Rattle.dwz_def_reading.specs.Lists.{Each}
use Rattle.dwz_def_reading.specs.Trees.{End, Entry}
use Rattle.dwz_def_tops.specs.Lists.{Nth}
use Rattle.dwz_def_tops.specs.Seen.{SameAlong}
use Rattle.dwz_def_tops.specs.Spots.{EntryName, FileUnit, RootOf, UnitOf}
use Rattle.dwz_def_images.specs.IsPlan.{AreFilesOf}
use Rattle.dwz_def_images.specs.Moves.{Move, image_in}
use Rattle.dwz_def_images.specs.After.{AreAfter}
use Rattle.dwz_def_images.specs.Held.{Serves}
use Rattle.dwz_def_images.specs.Images.{units_in}
use Rattle.dwz_def_images.specs.Units.{partial_unit}
use Rattle.dwz_def_taken.specs.declared.fixed.Fixed.{Fixed}
use Rattle.dwz_def_taken.specs.Beside.{Reused}
use Rattle.dwz_def_taken.specs.Laws.{IsReused}
use Rattle.dwz_def_taken.specs.Over.{as_part, copy, copy_of, move_over, standing_unit}
use Rattle.dwz_def_taken.specs.Takes.{IsFixed}

-- the move where copies are one
abbrev pub copied : Reused → Move → Move
copied r m = record {
  gone = m.gone;
  stand = λ n. copy r (m.stand n);
  parts = m.parts;
  rows = m.rows;
  roots = λ n. map (attr_map (copy_of r)) (m.roots n);
}

-- where copies are one, each partial unit serves its users: those of the common file, and those that are new
abbrev pub ServesLaw : Type 0
ServesLaw =
    (r : Reused) (fixed : Fixed) (files : List ℕ) → IsReused r → IsFixed r fixed → AreFilesOf r.units files
    → Serves r.units (copied r (move_over r fixed files))

-- So what stands after over a finished common file is the same as what stood before, along images, if copies count as one place.
abbrev pub SameOverLaw : Type 0
SameOverLaw =
    (r : Reused) (fixed : Fixed) (files : List ℕ) (outs : List (DwUnit EntryName)) → IsReused r → IsFixed r fixed → AreFilesOf r.units files
    → AreAfter (move_over r fixed files) r.units outs
    → SameAlong (λ s. copy_of r (image_in (move_over r fixed files) s)) (units_in r.units) (map (unit_map (copy_of r)) outs)

-- two ways to give names are one on all names in entries
abbrev pub SameOnNode : (EntryName → EntryName) → (EntryName → EntryName) → Node EntryName → Type 0
SameOnNode g h e = (g e.at ≡ h e.at) × Each (λ a. Each (λ s. g s ≡ h s) a.value.refs) e.attrs

abbrev pub SameOn : (EntryName → EntryName) → (EntryName → EntryName) → Entries EntryName → Type 0
SameOn g h End = Unit {0}
SameOn g h (Entry e children next) = SameOnNode g h e × SameOn g h children × SameOn g h next

-- A unit of the common file, at its names, with the root of a partial unit; what it names are its own images.
pub record StandsAs (r : Reused) (fixed : Fixed) (files : List ℕ) (p : ℕ) (f : FileUnit EntryName) : Type 0 where
  pub nth : Nth 0 r.commons p f
  pub kind : f.unit.kind ≡ Compile
  pub unit : f.unit.at ≡ UnitOf (length r.units + p)
  pub root : f.unit.root.at ≡ RootOf (length r.units + p)
  pub tag : f.unit.root.tag ≡ 0x3c
  pub own : SameOn (λ s. image_in (move_over r fixed files) (as_part (length r.units) s)) (as_part (length r.units)) f.unit.below

-- The partial unit that the move has for it is that unit as it stands.
abbrev pub StandingLaw : Type 0
StandingLaw =
    (r : Reused) (fixed : Fixed) (files : List ℕ) (p : ℕ) (f : FileUnit EntryName) → StandsAs r fixed files p f
    → partial_unit (move_over r fixed files) p ≡ standing_unit r f
