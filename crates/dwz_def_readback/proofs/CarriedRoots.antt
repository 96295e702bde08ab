-- What is shown of the root of a partial unit.
use Rattle.std.proofs.Common.{◌≡◌, ℕ, List}
use Rattle.dwz_def_tops.specs.Spots.{EntryName, FileUnit, PartialOf}
use Rattle.dwz_def_images.specs.Homes.{Home}
use Rattle.dwz_def_images.specs.Moves.{Move}
use Rattle.dwz_def_images.specs.Plan.{PartialUnit}
use Rattle.dwz_def_tops.specs.Lists.{Nth}
use Rattle.dwz_def_reading.specs.Lists.{Each}
use Rattle.dwz_def_encoding.specs.Carried.{CarriedAttr, From}
use Rattle.dwz_def_readback.specs.Files.{origin_in}

-- the attributes of the roots of the partial units of a home are carried
abbrev pub RootsCarried : From → Move → List (FileUnit EntryName) → Home → Type 0
RootsCarried from m units h = (n : ℕ) (part : PartialUnit) → Nth 0 m.parts n part → part.home ≡ h → Each (CarriedAttr from (origin_in m units (PartialOf n))) (m.roots n)
