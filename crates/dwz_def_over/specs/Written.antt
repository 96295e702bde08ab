-- What is written of files over a finished common file, or what refuses it; and what stands after.
use Rattle.std.specs.Prelude.{◌≡◌, ◌↔◌, ℕ, true, false, List, ◌++◌, map, Some, None}
use Rattle.dwz_def_reading.specs.Refusal.{Refusal}
use Rattle.dwz_def_reading.specs.Documents.{Doc, unit_map}
use Rattle.dwz_def_reading.specs.Lists.{In}
use Rattle.dwz_def_reading.specs.Meanings.{Common}
use Rattle.dwz_def_reading.specs.declared.supplementary.Sup.{Sup}
use Rattle.dwz_def_tops.specs.Lists.{Nth}
use Rattle.dwz_def_tops.specs.Seen.{SameAlong}
use Rattle.dwz_def_tops.specs.Shown.{units_keys}
use Rattle.dwz_def_tops.specs.Spots.{EntryName}
use Rattle.dwz_def_images.specs.Moves.{image_in}
use Rattle.dwz_def_images.specs.After.{units_placed_from}
use Rattle.dwz_def_tops.specs.UnitNames.{name_of_place}
use Rattle.dwz_def_reading.specs.Places.{Place}
use Rattle.dwz_def_images.specs.Units.{all_units, changes}
use Rattle.dwz_def_readback.specs.AllFiles.{SaysStill}
use Rattle.dwz_def_readback.specs.Back.{AreAtOld, IsPlacingBy, RangesBackBy, SaysPlacedBy, SaysUnits, files_back_by, given_by}
use Rattle.dwz_def_readback.specs.Files.{fitted_by, imports_common}
use Rattle.dwz_def_output.specs.FilesAfter.{file_after_by, sum_of}
use Rattle.dwz_def_output.specs.Refusals.{OutFaultBy}
use Rattle.dwz_def_output.specs.Tied.{SaysSup}
use Rattle.dwz_def_output.specs.Written.{IsFreeBy}
use Rattle.dwz_def_taken.specs.Beside.{Copies}
use Rattle.dwz_def_over.specs.Over.{AreOverFiles, OverFiles, reused, run_over, stands}

-- ---- what is written

-- the first refusal of what is written of them, with that name of the common file
abbrev pub OverFault : List ℕ → OverFiles → Refusal → Type 0
OverFault name o = OutFaultBy (stands o) name (run_over o)

-- they read, and nothing refuses what is written of them
pub record CanBeWrittenOver (name : List ℕ) (o : OverFiles) : Type 0 where
  pub read : AreOverFiles o
  pub free : IsFreeBy (stands o) name (run_over o)

-- something of the file moves, or is taken, so that it is written anew
abbrev pub IsAnew : OverFiles → ℕ → Type 0
IsAnew o file = In file (run_over o).files × (changes (run_over o).move (run_over o).units file ≡ true)

-- the bytes of such a file
abbrev pub file_over : List ℕ → OverFiles → ℕ → List ℕ
file_over name o = file_after_by (stands o) name (run_over o)

-- ---- what stands after

-- what the common file gives to the files
abbrev pub given_over : OverFiles → Common Place
given_over o = given_by (run_over o).common o.common o.raw

-- the names of all that stands after
abbrev pub names_after : OverFiles → List EntryName
names_after o = units_keys (all_units (run_over o).move (run_over o).units (run_over o).files)

-- two names have one place exactly if they are copies, or one name
abbrev pub CopiesAreOne : OverFiles → (EntryName → Place) → Type 0
CopiesAreOne o at = (s t : EntryName) → In s (names_after o) → In t (names_after o) → (at s ≡ at t) ↔ Copies (reused o) s t

-- The common file says what it said. With it each file that is written anew says its own, at the places of their names, and has its address
-- ranges; and each file, as it was read, says what it said. All files together say the same as what was read, along images, where copies in
-- the common file count as one place.
pub record BackOver (o : OverFiles) (output : ℕ → List ℕ) (g : EntryName → Place) : Type 0 where
  pub common : SaysUnits None (run_over o).common o.common o.raw o.said.common.units
  pub file : (file : ℕ) → IsAnew o file
      → SaysPlacedBy (stands o) (run_over o) g (Some (given_over o)) file (output file) (fitted_by (stands o) (run_over o) file)
  pub ranges : (number : ℕ) → (changed : IsAnew o number)
      → RangesBackBy (stands o) (run_over o) number (output number) (file number changed).raw
  pub still : (file : ℕ) (doc : Doc ℕ) → Nth 0 o.said.docs file doc
      → SaysStill (Some (given_over o)) file ((run_over o).input.bytes file) doc
  pub one : Place → Place
  pub copies : CopiesAreOne o (λ s. one (g s))
  pub same : SameAlong (λ p. one (g (image_in (run_over o).move (name_of_place o.said.docs p)))) (units_placed_from 0 o.said.docs)
      (map (unit_map one) (o.said.common.units ++ files_back_by (stands o) (run_over o) g 0 o.said.docs))

-- so it is at some places for names: those where they stand already, those where they are written, and in other files the old ones
pub record ReadBackOver (o : OverFiles) (output : ℕ → List ℕ) : Type 0 where
  pub place : EntryName → Place
  pub placing : IsPlacingBy (stands o) (run_over o) place
  pub old : AreAtOld (run_over o) place o.said.docs
  pub back : BackOver o output place

-- ---- what ties files to the common file

-- `.debug_sup` of a file that imports from it: its name, and its checksum
abbrev pub sup_over : List ℕ → OverFiles → Sup
sup_over name o = record { supplementary = false; name = name; sum = sum_of o.common }

abbrev pub AreTiedOver : List ℕ → OverFiles → Type 0
AreTiedOver name o =
    (file : ℕ) → IsAnew o file → imports_common (run_over o).move (run_over o).units file ≡ true
    → SaysSup (file_over name o file) (sup_over name o)
