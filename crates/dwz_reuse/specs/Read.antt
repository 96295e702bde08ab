-- A finished common file that was read.
use Rattle.std.specs.Prelude.{ℕ, List, None, Some, map}
use Rattle.dwz_def_reading.specs.Documents.{Doc}
use Rattle.dwz_def_reading.specs.Files.{no_files_before}
use Rattle.dwz_def_images.specs.After.{ArePlaced}
use Rattle.dwz_def_taken.specs.Beside.{as_compile}
use Rattle.dwz_check_labels.specs.FilesSaid.{IsFileSaid}
use Rattle.dwz_graph.specs.Files.{HasCommon}
use Rattle.dwz_graph.specs.declared.file.File.{File}
use Rattle.dwz_match.specs.Partial.{ArePartial}
use Rattle.dwz_reuse.specs.Placed.{SaysCommon}
use Rattle.dwz_unit.specs.Rows.{units_of}

-- it says this by itself: partial units alone, no two entries of which have one place
pub record IsCommonRead (f : File) (doc : Doc ℕ) : Type 0 where
  pub said : IsFileSaid f None doc.units
  pub partial : ArePartial doc.units
  pub parts : ArePlaced (map as_compile doc.units)

-- so is that of a graph
abbrev pub CommonReadLaw : Type 0
CommonReadLaw =
    (number : ℕ) (bytes : List ℕ) (f : File) → HasCommon number (Some bytes) (Some f)
    → (doc : Doc ℕ) × IsCommonRead f doc × SaysCommon number no_files_before bytes (units_of f.units) doc
