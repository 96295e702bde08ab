-- What a file says, with its index.
use Rattle.std.specs.Prelude.{◌≡◌, ℕ, ◌≤◌, ◌^◌, List, Option, Some, None, Ok}
use Rattle.std.specs.Option.{option_map}
use Rattle.dwz_def_reading.specs.Documents.{DwUnit}
use Rattle.dwz_def_reading.specs.Meanings.{Around, Common, MeaningContext, all_places, str_offsets_base}
use Rattle.dwz_def_reading.specs.Meant.{units_meaning}
use Rattle.dwz_def_reading.specs.Units.{entries_in}
use Rattle.dwz_check_index.specs.Index.{IsCrossIndex}
use Rattle.dwz_check_index.specs.declared.index.CrossStarts.{CrossStarts}
use Rattle.dwz_check_sides.specs.declared.side.Side.{Side}
use Rattle.dwz_graph.specs.declared.file.File.{File}
use Rattle.dwz_graph.specs.Resolved.{sources_view}
use Rattle.dwz_graph.specs.Surroundings.{behind_own}
use Rattle.dwz_unit.specs.Rows.{units_of}

-- the sections of the common file stand for its texts, and its entries for numbers from 2^32 on
abbrev pub IsCommonOf : Option (Common ℕ) → Option File → Type 0
IsCommonOf None None = Unit {0}
IsCommonOf (Some c) (Some f) = (c.entries ≡ all_places (units_of f.units)) × (c.place ≡ behind_own) × (c.strs ≡ f.sections.strs.bytes.now)
IsCommonOf _ _ = ⊥

-- The file says these units beside the common file, if there is one, where numbers stand for places.
pub record FileSays (f : File) (common : Option File) (units : List (DwUnit ℕ)) : Type 0 where
  pub around : Around ℕ
  pub sources : around.sources ≡ sources_view f.sections
  pub all : around.all ≡ all_places (units_of f.units)
  pub place : around.place ≡ (λ n. n)
  pub common_is : IsCommonOf around.common common
  pub means : units_meaning around (units_of f.units) ≡ Ok units

-- the common file beside it, if there is one
abbrev pub common_of : Side → Option File
common_of s = option_map (λ f. f.now) s.common

-- The file says these units, and the index is theirs, whose first top and first root have these numbers.
pub record IsSide (s : Side) (said : List (DwUnit ℕ)) (starts : CrossStarts) : Type 0 where
  pub says : FileSays s.file.now (common_of s) said
  pub index_is : IsCrossIndex starts said s.index.now
  pub few : entries_in (units_of s.file.now.units) ≤ 2 ^ 28

-- it says some units
abbrev pub SaysSome : Side → Type 0
SaysSome s = (said : List (DwUnit ℕ)) × (starts : CrossStarts) × IsSide s said starts

-- the scope of a unit of the file, where that is the base of the unit's slots of `.debug_str_offsets`
pub record IsScope (s : Side) (base : Option ℕ) (m : MeaningContext ℕ) : Type 0 where
  pub sources : m.around.sources ≡ sources_view s.file.now.sections
  pub common_is : IsCommonOf m.around.common (common_of s)
  pub base_is : base ≡ str_offsets_base m
