-- What is written for files and a common one: their units, with the forms of their values, where their names stand, and their sections.
use Rattle.std.specs.Prelude.{◌≡◌, ℕ, zero, suc, ◌<◌, ◌^◌, Bool, true, false, ◌&&◌, ◌==◌, List, [], ◌∷◌, ◌++◌, map, length, Option, Some, None}
use Rattle.std.specs.List.{list_any}
use Rattle.dwz_def_reading.specs.Documents.{DwUnit}
use Rattle.dwz_def_reading.specs.ElfFaults.{IsElfFaultFor, read_back}
use Rattle.dwz_def_reading.specs.Units.{RawUnit}
use Rattle.dwz_def_reading.specs.Files.{around_of, debug_abbrev, debug_aranges, debug_info, is_place_of, section_of, sources_of}
use Rattle.dwz_def_reading.specs.Patching.{with_units}
use Rattle.dwz_def_reading.specs.Ranges.{RangeSet, SpellsSets}
use Rattle.dwz_def_reading.specs.NamedLists.{lists_of_units}
use Rattle.dwz_def_reading.specs.Shared.{NamedList}
use Rattle.dwz_def_encoding.specs.Meant.{AreRenumbered, Tells, all_entry_keys}
use Rattle.dwz_def_reading.specs.Meanings.{Sources}
use Rattle.dwz_def_tops.specs.Spots.{EntryName, FileUnit, PartialOf, UnitOf, same_spot}
use Rattle.dwz_def_images.specs.Homes.{Common, file_of, same_home}
use Rattle.dwz_def_images.specs.Moves.{Move, first_unit, image_in, part_at}
use Rattle.dwz_def_images.specs.Plan.{PartialUnit}
use Rattle.dwz_def_reading.specs.Places.{Place, at_file}
use Rattle.dwz_def_images.specs.Units.{common_units, out_units}
use Rattle.dwz_def_encoding.specs.Bases.{Bases, bases_in, no_bases}
use Rattle.dwz_def_encoding.specs.Placing.{FileOut, Forms, UnitSections, file_in, files_placed, fit_units, lines_bytes, number_of_key, numbering, paths_of, sections, texts_bytes, texts_of}
use Rattle.dwz_def_reading.specs.ElfLayout.{too_large}
use Rattle.dwz_def_reading.specs.Pruning.{new_number, pruned}
use Rattle.dwz_def_encoding.specs.Pruned.{AreNewSlots, all_uses, renumbered_units, slot_after, known_slots}
use Rattle.dwz_def_encoding.specs.Writing.{Numbering}

-- files as they are stored: the bytes of each, and its units; and a test which of them are prunable
pub record Stored : Type 0 where
  pub bytes : ℕ → List ℕ
  pub raw : ℕ → List RawUnit
  pub prunes : ℕ → Bool

-- what is written of: a move of the tops of units of these files, the files as they were stored, the names of what stood at places, and
-- the number of the common file
pub record Run : Type 0 where
  pub move : Move
  pub units : List (FileUnit EntryName)
  pub files : List ℕ
  pub input : Stored
  pub name : Place → EntryName
  pub common : ℕ

-- a common file that stands already: its bytes, its units as they are stored, and as a move names them, and for each of these names the
-- place where it stands
pub record Finished : Type 0 where
  pub bytes : List ℕ
  pub raw : List RawUnit
  pub units : List (DwUnit EntryName)
  pub rows : List (EntryName × ℕ)

-- the common file of a run: it is made of what moves there, or stands already
pub data CommonFile : Type 0 where
  Made : CommonFile
  Stands : Finished → CommonFile

-- the sections of a file as it was read
abbrev pub sources : Run → ℕ → Sources
sources r file = sources_of (r.input.bytes file)

-- the texts of the common file
abbrev pub texts : Run → List (List ℕ)
texts r = texts_of [] (common_units r.move)

-- and the paths of its line table
abbrev pub paths : Run → List (List ℕ)
paths r = paths_of [] (common_units r.move)

-- the texts of a section in order, each with a zero byte behind it; and what was found before of the first
unfoldable pub texts_from : List ℕ → List ℕ → List (List ℕ)
texts_from found [] = []
texts_from found (b ∷ bytes) = elim (b == 0) as (λ _. List (List ℕ)) [ true ↦ found ∷ texts_from [] bytes | false ↦ texts_from (found ++ b ∷ []) bytes ]

-- the texts of the common file that files may share
abbrev pub texts_by : CommonFile → Run → List (List ℕ)
texts_by Made r = texts r
texts_by (Stands c) r = texts_from [] (section_of c.bytes 3)

-- a file imports from the common file where one of its units is a user of a partial unit there
unfoldable pub imports_common : Move → List (FileUnit EntryName) → ℕ → Bool
imports_common m units file = list_any (λ part. same_home part.home Common && list_any (λ i. file_of units i == file) part.users) m.parts

-- then it shares the texts of the common file, and else none
abbrev pub shared_if : Bool → List (List ℕ) → List (List ℕ)
shared_if true texts = texts
shared_if false texts = []

abbrev pub shared_by : CommonFile → Run → ℕ → List (List ℕ)
shared_by k r file = shared_if (imports_common r.move r.units file) (texts_by k r)

abbrev pub shared : Run → ℕ → List (List ℕ)
shared = shared_by Made

-- ---- the unit that values come from: an old unit's own, and a partial unit's those of the unit that its first top comes from

-- what the root says of the unit with that number
unfoldable pub bases_at : List (FileUnit EntryName) → ℕ → Bases
bases_at [] i = no_bases
bases_at (f ∷ units) zero = bases_in f.unit
bases_at (f ∷ units) (suc i) = bases_at units i

abbrev pub unit_in_part : Option PartialUnit → ℕ
unit_in_part None = 0
unit_in_part (Some part) = first_unit part.tops

abbrev pub origin_in : Move → List (FileUnit EntryName) → EntryName → Bases
origin_in m units (UnitOf i) = bases_at units i
origin_in m units (PartialOf n) = bases_at units (unit_in_part (part_at n m.parts))
origin_in m units _ = no_bases

-- ---- the units with the forms of their values

abbrev pub common_forms : Run → Forms EntryName
common_forms r = record {
  same = same_spot;
  is_common = true;
  texts = texts r;
  shared = [];
  paths = paths r;
  offsets = [];
  origin = origin_in r.move r.units;
}

abbrev pub file_forms_by : CommonFile → Run → ℕ → Forms EntryName
file_forms_by k r file = record {
  same = same_spot;
  is_common = false;
  texts = texts_by k r;
  shared = shared_by k r file;
  paths = paths r;
  offsets = (sources r file).offsets;
  origin = origin_in r.move r.units;
}

abbrev pub file_forms : Run → ℕ → Forms EntryName
file_forms = file_forms_by Made

-- the units of the common file, and those of a file, with the forms of their values
unfoldable pub common_fitted : Run → List (DwUnit EntryName)
common_fitted r = fit_units (common_forms r) (common_units r.move)

abbrev pub common_fitted_by : CommonFile → Run → List (DwUnit EntryName)
common_fitted_by Made r = common_fitted r
common_fitted_by (Stands c) r = c.units

unfoldable pub formed_by : CommonFile → Run → ℕ → List (DwUnit EntryName)
formed_by k r file = fit_units (file_forms_by k r file) (out_units r.move r.units file)

abbrev pub formed : Run → ℕ → List (DwUnit EntryName)
formed = formed_by Made

-- what these use of the texts of the file
unfoldable pub uses_by : CommonFile → Run → ℕ → List ℕ
uses_by k r file = all_uses (sources r file).strs (sources r file).offsets (formed_by k r file)

abbrev pub uses : Run → ℕ → List ℕ
uses = uses_by Made

-- in a file that is prunable each use has its new number
abbrev pub fitted_if_by : Bool → CommonFile → Run → ℕ → List (DwUnit EntryName)
fitted_if_by true k r file = renumbered_units (new_number (sources r file).strs (uses_by k r file)) (formed_by k r file)
fitted_if_by false k r file = formed_by k r file

abbrev pub fitted_if : Bool → Run → ℕ → List (DwUnit EntryName)
fitted_if b r file = fitted_if_by b Made r file

unfoldable pub fitted_by : CommonFile → Run → ℕ → List (DwUnit EntryName)
fitted_by k r file = fitted_if_by (r.input.prunes file) k r file

abbrev pub fitted : Run → ℕ → List (DwUnit EntryName)
fitted = fitted_by Made

abbrev pub common_out_by : CommonFile → Run → FileOut EntryName
common_out_by k r = record { number = r.common; units = common_fitted_by k r }

abbrev pub common_out : Run → FileOut EntryName
common_out = common_out_by Made

abbrev pub file_out_by : CommonFile → Run → ℕ → FileOut EntryName
file_out_by k r file = record { number = file; units = fitted_by k r file }

abbrev pub file_out : Run → ℕ → FileOut EntryName
file_out = file_out_by Made

abbrev pub files_out_by : CommonFile → Run → List (FileOut EntryName)
files_out_by k r = common_out_by k r ∷ map (file_out_by k r) r.files

abbrev pub files_out : Run → List (FileOut EntryName)
files_out = files_out_by Made

-- where names stand, each in its own file: those of a common file that is made where they are written, and else where they stand already
abbrev pub places_by : CommonFile → Run → Numbering EntryName
places_by Made r = numbering same_spot (files_out r)
places_by (Stands c) r = record { place = number_of_key same_spot (c.rows ++ files_placed (map (file_out_by (Stands c) r) r.files)) }

abbrev pub places : Run → Numbering EntryName
places = places_by Made

abbrev pub file_of_name_by : CommonFile → Run → EntryName → ℕ
file_of_name_by k r s = file_in same_spot (files_out_by k r) s

abbrev pub file_of_name : Run → EntryName → ℕ
file_of_name = file_of_name_by Made

abbrev pub place_of_by : CommonFile → Run → EntryName → Place
place_of_by k r s = at_file (file_of_name_by k r s) ((places_by k r).place s)

abbrev pub place_of : Run → EntryName → Place
place_of = place_of_by Made

-- the new sections of a file of which something moves
abbrev pub sections_by : CommonFile → Run → ℕ → UnitSections
sections_by k r file = sections (places_by k r) (fitted_by k r file)

abbrev pub sections_of : Run → ℕ → UnitSections
sections_of = sections_by Made

abbrev pub common_sections : Run → UnitSections
common_sections r = sections (places r) (common_fitted r)

-- ---- what units are written for

-- the location lists that the units of a file named, as it was read
abbrev pub lists_named : Run → ℕ → List NamedList
lists_named r file = lists_of_units (around_of (r.input.bytes file) (r.input.raw file)) (r.input.raw file)

-- the name after of what stood at a place
abbrev pub name_after : Run → ℕ → ℕ → EntryName
name_after r file p = image_in r.move (r.name (at_file file p))

-- what a file's units are written for, as it was read
abbrev pub tells_by : CommonFile → Run → ℕ → Tells EntryName
tells_by k r file = record {
  strs = (sources r file).strs;
  line_strs = (sources r file).line_strs;
  offsets = (sources r file).offsets;
  line = (sources r file).line;
  common_strs = texts_bytes (shared_by k r file);
  lists = (sources r file).lists;
  named = lists_named r file;
  name = λ unit. name_after r file;
  all = all_entry_keys (fitted_by k r file);
  common = all_entry_keys (common_fitted_by k r);
}

abbrev pub tells : Run → ℕ → Tells EntryName
tells = tells_by Made

-- and those of the common file, which has no section of the files but its own texts and paths
abbrev pub tells_common : Run → Tells EntryName
tells_common r = record {
  strs = texts_bytes (texts r);
  line_strs = [];
  offsets = [];
  line = lines_bytes (paths r);
  common_strs = [];
  lists = [];
  named = [];
  name = λ unit. name_after r r.common;
  all = all_entry_keys (common_fitted r);
  common = [];
}

-- ---- what files hold that were made so

-- each set of address ranges has the offset of the same unit where it stands after, and else the bytes that were there (DWARF 5, 6.1.2)
pub record AreRangedBy (k : CommonFile) (r : Run) (file : ℕ) (new : List ℕ) : Type 0 where
  pub sets : List RangeSet
  pub spelled : SpellsSets (is_place_of (r.input.raw file)) sets 0 (debug_aranges (r.input.bytes file))
  pub are : new ≡ with_units sets (map (λ s. (places_by k r).place (name_after r file s.unit)) sets) (debug_aranges (r.input.bytes file))

abbrev pub AreRanged : Run → ℕ → List ℕ → Type 0
AreRanged = AreRangedBy Made

-- `.debug_str`: where the file is prunable, just the texts that are used
abbrev pub strs_if_by : Bool → CommonFile → Run → ℕ → List ℕ
strs_if_by true k r file = pruned (sources r file).strs (uses_by k r file)
strs_if_by false k r file = (sources r file).strs

abbrev pub strs_if : Bool → Run → ℕ → List ℕ
strs_if b r file = strs_if_by b Made r file

-- `.debug_str_offsets`: then its slots that name a text have the new numbers
abbrev pub OffsetsIfBy : Bool → CommonFile → Run → ℕ → List ℕ → Type 0
OffsetsIfBy true k r file new =
    AreNewSlots (slot_after (sources r file).strs (uses_by k r file)) (known_slots (sources r file).offsets) (sources r file).offsets new
OffsetsIfBy false k r file new = new ≡ (sources r file).offsets

abbrev pub OffsetsIf : Bool → Run → ℕ → List ℕ → Type 0
OffsetsIf b r file new = OffsetsIfBy b Made r file new

-- A file without a fault of one that is read back has these two sections; texts, and slots of texts, as they are pruned; in its location
-- lists and in its address ranges the numbers of where things stand; and the other sections of which values speak as they were read.
pub record HasSectionsBy (k : CommonFile) (r : Run) (file : ℕ) (out : List ℕ) : Type 0 where
  pub elf : (f : _) → IsElfFaultFor read_back out f → ⊥
  pub info : debug_info out ≡ (sections_by k r file).info
  pub abbrevs : debug_abbrev out ≡ (sections_by k r file).abbrevs
  pub strs : (sources_of out).strs ≡ strs_if_by (r.input.prunes file) k r file
  pub line_strs : (sources_of out).line_strs ≡ (sources r file).line_strs
  pub offsets : OffsetsIfBy (r.input.prunes file) k r file (sources_of out).offsets
  pub line : (sources_of out).line ≡ (sources r file).line
  pub lists : AreRenumbered (places_by k r) (tells_by k r file) (sources_of out).lists
  pub ranges : AreRangedBy k r file (debug_aranges out)

abbrev pub HasSections : Run → ℕ → List ℕ → Type 0
HasSections = HasSectionsBy Made

-- `.debug_str` and `.debug_line` of the common file, which has no other section that values speak of
abbrev pub common_sources : (texts paths : List (List ℕ)) → Sources
common_sources texts paths = record { strs = texts_bytes texts; line_strs = []; offsets = []; line = lines_bytes paths; lists = [] }

-- a common file without such a fault, that has these two sections, texts and paths, and no address ranges; its texts and its line table
-- are not too long
pub record HasCommon (out : List ℕ) (s : UnitSections) (texts paths : List (List ℕ)) : Type 0 where
  pub elf : (f : _) → IsElfFaultFor read_back out f → ⊥
  pub info : debug_info out ≡ s.info
  pub abbrevs : debug_abbrev out ≡ s.abbrevs
  pub sources : sources_of out ≡ common_sources texts paths
  pub ranges : debug_aranges out ≡ []
  pub small : length (section_of out 3) < 2 ^ 32
  pub few : length (section_of out 6) < too_large
