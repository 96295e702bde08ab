-- The new sections of a file of which something moves, and those of the common file, by a run.
use Rattle.std.specs.Prelude.{ℕ, Bool, true, false, List, [], ◌∷◌, Option, Some, None, Result, Ok, Err, map, if◌then◌else◌}
use Rattle.dwz_def_reading.specs.Spelling.{le_bytes}
use Rattle.dwz_model.specs.declared.fault.Fault.{Fault}
use Rattle.dwz_model.specs.declared.sections.Sections.{Sections}
use Rattle.dwz_def_reading.specs.declared.exprs.Operand.{Operand}
use Rattle.dwz_def_reading.specs.Files.{debug_aranges, sets_said}
use Rattle.dwz_def_reading.specs.PatchedLists.{with_number, with_operands}
use Rattle.dwz_def_reading.specs.Patching.{with_units, written_at}
use Rattle.dwz_def_reading.specs.Ranges.{RangeSet}
use Rattle.dwz_def_reading.specs.Shared.{ListOperand, operands_in_lists}
use Rattle.dwz_def_tops.specs.Spots.{same_numbers}
use Rattle.dwz_def_encoding.specs.Meant.{number_after}
use Rattle.dwz_def_encoding.specs.Placing.{lines_bytes, texts_bytes}
use Rattle.dwz_def_encoding.specs.Pruned.{known_slots, number_in_slot, slot_after}
use Rattle.dwz_def_readback.specs.Files.{CommonFile, Made, Run, common_sections, lists_named, name_after, paths, places_by, sections_by, sources}
use Rattle.dwz_def_readback.specs.Files.{strs_if_by, texts, uses_by}

-- ---- numbers that are changed in place

-- the new number of an operand: that of the entry that it names, where that stands after
abbrev pub operand_number_after_by : CommonFile → Run → ℕ → ListOperand → ℕ
operand_number_after_by k r file o = number_after (places_by k r) (name_after r file) o.unit o.operand

abbrev pub operand_number_after : Run → ℕ → ListOperand → ℕ
operand_number_after = operand_number_after_by Made

abbrev pub operand_after_by : CommonFile → Run → ℕ → ListOperand → Operand
operand_after_by k r file o = with_number (λ at. operand_number_after_by k r file o) o.operand

abbrev pub operand_after : Run → ℕ → ListOperand → Operand
operand_after = operand_after_by Made

-- the operands of the location lists of a file, as it was read
abbrev pub listed : Run → ℕ → List ListOperand
listed r file = operands_in_lists (lists_named r file)

-- `.debug_loclists` with these numbers (DWARF 5, 7.7.3)
unfoldable pub lists_after_by : CommonFile → Run → ℕ → List ℕ
lists_after_by k r file = with_operands (map (operand_after_by k r file) (listed r file)) (sources r file).lists

abbrev pub lists_after : Run → ℕ → List ℕ
lists_after = lists_after_by Made

-- the sets of address ranges of a file, as it was read
abbrev pub sets_in : Result (List RangeSet) Fault → List RangeSet
sets_in (Ok sets) = sets
sets_in (Err f) = []

abbrev pub sets_of : Run → ℕ → List RangeSet
sets_of r file = sets_in (sets_said (r.input.bytes file) (r.input.raw file))

-- the new offset of a set's unit: where that stands after
abbrev pub new_offset_by : CommonFile → Run → ℕ → RangeSet → ℕ
new_offset_by k r file s = (places_by k r).place (name_after r file s.unit)

abbrev pub new_offset : Run → ℕ → RangeSet → ℕ
new_offset = new_offset_by Made

-- `.debug_aranges` with these offsets (6.1.2)
unfoldable pub ranges_after_by : CommonFile → Run → ℕ → List ℕ
ranges_after_by k r file = with_units (sets_of r file) (map (new_offset_by k r file) (sets_of r file)) (debug_aranges (r.input.bytes file))

abbrev pub ranges_after : Run → ℕ → List ℕ
ranges_after = ranges_after_by Made

-- ---- texts that are used, and their slots

-- `.debug_str`: in a file that is prunable just the texts that are used
unfoldable pub strs_after_by : CommonFile → Run → ℕ → List ℕ
strs_after_by k r file = strs_if_by (r.input.prunes file) k r file

abbrev pub strs_after : Run → ℕ → List ℕ
strs_after = strs_after_by Made

-- a number for each place, in four bytes there
unfoldable pub with_slots : (ℕ → ℕ) → List ℕ → List ℕ → List ℕ
with_slots number [] bytes = bytes
with_slots number (place ∷ places) bytes = with_slots number places (written_at place (le_bytes 4 (number place)) bytes)

-- the new number of the slot at a place
abbrev pub new_slot_by : CommonFile → Run → ℕ → ℕ → ℕ
new_slot_by k r file place = slot_after (sources r file).strs (uses_by k r file) (number_in_slot (sources r file).offsets place)

abbrev pub new_slot : Run → ℕ → ℕ → ℕ
new_slot = new_slot_by Made

abbrev pub offsets_if_by : Bool → CommonFile → Run → ℕ → List ℕ
offsets_if_by true k r file = with_slots (new_slot_by k r file) (known_slots (sources r file).offsets) (sources r file).offsets
offsets_if_by false k r file = (sources r file).offsets

abbrev pub offsets_if : Bool → Run → ℕ → List ℕ
offsets_if b r file = offsets_if_by b Made r file

-- `.debug_str_offsets` with these numbers, where the file is prunable (DWARF 5, 7.26)
unfoldable pub offsets_after_by : CommonFile → Run → ℕ → List ℕ
offsets_after_by k r file = offsets_if_by (r.input.prunes file) k r file

abbrev pub offsets_after : Run → ℕ → List ℕ
offsets_after = offsets_after_by Made

-- ---- all sections

-- the new bytes of a section, where they aren't the old ones
abbrev pub if_other : (old new : List ℕ) → Option (List ℕ)
if_other old new = if same_numbers old new then None else Some new

-- The sections of a file of which something moves. None stands for one that isn't there or keeps its bytes.
unfoldable pub sections_after_by : CommonFile → Run → ℕ → Sections
sections_after_by k r file = record {
  info = (sections_by k r file).info;
  «abbrev» = (sections_by k r file).abbrevs;
  strs = if_other (sources r file).strs (strs_after_by k r file);
  offsets = if_other (sources r file).offsets (offsets_after_by k r file);
  line = None;
  loclists = if_other (sources r file).lists (lists_after_by k r file);
  aranges = if_other (debug_aranges (r.input.bytes file)) (ranges_after_by k r file);
}

abbrev pub sections_after : Run → ℕ → Sections
sections_after = sections_after_by Made

-- bytes that are made of some texts, where there are any
abbrev pub if_some : List (List ℕ) → List ℕ → Option (List ℕ)
if_some [] bytes = None
if_some (t ∷ texts) bytes = Some bytes

-- The sections of the common file. None stands for one that isn't there.
unfoldable pub common_after : Run → Sections
common_after r = record {
  info = (common_sections r).info;
  «abbrev» = (common_sections r).abbrevs;
  strs = if_some (texts r) (texts_bytes (texts r));
  offsets = None;
  line = if_some (paths r) (lines_bytes (paths r));
  loclists = None;
  aranges = None;
}
