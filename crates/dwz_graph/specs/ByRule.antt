-- Files that are read by a rule, where numbers stand for places.
use Rattle.std.specs.Prelude.{◌≡◌, ℕ, suc, ◌^◌, ◌<◌, ◌≤◌, Bool, true, false, List, [], ◌∷◌, length, map, Option, Some, None, Result, Ok, Err}
use Rattle.dwz_model.specs.declared.fault.ReadErr.{ReadErr}
use Rattle.dwz_def_reading.specs.Documents.{Doc, unit_map}
use Rattle.dwz_def_reading.specs.ElfFaults.{read_back}
use Rattle.dwz_def_reading.specs.ElfReading.{elf_fault_for, elf_of}
use Rattle.dwz_def_reading.specs.Entries.{of_common}
use Rattle.dwz_def_reading.specs.Faults.{Fails}
use Rattle.dwz_def_reading.specs.Files.{Limits, debug_abbrev, debug_aranges, debug_info, file_meaning_by, given_rule, is_other_machine, is_too_long, limits_after, machine_of, sources_of, units_said}
use Rattle.dwz_def_reading.specs.Finished.{common_sup_fault, file_sup_fault, sum_of}
use Rattle.dwz_def_reading.specs.Meanings.{Around, Common, all_places}
use Rattle.dwz_def_reading.specs.Modes.{of_back}
use Rattle.dwz_def_reading.specs.NamedLists.{lists_of_units}
use Rattle.dwz_def_reading.specs.OtherPlaces.{numbered, place_numbered}
use Rattle.dwz_def_reading.specs.Rules.{ReadingRule}
use Rattle.dwz_def_reading.specs.Shared.{AreRows}
use Rattle.dwz_def_reading.specs.Units.{RawUnit, entries_in}
use Rattle.dwz_graph_resolve.specs.ListRows.{AreOfFile, operand_view}
use Rattle.dwz_graph.specs.declared.file.File.{File}
use Rattle.dwz_graph.specs.declared.file.Headed.{Headed}
use Rattle.dwz_graph.specs.declared.file.Opened.{Opened}
use Rattle.dwz_graph.specs.declared.rule.Beside.{Beside}
use Rattle.dwz_graph.specs.declared.rule.Rule.{Rule}
use Rattle.dwz_graph.specs.declared.rule.Rule.TheVariants.{Given, Common as CommonFile, Back}
use Rattle.dwz_graph_resolve.specs.Named.{units_refs}
use Rattle.dwz_graph_resolve.specs.Parts.{AreParted, HaveLines}
use Rattle.dwz_graph_resolve.specs.Resolved.{sources_view}
use Rattle.dwz_graph_resolve.specs.Surroundings.{AreAmong, around_in, common_view, entries_among, place_among}
use Rattle.dwz_unit.specs.declared.mode.FileKind.{FileKind}
use Rattle.dwz_unit.specs.declared.mode.FileKind.TheVariants.{Given as OfGiven, Common as OfCommon, Back as OfBack}
use Rattle.dwz_unit.specs.Rows.{units_of}

-- ---- the rules of the code

-- what surrounds the units of a file, beside a common file or without one
abbrev pub around_beside : Option (Common ℕ) → List ℕ → List RawUnit → Around ℕ
around_beside common bytes units = record { sources = sources_of bytes; all = all_places units; place = λ n. n; common = common }

abbrev pub common_rule : ReadingRule ℕ
common_rule = record { manner = read_back; sup_fault = common_sup_fault; mode = of_common; around = around_beside None }

abbrev pub bytes_beside : Option Beside → Option (List ℕ)
bytes_beside None = None
bytes_beside (Some c) = Some c.bytes.now

abbrev pub is_beside : Option Beside → Bool
is_beside None = false
is_beside (Some c) = true

abbrev pub part_beside : Option Beside → Option (Common ℕ)
part_beside None = None
part_beside (Some c) = common_view (Some c.part)

abbrev pub back_rule : Option Beside → ReadingRule ℕ
back_rule c = record { manner = read_back; sup_fault = file_sup_fault (bytes_beside c); mode = of_back (is_beside c); around = around_beside (part_beside c) }

abbrev pub rule_view : Rule → ReadingRule ℕ
rule_view Given = given_rule
rule_view CommonFile = common_rule
rule_view (Back c) = back_rule c

-- the kind of units that are read by it
abbrev pub kind_of : Rule → FileKind
kind_of Given = OfGiven
kind_of CommonFile = OfCommon
kind_of (Back c) = OfBack (is_beside c)

-- what the common file gives
abbrev pub common_of : Rule → Option (Common ℕ)
common_of Given = None
common_of CommonFile = None
common_of (Back c) = part_beside c

-- the checksum is that of the common file, which has no more entries than a file has
pub record IsCommonKnown (c : Beside) : Type 0 where
  pub sum : c.sum ≡ sum_of c.bytes.now
  pub few : length (all_places (units_of c.part.units.now)) ≤ 2 ^ 28

abbrev pub IsGoodCommon : Option Beside → Type 0
IsGoodCommon None = Unit {0}
IsGoodCommon (Some c) = IsCommonKnown c

abbrev pub IsGoodRule : Rule → Type 0
IsGoodRule Given = Unit {0}
IsGoodRule CommonFile = Unit {0}
IsGoodRule (Back c) = IsGoodCommon c

-- ---- a file

-- The file with that number says by the rule what a document does, where numbers stand for places. Its units are kept, the numbers of the
-- entries that its references name, those of each entry in a part of their own, and the line tables whose files are numbered.
pub record IsReadBy (rule : ReadingRule ℕ) (read_as : FileKind) (l : Limits) (number : ℕ) (bytes : List ℕ) (f : File) : Type 0 where
  pub doc : Doc ℕ
  pub means : file_meaning_by rule l bytes ≡ Ok (units_of f.units, doc)
  pub named : units_refs doc.units ≡ map (place_among (rule.around bytes (units_of f.units)).common (units_of f.units)) f.resolved.refs.items
  pub within : AreAmong (rule.around bytes (units_of f.units)).common (units_of f.units) f.resolved.refs.items
  pub parts : AreParted (rule.around bytes (units_of f.units)) (units_of f.units) (entries_in (units_of f.units)) f.resolved.refs.items
      f.resolved.starts.items
  pub lines : HaveLines (rule.around bytes (units_of f.units)) (units_of f.units) (length (units_of f.units)) f.resolved.tables.items
      f.resolved.lines.items
  pub operands : AreRows (lists_of_units (rule.around bytes (units_of f.units)) (units_of f.units))
      (map (operand_view (units_of f.units)) f.resolved.operands.items)
  pub of_file : AreOfFile (units_of f.units) number f.resolved.operands.items
  pub elf : f.elf ≡ elf_of bytes
  pub kind : f.units.kind ≡ read_as
  pub info : f.units.info ≡ debug_info bytes
  pub sections : sources_view f.sections ≡ sources_of bytes
  pub aranges : f.sections.aranges.now ≡ debug_aranges bytes

-- No fault of the file comes before those of its units, which stand in these bytes.
pub record IsHeaded (rule : Rule) (l : Limits) (bytes : List ℕ) (h : Headed) : Type 0 where
  pub size : is_too_long l bytes ≡ false
  pub faultless : elf_fault_for (rule_view rule).manner bytes ≡ None
  pub machine : is_other_machine l.machine (machine_of bytes) ≡ false
  pub sup : (rule_view rule).sup_fault bytes ≡ None
  pub elf : h.elf ≡ elf_of bytes
  pub info : h.info.now ≡ debug_info bytes
  pub abbrevs : h.abbrevs.now ≡ debug_abbrev bytes

-- The file was opened by the rule: what it says is what its units say, with what surrounds them.
pub record IsOpened (rule : Rule) (l : Limits) (bytes : List ℕ) (o : Opened) : Type 0 where
  pub says : file_meaning_by (rule_view rule) l bytes ≡ units_said (rule_view rule) bytes (units_of o.units)
  pub around : around_in o.around (units_of o.units) ≡ (rule_view rule).around bytes (units_of o.units)
  pub room : entries_among (common_view o.around.common) (units_of o.units) < 2 ^ 32
  pub elf : o.elf ≡ elf_of bytes
  pub kind : o.units.kind ≡ kind_of rule
  pub info : o.units.info ≡ debug_info bytes
  pub sections : sources_view o.around.sections ≡ sources_of bytes
  pub aranges : o.around.sections.aranges.now ≡ debug_aranges bytes

abbrev pub ReadsFileBy : Rule → Limits → ℕ → List ℕ → Result File ReadErr → Type 0
ReadsFileBy rule l number bytes (Ok f) = IsReadBy (rule_view rule) (kind_of rule) l number bytes f
ReadsFileBy rule l number bytes (Err e) = Fails e (file_meaning_by (rule_view rule) l bytes)

-- each file is as is asked for, where the first has those limits and that number, and what is behind the last is left
abbrev pub AreReadAs : (Limits → ℕ → List ℕ → File → Type 0) → Limits → ℕ → List (List ℕ) → List File → Limits → Type 0
AreReadAs Is l number [] [] end = l ≡ end
AreReadAs Is l number (bytes ∷ contents) (f ∷ files) end =
    Is l number bytes f × AreReadAs Is (limits_after l bytes (units_of f.units)) (suc number) contents files end
AreReadAs Is l number _ _ end = ⊥

abbrev pub AreReadBy : ReadingRule ℕ → FileKind → Limits → ℕ → List (List ℕ) → List File → Limits → Type 0
AreReadBy rule kind = AreReadAs (IsReadBy rule kind)

-- ---- documents

-- the same rule, where numbers stand for places: those of a common file come from 2^32 on
abbrev pub numbered_rule : {P : Type 0} → ReadingRule P → ReadingRule ℕ
numbered_rule rule = record {
  manner = rule.manner;
  sup_fault = rule.sup_fault;
  mode = rule.mode;
  around = λ bytes units. numbered (2 ^ 32) (rule.around bytes units);
}

-- the document by the rule of one where numbers stand for places
abbrev pub doc_placed : {P : Type 0} → ReadingRule P → List ℕ → List RawUnit → Doc ℕ → Doc P
doc_placed rule bytes units doc = record {
  machine = doc.machine;
  units = map (unit_map (place_numbered (2 ^ 32) (rule.around bytes units))) doc.units;
}
