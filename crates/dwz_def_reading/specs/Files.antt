-- Files: what the debug information of files says, or the first fault. One file after the other, and in a file the ELF faults come
-- before those of the units, and those before the faults of meanings.
use Rattle.std.specs.Prelude.{◌≡◌, ◌≢◌, ◌⊎◌, ℕ, suc, ◌-◌, ◌^◌, ◌<◌, ◌≤◌, Bool, false, List, [], ◌∷◌, ◌++◌, length, Option, Some}
use Rattle.std.specs.Prelude.{None, Result, Ok, Err, ◌==◌, ◌||◌, not, nat_lt}
use Rattle.dwz_model.specs.declared.fault.Fault.{Fault}
use Rattle.dwz_model.specs.declared.fault.Reason.TheVariants.{FileSize, Machine}
use Rattle.dwz_model.specs.declared.fault.Refusal.{Refusal}
use Rattle.dwz_bytes.specs.Input.{input}
use Rattle.dwz_bytes.specs.Reading.{◌>>=◌}
use Rattle.dwz_def_reading.specs.Documents.{Doc, DwUnit}
use Rattle.dwz_def_reading.specs.ElfFaults.{IsElfFaultFor, IsFirstElfFaultFor, by_itself, file_fault}
use Rattle.dwz_def_reading.specs.ElfHeaders.{file_header}
use Rattle.dwz_def_reading.specs.ElfNames.{sections_in}
use Rattle.dwz_def_reading.specs.ElfReading.{bytes_in, elf_fault_for, section_range}
use Rattle.dwz_def_reading.specs.Entries.{given, unless_so}
use Rattle.dwz_def_reading.specs.Meanings.{Around, MeanUnits, Sources, alone, has}
use Rattle.dwz_def_reading.specs.Meant.{units_meaning}
use Rattle.dwz_def_reading.specs.MeaningFaults.{HaveUnitFault}
use Rattle.dwz_def_reading.specs.NamedLists.{lists_of_units}
use Rattle.dwz_def_reading.specs.Ranges.{IsSetsFault, RangeSet, SpellsSets, sets_at}
use Rattle.dwz_def_reading.specs.Rules.{ReadingRule}
use Rattle.dwz_def_reading.specs.Shared.{IsSharedFault, NoneShared, none_shared}
use Rattle.dwz_def_reading.specs.Units.{CompileUnit, IsUnitsFault, PartialUnit, RawKind, RawUnit, TypeUnit, SpellsUnits, entries_in, units_at}

-- ---- the sections of a file

-- the bytes of the section with a code; one that isn't there counts as empty
unfoldable pub section_of : List ℕ → ℕ → List ℕ
section_of bytes code = bytes_in bytes (section_range (sections_in bytes) code)

abbrev pub debug_info : List ℕ → List ℕ
debug_info bytes = section_of bytes 1

abbrev pub debug_abbrev : List ℕ → List ℕ
debug_abbrev bytes = section_of bytes 2

abbrev pub sources_of : List ℕ → Sources
sources_of bytes = record {
  strs = section_of bytes 3;
  line_strs = section_of bytes 4;
  offsets = section_of bytes 5;
  line = section_of bytes 6;
  lists = section_of bytes 7;
}

abbrev pub debug_aranges : List ℕ → List ℕ
debug_aranges bytes = section_of bytes 8

-- what surrounds the units of a file
abbrev pub around_of : List ℕ → List RawUnit → Around ℕ
around_of bytes units = alone (sources_of bytes) units

abbrev pub machine_of : List ℕ → ℕ
machine_of bytes = (file_header bytes).machine

-- ---- limits

-- no file may be longer, in bytes; nor all files together; nor may they have more entries
unfoldable pub longest_file : ℕ
longest_file = 2 ^ 28

unfoldable pub longest_files : ℕ
longest_files = 2 ^ 29

unfoldable pub most_entries : ℕ
most_entries = 2 ^ 24

-- what the files before a file leave: how many bytes and how many entries may still come, and the machine that they are for
pub record Limits : Type 0 where
  pub bytes : ℕ
  pub entries : ℕ
  pub machine : Option ℕ

abbrev pub no_files_before : Limits
no_files_before = record { bytes = longest_files; entries = most_entries; machine = None }

abbrev pub limits_after : Limits → List ℕ → List RawUnit → Limits
limits_after l bytes units = record {
  bytes = l.bytes - length bytes;
  entries = l.entries - entries_in units;
  machine =
      Some (machine_of bytes);
}

-- ---- the relation: what a file says

-- the files before it, if there are any, are for that machine
abbrev pub IsForMachine : Option ℕ → ℕ → Type 0
IsForMachine None machine = Unit {0}
IsForMachine (Some other) machine = machine ≡ other

pub record IsNotTooLong (l : Limits) (bytes : List ℕ) : Type 0 where
  pub file : length bytes ≤ longest_file
  pub files : length bytes ≤ l.bytes

-- where the units begin that aren't partial
abbrev pub place_if_whole : RawKind → ℕ → List ℕ
place_if_whole CompileUnit at = at ∷ []
place_if_whole (TypeUnit signature type_offset) at = at ∷ []
place_if_whole PartialUnit at = []

unfoldable pub unit_places : List RawUnit → List ℕ
unit_places [] = []
unit_places (u ∷ units) = place_if_whole u.kind u.at ++ unit_places units

-- it is one of them
abbrev pub is_place_of : List RawUnit → ℕ → Bool
is_place_of units n = has n (unit_places units)

-- each set of address ranges is of one of the units
pub record HaveGoodRanges (bytes : List ℕ) (units : List RawUnit) : Type 0 where
  pub sets : List RangeSet
  pub spelled : SpellsSets (is_place_of units) sets 0 (debug_aranges bytes)

-- The file, read by that rule, is not too long and has no fault of an ELF file; it is for the machine of the files before it; nothing is
-- wrong with its `.debug_sup`; its units are spelled, and mean those of the document; each set of address ranges is of one of the units;
-- and no location list shares a byte with an operand of another.
pub record ReadsBy {P : Type 0} (rule : ReadingRule P) (l : Limits) (bytes : List ℕ) (units : List RawUnit) (doc : Doc P) : Type 0 where
  pub size : IsNotTooLong l bytes
  pub elf : (f : _) → IsElfFaultFor rule.manner bytes f → ⊥
  pub same_machine : IsForMachine l.machine (machine_of bytes)
  pub sup : rule.sup_fault bytes ≡ None
  pub spelled : SpellsUnits (debug_abbrev bytes) (rule.mode l.entries) 0 units 0 (debug_info bytes)
  pub means : MeanUnits (rule.around bytes units) units doc.units
  pub machine : doc.machine ≡ machine_of bytes
  pub ranges : HaveGoodRanges bytes units
  pub lists : NoneShared (lists_of_units (rule.around bytes units) units)

-- a file by itself: it has no `.debug_sup`, none of its units is partial, and no form leads to another file
abbrev pub given_rule : ReadingRule ℕ
given_rule = record { manner = by_itself; sup_fault = λ bytes. None; mode = given; around = around_of }

abbrev pub Reads : Limits → List ℕ → List RawUnit → Doc ℕ → Type 0
Reads = ReadsBy given_rule

-- each file says what its document does
abbrev pub ReadAll : Limits → List (List ℕ) → List (Doc ℕ) → Type 0
ReadAll l [] [] = Unit {0}
ReadAll l (bytes ∷ files) (doc ∷ docs) = (units : List RawUnit) × Reads l bytes units doc × ReadAll (limits_after l bytes units) files docs
ReadAll l _ _ = ⊥

-- ---- the function: what files say, or the first fault

abbrev pub ends_at : Option Fault → Result (Unit {0}) Fault
ends_at None = Ok tt
ends_at (Some f) = Err f

abbrev pub is_too_long : Limits → List ℕ → Bool
is_too_long l bytes = nat_lt longest_file (length bytes) || nat_lt l.bytes (length bytes)

-- where e_machine stands
abbrev pub machine_at : ℕ
machine_at = 18

abbrev pub is_other_machine : Option ℕ → ℕ → Bool
is_other_machine None machine = false
is_other_machine (Some other) machine = not (machine == other)

abbrev pub doc_with : {P : Type 0} → List ℕ → List RawUnit → List (DwUnit P) → Result (List RawUnit × Doc P) Fault
doc_with bytes raw units = Ok (raw, record { machine = machine_of bytes; units = units })

-- the sets of address ranges come behind the meanings, and then the lists
abbrev pub sets_said : List ℕ → List RawUnit → Result (List RangeSet) Fault
sets_said bytes units = sets_at (is_place_of units) (input (debug_aranges bytes) 0)

abbrev pub lists_said : {P : Type 0} → Around P → List RawUnit → Result (Unit {0}) Fault
lists_said around units = none_shared (lists_of_units around units)

abbrev pub units_said : {P : Type 0} → ReadingRule P → List ℕ → List RawUnit → Result (List RawUnit × Doc P) Fault
units_said rule bytes units = units_meaning (rule.around bytes units) units >>= λ said. sets_said bytes units
    >>= λ sets. lists_said (rule.around bytes units) units >>= λ good. doc_with bytes units said

-- the units of a file as they are stored, and its document
unfoldable pub file_meaning_by : {P : Type 0} → ReadingRule P → Limits → List ℕ → Result (List RawUnit × Doc P) Fault
file_meaning_by rule l bytes =
    unless_so (is_too_long l bytes) (file_fault FileSize 0)
    >>= λ size. ends_at (elf_fault_for rule.manner bytes)
    >>= λ elf. unless_so (is_other_machine l.machine (machine_of bytes)) (file_fault Machine machine_at)
    >>= λ machine. ends_at (rule.sup_fault bytes)
    >>= λ sup. units_at (debug_abbrev bytes) (rule.mode l.entries) 0 (input (debug_info bytes) 0)
    >>= units_said rule bytes

abbrev pub file_meaning : Limits → List ℕ → Result (List RawUnit × Doc ℕ) Fault
file_meaning = file_meaning_by given_rule

abbrev pub refused_in : {X : Type 0} → ℕ → Result X Fault → Result X Refusal
refused_in number (Ok x) = Ok x
refused_in number (Err f) = Err (record { file = number; section = f.section; at = f.at; reason = f.reason })

abbrev pub with_doc : {P : Type 0} → Doc P → List (Doc P) → Result (List (Doc P)) Refusal
with_doc doc docs = Ok (doc ∷ docs)

-- the documents of files, the first of which has a number
unfoldable pub files_meaning : Limits → ℕ → List (List ℕ) → Result (List (Doc ℕ)) Refusal
files_meaning l number [] = Ok []
files_meaning l number (bytes ∷ files) =
    refused_in number (file_meaning l bytes) >>= λ x. files_meaning (limits_after l bytes x.0) (suc number) files >>= with_doc x.1

-- ---- the first fault

-- the file is too long, or with those before it
abbrev pub IsTooLong : Limits → List ℕ → Type 0
IsTooLong l bytes = (longest_file < length bytes) ⊎ (l.bytes < length bytes)

abbrev pub IsOtherMachine : Option ℕ → ℕ → Type 0
IsOtherMachine None machine = ⊥
IsOtherMachine (Some other) machine = machine ≢ other

-- the units are spelled, and the first of them that means nothing has that fault; or all mean something, and the first bad set of
-- address ranges has it; or there is none, and it is placed at the first operand that shares a byte
pub record HasMeaningFaultBy {P : Type 0} (rule : ReadingRule P) (l : Limits) (bytes : List ℕ) (f : Fault) : Type 0 where
  pub units : List RawUnit
  pub spelled : SpellsUnits (debug_abbrev bytes) (rule.mode l.entries) 0 units 0 (debug_info bytes)
  pub fault : HaveUnitFault (rule.around bytes units) units f
      ⊎ (((said : List (DwUnit P)) × MeanUnits (rule.around bytes units) units said)
      × (IsSetsFault (is_place_of units) 0 (debug_aranges bytes) f
      ⊎ (HaveGoodRanges bytes units × IsSharedFault (lists_of_units (rule.around bytes units) units) f)))

abbrev pub HasMeaningFault : Limits → List ℕ → Fault → Type 0
HasMeaningFault = HasMeaningFaultBy given_rule

-- The first fault of a file that is read by a rule: it is too long; else the first fault of the ELF file; else it is for another machine
-- than the files before it; else what is wrong with its `.debug_sup`; else the first fault of the units; else the first of their meanings;
-- else that of the first bad set of address ranges; else that of the first shared list.
abbrev pub IsFaultBy : {P : Type 0} → ReadingRule P → Limits → List ℕ → Fault → Type 0
IsFaultBy rule l bytes f =
    ((f ≡ file_fault FileSize 0) × IsTooLong l bytes)
    ⊎ (IsNotTooLong l bytes
    × (IsFirstElfFaultFor rule.manner bytes f
    ⊎ (((g : Fault) → IsElfFaultFor rule.manner bytes g → ⊥)
    × (((f ≡ file_fault Machine machine_at) × IsOtherMachine l.machine (machine_of bytes))
    ⊎ (IsForMachine l.machine (machine_of bytes)
    × ((rule.sup_fault bytes ≡ Some f)
    ⊎ ((rule.sup_fault bytes ≡ None)
    × (IsUnitsFault (debug_abbrev bytes) (rule.mode l.entries) 0 0 (debug_info bytes) f ⊎ HasMeaningFaultBy rule l bytes f))))))))

abbrev pub IsFileFault : Limits → List ℕ → Fault → Type 0
IsFileFault = IsFaultBy given_rule

-- a fault of the file with that number
pub record IsRefusal (l : Limits) (number : ℕ) (bytes : List ℕ) (r : Refusal) : Type 0 where
  pub fault : Fault
  pub is_fault : IsFileFault l bytes fault
  pub same : r ≡ record { file = number; section = fault.section; at = fault.at; reason = fault.reason }

-- the first of the files that has a fault has that one
abbrev pub First : Limits → ℕ → List (List ℕ) → Refusal → Type 0
First l number [] r = ⊥
First l number (bytes ∷ files) r =
    IsRefusal l number bytes r
    ⊎ ((units : List RawUnit) × (doc : Doc ℕ) × Reads l bytes units doc × First (limits_after l bytes units) (suc number) files r)
