-- Files that are read, one after the other.
use Rattle.std.specs.Prelude.{◌≡◌, ℕ, zero, suc, ◌+◌, true, false, List, [], ◌∷◌, length, map, Option, Some, None, Result, Ok, Err, unwrap_or}
use Rattle.dwz_model.specs.declared.fault.GraphErr.{GraphErr}
use Rattle.dwz_model.specs.declared.fault.GraphErr.TheVariants.{NoMemory as NoMemoryFor, Refused as RefusedOf}
use Rattle.dwz_model.specs.declared.fault.ReadErr.{ReadErr}
use Rattle.dwz_model.specs.declared.fault.ReadErr.TheVariants.{NoMemory, Refused}
use Rattle.dwz_model.specs.declared.fault.Refusal.{Refusal}
use Rattle.dwz_def_reading.specs.Documents.{Doc}
use Rattle.dwz_def_reading.specs.ElfReading.{elf_of}
use Rattle.dwz_def_reading.specs.Faults.{Fails}
use Rattle.dwz_def_reading.specs.Files.{Limits, around_of, debug_aranges, debug_info, file_meaning, files_meaning, limits_after}
use Rattle.dwz_def_reading.specs.Files.{file_meaning_by, no_files_before, sources_of}
use Rattle.dwz_def_reading.specs.Finished.{BesideDocs, FinishedDocs, beside_meaning, common_read, finished_meaning, rule_of_back}
use Rattle.dwz_def_reading.specs.Finished.{rule_of_common, sum_of}
use Rattle.dwz_def_reading.specs.Rules.{ReadingRule}
use Rattle.dwz_def_reading.specs.Units.{RawUnit, entries_in}
use Rattle.dwz_def_reading.specs.NamedLists.{lists_of_units}
use Rattle.dwz_def_reading.specs.Shared.{AreRows}
use Rattle.dwz_graph_resolve.specs.ListRows.{AreOfFile, operand_view}
use Rattle.dwz_graph.specs.declared.file.File.{File}
use Rattle.dwz_graph.specs.declared.file.Budget.{Budget}
use Rattle.dwz_graph.specs.ByRule.{AreReadAs, AreReadBy, IsReadBy, common_rule, numbered_rule}
use Rattle.dwz_graph_resolve.specs.Given.{AreGiven}
use Rattle.dwz_graph.specs.Index.{Index}
use Rattle.dwz_graph.specs.Indexed.{AreIndexes}
use Rattle.dwz_graph_resolve.specs.Named.{units_refs}
use Rattle.dwz_graph_resolve.specs.Parts.{AreParted, HaveLines}
use Rattle.dwz_graph_resolve.specs.Resolved.{AreEntries, place_at, sources_view}
use Rattle.dwz_unit.specs.declared.mode.FileKind.{FileKind}
use Rattle.dwz_unit.specs.declared.mode.FileKind.TheVariants.{Common, Back}
use Rattle.dwz_unit.specs.Rows.{units_of}

abbrev pub limits_view : Budget → Limits
limits_view l = record { bytes = l.bytes; entries = l.entries; machine = l.machine }

-- The file with that number says what a document does. Its units are kept, the numbers of the entries that its references name, those of
-- each entry in a part of their own, and the line tables whose files are numbered.
pub record IsRead (l : Limits) (number : ℕ) (bytes : List ℕ) (f : File) : Type 0 where
  pub doc : Doc ℕ
  pub means : file_meaning l bytes ≡ Ok (units_of f.units, doc)
  pub named : units_refs doc.units ≡ map (place_at (units_of f.units)) f.resolved.refs.items
  pub within : AreEntries (units_of f.units) f.resolved.refs.items
  pub parts : AreParted (around_of bytes (units_of f.units)) (units_of f.units) (entries_in (units_of f.units)) f.resolved.refs.items
      f.resolved.starts.items
  pub lines : HaveLines (around_of bytes (units_of f.units)) (units_of f.units) (length (units_of f.units)) f.resolved.tables.items
      f.resolved.lines.items
  pub operands : AreRows (lists_of_units (around_of bytes (units_of f.units)) (units_of f.units))
      (map (operand_view (units_of f.units)) f.resolved.operands.items)
  pub of_file : AreOfFile (units_of f.units) number f.resolved.operands.items
  pub elf : f.elf ≡ elf_of bytes
  pub given : AreGiven f.units
  pub info : f.units.info ≡ debug_info bytes
  pub sections : sources_view f.sections ≡ sources_of bytes
  pub aranges : f.sections.aranges.now ≡ debug_aranges bytes

abbrev pub ReadsFile : Limits → ℕ → List ℕ → Result File ReadErr → Type 0
ReadsFile l number bytes (Ok f) = IsRead l number bytes f
ReadsFile l number bytes (Err e) = Fails e (file_meaning l bytes)

-- each file, where the first has those limits and that number, and what is behind the last is left
abbrev pub AreRead : Limits → ℕ → List (List ℕ) → List File → Limits → Type 0
AreRead = AreReadAs IsRead

-- the files of a run
pub record AreKept (contents : List (List ℕ)) (files : List File) : Type 0 where
  pub end : Limits
  pub are : AreRead no_files_before 0 contents files end

-- the same behind other files
pub record AreReadFrom (l : Limits) (contents : List (List ℕ)) (files : List File) : Type 0 where
  pub end : Limits
  pub are : AreRead l 0 contents files end

-- and of files that are read by another rule
pub record AreReadFromBy (rule : ReadingRule ℕ) (kind : FileKind) (l : Limits) (contents : List (List ℕ)) (files : List File) : Type 0 where
  pub end : Limits
  pub are : AreReadBy rule kind l 0 contents files end

-- the file with that number, what those before it leave, and what it says
abbrev pub HasFile : Limits → List (List ℕ) → ℕ → Limits → List ℕ → List RawUnit → Doc ℕ → Type 0
HasFile l [] i m b raw doc = ⊥
HasFile l (bytes ∷ contents) zero m b raw doc = (l ≡ m) × (bytes ≡ b) × (file_meaning l bytes ≡ Ok (raw, doc))
HasFile l (bytes ∷ contents) (suc i) m b raw doc =
    (units : List RawUnit) × (said : Doc ℕ) × (file_meaning l bytes ≡ Ok (units, said)) × HasFile (limits_after l bytes units) contents i m
    b raw doc

-- the file with that number, as it is kept
pub record HasRead (contents : List (List ℕ)) (i : ℕ) (bytes : List ℕ) (f : File) : Type 0 where
  pub limits : Limits
  pub read : IsRead limits i bytes f
  pub there : HasFile no_files_before contents i limits bytes (units_of f.units) read.doc

abbrev pub refused_file : ℕ → ReadErr → GraphErr
refused_file file (Refused f) = RefusedOf (record { file = file; section = f.section; at = f.at; reason = f.reason })
refused_file file NoMemory = NoMemoryFor

-- ---- what a graph stands for

-- the contents of the files of a graph, by the rule by which they were read: a finished common file, files that were given, and files that
-- may be output
pub record FilesRead : Type 0 where
  pub common : Option (List ℕ)
  pub given : List (List ℕ)
  pub back : List (List ℕ)

abbrev pub or_none : Result (List (Doc ℕ)) Refusal → List (Doc ℕ)
or_none (Ok docs) = docs
or_none (Err r) = []

-- the documents of files, or none where one is refused
unfoldable pub docs_of : List (List ℕ) → List (Doc ℕ)
docs_of contents = or_none (files_meaning no_files_before 0 contents)

-- what files say beside a finished common file
abbrev pub beside_or_none : Result BesideDocs Refusal → BesideDocs
beside_or_none (Ok said) = said
beside_or_none (Err r) = record { common = record { machine = 0; units = [] }; docs = [] }

unfoldable pub said_beside : FilesRead → BesideDocs
said_beside r = beside_or_none (beside_meaning (unwrap_or r.common []) r.given)

-- and what files say that may have been written
abbrev pub finished_or_none : Result FinishedDocs Refusal → FinishedDocs
finished_or_none (Ok said) = said
finished_or_none (Err r) = record { common = None; docs = [] }

unfoldable pub said_finished : FilesRead → FinishedDocs
said_finished r = finished_or_none (finished_meaning r.common r.back)

-- documents are answered, or the first refusal, unless memory ran out
abbrev pub FilesFail : {Y : Type 0} → GraphErr → Result Y Refusal → Type 0
FilesFail NoMemoryFor read = Unit {0}
FilesFail (RefusedOf r) read = read ≡ Err r

abbrev pub FilesAnswer : {X Y : Type 0} → (X → Y) → Result X GraphErr → Result Y Refusal → Type 0
FilesAnswer view (Ok x) read = read ≡ Ok (view x)
FilesAnswer view (Err e) read = FilesFail e read

-- something holds of what is answered, or there is the first refusal
abbrev pub HoldsOrFails : {X Y : Type 0} → (X → Type 0) → Result X GraphErr → Result Y Refusal → Type 0
HoldsOrFails Holds (Ok x) read = Holds x
HoldsOrFails Holds (Err e) read = FilesFail e read

-- ---- the files of a graph

-- the common file, as it was read: it comes first, and has the number behind those of the others
abbrev pub HasCommon : ℕ → Option (List ℕ) → Option File → Type 0
HasCommon number None None = Unit {0}
HasCommon number (Some bytes) (Some f) = IsReadBy (numbered_rule (rule_of_common number)) Common no_files_before number bytes f
HasCommon number _ _ = ⊥

-- The files that may be output, as they were read: without a common file, or beside that one. What stands for places are numbers, so their
-- rule is the same for all.
abbrev pub AreBack : Option (List ℕ) → List (List ℕ) → List File → Type 0
AreBack None contents files = AreReadFromBy (numbered_rule (rule_of_back None 0)) (Back false) no_files_before contents files
AreBack (Some bytes) contents files =
    (units : List RawUnit) × (doc : Doc ℕ)
    × (file_meaning_by (numbered_rule (rule_of_common (length contents))) no_files_before bytes ≡ Ok (units, doc))
    × AreReadFromBy (numbered_rule (rule_of_back (Some (common_read contents bytes units)) 0)) (Back true) (limits_after no_files_before bytes units)
    contents files

-- a common file that was read, by its number and its bytes
pub record CommonRead : Type 0 where
  pub number : ℕ
  pub bytes : List ℕ

-- it is kept so, with its checksum
pub record IsCommonKept (c : CommonRead) (f : File) (checksum : List ℕ) : Type 0 where
  pub read : HasCommon c.number (Some c.bytes) (Some f)
  pub checksum_is : checksum ≡ sum_of c.bytes

-- if there is one, it has that number
abbrev pub IsNumbered : ℕ → Option CommonRead → Type 0
IsNumbered number None = Unit {0}
IsNumbered number (Some c) = c.number ≡ number

-- it is that of files of which there are so many
abbrev pub IsSharedBy : ℕ → Option (List ℕ) → Option CommonRead → Type 0
IsSharedBy number None None = Unit {0}
IsSharedBy number (Some bytes) (Some c) = (c.number ≡ number) × (c.bytes ≡ bytes)
IsSharedBy number _ _ = ⊥

-- a common file with these bytes leaves that to other files
pub record Leaves (bytes : List ℕ) (l : Limits) : Type 0 where
  pub units : List RawUnit
  pub doc : Doc ℕ
  pub means : file_meaning_by common_rule no_files_before bytes ≡ Ok (units, doc)
  pub left : l ≡ limits_after no_files_before bytes units

-- files that were read by themselves behind a common file
pub record AreBehind (bytes : List ℕ) (contents : List (List ℕ)) (files : List File) : Type 0 where
  pub units : List RawUnit
  pub doc : Doc ℕ
  pub means : file_meaning_by common_rule no_files_before bytes ≡ Ok (units, doc)
  pub are : AreReadFrom (limits_after no_files_before bytes units) contents files

-- all files of a graph, and what the entries of those are that were given
pub record AreFilesOf (r : FilesRead) (common : Option CommonRead) (given back : List File) (indexes : List Index) : Type 0 where
  pub common_is : IsNumbered (length r.given + length r.back) common
  pub given_are : AreKept r.given given
  pub back_are : AreBack r.common r.back back
  pub indexes_are : AreIndexes (docs_of r.given) indexes
