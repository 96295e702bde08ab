-- Files that may have been written by this tool, and the finished common file beside which they are read (DWARF 5, 7.3.6).
use Rattle.std.specs.Prelude.{◌≡◌, ◌⊎◌, ℕ, suc, ◌+◌, ◌-◌, Bool, true, false, ◌&&◌, ◌==◌, not, if◌then◌else◌, List, [], ◌∷◌, ◌++◌, length}
use Rattle.std.specs.Prelude.{Option, Some, None, Result, Ok, Err}
use Rattle.std.specs.Option.{is_some}
use Rattle.std.specs.Str.{bytes_eq}
use Rattle.sha2.specs.Sha256.{sha256}
use Rattle.dwz_model.specs.declared.fault.Fault.{Fault}
use Rattle.dwz_model.specs.declared.fault.Reason.{Reason}
use Rattle.dwz_model.specs.declared.fault.Reason.TheVariants.{BadSup, Checksum, SupMissing}
use Rattle.dwz_model.specs.declared.fault.Refusal.{Refusal}
use Rattle.dwz_bytes.specs.Reading.{◌>>=◌}
use Rattle.dwz_def_reading.specs.declared.supplementary.Sup.{Sup}
use Rattle.dwz_def_reading.specs.Documents.{Doc}
use Rattle.dwz_def_reading.specs.ElfFaults.{file_fault, read_back}
use Rattle.dwz_def_reading.specs.ElfNames.{sections_in}
use Rattle.dwz_def_reading.specs.ElfReading.{section_range}
use Rattle.dwz_def_reading.specs.Entries.{of_common}
use Rattle.dwz_def_reading.specs.Files.{IsFaultBy, First, Limits, ReadAll, ReadsBy, debug_abbrev, debug_info, file_meaning_by, files_meaning}
use Rattle.dwz_def_reading.specs.Files.{limits_after, no_files_before, refused_in, section_of, sources_of, with_doc}
use Rattle.dwz_def_reading.specs.Meanings.{Around, Common, all_places}
use Rattle.dwz_def_reading.specs.Modes.{of_back}
use Rattle.dwz_def_reading.specs.Places.{Place, at_file}
use Rattle.dwz_def_reading.specs.Rules.{ReadingRule}
use Rattle.dwz_def_reading.specs.Supplementary.{read_sup}
use Rattle.dwz_def_reading.specs.Units.{RawUnit}

-- ---- `.debug_sup`

abbrev pub debug_sup : List ℕ → List ℕ
debug_sup bytes = section_of bytes 9

abbrev pub has_sup : List ℕ → Bool
has_sup bytes = is_some (section_range (sections_in bytes) 9)

-- the checksum of a common file: over `.debug_info`, `.debug_str`, which counts as empty where there is none, and `.debug_abbrev`
abbrev pub sum_of : List ℕ → List ℕ
sum_of common = sha256 (debug_info common ++ section_of common 3 ++ debug_abbrev common)

-- the section has a checksum of 32 bytes, whose length is spelled in one byte
abbrev pub has_sum : List ℕ → Sup → Bool
has_sum section s = length s.sum == 32 && length section == length s.name + 37

-- it is that of a common file, which names no other; and that of a file that imports from one
abbrev pub is_of_common : List ℕ → Sup → Bool
is_of_common section s = s.supplementary && length s.name == 0 && has_sum section s

abbrev pub is_of_file : List ℕ → Sup → Bool
is_of_file section s = not s.supplementary && has_sum section s

abbrev pub sup_fault : Reason → ℕ → Fault
sup_fault reason at = record { section = 9; at = at; reason = reason }

-- a section that was read is of its kind, and has that checksum, with which it ends
abbrev pub sum_fault : (List ℕ → Sup → Bool) → (sum section : List ℕ) → Option Sup → Option Fault
sum_fault is_kind sum section None = Some (sup_fault BadSup 0)
sum_fault is_kind sum section (Some s) =
    if is_kind section s
    then (if bytes_eq s.sum sum then None else Some (sup_fault Checksum (length section - 32)))
    else Some (sup_fault BadSup 0)

-- what is wrong with that of a common file, which has to have one
unfoldable pub common_sup_fault : List ℕ → Option Fault
common_sup_fault bytes =
    if has_sup bytes
    then sum_fault is_of_common (sum_of bytes) (debug_sup bytes) (read_sup (debug_sup bytes))
    else Some (file_fault BadSup 0)

-- and with that of another file, which has to have none where the common file isn't given
abbrev pub file_sum_fault : Option (List ℕ) → List ℕ → Option Fault
file_sum_fault None section = Some (sup_fault SupMissing 0)
file_sum_fault (Some common) section = sum_fault is_of_file (sum_of common) section (read_sup section)

unfoldable pub file_sup_fault : Option (List ℕ) → List ℕ → Option Fault
file_sup_fault common bytes = if has_sup bytes then file_sum_fault common (debug_sup bytes) else None

-- ---- what surrounds units

-- what a common file with this number gives to the others: its entries, and its texts
abbrev pub given_by : ℕ → List ℕ → List RawUnit → Common Place
given_by number bytes raw = record { entries = all_places raw; place = at_file number; strs = section_of bytes 3 }

abbrev pub around_in : Option (Common Place) → ℕ → List ℕ → List RawUnit → Around Place
around_in common number bytes raw = record { sources = sources_of bytes; all = all_places raw; place = at_file number; common = common }

-- ---- the rules

-- a common file that was read: its number, its bytes, and its units as they are stored
pub record GivenCommon : Type 0 where
  pub number : ℕ
  pub bytes : List ℕ
  pub units : List RawUnit

-- a finished common file with that number: all of its units are partial
abbrev pub rule_of_common : ℕ → ReadingRule Place
rule_of_common number = record { manner = read_back; sup_fault = common_sup_fault; mode = of_common; around = around_in None number }

-- the file with a number, which may be what this tool has written, beside the common file that is given, if one is
abbrev pub rule_of_back : Option GivenCommon → ℕ → ReadingRule Place
rule_of_back None number = record { manner = read_back; sup_fault = file_sup_fault None; mode = of_back false; around = around_in None number }
rule_of_back (Some c) number = record {
  manner = read_back;
  sup_fault = file_sup_fault (Some c.bytes);
  mode = of_back true;
  around =
      around_in (Some (given_by c.number c.bytes c.units)) number;
}

-- ---- several files, each by the rule of its number

abbrev pub ReadAllBy : {P : Type 0} → (ℕ → ReadingRule P) → Limits → ℕ → List (List ℕ) → List (Doc P) → Type 0
ReadAllBy rule l number [] [] = Unit {0}
ReadAllBy rule l number (bytes ∷ files) (doc ∷ docs) =
    (units : List RawUnit) × ReadsBy (rule number) l bytes units doc × ReadAllBy rule (limits_after l bytes units) (suc number) files docs
ReadAllBy rule l number _ _ = ⊥

abbrev pub refusal_of : ℕ → Fault → Refusal
refusal_of number f = record { file = number; section = f.section; at = f.at; reason = f.reason }

abbrev pub FirstBy : {P : Type 0} → (ℕ → ReadingRule P) → Limits → ℕ → List (List ℕ) → Refusal → Type 0
FirstBy rule l number [] r = ⊥
FirstBy {P} rule l number (bytes ∷ files) r =
    ((f : Fault) × IsFaultBy (rule number) l bytes f × (r ≡ refusal_of number f))
    ⊎ ((units : List RawUnit) × (doc : Doc P) × ReadsBy (rule number) l bytes units doc
    × FirstBy rule (limits_after l bytes units) (suc number) files r)

unfoldable pub files_meaning_by : {P : Type 0} → (ℕ → ReadingRule P) → Limits → ℕ → List (List ℕ) → Result (List (Doc P)) Refusal
files_meaning_by rule l number [] = Ok []
files_meaning_by {P} rule l number (bytes ∷ files) =
    refused_in number (file_meaning_by (rule number) l bytes)
    >>= λ x. files_meaning_by rule (limits_after l bytes x.0) (suc number) files >>= with_doc x.1

-- ---- files that may have been written: the common file is read first, if it is given, and has their number

abbrev pub common_read : List (List ℕ) → List ℕ → List RawUnit → GivenCommon
common_read files bytes units = record { number = length files; bytes = bytes; units = units }

-- what they say, and what the common file says
pub record FinishedDocs : Type 0 where
  pub common : Option (Doc Place)
  pub docs : List (Doc Place)

abbrev pub ReadFinished : Option (List ℕ) → List (List ℕ) → FinishedDocs → Type 0
ReadFinished None files said = (said.common ≡ None) × ReadAllBy (rule_of_back None) no_files_before 0 files said.docs
ReadFinished (Some bytes) files said =
    (units : List RawUnit) × (doc : Doc Place) × (said.common ≡ Some doc)
    × ReadsBy (rule_of_common (length files)) no_files_before bytes units doc
    × ReadAllBy (rule_of_back (Some (common_read files bytes units))) (limits_after no_files_before bytes units) 0 files said.docs

abbrev pub FirstFinished : Option (List ℕ) → List (List ℕ) → Refusal → Type 0
FirstFinished None files r = FirstBy (rule_of_back None) no_files_before 0 files r
FirstFinished (Some bytes) files r =
    ((f : Fault) × IsFaultBy (rule_of_common (length files)) no_files_before bytes f × (r ≡ refusal_of (length files) f))
    ⊎ ((units : List RawUnit) × (doc : Doc Place) × ReadsBy (rule_of_common (length files)) no_files_before bytes units doc
    × FirstBy (rule_of_back (Some (common_read files bytes units))) (limits_after no_files_before bytes units) 0 files r)

abbrev pub finished_docs : Option (Doc Place) → List (Doc Place) → Result FinishedDocs Refusal
finished_docs common docs = Ok (record { common = common; docs = docs })

abbrev pub common_meaning : List (List ℕ) → List ℕ → Result (List RawUnit × Doc Place) Refusal
common_meaning files bytes = refused_in (length files) (file_meaning_by (rule_of_common (length files)) no_files_before bytes)

unfoldable pub finished_meaning : Option (List ℕ) → List (List ℕ) → Result FinishedDocs Refusal
finished_meaning None files = files_meaning_by (rule_of_back None) no_files_before 0 files >>= finished_docs None
finished_meaning (Some bytes) files =
    common_meaning files bytes
    >>= λ x. files_meaning_by (rule_of_back (Some (common_read files bytes x.0))) (limits_after no_files_before bytes x.0) 0 files
    >>= finished_docs (Some x.1)

-- ---- files by themselves that are to import from a finished common file, which is read first and has their number

pub record BesideDocs : Type 0 where
  pub common : Doc Place
  pub docs : List (Doc ℕ)

abbrev pub ReadBeside : List ℕ → List (List ℕ) → BesideDocs → Type 0
ReadBeside bytes files said =
    (units : List RawUnit) × ReadsBy (rule_of_common (length files)) no_files_before bytes units said.common
    × ReadAll (limits_after no_files_before bytes units) files said.docs

abbrev pub FirstBeside : List ℕ → List (List ℕ) → Refusal → Type 0
FirstBeside bytes files r =
    ((f : Fault) × IsFaultBy (rule_of_common (length files)) no_files_before bytes f × (r ≡ refusal_of (length files) f))
    ⊎ ((units : List RawUnit) × (doc : Doc Place) × ReadsBy (rule_of_common (length files)) no_files_before bytes units doc
    × First (limits_after no_files_before bytes units) 0 files r)

abbrev pub beside_docs : Doc Place → List (Doc ℕ) → Result BesideDocs Refusal
beside_docs common docs = Ok (record { common = common; docs = docs })

unfoldable pub beside_meaning : List ℕ → List (List ℕ) → Result BesideDocs Refusal
beside_meaning bytes files =
    common_meaning files bytes >>= λ x. files_meaning (limits_after no_files_before bytes x.0) 0 files >>= beside_docs x.1
