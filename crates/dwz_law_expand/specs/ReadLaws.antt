-- What is written of a file without its partial units reads by the rule of files that are given, but for limits.
use Rattle.std.specs.Prelude.{◌≡◌, ℕ, List, false}
use Rattle.dwz_def_reading.specs.Fault.{Fault}
use Rattle.dwz_def_reading.specs.Refusal.{Refusal}
use Rattle.dwz_def_reading.specs.ElfFaults.{ElfManner, IsElfFaultFor}
use Rattle.dwz_def_reading.specs.Files.{debug_abbrev, debug_aranges, debug_info, sources_of}
use Rattle.dwz_def_reading.specs.Units.{RawUnit}
use Rattle.dwz_def_expand.specs.OneFile.{OneFile, ReadsOne, said_by_file, same_place}
use Rattle.dwz_def_expand.specs.Output.{ExpandRefusal, forms, new_lists, new_ranges}
use Rattle.dwz_def_expand.specs.Written.{expanded_sections}
use Rattle.dwz_def_expand.specs.After.{ReadsFreely, units_after}
use Rattle.dwz_law_expand.specs.Told.{IsOfBytes}

-- an ELF file without `.debug_sup` that has the new sections, and else those of the file
pub record HasExpanded (f : OneFile) (out : List ℕ) : Type 0 where
  pub manner : ElfManner
  pub alone : manner.sup ≡ false
  pub elf : (x : Fault) → IsElfFaultFor manner out x → ⊥
  pub info : debug_info out ≡ (expanded_sections same_place (forms f) (said_by_file f)).info
  pub abbrevs : debug_abbrev out ≡ (expanded_sections same_place (forms f) (said_by_file f)).abbrevs
  pub strs : (sources_of out).strs ≡ (sources_of f.file.bytes).strs
  pub line_strs : (sources_of out).line_strs ≡ (sources_of f.file.bytes).line_strs
  pub offsets : (sources_of out).offsets ≡ (sources_of f.file.bytes).offsets
  pub line : (sources_of out).line ≡ (sources_of f.file.bytes).line
  pub lists : (sources_of out).lists ≡ new_lists f
  pub ranges : debug_aranges out ≡ new_ranges f

-- where nothing refuses a file that reads, what has its new sections reads by itself, and says the new units
abbrev pub ReadLaw : Type 0
ReadLaw =
    (f : OneFile) (out : List ℕ) → IsOfBytes f → ReadsOne f → ((q : Refusal) → ¬ ExpandRefusal f q) → HasExpanded f out
    → (raw : List RawUnit) × ReadsFreely out raw (units_after f)
