-- A file that reads has no ELF fault.
use Rattle.std.proofs.Common.{◌≡◌, ℕ, List, Option, Some, None, Ok, refl}
use Rattle.dwz_model.specs.declared.fault.Fault.{Fault}
use Rattle.dwz_model.specs.declared.fault.Reason.TheVariants.{FileSize}
use Rattle.dwz_def_reading.specs.Documents.{Doc}
use Rattle.dwz_def_reading.specs.ElfFaults.{file_fault}
use Rattle.dwz_def_reading.specs.ElfReading.{elf_fault}
use Rattle.dwz_def_reading.specs.Entries.{unless_so}
use Rattle.dwz_def_reading.specs.Files.{Limits, Reads, ends_at, file_meaning, file_meaning_by, is_too_long}
use Rattle.dwz_def_reading.specs.Units.{RawUnit}
use Rattle.dwz_def_reading.proofs.FileLemmas.{file_agrees}
use Rattle.dwz_def_reading.proofs.PartLemmas.{bind_ok}

no_fault_at : (o : Option Fault) (u : Unit {0}) → ends_at o ≡ Ok u → o ≡ None
no_fault_at None u e = refl
no_fault_at (Some f) u e = absurd cc

pub no_elf_fault : (l : Limits) (input : List ℕ) (raw : List RawUnit) (doc : Doc ℕ) → file_meaning l input ≡ Ok (raw, doc) → elf_fault input ≡ None
unfolding file_meaning_by
no_elf_fault l input raw doc e =
    let a = bind_ok (unless_so (is_too_long l input) (file_fault FileSize 0)) _ (raw, doc) e in
    let b = bind_ok (ends_at (elf_fault input)) _ (raw, doc) a.2 in
    no_fault_at (elf_fault input) b.0 b.1

pub reads_sound : (l : Limits) (input : List ℕ) (raw : List RawUnit) (doc : Doc ℕ) → Reads l input raw doc → elf_fault input ≡ None
reads_sound l input raw doc reads = no_elf_fault l input raw doc (((file_agrees l input).ok (raw, doc)).1 reads)
