-- Sections of a file that is read are short.
use Rattle.std.proofs.Common.{ℕ, ◌<◌, ◌^◌, List, length, arith}
use Rattle.dwz_def_reading.specs.ElfNames.{sections_in}
use Rattle.dwz_def_reading.specs.ElfReading.{section_range}
use Rattle.dwz_def_reading.specs.Units.{RawUnit}
use Rattle.dwz_def_reading.proofs.RangeBytes.{bytes_short}
use Rattle.dwz_def_reading.specs.Documents.{Doc}
use Rattle.dwz_def_reading.specs.Files.{Limits, Reads, longest_file, section_of}

pub read_few : (l : Limits) (bytes : List ℕ) (raw : List RawUnit) (doc : Doc ℕ) → Reads l bytes raw doc → (code : ℕ) → length (section_of bytes code) < 2 ^ 32
unfolding section_of longest_file
read_few l bytes raw doc reads code =
    let short = bytes_short bytes (section_range (sections_in bytes) code) in
    let file = reads.size.file in
    omega (arith, short, file)
