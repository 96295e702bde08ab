-- A common file of a graph was read, and is short.
use Rattle.std.proofs.Common.{◌≡◌, ℕ, ◌^◌, ◌<◌, ◌≤◌, List, length, Option, Some, sym, subst, arith}
use Rattle.dwz_def_reading.proofs.FileLemmas.{file_agrees_by}
use Rattle.dwz_def_reading.proofs.RangeBytes.{bytes_short}
use Rattle.dwz_def_reading.specs.ElfReading.{bytes_in}
use Rattle.dwz_def_reading.specs.Files.{longest_file, no_files_before}
use Rattle.dwz_def_reading.specs.Finished.{rule_of_common}
use Rattle.dwz_graph.specs.ByRule.{IsReadBy, numbered_rule}
use Rattle.dwz_graph.specs.Files.{HasCommon}
use Rattle.dwz_graph.specs.declared.file.File.{File}
use Rattle.dwz_unit.specs.Rows.{units_of}
use Rattle.dwz_unit.specs.declared.mode.FileKind.TheVariants.{Common}

abbrev pub IsReadAs : ℕ → List ℕ → File → Type 0
IsReadAs number bytes f = IsReadBy (numbered_rule (rule_of_common number)) Common no_files_before number bytes f

pub standing_short : (number : ℕ) (bytes : List ℕ) (f : File) → IsReadAs number bytes f → length bytes < 2 ^ 32
unfolding longest_file
standing_short number bytes f is =
    let reads = ((file_agrees_by (numbered_rule (rule_of_common number)) no_files_before bytes).ok (units_of f.units, is.doc)).0 is.means in
    let size = reads.size.file in omega (arith, size)

pub standing_read : (number : ℕ) (common : Option (List ℕ)) (bytes : List ℕ) (found : Option File) (f : File) → common ≡ Some bytes → found ≡ Some f → HasCommon number common found
    → IsReadAs number bytes f
standing_read number common bytes found f is there has =
    subst (λ (w : Option File). HasCommon number (Some bytes) w) there (subst (λ (w : Option (List ℕ)). HasCommon number w found) is has)

-- what is shown of its bytes is no longer than these
pub shown_short : (bytes shown : List ℕ) (range : Option (ℕ × ℕ)) → shown ≡ bytes_in bytes range → length shown ≤ length bytes
shown_short bytes shown range is = subst (λ (w : List ℕ). length w ≤ length bytes) (sym is) (bytes_short bytes range)
