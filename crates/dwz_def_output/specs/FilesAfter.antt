-- The bytes of each file after: the file that was read with its new sections, and the common file.
use Rattle.std.specs.Prelude.{ℕ, Bool, true, false, List, [], ◌∷◌, ◌++◌, Option, Some, None, if◌then◌else◌}
use Rattle.std.specs.List.{list_any}
use Rattle.std.specs.Ordering.{is_lt, nat_cmp, ordering_then}
use Rattle.dwz_def_reading.specs.declared.supplementary.Sup.{Sup}
use Rattle.dwz_def_reading.specs.ElfHeaders.{file_header}
use Rattle.dwz_def_reading.specs.ElfLayout.{Changes, keep_end, moving}
use Rattle.dwz_def_reading.specs.ElfReading.{ElfView, elf_of}
use Rattle.dwz_def_reading.specs.Supplementary.{sup_bytes}
use Rattle.dwz_def_output.specs.Changed.{changes_by}
use Rattle.dwz_def_output.specs.Rebuilt.{new_file}
use Rattle.dwz_def_reading.specs.SupplementaryFile.{common_file, common_sum}
use Rattle.dwz_def_images.specs.Homes.{Common, same_home}
use Rattle.dwz_def_images.specs.Plan.{PartialUnit}
use Rattle.dwz_def_images.specs.Units.{changes}
use Rattle.dwz_def_reading.specs.Files.{debug_abbrev, debug_info, section_of}
pub use Rattle.dwz_def_reading.specs.Finished.{sum_of}
use Rattle.dwz_def_readback.specs.Files.{CommonFile, Made, Run, Stands, imports_common}
use Rattle.dwz_def_output.specs.Contents.{common_after, sections_after_by}
use Rattle.sha2.specs.Sha256.{sha256}

-- ---- the common file

abbrev pub is_common : PartialUnit → Bool
is_common part = same_home part.home Common

-- there is a common file where some top has its home there
unfoldable pub has_common : Run → Bool
has_common r = list_any is_common r.move.parts

-- its machine (e_machine) and flags (e_flags) are those of the first file
unfoldable pub common_bytes : Run → List ℕ
common_bytes r = common_file (file_header (r.input.bytes 0)).machine (file_header (r.input.bytes 0)).flags (common_after r)

-- ---- the order of sections that are written again: by old offset, and by index where that is the same

abbrev pub is_before : ℕ × ℕ → ℕ × ℕ → Bool
is_before a b = is_lt (ordering_then (nat_cmp a.0 b.0) (nat_cmp a.1 b.1))

-- a section among others that are in order
unfoldable pub put_in_order : ℕ × ℕ → List (ℕ × ℕ) → List (ℕ × ℕ)
put_in_order key [] = key ∷ []
put_in_order key (k ∷ keys) = if is_before k key then k ∷ put_in_order key keys else key ∷ k ∷ keys

unfoldable pub in_order : List (ℕ × ℕ) → List (ℕ × ℕ)
in_order [] = []
in_order (key ∷ keys) = put_in_order key (in_order keys)

abbrev pub order_of : ElfView → List (ℕ × ℕ)
order_of e = in_order (moving (keep_end e) 0 e.sections)

-- ---- the files

-- that of the common file of a run
abbrev pub sum_by : CommonFile → Run → List ℕ
sum_by Made r = common_sum (common_after r)
sum_by (Stands c) r = sum_of c.bytes

-- what `.debug_sup` of a file says that imports from a common file of that name
abbrev pub sup_of_by : CommonFile → List ℕ → Run → Sup
sup_of_by k name r = record { supplementary = false; name = name; sum = sum_by k r }

abbrev pub sup_of : List ℕ → Run → Sup
sup_of = sup_of_by Made

abbrev pub sup_after_by : CommonFile → List ℕ → Run → ℕ → Option (List ℕ)
sup_after_by k name r file = if imports_common r.move r.units file then Some (sup_bytes (sup_of_by k name r)) else None

abbrev pub sup_after : List ℕ → Run → ℕ → Option (List ℕ)
sup_after = sup_after_by Made

-- what is new in a file of which something moves
abbrev pub changes_after_by : CommonFile → List ℕ → Run → ℕ → Changes
changes_after_by k name r file = changes_by (sections_after_by k r file) (sup_after_by k name r file)

abbrev pub changes_after : List ℕ → Run → ℕ → Changes
changes_after = changes_after_by Made

-- that file with all that is new in it
unfoldable pub file_after_by : CommonFile → List ℕ → Run → ℕ → List ℕ
file_after_by k name r file = new_file (r.input.bytes file) (changes_after_by k name r file) (order_of (elf_of (r.input.bytes file)))

abbrev pub file_after : List ℕ → Run → ℕ → List ℕ
file_after = file_after_by Made

abbrev pub bytes_by : Bool → (old new : List ℕ) → List ℕ
bytes_by true old new = new
bytes_by false old new = old

-- the bytes of each file after; one of which nothing moves keeps its own
abbrev pub bytes_after_by : CommonFile → List ℕ → Run → ℕ → List ℕ
bytes_after_by k name r file = bytes_by (changes r.move r.units file) (r.input.bytes file) (file_after_by k name r file)

abbrev pub bytes_after : List ℕ → Run → ℕ → List ℕ
bytes_after = bytes_after_by Made
