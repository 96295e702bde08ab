-- How long the supplementary file is.
use Rattle.std.specs.Prelude.{ℕ, ◌+◌, ◌*◌, length, replicate}
use Rattle.dwz_model.specs.declared.sections.Sections.{Sections}
use Rattle.dwz_def_reading.specs.PlainFile.{plain_headers_at, sections_with}

-- how many bytes its `.debug_sup` has, whatever the checksum
abbrev pub sup_length : ℕ
sup_length = 37

-- how many bytes the file has: that depends on the lengths of its sections alone
abbrev pub common_length : Sections → ℕ
common_length s = let sections = sections_with s (replicate sup_length 0) in plain_headers_at sections + 64 * (length sections + 2)
