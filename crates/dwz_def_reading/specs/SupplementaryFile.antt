-- The supplementary file (DWARF 5, 7.3.6).
use Rattle.std.specs.Prelude.{ℕ, List, [], ◌++◌, unwrap_or}
use Rattle.dwz_model.specs.declared.sections.Sections.{Sections}
use Rattle.sha2.specs.Sha256.{sha256}
use Rattle.dwz_def_reading.specs.PlainFile.{plain_file, supplementary_sections}

-- the checksum over `.debug_info`, `.debug_str`, which is empty where there is none, and `.debug_abbrev`
abbrev pub common_sum : Sections → List ℕ
common_sum s = sha256 (s.info ++ unwrap_or s.strs [] ++ s.abbrev)

-- the file for a machine with these e_flags
abbrev pub common_file : ℕ → ℕ → Sections → List ℕ
common_file machine flags s = plain_file machine flags (supplementary_sections s (common_sum s))
