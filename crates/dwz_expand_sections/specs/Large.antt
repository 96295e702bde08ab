-- How long the new sections of a file are.
use Rattle.std.specs.Prelude.{◌≡◌, ℕ, length}
use Rattle.dwz_model.specs.declared.fault.Fault.{Fault}
use Rattle.dwz_model.specs.declared.fault.Refusal.{Refusal}
use Rattle.dwz_def_expand.specs.OneFile.{OneFile, ReadsOne}
use Rattle.dwz_def_expand.specs.Output.{new_sections}

-- a fault of the file itself
abbrev pub of_file : Fault → Refusal
of_file f = record { file = 0; section = f.section; at = f.at; reason = f.reason }

-- the file reads, and the new `.debug_info` and `.debug_abbrev` have so many bytes
pub record HaveLengths (f : OneFile) (info abbrevs : ℕ) : Type 0 where
  pub read : ReadsOne f
  pub info_is : info ≡ length (new_sections f).info
  pub abbrevs_is : abbrevs ≡ length (new_sections f).«abbrev»
