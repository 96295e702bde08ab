-- Inner: what is read back of a file of the plain layout (PlainFile), as the supplementary file is one.
use Rattle.std.specs.Prelude.{◌≡◌, ℕ, List, [], ◌∷◌, true, Some, ◌==◌, if◌then◌else◌, unwrap_or}
use Rattle.dwz_model.specs.declared.sections.Sections.{Sections}
use Rattle.dwz_def_reading.specs.ElfNames.{code_of, known_name}
use Rattle.dwz_def_reading.specs.PlainFile.{FitsPlain, PlainSection, plain_file, supplementary_sections}
use Rattle.dwz_def_reading.specs.Meanings.{Sources}

-- the content of the first section with a code, or nothing
abbrev pub plain_content : List PlainSection → ℕ → List ℕ
plain_content [] code = []
plain_content (s ∷ sections) code = if code_of s.name == code then s.bytes else plain_content sections code

-- no section has the name of an index, or of one that leads to another file, but `.debug_sup`
abbrev pub OnlySup : List PlainSection → Type 0
OnlySup [] = Unit {0}
OnlySup (s ∷ sections) = ((known_name (Some s.name)).is_index ≡ true → code_of s.name ≡ 9) × OnlySup sections

-- the supplementary file for a machine with these e_flags and with that checksum
abbrev pub supplementary_file : ℕ → ℕ → Sections → List ℕ → List ℕ
supplementary_file machine flags s sum = plain_file machine flags (supplementary_sections s sum)

-- the sections of it that values speak of
abbrev pub sources_in : Sections → Sources
sources_in s = record {
  strs = unwrap_or s.strs [];
  line_strs = [];
  offsets = unwrap_or s.offsets [];
  line = unwrap_or s.line [];
  lists = unwrap_or s.loclists [];
}

-- what holds of each such file whose numbers fit: of its sections, the checksum, and the file
abbrev pub EachSupplementary : (Sections → List ℕ → List ℕ → Type 0) → Type 0
EachSupplementary P =
    (machine flags : ℕ) (s : Sections) (sum : List ℕ) → FitsPlain machine flags (supplementary_sections s sum)
    → P s sum (supplementary_file machine flags s sum)
