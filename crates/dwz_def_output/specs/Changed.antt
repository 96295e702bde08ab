-- The changes of a file to which the tool gives new sections, and what can be given to which.
use Rattle.std.specs.Prelude.{◌≡◌, ℕ, List, [], ◌∷◌, ◌++◌, Option, Some, None, unwrap_or}
use Rattle.dwz_model.specs.declared.sections.Sections.{Sections}
use Rattle.dwz_def_reading.specs.declared.elf.NewContent.{NewContent}
use Rattle.dwz_def_reading.specs.ElfLayout.{Changes}
use Rattle.dwz_def_reading.specs.ElfNames.{sections_in}
use Rattle.dwz_def_reading.specs.ElfReading.{section_range}
use Rattle.dwz_def_reading.specs.Files.{section_of}
use Rattle.dwz_def_reading.specs.Meanings.{Sources}
use Rattle.dwz_def_output.specs.Rebuilt.{CanBeMade, new_file}

-- a new content for a code, where there is one
abbrev pub if_new : ℕ → Option (List ℕ) → List NewContent
if_new code None = []
if_new code (Some bytes) = record { code = code; bytes = bytes } ∷ []

-- these sections in place of the old ones, where they are given, and `.debug_sup` where it is added
abbrev pub changes_by : Sections → Option (List ℕ) → Changes
changes_by s sup = record {
  new =
      if_new 1 (Some s.info)
      ++ (if_new 2 (Some s.«abbrev»)
      ++ (if_new 3 s.strs
      ++ (if_new 5 s.offsets
      ++ (if_new 6 s.line
      ++ (if_new 7 s.loclists
      ++ if_new 8 s.aranges)))));
  sup = sup;
}

-- The section with a code is there, and isn't empty, or stays so. (An empty one may be loaded, and then it can't grow.)
abbrev pub CanGive : List ℕ → ℕ → Option (List ℕ) → Type 0
CanGive input code None = Unit {0}
CanGive input code (Some bytes) = (range : ℕ × ℕ) × (section_range (sections_in input) code ≡ Some range) × (range.1 ≡ 0 → bytes ≡ [])

-- each new section can be given
pub record CanGiveAll (input : List ℕ) (s : Sections) : Type 0 where
  pub info : CanGive input 1 (Some s.info)
  pub abbrevs : CanGive input 2 (Some s.«abbrev»)
  pub strs : CanGive input 3 s.strs
  pub offsets : CanGive input 5 s.offsets
  pub line : CanGive input 6 s.line
  pub lists : CanGive input 7 s.loclists
  pub ranges : CanGive input 8 s.aranges

-- the sections that values speak of: the new ones, or else those of the old file
abbrev pub sources_after : List ℕ → Sections → Sources
sources_after input s = record {
  strs = unwrap_or s.strs (section_of input 3);
  line_strs = section_of input 4;
  offsets = unwrap_or s.offsets (section_of input 5);
  line = unwrap_or s.line (section_of input 6);
  lists = unwrap_or s.loclists (section_of input 7);
}

-- what holds of each file that can be made so: of the old file, the sections, what is added, and the new file
abbrev pub EachChanged : (List ℕ → Sections → Option (List ℕ) → List ℕ → Type 0) → Type 0
EachChanged P =
    (input : List ℕ) (s : Sections) (sup : Option (List ℕ)) (order : List (ℕ × ℕ)) → CanBeMade input (changes_by s sup) order
    → P input s sup (new_file input (changes_by s sup) order)
