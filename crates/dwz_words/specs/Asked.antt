-- What words ask for beside the options: which files are got, and of which two places something is said.
use Rattle.std.specs.Prelude.{ℕ, List, [], ◌∷◌, Option, Some, None, drop, if◌then◌else◌}
use Rattle.std.specs.Str.{bytes_eq}
use Rattle.std.specs.Str.Parse.{digits_value}
use Rattle.dwz_words.specs.Conditions.{Word, is_offset}
use Rattle.dwz_words.specs.declared.options.Options.{Options}

-- the number that an OFFSET spells; 0 for any other word
abbrev pub offset_value : Word → ℕ
offset_value word = if is_offset word then digits_value 16 (drop 2 word) else 0

-- of FILE OFFSET FILE OFFSET the two FILEs, or the one where they are equal; of any other number of words all of them
abbrev pub names_of_places : List Word → List Word
names_of_places (first ∷ first_offset ∷ second ∷ second_offset ∷ []) =
    if bytes_eq first second then first ∷ [] else first ∷ second ∷ []
names_of_places words = words

-- the names of the files by their numbers, from 0 on; a common file is none of them, and has the number behind theirs
abbrev pub names_numbered : Options → List Word
names_numbered o = if o.explain then names_of_places o.files else o.files

-- the first of two that is given
abbrev pub first_given : Option Word → Option Word → Option Word
first_given None other = other
first_given (Some word) other = Some word

-- the common file that is read: that of `--sup`, or that of `--reuse`, or that of `--batch`
abbrev pub common_read : Options → Option Word
common_read o = first_given o.sup (first_given o.reuse o.batch)

-- these names, and before them that of a common file, if there is one
abbrev pub behind : Option Word → List Word → List Word
behind None names = names
behind (Some common) names = common ∷ names

-- the names of the files that are got, in order: the common file that is read comes first
abbrev pub names_got : Options → List Word
names_got o = behind (common_read o) (names_numbered o)

-- of FILE OFFSET FILE OFFSET the two places, each as the number of its file and an offset there; of any other number of words twice the
-- first byte of file 0
abbrev pub places_named : List Word → (ℕ × ℕ) × (ℕ × ℕ)
places_named (first ∷ first_offset ∷ second ∷ second_offset ∷ []) = (
  (0, offset_value first_offset),
  (if bytes_eq first second then 0 else 1, offset_value second_offset),
)
places_named words = ((0, 0), (0, 0))

-- the two places of which `--explain` asks
abbrev pub places_asked : Options → (ℕ × ℕ) × (ℕ × ℕ)
places_asked o = places_named o.files
