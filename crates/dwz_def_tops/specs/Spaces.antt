-- Spaces: named namespaces in the root of a compile or partial unit, or in one of its spaces (DWARF 5, 3.2.2).
use Rattle.std.specs.Prelude.{◌≡◌, ◌⊎◌, ℕ, ◌+◌, suc, true, false, List, [], ◌∷◌, ◌++◌, Option, Some, None, ◌==◌}
use Rattle.dwz_def_reading.specs.Documents.{Attr, Entries, Node, Plain, Text, first_named}
use Rattle.dwz_def_reading.specs.Trees.{End, Entry}

abbrev pub text_of_plain : Plain → Option (List ℕ)
text_of_plain (Text text) = Some text
text_of_plain _ = None

abbrev pub text_value : {P : Type 0} → Option (Attr P) → Option (List ℕ)
text_value None = None
text_value (Some a) = text_of_plain a.value.plain

-- the name of a space: a DW_TAG_namespace (39) whose first DW_AT_name is a text; None, where the entry is no space
unfoldable pub space_text : {P : Type 0} → Node P → Option (List ℕ)
space_text e = elim (e.tag == 0x39) as (λ _. Option (List ℕ)) [ true ↦ text_value (first_named 0x03 e.attrs) | false ↦ None ]

-- the entry stands in spaces with these names, outermost first: beside the first entry, where there are none, or else in a space
-- with the first name
abbrev pub IsUnder : {P : Type 0} → List (List ℕ) → Node P → Entries P → Type 0
IsUnder names e End = ⊥
IsUnder names e (Entry d children next) =
    ((names ≡ []) × (d ≡ e))
    ⊎ (((text : List ℕ) × (others : List (List ℕ)) × (space_text d ≡ Some text) × (names ≡ text ∷ others) × IsUnder others e children)
    ⊎ IsUnder names e next)

-- the entry is a space, whose name list this is: the names from the outermost one down to its own
pub record IsSpace {P : Type 0} (names : List (List ℕ)) (e : Node P) (f : Entries P) : Type 0 where
  pub outer : List (List ℕ)
  pub text : List ℕ
  pub under : IsUnder outer e f
  pub own : space_text e ≡ Some text
  pub names_are : names ≡ outer ++ text ∷ []

-- how many entries stand in a row and in its spaces that are no spaces themselves
unfoldable pub tops_under : {P : Type 0} → Entries P → ℕ
tops_under End = 0
tops_under (Entry e children next) = elim (space_text e) as (λ _. ℕ) [
  | None ↦ suc (tops_under next)
  | Some text ↦ tops_under children + tops_under next
]
