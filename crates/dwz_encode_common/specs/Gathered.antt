-- Texts and paths of units, in the order in which they come, and then each once.
use Rattle.std.specs.Prelude.{ℕ, List, [], ◌∷◌, Some}
use Rattle.std.specs.List.{flat_map}
use Rattle.dwz_def_reading.specs.Documents.{Attr, DwUnit, File, Plain}
use Rattle.dwz_def_reading.specs.Classes.{OfTextBySlot, OfTextInLineStr, OfTextInStr}
use Rattle.dwz_def_reading.specs.Classes.{Class, class_of}
use Rattle.dwz_layout_items.specs.Lines.{Line, unit_lines}
use Rattle.dwz_def_encoding.specs.Placing.{with_common_text}
use Rattle.dwz_def_encoding.specs.Writing.{text_or_empty}

-- these are used one after the other: one that isn't there yet comes behind the others
abbrev pub with_all : List (List ℕ) → List (List ℕ) → List (List ℕ)
with_all found [] = found
with_all found (t ∷ texts) = with_all (with_common_text found t) texts

-- ---- what values say

-- the text of a value that has a place in a section (DWARF 5, 7.5.5, class string)
abbrev pub text_by : {K : Type 0} → Class → Attr K → List (List ℕ)
text_by OfTextInStr a = text_or_empty a.value.plain ∷ []
text_by OfTextInLineStr a = text_or_empty a.value.plain ∷ []
text_by OfTextBySlot a = text_or_empty a.value.plain ∷ []
text_by _ a = []

abbrev pub text_said : {K : Type 0} → Attr K → List (List ℕ)
text_said a = text_by (class_of a.form) a

-- the path of a file that a value numbers (2.14)
abbrev pub path_by : Plain → List (List ℕ)
path_by (File (Some path)) = path ∷ []
path_by _ = []

abbrev pub path_said : {K : Type 0} → Attr K → List (List ℕ)
path_said a = path_by a.value.plain

-- ---- what units say, entry by entry and value by value

abbrev pub lines_said : {K : Type 0} → (Attr K → List (List ℕ)) → List (Line K) → List (List ℕ)
lines_said said lines = flat_map (λ l. flat_map said l.node.attrs) lines

abbrev pub units_said : {K : Type 0} → (Attr K → List (List ℕ)) → List (DwUnit K) → List (List ℕ)
units_said said units = flat_map (λ u. lines_said said (unit_lines u)) units
