-- What is printed of two tops: whether they are alike, or the least chain, and what differs at its end.
use Rattle.std.specs.Prelude.{ℕ, zero, suc, ◌+◌, List, [], ◌∷◌, ◌++◌, length, Option, Some, None, codes, decimal, slice_get, true, false}
use Rattle.dwz_def_reading.specs.Attributes.{attribute_rows}
use Rattle.dwz_def_reading.specs.Rows.{RowView, row_of}
use Rattle.dwz_def_reading.specs.Tags.{tag_rows}
use Rattle.dwz_def_reading.specs.Documents.{Attr, Doc, Entries, Node}
use Rattle.dwz_def_reading.specs.Trees.{End, Entry}
use Rattle.dwz_def_tops.specs.Deciding.{top_in}
use Rattle.dwz_def_tops.specs.Spots.{EntryName, Top, same_spot, spots_from, tops_among, tops_of, units_of}
use Rattle.dwz_def_tops.specs.Targets.{targets_of}
use Rattle.dwz_text.specs.Lines.{Text, hexadecimal, line}
use Rattle.dwz_def_explain.specs.What.{Subtree, subtree, whole_top}
use Rattle.dwz_def_explain.specs.declared.verdict.Verdict.{Verdict}
use Rattle.dwz_def_explain.specs.declared.verdict.Verdict.TheVariants.{Alike, Differ}
use Rattle.dwz_def_explain.specs.declared.verdict.What.{What}
use Rattle.dwz_def_explain.specs.declared.verdict.What.TheVariants.{Attribute, Children, Language, Space, Tag}

-- ---- where entries stand

-- the places of the units and entries of files with their names; the first unit and the first top have these numbers
unfoldable pub files_spots : ℕ → ℕ → List (Doc ℕ) → List (ℕ × EntryName)
files_spots unit top [] = []
files_spots unit top (doc ∷ docs) =
    spots_from unit top doc.units ++ files_spots (unit + length doc.units) (top + tops_among doc.units) docs

unfoldable pub place_named : List (ℕ × EntryName) → EntryName → ℕ
place_named [] name = 0
place_named (s ∷ spots) name = elim (same_spot s.1 name) as (λ _. ℕ) [ true ↦ s.0 | false ↦ place_named spots name ]

-- the place of a name, in whichever file it stands
abbrev pub place_of_name : List (Doc ℕ) → EntryName → ℕ
place_of_name docs name = place_named (files_spots 0 0 docs) name

-- ---- names and numbers

abbrev pub code_text : ℕ → Text
code_text code = codes "0x" ++ hexadecimal code

abbrev pub name_or_code : Option RowView → ℕ → Text
name_or_code None code = code_text code
name_or_code (Some row) code = row.name

-- the names of a tag and of an attribute (DWARF 5, 7.5.3 and 7.5.4); where the table has none, the code
abbrev pub tag_text : ℕ → Text
tag_text code = name_or_code (row_of tag_rows code) code

abbrev pub attribute_text : ℕ → Text
attribute_text code = name_or_code (row_of attribute_rows code) code

-- where two entries stand
abbrev pub places_text : List (Doc ℕ) → Node EntryName → Node EntryName → Text
places_text docs d e = code_text (place_of_name docs d.at) ++ codes " " ++ code_text (place_of_name docs e.at)

-- ---- what a chain and a path lead to; where there is nothing there, to what was reached last

abbrev pub top_or : Top → Option Top → Top
top_or t None = t
top_or t (Some u) = u

abbrev pub target_or : List Top → Top → Option ℕ → Top
target_or tops t None = t
target_or tops t (Some n) = top_or t (top_in tops n)

-- the top that the reference with the number i goes into
abbrev pub target_at : List Top → ℕ → Top → Top
target_at tops i t = target_or tops t (slice_get (targets_of t) i)

unfoldable pub child_at : Subtree → ℕ → Entries EntryName → Subtree
child_at x i End = x
child_at x zero (Entry e children next) = subtree e children
child_at x (suc i) (Entry e children next) = child_at x i next

unfoldable pub entry_along : List ℕ → Subtree → Subtree
entry_along [] x = x
entry_along (i ∷ path) x = entry_along path (child_at x i x.below)

-- ---- what differs

-- the path to the entries that differ
abbrev pub path_of_what : What → List ℕ
path_of_what Language = []
path_of_what Space = []
path_of_what (Tag path) = path
path_of_what (Attribute path index) = path
path_of_what (Children path) = path

-- the name of the first of two attributes that is there
abbrev pub first_name : Option (Attr EntryName) → Option (Attr EntryName) → ℕ
first_name (Some a) other = a.name
first_name None (Some b) = b.name
first_name None None = 0

-- the words for it, of the two entries that differ
abbrev pub what_words : What → Node EntryName → Node EntryName → Text
what_words Language d e = codes "language"
what_words Space d e = codes "namespace"
what_words (Tag path) d e = codes "tag " ++ tag_text d.tag ++ codes " " ++ tag_text e.tag
what_words (Attribute path index) d e =
    codes "attribute " ++ attribute_text (first_name (slice_get d.attrs index) (slice_get e.attrs index))
what_words (Children path) d e = codes "children"

abbrev pub what_line : List (Doc ℕ) → What → Subtree → Subtree → Text
what_line docs what x y = line (places_text docs x.node y.node ∷ codes ": " ∷ what_words what x.node y.node ∷ [])

-- ---- the text

-- a line for each reference of a chain, with the tops that it reaches, and one for what differs at its end
unfoldable pub reference_lines : List (Doc ℕ) → List Top → List ℕ → What → Top → Top → Text
reference_lines docs tops [] what a b =
    what_line docs what (entry_along (path_of_what what) (whole_top a)) (entry_along (path_of_what what) (whole_top b))
reference_lines docs tops (i ∷ chain) what a b =
    let c = target_at tops i a in
    let d = target_at tops i b in
    line (codes "reference " ∷ decimal i ∷ codes ": " ∷ places_text docs c.node d.node ∷ []) ++ reference_lines docs tops chain what c d

-- what is printed of two tops of these documents, of which that is said
abbrev pub explained_text : List (Doc ℕ) → Top → Top → Verdict → Text
explained_text docs a b Alike = line (codes "alike" ∷ [])
explained_text docs a b (Differ chain what) =
    line (codes "depth " ∷ decimal (suc (length chain)) ∷ []) ++ reference_lines docs (tops_of (units_of docs)) chain what a b
