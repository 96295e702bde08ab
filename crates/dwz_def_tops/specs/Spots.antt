-- Names for the units and entries of files, before and after: what stands where is counted, and no offset is named.
use Rattle.std.specs.Prelude.{◌≡◌, ℕ, ℤ, pos, suc, ◌+◌, Bool, true, false, List, [], ◌∷◌, ◌++◌, length, map, Option, Some, None, ◌==◌, ◌&&◌}
use Rattle.dwz_def_reading.specs.Documents.{Attr, Compile, Doc, DwUnit, Entries, Kind, Node, OfType, Partial, first_named, language, unit_map}
use Rattle.dwz_def_reading.specs.Trees.{End, Entry}
use Rattle.dwz_def_tops.specs.Spaces.{space_text, tops_under}

-- Units are counted over all files; tops over all units; partial units over all that are written, and in each the chains of spaces
-- that it holds. A path is the list of child indexes, from an entry up to its top or its unit's root. A space in a partial unit is
-- named by its chain, and by how many spaces it stands in.
pub data EntryName : Type 0 where
  Within : (top : ℕ) → (path : List ℕ) → EntryName
  UnitOf : ℕ → EntryName
  RootOf : ℕ → EntryName
  SpaceAt : (unit : ℕ) → (path : List ℕ) → EntryName
  InType : (unit : ℕ) → (path : List ℕ) → EntryName
  PartialOf : ℕ → EntryName
  PartialRoot : ℕ → EntryName
  InChain : (part chain depth : ℕ) → EntryName
  Import : (unit part : ℕ) → EntryName

-- the same numbers in the same order
unfoldable pub same_numbers : List ℕ → List ℕ → Bool
same_numbers [] [] = true
same_numbers (m ∷ ms) (n ∷ ns) = elim (m == n) as (λ _. Bool) [ true ↦ same_numbers ms ns | false ↦ false ]
same_numbers _ _ = false

abbrev both : Bool → Bool → Bool
both true b = b
both false b = false

unfoldable pub same_spot : EntryName → EntryName → Bool
same_spot (Within s p) (Within t q) = elim (s == t) as (λ _. Bool) [ true ↦ same_numbers p q | false ↦ false ]
same_spot (UnitOf a) (UnitOf b) = a == b
same_spot (RootOf a) (RootOf b) = a == b
same_spot (SpaceAt a p) (SpaceAt b q) = elim (a == b) as (λ _. Bool) [ true ↦ same_numbers p q | false ↦ false ]
same_spot (InType a p) (InType b q) = elim (a == b) as (λ _. Bool) [ true ↦ same_numbers p q | false ↦ false ]
same_spot (PartialOf a) (PartialOf b) = a == b
same_spot (PartialRoot a) (PartialRoot b) = a == b
same_spot (InChain a i d) (InChain b j e) = a == b && (i == j && d == e)
same_spot (Import i a) (Import j b) = i == j && a == b
same_spot _ _ = false

-- a unit, and the number of its file
pub record FileUnit (P : Type 0) : Type 0 where
  pub file : ℕ
  pub unit : DwUnit P

-- ---- the numbers of tops

-- What is made (A) of the entries in the root of a compile unit, or in a space of it: of none; of a top, with its number, what is below
-- it, and what is made of the entries behind it; of a space, with what is made inside it and behind it. What is known of where an entry
-- stands (S) becomes another inside a space, and at the next entry.
pub record TopNumbering (P S A : Type 0) : Type 0 where
  pub none : A
  pub top : S → (number : ℕ) → Node P → (below : Entries P) → (behind : A) → A
  pub space : S → Node P → (inner behind : A) → A
  pub inside : S → (name : List ℕ) → Node P → S
  pub next : S → S

-- The one numbering of tops: an entry that is no space is a top, and tops have numbers in preorder, from that of the first one on.
abbrev pub number_tops : {P S A : Type 0} → TopNumbering P S A → S → ℕ → Entries P → A
number_tops m s n End = m.none
number_tops {P} {S} {A} m s n (Entry e children next) = elim (space_text e) as (λ _. A) [
  | None ↦ m.top s n e children (number_tops m (m.next s) (suc n) next)
  | Some name ↦ m.space s e (number_tops m (m.inside s name e) n children) (number_tops m (m.next s) (n + tops_under children) next)
]

-- ---- from places to names

-- the places of entries with their names, by the path of what is above them and the index of the first
unfoldable pub entry_spots : (List ℕ → EntryName) → List ℕ → ℕ → Entries ℕ → List (ℕ × EntryName)
entry_spots name path i End = []
entry_spots name path i (Entry e children next) = (e.at, name (i ∷ path)) ∷ entry_spots name (i ∷ path) 0 children
    ++ entry_spots name path (suc i) next

-- where an entry stands: the path of what is above it, and its index there
pub record Standing : Type 0 where
  pub path : List ℕ
  pub index : ℕ

-- the places of tops, of all below them and of spaces, with their names
abbrev pub spot_numbering : ℕ → TopNumbering ℕ Standing (List (ℕ × EntryName))
spot_numbering unit = record {
  none = [];
  top = λ s n e below behind. (e.at, Within n []) ∷ entry_spots (Within n) [] 0 below ++ behind;
  space = λ s e inner behind. (e.at, SpaceAt unit (s.index ∷ s.path)) ∷ inner ++ behind;
  inside = λ s name e. record { path = s.index ∷ s.path; index = 0 };
  next = λ s. record { path = s.path; index = suc s.index };
}

-- of entries in the root of a compile unit or in a space of it, by the path of what is above them, the index of the first, and the number
-- of the first top
unfoldable pub top_spots : ℕ → List ℕ → ℕ → ℕ → Entries ℕ → List (ℕ × EntryName)
top_spots unit path i n f = number_tops (spot_numbering unit) (record { path = path; index = i }) n f

-- a compile unit has tops and spaces
abbrev pub below_spots : ℕ → ℕ → Kind ℕ → Entries ℕ → List (ℕ × EntryName)
below_spots unit top Compile below = top_spots unit [] 0 top below
below_spots unit top (OfType signature main) below = entry_spots (InType unit) [] 0 below
below_spots unit top Partial below = []

abbrev pub top_count : {P : Type 0} → Kind P → Entries P → ℕ
top_count Compile below = tops_under below
top_count (OfType signature main) below = 0
top_count Partial below = 0

-- the places of units, roots and entries of a file, whose first unit and first top have these numbers
unfoldable pub spots_from : ℕ → ℕ → List (DwUnit ℕ) → List (ℕ × EntryName)
spots_from unit top [] = []
spots_from unit top (u ∷ units) =
    (u.at, UnitOf unit) ∷ (u.root.at, RootOf unit) ∷ below_spots unit top u.kind u.below
    ++ spots_from (suc unit) (top + top_count u.kind u.below) units

-- what stands for the name of a place at which no unit and no entry stands
abbrev pub no_name : EntryName
no_name = UnitOf 0

-- the name of a place
unfoldable pub spot_in : List (ℕ × EntryName) → ℕ → EntryName
spot_in [] place = no_name
spot_in (s ∷ spots) place = elim (s.0 == place) as (λ _. EntryName) [ true ↦ s.1 | false ↦ spot_in spots place ]

abbrev pub named_in : List (ℕ × EntryName) → List (DwUnit ℕ) → List (DwUnit EntryName)
named_in spots units = map (unit_map (spot_in spots)) units

-- the units of a file with names in place of places
abbrev pub named : ℕ → ℕ → List (DwUnit ℕ) → List (DwUnit EntryName)
named unit top units = named_in (spots_from unit top units) units

unfoldable pub tops_among : {P : Type 0} → List (DwUnit P) → ℕ
tops_among [] = 0
tops_among (u ∷ units) = top_count u.kind u.below + tops_among units

abbrev pub in_file : {P : Type 0} → ℕ → DwUnit P → FileUnit P
in_file file u = record { file = file; unit = u }

-- the units of files in order, the first of which has that number, as have its first unit and its first top
unfoldable pub named_files : ℕ → ℕ → ℕ → List (Doc ℕ) → List (FileUnit EntryName)
named_files file unit top [] = []
named_files file unit top (doc ∷ docs) =
    map (in_file file) (named unit top doc.units) ++ named_files (suc file) (unit + length doc.units) (top + tops_among doc.units) docs

unfoldable pub file_numbers : ℕ → List (Doc ℕ) → List ℕ
file_numbers n [] = []
file_numbers n (doc ∷ docs) = n ∷ file_numbers (suc n) docs

-- the units of the files, with names
abbrev pub units_of : List (Doc ℕ) → List (FileUnit EntryName)
units_of docs = named_files 0 0 0 docs

-- ---- tops

-- the name of a space, and how it is stored there
pub record SpaceName : Type 0 where
  pub text : List ℕ
  pub form : ℕ
  pub raw : ℤ

abbrev pub name_by : {P : Type 0} → List ℕ → Option (Attr P) → SpaceName
name_by text None = record { text = text; form = 0; raw = pos 0 }
name_by text (Some a) = record { text = text; form = a.form; raw = a.raw }

-- of a space with that name
abbrev pub name_of : {P : Type 0} → List ℕ → Node P → SpaceName
name_of text e = name_by text (first_named 0x03 e.attrs)

-- an entry that is no space, in the root of a compile unit or in a space of it, with all below it: the numbers of its file and of its
-- unit, the unit's language, the names of the spaces that it stands in (outermost first), its own number
pub record Top : Type 0 where
  pub file : ℕ
  pub unit : ℕ
  pub language : Option ℤ
  pub spaces : List SpaceName
  pub number : ℕ
  pub node : Node EntryName
  pub below : Entries EntryName

-- a top's name list
abbrev pub name_list : Top → List (List ℕ)
name_list t = map (λ s. s.text) t.spaces

-- What stands in the root of a compile unit, or in a space: tops, and spaces with what stands in them.
pub data Row : Type 0 where
  Nothing : Row
  ATop : Top → (next : Row) → Row
  ASpace : Node EntryName → (inner next : Row) → Row

-- rows of a unit, by the numbers of its file and of itself, and its language; of an entry the spaces that it stands in are known
abbrev pub row_numbering : (file unit : ℕ) → (language : Option ℤ) → TopNumbering EntryName (List SpaceName) Row
row_numbering file unit language = record {
  none = Nothing;
  top = λ spaces n e below behind. ATop
      (record { file = file; unit = unit; language = language; spaces = spaces; number = n; node = e; below = below }) behind;
  space = λ spaces e inner behind. ASpace e inner behind;
  inside = λ spaces name e. spaces ++ name_of name e ∷ [];
  next = λ spaces. spaces;
}

-- the row of these entries, whose first top has that number
unfoldable pub row_in : ℕ → ℕ → Option ℤ → List SpaceName → ℕ → Entries EntryName → Row
row_in file unit language spaces n f = number_tops (row_numbering file unit language) spaces n f

abbrev pub row_below : ℕ → ℕ → ℕ → DwUnit EntryName → Kind EntryName → Row
row_below file unit n u Compile = row_in file unit (language u) [] n u.below
row_below file unit n u (OfType signature main) = Nothing
row_below file unit n u Partial = Nothing

unfoldable pub row_from : ℕ → ℕ → List (FileUnit EntryName) → ℕ → Row
row_from unit n [] i = Nothing
row_from unit n (f ∷ units) i = elim (unit == i) as (λ _. Row) [
  | true ↦ row_below f.file unit n f.unit f.unit.kind
  | false ↦ row_from (suc unit) (n + top_count f.unit.kind f.unit.below) units i
]

-- what stands in the root of the unit with that number
abbrev pub rows_of_root : List (FileUnit EntryName) → ℕ → Row
rows_of_root units i = row_from 0 0 units i

unfoldable pub row_tops : Row → List Top
row_tops Nothing = []
row_tops (ATop t next) = t ∷ row_tops next
row_tops (ASpace e inner next) = row_tops inner ++ row_tops next

unfoldable pub tops_from : ℕ → ℕ → List (FileUnit EntryName) → List Top
tops_from unit n [] = []
tops_from unit n (f ∷ units) =
    row_tops (row_below f.file unit n f.unit f.unit.kind) ++ tops_from (suc unit) (n + top_count f.unit.kind f.unit.below) units

-- the tops of all units, in order
abbrev pub tops_of : List (FileUnit EntryName) → List Top
tops_of units = tops_from 0 0 units

-- ---- each unit and entry is at its own name

abbrev pub Labelled : (List ℕ → EntryName) → List ℕ → ℕ → Entries EntryName → Type 0
Labelled name path i End = Unit {0}
Labelled name path i (Entry e children next) = (e.at ≡ name (i ∷ path)) × Labelled name (i ∷ path) 0 children
    × Labelled name path (suc i) next

abbrev pub LabelledTop : Top → Type 0
LabelledTop t = (t.node.at ≡ Within t.number []) × Labelled (Within t.number) [] 0 t.below

-- the spaces of a unit
abbrev pub LabelledSpaces : ℕ → List ℕ → ℕ → Row → Type 0
LabelledSpaces unit path i Nothing = Unit {0}
LabelledSpaces unit path i (ATop t next) = LabelledSpaces unit path (suc i) next
LabelledSpaces unit path i (ASpace e inner next) = (e.at ≡ SpaceAt unit (i ∷ path)) × LabelledSpaces unit (i ∷ path) 0 inner
    × LabelledSpaces unit path (suc i) next
